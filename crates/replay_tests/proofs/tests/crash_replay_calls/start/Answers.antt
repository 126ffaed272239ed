use Rattle.crash_replay.specs.ReplayLaws.{HasStreams-start}
use Rattle.replay_tests.proofs.tests.crash_replay_calls.start.Goals as goal

pub returns : goal.returns
returns c = rw c.in_ok-log.ensures (HasStreams-start c.args.config.now.nodes c.args.config.now.slots)
