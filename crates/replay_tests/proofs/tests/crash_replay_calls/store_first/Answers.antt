use Rattle.std.specs.Prelude.{[], None, false, refl}
use Rattle.zeus_model.specs.State.{Node}
use Rattle.crash_replay.specs.ReplayLaws.{HasStreams-stored_rinv, HasStreams-stream}
use Rattle.replay_tests.proofs.tests.crash_replay_calls.store_first.Goals as goal

pub store-requires-clause-stream : goal.store-requires-clause-stream
store-requires-clause-stream c =
    rw c.entry.ensures.stream (HasStreams-stream 4 2 _ _ c.requires.streams c.requires.node c.requires.slot)

-- at a node with these streams the entry keeps how many there are
pub returns : goal.returns
returns c =
    let n : Node = record { me = 0; epoch = 1; members = []; directory = []; degree = None; reported = []; stopped = false; entries = []; copies = []; gathers = []; slots = []; logs = c.args.log.now } in
    rw (c.store.ensures.after n 0 refl)
    (HasStreams-stored_rinv 4 2 n 0 c.entry.result c.requires.streams (rw c.entry.ensures.stream (HasStreams-stream 4 2 _ _ c.requires.streams c.requires.node c.requires.slot)))
