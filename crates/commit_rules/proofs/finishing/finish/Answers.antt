use Rattle.commit_rules.proofs.Leading.{acted-room}
use Rattle.commit_rules.proofs.Passing.{finished}
use Rattle.commit_rules.proofs.finishing.finish.Goals as goal

pub returns : goal.returns
returns c = finished c.args.node.now _ _ _ c.args.out.now _ _ _ c.advance_own_streams.ensures.acted c.advance_streams_outside.ensures c.report.ensures

pub advance_streams_outside-requires-clause-room : goal.advance_streams_outside-requires-clause-room
advance_streams_outside-requires-clause-room c = acted-room _ _ _ _ c.advance_own_streams.ensures.acted

pub report-requires : goal.report-requires
report-requires c = acted-room _ _ _ _ c.advance_streams_outside.ensures
