use Rattle.commit_pipeline.proofs.Keeping.{kept_empty}
use Rattle.commit_pipeline.proofs.pipe.PipeOver.empty.Goals as goal

pub invariant_of-result : goal.invariant_of-result
invariant_of-result g c = kept_empty (g.W.Window.items c.args.entries) c.args.due c.requires.entries c.requires.due
