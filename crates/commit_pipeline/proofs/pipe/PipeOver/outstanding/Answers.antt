use Rattle.std.proofs.Common.{refl}
use Rattle.commit_pipeline.proofs.Sends.{filter_members}
use Rattle.commit_pipeline.proofs.pipe.PipeOver.outstanding.Goals as goal

pub returns : goal.returns
returns g c =
    rw (c.get.ensures, c.self.invariant.due, filter_members c.args.members c.self.inside.done (g.W.Window.items c.self.inside.entries), ← c.self.view_is)
    refl
