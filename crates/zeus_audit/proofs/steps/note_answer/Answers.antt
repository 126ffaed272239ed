use Rattle.std.proofs.Common.{length}
use Rattle.zeus_base.specs.declared.step.Step.TheVariants as steps
use Rattle.zeus_audit.specs.Fitting.{BeginsBelow}
use Rattle.zeus_audit.proofs.steps.note_answer.Goals as goal

pub begin-requires : goal.begin-requires
unfolding BeginsBelow
begin-requires c =
    let below : BeginsBelow (length c.args.marks.now.items) (steps.Begin c.in-Begin.id) = rw c.in-Begin.is at c.requires in
    below
