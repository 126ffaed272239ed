use Rattle.std.proofs.Common.{arith, sym}
use Rattle.std.proofs.lemmas.Option.{slice_get_within}
use Rattle.zeus_audit.proofs.Tells.{step_below}
use Rattle.zeus_audit.proofs.steps.take_step.Goals as goal

pub take_answer-requires : goal.take_answer-requires
take_answer-requires c =
    let within = slice_get_within c.args.script.now.steps c.args.told c.in-Some.step.now (sym c.in-Some.ensures) in
    record {
      step = rw c.requires.fits.marks (step_below c.args.script.now c.requires.script c.args.told c.in-Some.step.now (sym c.in-Some.ensures));
      count = omega arith;
    }
