use Rattle.std.proofs.Common.{refl, map}
use Rattle.zeus_base.specs.LoopLaws.{one_more, all_done}
use Rattle.zeus_model.specs.Spelling.{lines_text, step_words}
use Rattle.script_lang.specs.Lines.{step_line}
use Rattle.script_lang.proofs.Printing.{lines_text-cons}
use Rattle.script_lang.proofs.print.steps.write_steps.Goals as goal

pub loop-step-preserved : goal.loop-step-preserved
loop-step-preserved c =
    one_more (λ ss. lines_text (map step_words ss)) step_line (λ s ss. lines_text-cons (step_words s) (map step_words ss))
    c.args.steps.now c.loop-step.step-index c.step-item.result c.loop-step.out.items c.write_step_line.new.out.items _
    c.loop-step-test.true c.step-item.is c.loop-step.invariant (c.in_ok-write_step_line.ensures)

pub returns : goal.returns
unfolding lines_text
returns c = all_done (λ ss. lines_text (map step_words ss)) refl c.args.steps.now c.loop-step.step-index c.loop-step.out.items _ c.loop-step-test.false c.loop-step.invariant
