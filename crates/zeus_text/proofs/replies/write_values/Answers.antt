use Rattle.std.proofs.Common.{refl}
use Rattle.zeus_base.specs.LoopLaws.{one_more, all_done}
use Rattle.zeus_model.specs.ReportWords.{values_text}
use Rattle.zeus_model.specs.Spelling.{word, value_text}
use Rattle.zeus_text.proofs.replies.write_values.Goals as goal

pub loop-value-preserved : goal.loop-value-preserved
unfolding values_text
loop-value-preserved c =
    one_more values_text (λ v. word (value_text v)) (λ v vs. refl) c.args.values.now c.loop-value.value-index c.value-item.result
    c.loop-value.out.items c.write_value.new.out.items _ c.loop-value-test.true c.value-item.is c.loop-value.invariant
    (c.in_ok-write_value.ensures)

pub returns : goal.returns
unfolding values_text
returns c = all_done values_text refl c.args.values.now c.loop-value.value-index c.loop-value.out.items _ c.loop-value-test.false c.loop-value.invariant
