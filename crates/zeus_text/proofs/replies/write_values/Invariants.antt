-- What is written and the text of the values that are left stay the text of all.
use Rattle.std.proofs.Common.{◌≡◌, ◌++◌, drop}
use Rattle.zeus_model.specs.ReportWords.{values_text}
use Rattle.zeus_text.proofs.replies.write_values.Given as goal

abbrev pub invariant-loop-value : goal.invariant-loop-value
invariant-loop-value l = l.out.items ++ values_text (drop l.value-index l.values) ≡ l.fn.out.items ++ values_text l.values
