-- What is written and the lines of the steps that are left stay the lines of all.
use Rattle.std.proofs.Common.{◌≡◌, ◌++◌, drop, map}
use Rattle.zeus_model.specs.Spelling.{lines_text, step_words}
use Rattle.script_lang.proofs.print.steps.write_steps.Given as goal

abbrev pub invariant-loop-step : goal.invariant-loop-step
invariant-loop-step l = l.out.items ++ lines_text (map step_words (drop l.step-index l.steps)) ≡ l.fn.out.items ++ lines_text (map step_words l.steps)
