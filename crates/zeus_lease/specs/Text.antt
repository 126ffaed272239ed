-- The text that is printed for a script of leases: each step with its answer.
use Rattle.std.specs.Prelude.{ℕ, suc, List, [], ◌∷◌, ◌++◌, codes, decimal}
use Rattle.zeus_model.specs.ReportText.{line_end}
use Rattle.zeus_model.specs.ReportWords.{number, made_text}
use Rattle.zeus_model.specs.Spelling.{word, words_text}
use Rattle.zeus_lease.specs.declared.answer.LeaseAnswer.{LeaseAnswer}
use Rattle.zeus_lease.specs.declared.answer.LeaseAnswer.TheVariants as answers
use Rattle.zeus_lease.specs.declared.script.LeaseScript.{LeaseScript}
use Rattle.zeus_lease.specs.declared.step.LeaseStep.{LeaseStep}
use Rattle.zeus_lease.specs.Machine.{Machine, start, happens, stepped}
use Rattle.zeus_lease.specs.Scripts.{step_words}

unfoldable pub answer_text : LeaseAnswer → List ℕ
answer_text answers.Passed = codes "passed"
answer_text (answers.Skewed fast slow) = codes "skewed" ++ number fast ++ number slow
answer_text (answers.Asked i) = codes "asked" ++ number i
answer_text answers.Ended = codes "ended"
answer_text (answers.NoAsk count) = codes "no ask" ++ number count
answer_text answers.Dropped = codes "dropped"
answer_text (answers.Granted i) = codes "granted" ++ number i
answer_text (answers.NoGrant count) = codes "no grant" ++ number count
answer_text (answers.Held end) = codes "held" ++ number end
answer_text answers.NoLease = codes "no lease"
answer_text answers.Acted = codes "acted"
answer_text (answers.View made) = made_text made

-- a step as the script has it
abbrev pub step_text : LeaseStep → List ℕ
step_text s = words_text (step_words s)

-- `I STEP = ANSWER`
abbrev pub answer_line : ℕ → LeaseStep → LeaseAnswer → List ℕ
answer_line i s a = decimal i ++ word (step_text s) ++ codes " = " ++ answer_text a ++ line_end

-- the lines of the steps from a machine on, counted from i
unfoldable pub answer_lines : Machine → ℕ → List LeaseStep → List ℕ
answer_lines m i [] = []
answer_lines m i (s ∷ ss) = answer_line i s (happens m s).answer ++ answer_lines (stepped m s) (suc i) ss

-- the whole text
unfoldable pub lease_text : LeaseScript → List ℕ
lease_text s = codes "lease 1\n" ++ answer_lines (start s.nodes s.length s.percent) 0 s.steps ++ codes "end\n"
