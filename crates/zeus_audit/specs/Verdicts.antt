-- The line that tells a verdict.
use Rattle.std.specs.Prelude.{ℕ, List, ◌++◌, codes}
use Rattle.zeus_model.specs.ReportText.{line_end}
use Rattle.zeus_model.specs.ReportWords.{number}
use Rattle.zeus_model.specs.Spelling.{word}
use Rattle.zeus_audit.specs.declared.verdict.Rule.{Rule}
use Rattle.zeus_audit.specs.declared.verdict.Rule.TheVariants as rules
use Rattle.zeus_audit.specs.declared.verdict.Verdict.{Verdict}
use Rattle.zeus_audit.specs.declared.verdict.Verdict.TheVariants as verdicts

-- the word of a rule
unfoldable pub rule_text : Rule → List ℕ
rule_text rules.Form = codes "form"
rule_text rules.Point = codes "point"
rule_text rules.Reply = codes "reply"
rule_text rules.Ack = codes "ack"
rule_text rules.History = codes "history"
rule_text rules.State = codes "state"
rule_text rules.Owner = codes "owner"
rule_text rules.Copy = codes "copy"

-- `audit ok`, or `audit LINE RULE`
unfoldable pub verdict_text : Verdict → List ℕ
verdict_text verdicts.Sound = codes "audit ok" ++ line_end
verdict_text (verdicts.Fails line rule) = codes "audit" ++ number line ++ word (rule_text rule) ++ line_end
