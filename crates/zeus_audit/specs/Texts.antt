-- The texts that lines of a report are compared with.
use Rattle.std.specs.Prelude.{◌≡◌, ℕ, List, ◌++◌, length, take, drop, map, codes, decimal, Option, Some, None, if◌then◌else◌}
use Rattle.std.proofs.Common.{Bor}
use Rattle.std.specs.Str.{bytes_eq}
use Rattle.zeus_base.specs.declared.step.Step.{Step}
use Rattle.zeus_txn.specs.declared.reply.Reply.{Reply}
use Rattle.zeus_model.specs.ReportText.{step_text}
use Rattle.zeus_model.specs.ReportWords.{number, reply_text}
use Rattle.zeus_model.specs.Spelling.{word, spaced}

-- `report` and the version
abbrev pub head_text : ℕ → List ℕ
head_text version = codes "report" ++ number version

-- `I STEP = `, behind which the answer stands
abbrev pub step_head : ℕ → Step → List ℕ
step_head i step = decimal i ++ word (step_text step) ++ codes " = "

-- `* K REPLY`
abbrev pub point_text : ℕ → Reply → List ℕ
point_text k reply = codes "*" ++ number k ++ word (reply_text reply)

-- `history` and the transactions
abbrev pub history_text : List ℕ → List ℕ
history_text points = codes "history" ++ spaced (map decimal points)

-- what stands behind a prefix, if the line begins with it
unfoldable pub behind : List ℕ → List ℕ → Option (List ℕ)
behind prefix line = if bytes_eq (take (length prefix) line) prefix then Some (drop (length prefix) line) else None

-- a part of the line was lent, if there is one
abbrev pub IsBehind : Option (Bor (List ℕ)) → Option (List ℕ) → Type 0
IsBehind None there = there ≡ None
IsBehind (Some part) there = there ≡ Some part.now
