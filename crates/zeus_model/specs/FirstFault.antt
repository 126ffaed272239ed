-- Which line of bytes is the first faulty one, and the kinds of a line as a whole. `Opened` says which scripts are read.
use Rattle.std.specs.Prelude.{◌≡◌, ◌≢◌, ◌<◌, ◌≤◌, ◌-◌, ◌↔◌, ℕ, zero, suc, ◌==◌, List, [], ◌∷◌, length, if◌then◌else◌}
use Rattle.zeus_model.specs.declared.fault.Kind.{Kind}
use Rattle.zeus_model.specs.declared.fault.Kind.TheVariants as kinds
use Rattle.zeus_model.specs.declared.fault.ScriptFault.{ScriptFault}
use Rattle.zeus_model.specs.declared.script.Script.{Script}
use Rattle.zeus_model.specs.Scripts.{FitsScript}
use Rattle.zeus_model.specs.Spelling.{spelling}

-- a script that is read keeps all rules, however long its text
pub record IsOpenedScript (Opened : Script → Type 0) (s : Script) : Type 0 where
  pub fits : FitsScript s
  pub few_steps : length s.steps ≤ 50000
  pub opened : Opened s

-- the first n lines of bytes, each with the byte 10 that ends it; all bytes where fewer than n lines are ended
unfoldable pub first_lines : ℕ → List ℕ → List ℕ
first_lines zero bytes = []
first_lines (suc n) [] = []
first_lines (suc n) (b ∷ bytes) = b ∷ (if b == 10 then first_lines n bytes else first_lines (suc n) bytes)

-- the first n lines of the bytes are the first n lines of the text of a script
pub record BeginsScript (Opened : Script → Type 0) (bytes : List ℕ) (n : ℕ) : Type 0 where
  pub script : Script
  pub opened : IsOpenedScript Opened script
  pub same : first_lines n (spelling script) ≡ first_lines n bytes

-- line n is the first faulty one: fewer lines begin a script, and the first n begin none
pub record IsFirstFault (Opened : Script → Type 0) (bytes : List ℕ) (n : ℕ) : Type 0 where
  pub before : (k : ℕ) → k < n → BeginsScript Opened bytes k
  pub faulty : ¬ BeginsScript Opened bytes n

-- bytes are the whole text of a script
pub record IsScriptText (Opened : Script → Type 0) (bytes : List ℕ) : Type 0 where
  pub script : Script
  pub opened : IsOpenedScript Opened script
  pub spelled : bytes ≡ spelling script

-- how many lines of the bytes are ended by byte 10
unfoldable pub lines_ended : List ℕ → ℕ
lines_ended [] = 0
lines_ended (b ∷ bytes) = if b == 10 then suc (lines_ended bytes) else lines_ended bytes

-- line n is extra where the lines before it are a script's text, missing where they are all bytes, and wants its end
-- where neither holds and no byte 10 ends it
pub record IsKindOfLine (Opened : Script → Type 0) (bytes : List ℕ) (n : ℕ) (kind : Kind) : Type 0 where
  pub extra : (kind ≡ kinds.Extra) ↔ IsScriptText Opened (first_lines (n - 1) bytes)
  pub missing : (kind ≡ kinds.Missing) ↔ (first_lines (n - 1) bytes ≡ bytes)
  pub line_end : (kind ≡ kinds.LineEnd) ↔ ((¬ IsScriptText Opened (first_lines (n - 1) bytes)) × (first_lines (n - 1) bytes ≢ bytes) × (lines_ended bytes < n))

-- line 0 and the kind of the size each say that there are more than 4,194,304 bytes
pub record TellsSize (bytes : List ℕ) (f : ScriptFault) : Type 0 where
  pub line : (f.line ≡ 0) ↔ (4194304 < length bytes)
  pub kind : (f.kind ≡ kinds.Size) ↔ (4194304 < length bytes)
