-- Reading a script line by line, to the first fault.
use Rattle.std.specs.Prelude.{◌≡◌, ℕ, suc, Bool, true, false, nat_lt, List, [], ◌∷◌, None, Result, Ok, Err, length, if◌then◌else◌}
use Rattle.zeus_base.specs.declared.config.Config.{Config}
use Rattle.zeus_model.specs.declared.fault.Kind.{Kind}
use Rattle.zeus_model.specs.declared.fault.Kind.TheVariants as kinds
use Rattle.zeus_model.specs.declared.fault.ScriptFault.{ScriptFault}
use Rattle.zeus_model.specs.declared.script.Script.{Script}
use Rattle.script_lang.specs.declared.draft.Draft.{Draft}
use Rattle.script_lang.specs.declared.reading.ReadScript.{ReadScript}
use Rattle.script_lang.specs.declared.reading.ReadScript.TheVariants as errors
use Rattle.script_lang.specs.declared.stage.Stage.TheVariants as stages
use Rattle.script_lang.specs.Cut.{cut}
use Rattle.script_lang.specs.Drafts.{State, state_of, line_taken}

-- before the first line
unfoldable pub start : State
start = record {
  stage = stages.Version;
  head = record { version = 0; nodes = 0; slots = 0; directory = []; degree = None };
  names = [];
  objects = [];
  txs = [];
  steps = [];
}

-- this kind of fault in the line of this number
abbrev pub fault_at : ℕ → Kind → ScriptFault
fault_at n k = record { line = n; kind = k }

-- nothing stands behind the last line
unfoldable pub is_last : List (List ℕ) → Bool
is_last ([] ∷ []) = true
is_last _ = false

-- what is wrong with a part that no byte 10 ends: there is none, or it is not ended
unfoldable pub unended : List ℕ → Kind
unended [] = kinds.Missing
unended (b ∷ bs) = kinds.LineEnd

-- behind the line of this number
unfoldable pub line_done : Result (Bool × State) Kind → ℕ → List (List ℕ) → (State → Result State ScriptFault) → Result State ScriptFault
line_done (Err k) n rest go_on = Err (fault_at n k)
line_done (Ok (true, s)) n rest go_on = if is_last rest then Ok s else Err (fault_at (suc n) kinds.Extra)
line_done (Ok (false, s)) n rest go_on = go_on s

-- the lines from this number on, of which the last part is not ended
unfoldable pub lines_taken : Bool → State → ℕ → List (List ℕ) → Result State ScriptFault
lines_taken live s n [] = Err (fault_at n kinds.Missing)
lines_taken live s n (p ∷ []) = Err (fault_at n (unended p))
lines_taken live s n (p ∷ q ∷ ps) = line_done (line_taken live s s.stage (cut 32 p)) n (q ∷ ps) (λ t. lines_taken live t (suc n) (q ∷ ps))

-- the configuration so far
abbrev pub config_of : State → Config
config_of s = record {
  version = s.head.version;
  nodes = s.head.nodes;
  slots = s.head.slots;
  directory = s.head.directory;
  degree = s.head.degree;
  objects = s.objects;
}

-- the script that the lines say
unfoldable pub script_of : State → Script
script_of s = record {
  config = config_of s;
  names = s.names;
  txs = s.txs;
  steps = s.steps;
}

-- the script of what was read
unfoldable pub scripted : Result State ScriptFault → Result Script ScriptFault
scripted (Ok s) = Ok (script_of s)
scripted (Err f) = Err f

-- the script that bytes are, or their first fault
unfoldable pub script_read : Bool → List ℕ → Result Script ScriptFault
script_read live bytes =
    if nat_lt 4194304 (length bytes) then Err (fault_at 0 kinds.Size) else scripted (lines_taken live start 1 (cut 10 bytes))

-- the line of this number was taken as reading says, unless memory ran out
abbrev pub TakesNumbered : Result Bool ReadScript → Draft → ℕ → Result (Bool × State) Kind → Type 0
TakesNumbered (Ok last) after n read = read ≡ Ok (last, state_of after)
TakesNumbered (Err (errors.Fault f)) after n read = (f.line ≡ n) × (read ≡ Err f.kind)
TakesNumbered (Err errors.NoMemory) after n read = Unit {0}

-- the lines were taken as reading says, unless memory ran out
abbrev pub TakesAll : Result (Unit {0}) ReadScript → Draft → Result State ScriptFault → Type 0
TakesAll (Ok done) after read = read ≡ Ok (state_of after)
TakesAll (Err (errors.Fault f)) after read = read ≡ Err f
TakesAll (Err errors.NoMemory) after read = Unit {0}

-- the script was read as reading says, unless memory ran out
abbrev pub ReadsScript : Result Script ReadScript → Result Script ScriptFault → Type 0
ReadsScript (Ok s) read = read ≡ Ok s
ReadsScript (Err (errors.Fault f)) read = read ≡ Err f
ReadsScript (Err errors.NoMemory) read = Unit {0}
