-- Reading a script of leases line by line, to the first fault.
use Rattle.std.specs.Prelude.{◌≡◌, ℕ, zero, suc, ◌^◌, Bool, true, false, ◌==◌, nat_lt, List, [], ◌∷◌, ◌++◌, Option, Some, None, Result, Ok, Err, codes, length, if◌then◌else◌}
use Rattle.std.specs.Str.{bytes_eq}
use Rattle.zeus_model.specs.declared.fault.Kind.{Kind}
use Rattle.zeus_model.specs.declared.fault.Kind.TheVariants as kinds
use Rattle.zeus_model.specs.declared.fault.ScriptFault.{ScriptFault}
use Rattle.script_lang.specs.declared.reading.ReadScript.{ReadScript}
use Rattle.script_lang.specs.declared.reading.ReadScript.TheVariants as errors
use Rattle.script_lang.specs.declared.stage.Failure.{Failure}
use Rattle.script_lang.specs.declared.stage.Failure.TheVariants as failures
use Rattle.script_lang.specs.Cut.{cut}
use Rattle.script_lang.specs.Following.{followed}
use Rattle.script_lang.specs.NodeLists.{nodes_after}
use Rattle.script_lang.specs.Numbers.{range_at}
use Rattle.script_lang.specs.Reading.{fault_at}
use Rattle.script_lang.specs.Reads.{◌>>=◌, or_fault, word_at, keyword_at, ended}
use Rattle.zeus_lease.specs.declared.draft.Draft.{Draft}
use Rattle.zeus_lease.specs.declared.draft.Stage.{Stage}
use Rattle.zeus_lease.specs.declared.draft.Stage.TheVariants as stages
use Rattle.zeus_lease.specs.declared.keywords.StepWord.{StepWord}
use Rattle.zeus_lease.specs.declared.keywords.StepWord.TheVariants as words
use Rattle.zeus_lease.specs.declared.script.LeaseScript.{LeaseScript}
use Rattle.zeus_lease.specs.declared.step.LeaseStep.{LeaseStep}
use Rattle.zeus_lease.specs.declared.step.LeaseStep.TheVariants as steps

-- a draft without where it lies in memory
pub record State : Type 0 where
  pub stage : Stage
  pub nodes : ℕ
  pub length : ℕ
  pub percent : ℕ
  pub steps : List LeaseStep

abbrev pub state_of : Draft → State
state_of d = record { stage = d.stage; nodes = d.nodes; length = d.length; percent = d.percent; steps = d.steps.items }

-- before the first line
unfoldable pub start : State
start = record { stage = stages.Version; nodes = 0; length = 0; percent = 0; steps = [] }

-- ---- the first lines

unfoldable pub version_after : List (List ℕ) → Result (Unit {0}) Kind
version_after ws = do
  a ← keyword_at (codes "leases") ws
  b ← keyword_at (codes "1") a.1
  ended b.1

-- the number of a line that has this keyword and no more
unfoldable pub number_after : List ℕ → ℕ → ℕ → List (List ℕ) → Result ℕ Kind
number_after keyword lowest limit ws = do
  a ← keyword_at keyword ws
  n ← range_at lowest limit a.1
  e ← ended n.1
  Ok n.0

-- ---- the steps

unfoldable pub step_word_of : List ℕ → Option StepWord
step_word_of w =
    if bytes_eq w (codes "pass") then Some words.Pass else
    (if bytes_eq w (codes "ask") then Some words.Ask else
    (if bytes_eq w (codes "hear") then Some words.Hear else
    (if bytes_eq w (codes "take") then Some words.Take else
    (if bytes_eq w (codes "act") then Some words.Act else
    (if bytes_eq w (codes "view") then Some words.View else None)))))

-- so many numbers of a pass behind these
unfoldable pub ticks_after : ℕ → List ℕ → List (List ℕ) → Result (List ℕ × List (List ℕ)) Kind
ticks_after zero before ws = Ok (before, ws)
ticks_after (suc count) before ws = range_at 0 (2 ^ 32) ws >>= λ t. ticks_after count (before ++ t.0 ∷ []) t.1

-- the step of a word and the numbers behind it
unfoldable pub step_at : ℕ → StepWord → List (List ℕ) → Result LeaseStep Kind
step_at nodes words.Pass ws = do
  ts ← ticks_after (suc nodes) [] ws
  e ← ended ts.1
  Ok (steps.Pass ts.0)
step_at nodes words.Ask ws = do
  n ← range_at 0 nodes ws
  e ← ended n.1
  Ok (steps.Ask n.0)
step_at nodes words.Hear ws = do
  i ← range_at 0 (2 ^ 32) ws
  e ← ended i.1
  Ok (steps.Hear i.0)
step_at nodes words.Take ws = do
  i ← range_at 0 (2 ^ 32) ws
  e ← ended i.1
  Ok (steps.Take i.0)
step_at nodes words.Act ws = do
  n ← range_at 0 nodes ws
  e ← ended n.1
  Ok (steps.Act n.0)
step_at nodes words.View ws = do
  ns ← nodes_after nodes None None [] 0 ws
  Ok (steps.View ns)

-- a step of this word, where there is room for one
unfoldable pub step_taken : State → StepWord → List (List ℕ) → Result (Bool × State) Kind
step_taken s k ws =
    if length s.steps == 50000 then Err kinds.Long else
    (step_at s.nodes k ws >>= λ t. Ok (false, record s { steps = s.steps ++ t ∷ [] }))

-- behind the first lines: `end`, or a step
unfoldable pub step_line_taken : State → List ℕ → List (List ℕ) → Result (Bool × State) Kind
step_line_taken s w ws =
    if bytes_eq w (codes "end") then (ended ws >>= λ e. Ok (true, s)) else
    (or_fault (step_word_of w) kinds.Word >>= λ k. step_taken s k ws)

-- ---- lines

-- the next line: whether it was the last one, and what the lines then say
unfoldable pub line_taken : State → Stage → List (List ℕ) → Result (Bool × State) Kind
line_taken s stages.Version ws = version_after ws >>= λ e. Ok (false, record s { stage = stages.Nodes })
line_taken s stages.Nodes ws = number_after (codes "nodes") 1 9 ws >>= λ n. Ok (false, record s { stage = stages.Length; nodes = n })
line_taken s stages.Length ws = number_after (codes "length") 1 (2 ^ 32) ws >>= λ n. Ok (false, record s { stage = stages.Percent; length = n })
line_taken s stages.Percent ws = number_after (codes "percent") 0 101 ws >>= λ n. Ok (false, record s { stage = stages.Steps; percent = n })
line_taken s stages.Steps ws = word_at ws >>= λ w. step_line_taken s w.0 w.1

abbrev pub taken : State → List (List ℕ) → Result (Bool × State) Kind
taken s ws = line_taken s s.stage ws

-- the script that the lines say
unfoldable pub script_of : State → LeaseScript
script_of s = record { nodes = s.nodes; length = s.length; percent = s.percent; steps = s.steps }

-- the script of what was read
unfoldable pub scripted : Result State ScriptFault → Result LeaseScript ScriptFault
scripted (Ok s) = Ok (script_of s)
scripted (Err f) = Err f

-- the script that bytes are, or their first fault
unfoldable pub script_read : List ℕ → Result LeaseScript ScriptFault
script_read bytes =
    if nat_lt 4194304 (length bytes) then Err (fault_at 0 kinds.Size) else scripted (followed taken start 1 (cut 10 bytes))

-- ---- what was returned is what reading gives, unless memory ran out

abbrev pub ReadsTicks : Result (List ℕ) Failure → List (List ℕ) → Result (List ℕ × List (List ℕ)) Kind → Type 0
ReadsTicks (Ok ticks) after read = read ≡ Ok (ticks, after)
ReadsTicks (Err (failures.Kind k)) after read = read ≡ Err k
ReadsTicks (Err failures.NoMemory) after read = Unit {0}

abbrev pub TakesStep : Result LeaseStep Failure → Result LeaseStep Kind → Type 0
TakesStep (Ok step) read = read ≡ Ok step
TakesStep (Err (failures.Kind k)) read = read ≡ Err k
TakesStep (Err failures.NoMemory) read = Unit {0}

abbrev pub TakesLine : Result Bool Failure → Draft → Result (Bool × State) Kind → Type 0
TakesLine (Ok last) after read = read ≡ Ok (last, state_of after)
TakesLine (Err (failures.Kind k)) after read = read ≡ Err k
TakesLine (Err failures.NoMemory) after read = Unit {0}

abbrev pub TakesNumbered : Result Bool ReadScript → Draft → ℕ → Result (Bool × State) Kind → Type 0
TakesNumbered (Ok last) after n read = read ≡ Ok (last, state_of after)
TakesNumbered (Err (errors.Fault f)) after n read = (f.line ≡ n) × (read ≡ Err f.kind)
TakesNumbered (Err errors.NoMemory) after n read = Unit {0}

abbrev pub TakesAll : Result (Unit {0}) ReadScript → Draft → Result State ScriptFault → Type 0
TakesAll (Ok done) after read = read ≡ Ok (state_of after)
TakesAll (Err (errors.Fault f)) after read = read ≡ Err f
TakesAll (Err errors.NoMemory) after read = Unit {0}

abbrev pub ReadsScript : Result LeaseScript ReadScript → Result LeaseScript ScriptFault → Type 0
ReadsScript (Ok s) read = read ≡ Ok s
ReadsScript (Err (errors.Fault f)) read = read ≡ Err f
ReadsScript (Err errors.NoMemory) read = Unit {0}
