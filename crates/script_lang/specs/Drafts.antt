-- What the lines of a script so far say, and what each next line adds.
use Rattle.std.specs.Prelude.{◌≡◌, ℕ, Bool, true, false, ◌&&◌, ◌==◌, List, [], ◌∷◌, ◌++◌, Some, None, Result, Ok, Err, codes, length, if◌then◌else◌}
use Rattle.std.specs.Str.{bytes_eq}
use Rattle.zeus_base.specs.declared.config.ObjectDecl.{ObjectDecl}
use Rattle.zeus_base.specs.declared.step.Step.{Step}
use Rattle.zeus_txn.specs.declared.tx.TxDecl.{TxDecl}
use Rattle.zeus_model.specs.declared.fault.Kind.{Kind}
use Rattle.zeus_model.specs.declared.fault.Kind.TheVariants as kinds
use Rattle.script_lang.specs.declared.draft.Draft.{Draft}
use Rattle.script_lang.specs.declared.stage.Failure.{Failure}
use Rattle.script_lang.specs.declared.stage.Failure.TheVariants as failures
use Rattle.script_lang.specs.declared.stage.Stage.{Stage}
use Rattle.script_lang.specs.declared.stage.Stage.TheVariants as stages
use Rattle.script_lang.specs.declared.head.Head.{Head}
use Rattle.script_lang.specs.declared.keywords.StepWord.{StepWord}
use Rattle.script_lang.specs.Reads.{◌>>=◌, or_fault, word_at, keyword_at, ended}
use Rattle.script_lang.specs.Numbers.{range_at}
use Rattle.script_lang.specs.NodeLists.{nodes_after}
use Rattle.script_lang.specs.Objects.{object_at}
use Rattle.script_lang.specs.Transactions.{tx_at}
use Rattle.script_lang.specs.Steps.{step_word_of, step_at}

-- a draft without where it lies in memory
pub record State : Type 0 where
  pub stage : Stage
  pub head : Head
  pub names : List (List ℕ)
  pub objects : List ObjectDecl
  pub txs : List TxDecl
  pub steps : List Step

abbrev pub state_of : Draft → State
state_of d = record { stage = d.stage; head = d.head; names = d.names; objects = d.objects.items; txs = d.txs.items; steps = d.steps.items }

-- the version that a word is
unfoldable pub version_of : List ℕ → Result ℕ Kind
version_of w =
    if bytes_eq w (codes "1") then Ok 1 else
    (if bytes_eq w (codes "2") then Ok 2 else Err kinds.Word)

-- the line of the version
unfoldable pub version_taken : State → List (List ℕ) → Result State Kind
version_taken s ws = do
  a ← keyword_at (codes "zeus") ws
  w ← word_at a.1
  v ← version_of w.0
  e ← ended w.1
  Ok (record s { stage = stages.Nodes; head = record s.head { version = v } })

-- the line of the nodes
unfoldable pub nodes_taken : State → List (List ℕ) → Result State Kind
nodes_taken s ws = do
  a ← keyword_at (codes "nodes") ws
  n ← range_at 1 9 a.1
  e ← ended n.1
  Ok (record s { stage = stages.Slots; head = record s.head { nodes = n.0 } })

-- the line of the slots
unfoldable pub slots_taken : State → List (List ℕ) → Result State Kind
slots_taken s ws = do
  a ← keyword_at (codes "slots") ws
  n ← range_at 1 9 a.1
  e ← ended n.1
  Ok (record s { stage = stages.Directory; head = record s.head { slots = n.0 } })

-- some nodes at least
abbrev pub some_nodes : List ℕ → Result (List ℕ) Kind
some_nodes [] = Err kinds.Word
some_nodes (n ∷ ns) = Ok (n ∷ ns)

-- the line of the directory
unfoldable pub directory_taken : State → List (List ℕ) → Result State Kind
directory_taken s ws = do
  a ← keyword_at (codes "directory") ws
  ns ← nodes_after s.head.nodes (Some s.head.nodes) None [] 0 a.1
  some ← some_nodes ns
  Ok (record s { stage = stages.Degree; head = record s.head { directory = some } })

-- the words behind `degree`
unfoldable pub degree_taken : State → List (List ℕ) → Result State Kind
degree_taken s ws = do
  n ← range_at 1 9 ws
  e ← ended n.1
  Ok (record s { stage = stages.Objects; head = record s.head { degree = Some n.0 } })

-- the words behind `object`, where there is room for an object
unfoldable pub object_taken : State → List (List ℕ) → Result State Kind
object_taken s ws =
    if length s.names == 256 then Err kinds.Long else
    (object_at s.head.version s.head.nodes s.names ws >>= λ o.
    Ok (record s { stage = stages.Objects; names = s.names ++ o.0 ∷ []; objects = s.objects ++ o.1 ∷ [] }))

-- the words behind `tx`, where there is room for a transaction
unfoldable pub tx_taken : Bool → State → List (List ℕ) → Result State Kind
tx_taken live s ws =
    if live && (length s.txs == 1000) then Err kinds.Live else
    (if length s.txs == 10000 then Err kinds.Long else
    (tx_at s.head.version s.head.nodes s.head.slots s.names (length s.txs) ws >>= λ t.
    Ok (record s { stage = stages.Txs; txs = s.txs ++ t ∷ [] })))

-- the words behind `run`
unfoldable pub run_taken : State → List (List ℕ) → Result State Kind
run_taken s ws = do
  e ← ended ws
  Ok (record s { stage = stages.Steps })

-- a step of this word, where there is room for one
unfoldable pub step_taken : Bool → State → StepWord → List (List ℕ) → Result State Kind
step_taken live s k ws =
    if live then Err kinds.Live else
    (if length s.steps == 50000 then Err kinds.Long else
    (step_at s.head.nodes s.head.slots (length s.txs) k ws >>= λ t.
    Ok (record s { steps = s.steps ++ t ∷ [] })))

-- behind the objects: a transaction or `run`
unfoldable pub tx_line_taken : Bool → State → List ℕ → List (List ℕ) → Result State Kind
tx_line_taken live s w ws =
    if bytes_eq w (codes "tx") then tx_taken live s ws else
    (if bytes_eq w (codes "run") then run_taken s ws else Err kinds.Word)

-- behind the directory and the degree: an object; and where there is one, also a transaction or `run`
unfoldable pub object_line_taken : Bool → State → List ℕ → List (List ℕ) → Result State Kind
object_line_taken live s w ws =
    if bytes_eq w (codes "object") then object_taken s ws else
    (if length s.objects == 0 then Err kinds.Word else tx_line_taken live s w ws)

-- right behind the directory: the degree, or an object
unfoldable pub degree_line_taken : Bool → State → List ℕ → List (List ℕ) → Result State Kind
degree_line_taken live s w ws =
    if bytes_eq w (codes "degree") then degree_taken s ws else object_line_taken live s w ws

-- more lines follow, or `end` was the last
unfoldable pub more : Result State Kind → Result (Bool × State) Kind
more (Ok s) = Ok (false, s)
more (Err k) = Err k

-- behind `run`: `end`, or a step
unfoldable pub step_line_taken : Bool → State → List ℕ → List (List ℕ) → Result (Bool × State) Kind
step_line_taken live s w ws =
    if bytes_eq w (codes "end") then (ended ws >>= λ e. Ok (true, s)) else
    (or_fault (step_word_of w) kinds.Word >>= λ k. more (step_taken live s k ws))

-- a line of the body, of its first word and the words behind it
unfoldable pub body_taken : Bool → State → Stage → List ℕ → List (List ℕ) → Result (Bool × State) Kind
body_taken live s stages.Degree w ws = more (degree_line_taken live s w ws)
body_taken live s stages.Objects w ws = more (object_line_taken live s w ws)
body_taken live s stages.Txs w ws = more (tx_line_taken live s w ws)
body_taken live s _ w ws = step_line_taken live s w ws

-- the next line: whether it was the last one, and what the lines then say
unfoldable pub line_taken : Bool → State → Stage → List (List ℕ) → Result (Bool × State) Kind
line_taken live s stages.Version ws = more (version_taken s ws)
line_taken live s stages.Nodes ws = more (nodes_taken s ws)
line_taken live s stages.Slots ws = more (slots_taken s ws)
line_taken live s stages.Directory ws = more (directory_taken s ws)
line_taken live s stage ws = word_at ws >>= λ w. body_taken live s stage w.0 w.1

-- a line was taken as reading says, unless memory ran out
abbrev pub Takes : Result (Unit {0}) Failure → Draft → Result State Kind → Type 0
Takes (Ok done) after read = read ≡ Ok (state_of after)
Takes (Err (failures.Kind k)) after read = read ≡ Err k
Takes (Err failures.NoMemory) after read = Unit {0}

-- the same of a line that may be the last
abbrev pub TakesLine : Result Bool Failure → Draft → Result (Bool × State) Kind → Type 0
TakesLine (Ok last) after read = read ≡ Ok (last, state_of after)
TakesLine (Err (failures.Kind k)) after read = read ≡ Err k
TakesLine (Err failures.NoMemory) after read = Unit {0}
