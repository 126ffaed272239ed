-- What a script so far keeps at each stage, and the lines that it was read from.
use Rattle.std.proofs.Common.{◌≡◌, ◌≢◌, ℕ, ◌≤◌, Bool, true, List, [], ◌∷◌, ◌++◌, length, All, None}
use Rattle.std.specs.Prelude.{codes, decimal, map, IfSome, AllPairs}
use Rattle.std.specs.List.{AllByRecursion}
use Rattle.zeus_base.specs.Limits.{KeepsDeclaration}
use Rattle.zeus_base.specs.NodeLaws.{IsRising, IsBelow}
use Rattle.zeus_base.specs.declared.config.ObjectDecl.{ObjectDecl}
use Rattle.zeus_model.specs.Names.{IsName}
use Rattle.zeus_model.specs.Scripts.{FitsValue, FitTxs, FitsStep}
use Rattle.zeus_model.specs.Spelling.{head_lines, object_lines, tx_words, step_words}
use Rattle.script_lang.specs.declared.head.Head.{Head}
use Rattle.script_lang.specs.declared.stage.Stage.{Stage}
use Rattle.script_lang.specs.declared.stage.Stage.TheVariants as stages
use Rattle.script_lang.specs.Drafts.{State}
use Rattle.script_lang.specs.Reading.{config_of}

-- the version is read
abbrev pub HasVersion : Head → Type 0
HasVersion h = (1 ≤ h.version) × (h.version ≤ 2)

abbrev pub HasNodes : Head → Type 0
HasNodes h = (1 ≤ h.nodes) × (h.nodes ≤ 8)

abbrev pub HasSlots : Head → Type 0
HasSlots h = (1 ≤ h.slots) × (h.slots ≤ 8)

abbrev pub HasDirectory : Head → Type 0
HasDirectory h = (h.directory ≢ []) × IsRising h.directory × IsBelow h.nodes h.directory

-- a degree, if one is given, is from 1 to 8
abbrev pub HasDegree : Head → Type 0
HasDegree h = IfSome h.degree (λ d. (1 ≤ d) × (d ≤ 8))

-- what the first lines say by each stage
unfoldable pub HeadFits : Stage → Head → Type 0
HeadFits stages.Version h = h.degree ≡ None
HeadFits stages.Nodes h = HasVersion h × (h.degree ≡ None)
HeadFits stages.Slots h = HasVersion h × HasNodes h × (h.degree ≡ None)
HeadFits stages.Directory h = HasVersion h × HasNodes h × HasSlots h × (h.degree ≡ None)
HeadFits stages.Degree h = HasVersion h × HasNodes h × HasSlots h × HasDirectory h × (h.degree ≡ None)
HeadFits stages.Objects h = HasVersion h × HasNodes h × HasSlots h × HasDirectory h × HasDegree h
HeadFits stages.Txs h = HasVersion h × HasNodes h × HasSlots h × HasDirectory h × HasDegree h
HeadFits stages.Steps h = HasVersion h × HasNodes h × HasSlots h × HasDirectory h × HasDegree h

-- the objects so far
pub record AreObjects (version nodes : ℕ) (names : List (List ℕ)) (objects : List ObjectDecl) : Type 0 where
  pub count : length names ≡ length objects
  pub few : length names ≤ 256
  pub each : All IsName names
  pub distinct : AllPairs (λ a b. a ≢ b) names
  pub values : AllByRecursion (λ o. FitsValue version o.value) objects
  pub declared : AllByRecursion (KeepsDeclaration version nodes) objects

-- the transactions so far
pub record AreTxs (live : Bool) (s : State) : Type 0 where
  pub some : 1 ≤ length s.objects
  pub fit : FitTxs (config_of s) 0 s.txs
  pub few : length s.txs ≤ 10000
  pub live_few : live ≡ true → length s.txs ≤ 1000

-- the steps so far
pub record AreSteps (live : Bool) (s : State) : Type 0 where
  pub fit : AllByRecursion (FitsStep (config_of s) (length s.txs)) s.steps
  pub few : length s.steps ≤ 50000
  pub live_none : live ≡ true → s.steps ≡ []

-- nothing behind the first lines
pub record IsBare (s : State) : Type 0 where
  pub names : s.names ≡ []
  pub objects : s.objects ≡ []
  pub txs : s.txs ≡ []
  pub steps : s.steps ≡ []

abbrev pub ObjectsOf : State → Type 0
ObjectsOf s = AreObjects s.head.version s.head.nodes s.names s.objects

-- what the lines behind the first ones say by each stage
unfoldable pub BodyFits : Bool → Stage → State → Type 0
BodyFits live stages.Version s = IsBare s
BodyFits live stages.Nodes s = IsBare s
BodyFits live stages.Slots s = IsBare s
BodyFits live stages.Directory s = IsBare s
BodyFits live stages.Degree s = IsBare s
BodyFits live stages.Objects s = ObjectsOf s × (s.txs ≡ []) × (s.steps ≡ [])
BodyFits live stages.Txs s = ObjectsOf s × AreTxs live s × (s.steps ≡ [])
BodyFits live stages.Steps s = ObjectsOf s × AreTxs live s × AreSteps live s

-- what a script so far keeps at a stage
pub record Fits (live : Bool) (stage : Stage) (s : State) : Type 0 where
  pub head : HeadFits stage s.head
  pub body : BodyFits live stage s

-- the lines before `run`
abbrev pub declared_lines : State → List (List (List ℕ))
declared_lines s = head_lines (config_of s) ++ object_lines s.names s.objects ++ map (tx_words s.names) s.txs

-- the lines that a script so far was read from
unfoldable pub lines_at : Stage → State → List (List (List ℕ))
lines_at stages.Version s = []
lines_at stages.Nodes s = (codes "zeus" ∷ decimal s.head.version ∷ []) ∷ []
lines_at stages.Slots s = (codes "zeus" ∷ decimal s.head.version ∷ []) ∷ (codes "nodes" ∷ decimal s.head.nodes ∷ []) ∷ []
lines_at stages.Directory s = (codes "zeus" ∷ decimal s.head.version ∷ []) ∷ (codes "nodes" ∷ decimal s.head.nodes ∷ []) ∷ (codes "slots" ∷ decimal s.head.slots ∷ []) ∷ []
lines_at stages.Degree s = declared_lines s
lines_at stages.Objects s = declared_lines s
lines_at stages.Txs s = declared_lines s
lines_at stages.Steps s = declared_lines s ++ (codes "run" ∷ []) ∷ [] ++ map step_words s.steps

-- one more line was added at a stage
pub record Adds (live : Bool) (stage : Stage) (s : State) (ws : List (List ℕ)) (t : State) : Type 0 where
  pub fits : Fits live t.stage t
  pub lines : lines_at t.stage t ≡ lines_at stage s ++ ws ∷ []
