-- What transactions write fits where the values that they find and have fit.
use Rattle.std.specs.Prelude.{ℕ, suc, ◌≡◌, ◌≤◌, ◌==◌, Bool, true, false, List, [], ◌∷◌, length, All, Option, Some, None, IfSome, refl}
use Rattle.std.proofs.Common.{ap, inl, inr}
use Rattle.std.proofs.lemmas.Bool.{cond_both, eqb-true, or_cases, false≢true}
use Rattle.std.proofs.lemmas.List.Elements.{All-nil, All-cons, All-head, All-tail}
use Rattle.zeus_base.specs.Values.{same_value}
use Rattle.zeus_base.specs.declared.config.Limits.{Limits}
use Rattle.zeus_base.specs.declared.value.Value.{Value}
use Rattle.zeus_base.specs.declared.value.Value.TheVariants.{Num, Text}
use Rattle.zeus_packet.specs.Fits.{value_fits}
use Rattle.zeus_txn.specs.Ops.{object_of, mentions, named}
use Rattle.zeus_txn.specs.Run.{added, reaches, tested, effect, given, latest, rewritten, stored, fails_at, run_from, run}
use Rattle.zeus_txn.specs.OpLaws.{AllIn, named-all}
use Rattle.zeus_txn.specs.RunLaws.{keys, HasRoom, HasRoom-none, HasRoom-stored, HasRoom-length}
use Rattle.zeus_txn.specs.declared.ops.Op.{Op}
use Rattle.zeus_txn.specs.declared.ops.Op.TheVariants.{Get, Put, Add, Need, Same}
use Rattle.zeus_txn.specs.declared.reply.Ran.{Ran}
use Rattle.zeus_model.specs.Local.{new_writes}
use Rattle.zeus_model.specs.State.{Node}
use Rattle.node_ranges.specs.Ranges.{OpFits}

-- the value of a write fits
abbrev pub ValueFits : Limits → ℕ × Value → Type 0
ValueFits limits w = value_fits limits w.1 ≡ true

-- what an operation stores fits, if it stores anything
unfoldable pub StoresFit : Limits → Option Value → Type 0
StoresFit limits None = Unit {0}
StoresFit limits (Some v) = value_fits limits v ≡ true

tested-fits : (limits : Limits) (b : Bool) → IfSome (tested b) (λ e. StoresFit limits e.stores)
unfolding tested StoresFit
tested-fits limits true = tt
tested-fits limits false = tt

added-fits : (limits : Limits) (v : Value) (d : ℕ) → IfSome (added v d) (λ e. StoresFit limits e.stores)
unfolding added StoresFit value_fits
added-fits limits (Num m) d = refl
added-fits limits (Text t) d = tt

effect-fits : (limits : Limits) (op : Op) (v : Value) → OpFits limits op → IfSome (effect op v) (λ e. StoresFit limits e.stores)
unfolding effect OpFits StoresFit
effect-fits limits (Get x) v h = tt
effect-fits limits (Put x w) v h = h
effect-fits limits (Add x d) v h = added-fits limits v d
effect-fits limits (Need x n) v h = tested-fits limits (reaches v n)
effect-fits limits (Same x w) v h = tested-fits limits (same_value v w)

rewritten-fits : (limits : Limits) (ws : List (ℕ × Value)) (x : ℕ) (v : Value) → All (ValueFits limits) ws → value_fits limits v ≡ true → All (ValueFits limits) (rewritten ws x v)
unfolding rewritten
rewritten-fits limits [] x v all h = All-cons (ValueFits limits) (x, v) [] h all
rewritten-fits limits (w ∷ ws) x v all h =
    let rest = All-tail (ValueFits limits) w ws all in
    cond_both (x == w.0) ((x, v) ∷ ws) (w ∷ rewritten ws x v) (All (ValueFits limits))
    (λ _. All-cons (ValueFits limits) (x, v) ws h rest)
    (λ _. All-cons (ValueFits limits) w (rewritten ws x v) (All-head (ValueFits limits) w ws all) (rewritten-fits limits ws x v rest h))

stored-fits : (limits : Limits) (ws : List (ℕ × Value)) (x : ℕ) (o : Option Value) → All (ValueFits limits) ws → StoresFit limits o → All (ValueFits limits) (stored ws x o)
unfolding stored StoresFit
stored-fits limits ws x None all h = all
stored-fits limits ws x (Some v) all h = rewritten-fits limits ws x v all h

either_way : {E : Type 0} (P : Ran → Type 0) (Q : E → Type 0) (o : Option E) (a : Ran) (f : E → Ran) → IfSome o Q → P a → ((e : E) → Q e → P (f e)) → P (elim o [ None ↦ a | Some e ↦ f e ])
either_way P Q None a f fit h g = h
either_way P Q (Some e) a f fit h g = g e fit

IfSome_always : {E : Type 0} (o : Option E) → IfSome o (λ _. Unit {0})
IfSome_always None = tt
IfSome_always (Some e) = tt

run_from-fits : (limits : Limits) (found : ℕ → Value) (place : ℕ) (vs : List Value) (ws : List (ℕ × Value)) (ops : List Op) → All (OpFits limits) ops → All (ValueFits limits) ws → All (ValueFits limits) (run_from found place vs ws ops).writes
unfolding run_from
run_from-fits limits found place vs ws [] fit all = all
run_from-fits limits found place vs ws (op ∷ ops) fit all =
    let x = object_of op in
    let v = latest ws x (found x) in
    either_way (λ r. All (ValueFits limits) r.writes) (λ e. StoresFit limits e.stores) (effect op v) (fails_at place vs) (λ e. run_from found (suc place) (given vs e.gives) (stored ws x e.stores) ops)
    (effect-fits limits op v (All-head (OpFits limits) op ops fit)) (All-nil (ValueFits limits))
    (λ e stores. run_from-fits limits found (suc place) (given vs e.gives) (stored ws x e.stores) ops (All-tail (OpFits limits) op ops fit) (stored-fits limits ws x e.stores all stores))

-- what a transaction writes fits where the values that it has fit
pub run-fits : (limits : Limits) (found : ℕ → Value) (ops : List Op) → All (OpFits limits) ops → All (ValueFits limits) (run found ops).writes
unfolding run
run-fits limits found ops fit = run_from-fits limits found 0 [] [] ops fit (All-nil (ValueFits limits))

run_from-room : (found : ℕ → Value) (ns : List ℕ) (place : ℕ) (vs : List Value) (ws : List (ℕ × Value)) (ops : List Op) → AllIn ns ops → HasRoom (keys ws) ns → HasRoom (keys (run_from found place vs ws ops).writes) ns
unfolding run_from AllIn keys
run_from-room found ns place vs ws [] all room = room
run_from-room found ns place vs ws (op ∷ ops) all room =
    let x = object_of op in
    let v = latest ws x (found x) in
    either_way (λ r. HasRoom (keys r.writes) ns) (λ e. Unit {0}) (effect op v) (fails_at place vs) (λ e. run_from found (suc place) (given vs e.gives) (stored ws x e.stores) ops)
    (IfSome_always (effect op v)) (HasRoom-none ns)
    (λ e _. run_from-room found ns (suc place) (given vs e.gives) (stored ws x e.stores) ops all.1 (HasRoom-stored ws x e.stores ns room all.0))

-- a transaction writes no more objects than it names
pub run-few : (found : ℕ → Value) (ops : List Op) → length (run found ops).writes ≤ length (named ops)
unfolding run keys
run-few found ops = HasRoom-length (run_from found 0 [] [] ops).writes (named ops) (run_from-room found (named ops) 0 [] [] ops (named-all ops) (HasRoom-none (named ops)))

-- ---- the writes of a commit

-- a list has what it mentions
pub All-mentions : (P : ℕ → Type 0) (ns : List ℕ) (x : ℕ) → All P ns → mentions x ns ≡ true → P x
unfolding mentions
All-mentions P [] x all h = absurd (false≢true h)
All-mentions P (n ∷ ns) x all h =
    elim (or_cases (x == n) (mentions x ns) h) [
      | inl same ↦ rw (eqb-true x n same) (All-head P n ns all)
      | inr later ↦ All-mentions P ns x (All-tail P n ns all) later
    ]

-- there are as many writes with versions as without
pub length-new_writes : (n : Node) (ws : List (ℕ × Value)) → length (new_writes n ws) ≡ length ws
unfolding new_writes
length-new_writes n [] = refl
length-new_writes n (w ∷ ws) = ap suc (length-new_writes n ws)
