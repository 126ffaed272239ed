-- A transaction begins.
use Rattle.std.proofs.Common.{ℕ, ◌≡◌, ◌<◌, true, false, List, [], ◌∷◌, All, Some, None, length, refl}
use Rattle.std.proofs.lemmas.List.Elements.{All-cons, All-nil}
use Rattle.zeus_base.specs.declared.value.Value.{Value}
use Rattle.zeus_base.specs.declared.value.Value.TheVariants.{Num, Text}
use Rattle.zeus_packet.specs.Fits.{value_fits}
use Rattle.zeus_txn.specs.Ops.{named}
use Rattle.zeus_txn.specs.Tx.{IsTx}
use Rattle.zeus_txn.specs.declared.ops.Op.{Op}
use Rattle.zeus_txn.specs.declared.ops.Op.TheVariants.{Get, Put, Add, Need, Same}
use Rattle.zeus_model.specs.declared.state.Current.{Current}
use Rattle.zeus_model.specs.declared.answer.Begin.TheVariants.{Begun, Stopped, Busy}
use Rattle.zeus_model.specs.Act.{just}
use Rattle.zeus_model.specs.Local.{begin, begin_free, with_current}
use Rattle.zeus_model.specs.State.{Node, slot}
use Rattle.node_ranges.specs.Ranges.{FitsCurrent, OpFits, limits_of}

-- at the limits that a node shows each value fits
value_shown : (n : Node) (v : Value) → value_fits (limits_of n) v ≡ true
unfolding value_fits
value_shown n (Num m) = refl
value_shown n (Text t) = refl

op_shown : (n : Node) (op : Op) → OpFits (limits_of n) op
unfolding OpFits
op_shown n (Get x) = tt
op_shown n (Put x v) = value_shown n v
op_shown n (Add x d) = tt
op_shown n (Need x m) = tt
op_shown n (Same x v) = value_shown n v

ops_shown : (n : Node) (ops : List Op) → All (OpFits (limits_of n)) ops
ops_shown n [] = All-nil (OpFits (limits_of n))
ops_shown n (op ∷ ops) = All-cons (OpFits (limits_of n)) op ops (op_shown n op) (ops_shown n ops)

-- a transaction that is well made and names objects that there are fits the node
pub tx_fits : (n : Node) (id : ℕ) (tx : List Op) → IsTx tx → All (λ x. x < length n.entries) (named tx) → FitsCurrent (limits_of n) (Some (record { id = id; tx = tx }))
unfolding FitsCurrent
tx_fits n id tx made named = record { made = made; named = named; values = ops_shown n tx }

-- if a node has stopped, then a begin is answered so and changes nothing
pub begin-stopped : (n : Node) (s id : ℕ) (tx : List Op) → n.stopped ≡ true → begin n s id tx ≡ just n Stopped
unfolding begin
begin-stopped n s id tx e = rw e refl

-- if a slot has a current transaction, then a begin is answered with that one and changes nothing
pub begin-busy : (n : Node) (s id : ℕ) (tx : List Op) (other : Current) → n.stopped ≡ false → Some other ≡ (slot n s).current → begin n s id tx ≡ just n (Busy other.id)
unfolding begin begin_free
begin-busy n s id tx other e is = rw (e, ← is) refl

-- if a live node's slot has no current transaction, then the one that begins is its current one
pub begin-begun : (n : Node) (s id : ℕ) (tx : List Op) → n.stopped ≡ false → None ≡ (slot n s).current → begin n s id tx ≡ just (with_current n s (Some (record { id = id; tx = tx }))) Begun
unfolding begin begin_free
begin-begun n s id tx e is = rw (e, ← is) refl
