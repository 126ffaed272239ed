-- Which transactions fit: those of a configuration's script, and those whose objects a node has.
use Rattle.std.specs.Prelude.{ℕ, ◌≡◌, ◌<◌, true, List, [], ◌∷◌, ◌++◌, length, All, refl}
use Rattle.std.proofs.lemmas.Bool.{cond_both, eq-eqb}
use Rattle.std.proofs.lemmas.List.Elements.{All-nil, All-cons, All-head, All-tail, All-push, All-weaker}
use Rattle.zeus_base.specs.Limits.{limits_of as config_limits}
use Rattle.zeus_base.specs.declared.config.Config.{Config}
use Rattle.zeus_base.specs.declared.value.Value.{Value}
use Rattle.zeus_base.specs.declared.value.Value.TheVariants.{Num, Text}
use Rattle.zeus_packet.specs.Fits.{value_fits}
use Rattle.zeus_txn.specs.Ops.{object_of, mentions, mentioned, named_after, named}
use Rattle.zeus_txn.specs.declared.ops.Op.{Op}
use Rattle.zeus_txn.specs.declared.ops.Op.TheVariants.{Get, Put, Add, Need, Same}
use Rattle.zeus_txn.specs.declared.tx.TxDecl.{TxDecl}
use Rattle.zeus_model.specs.Scripts.{FitsValue, FitsVersion, FitsOp, FitsTx as FitsDeclared}
use Rattle.zeus_model.specs.State.{Node}
use Rattle.node_ranges.specs.Ranges.{OpFits, FitsTx, limits_of}

-- ---- the transactions of a script

All-mentioned : (P : ℕ → Type 0) (xs : List ℕ) (x : ℕ) → All P xs → P x → All P (mentioned xs x)
unfolding mentioned
All-mentioned P xs x all h = cond_both (mentions x xs) xs (xs ++ x ∷ []) (λ ys. All P ys) (λ _. all) (λ _. All-push P xs x all h)

All-named_after : (P : ℕ → Type 0) (seen : List ℕ) (ops : List Op) → All P seen → All (λ op. P (object_of op)) ops → All P (named_after seen ops)
unfolding named_after
All-named_after P seen [] all each = all
All-named_after P seen (op ∷ ops) all each =
    All-named_after P (mentioned seen (object_of op)) ops (All-mentioned P seen (object_of op) all (All-head (λ (o : Op). P (object_of o)) op ops each))
    (All-tail (λ (o : Op). P (object_of o)) op ops each)

-- what holds of the object of each operation holds of each object that they name
pub All-named : (P : ℕ → Type 0) (ops : List Op) → All (λ op. P (object_of op)) ops → All P (named ops)
unfolding named
All-named P ops each = All-named_after P [] ops (All-nil P) each

declared_value : (c : Config) (v : Value) → FitsValue c.version v → value_fits (config_limits c) v ≡ true
unfolding FitsValue value_fits
declared_value c (Num n) h = refl
declared_value c (Text t) h = eq-eqb c.version 2 h.0

declared_op : (c : Config) (op : Op) → FitsVersion c.version op → OpFits (config_limits c) op
unfolding FitsVersion OpFits
declared_op c (Get x) h = tt
declared_op c (Put x v) h = declared_value c v h
declared_op c (Add x d) h = tt
declared_op c (Need x n) h = tt
declared_op c (Same x v) h = declared_value c v h.1

-- a transaction of a script fits the limits of its configuration
pub FitsTx-declared : (c : Config) (k : ℕ) (t : TxDecl) → FitsDeclared c k t → FitsTx (config_limits c) t.tx
FitsTx-declared c k t h =
    record {
      made = h.tx;
      named = All-named (λ x. x < length c.objects) t.tx (All-weaker (FitsOp c) (λ op. object_of op < length c.objects) (λ op fits. fits.object) t.tx h.ops);
      values = All-weaker (FitsOp c) (OpFits (config_limits c)) (λ op fits. declared_op c op fits.version) t.tx h.ops;
    }

-- ---- the transactions that a node can take

shown_value : (n : Node) (v : Value) → value_fits (limits_of n) v ≡ true
unfolding value_fits
shown_value n (Num m) = refl
shown_value n (Text t) = refl

shown_op : (n : Node) (op : Op) → OpFits (limits_of n) op
unfolding OpFits
shown_op n (Get x) = tt
shown_op n (Put x v) = shown_value n v
shown_op n (Add x d) = tt
shown_op n (Need x m) = tt
shown_op n (Same x v) = shown_value n v

shown_ops : (n : Node) (ops : List Op) → All (OpFits (limits_of n)) ops
shown_ops n [] = All-nil (OpFits (limits_of n))
shown_ops n (op ∷ ops) = All-cons (OpFits (limits_of n)) op ops (shown_op n op) (shown_ops n ops)
