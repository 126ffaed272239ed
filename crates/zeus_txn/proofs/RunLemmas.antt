-- What a walk over operations knows of what they give and write.
use Rattle.std.proofs.Common.{ℕ, zero, suc, true, ◌≡◌, ◌+◌, ◌<◌, ◌≤◌, List, [], ◌∷◌, Option, Some, None, length, drop, get_or, sym, ap, ◌∙◌, arith, length-append, subst}
use Rattle.zeus_base.specs.declared.value.Value.{Value}
use Rattle.zeus_txn.specs.declared.ops.Op.{Op}
use Rattle.zeus_txn.specs.declared.reply.Ran.{Ran}
use Rattle.zeus_txn.specs.declared.run.Effect.{Effect}
use Rattle.zeus_txn.specs.Ops.{object_of, mentions, named}
use Rattle.zeus_txn.specs.OpLaws.{AllIn, named-all}
use Rattle.zeus_txn.specs.Run.{effect, given, latest, stored, fails_at, succeeds, run_from, value_at}
use Rattle.zeus_txn.specs.RunLaws.{run_from-none, run_from-some}
use Rattle.zeus_txn.proofs.Rests.{drop-here, drop-end}

AllIn-at : (xs : List ℕ) (ops : List Op) (i : ℕ) (op : Op) → AllIn xs ops → i < length ops → op ≡ get_or ops i op → mentions (object_of op) xs ≡ true
unfolding AllIn
AllIn-at xs [] i op all h is = absurd (omega arith)
AllIn-at xs (first ∷ ops) zero op all h is = rw is all.0
AllIn-at xs (first ∷ ops) (suc i) op all h is = AllIn-at xs ops i op all.1 (omega arith) is

-- the object of an operation is among those that the operations name
pub named-at : (ops : List Op) (i : ℕ) (op : Op) → i < length ops → op ≡ get_or ops i op → mentions (object_of op) (named ops) ≡ true
named-at ops i op h is = AllIn-at (named ops) ops i op (named-all ops) h is

-- an operation gives at most one more value
pub length-given : (vs : List Value) (o : Option Value) → length (given vs o) ≤ length vs + 1
unfolding given
length-given vs None = omega arith
length-given vs (Some v) = omega (arith, length-append vs (v ∷ []))

-- an operation that does not fail leaves the rest to be run
pub run-step : (found : ℕ → Value) (ops : List Op) (i : ℕ) (vs : List Value) (ws : List (ℕ × Value)) (op : Op) (e : Effect) (all : Ran) → i < length ops → op ≡ get_or ops i op → effect op (latest ws (object_of op) (found (object_of op))) ≡ Some e → run_from found i vs ws (drop i ops) ≡ all → run_from found (i + 1) (given vs e.gives) (stored ws (object_of op) e.stores) (drop (i + 1) ops) ≡ all
run-step found ops i vs ws op e all h is works ran =
    let step = run_from-some found i vs ws op (drop (i + 1) ops) e works in
    let next : run_from found (suc i) (given vs e.gives) (stored ws (object_of op) e.stores) (drop (i + 1) ops) ≡ all = sym step ∙ (ap (λ rest. run_from found i vs ws rest) (sym (drop-here ops i op h is)) ∙ ran) in
    let one : i + 1 ≡ suc i = omega arith in
    subst (λ (k : ℕ). run_from found k (given vs e.gives) (stored ws (object_of op) e.stores) (drop (i + 1) ops) ≡ all) (sym one) next

-- one that fails ends it
pub run-fail : (found : ℕ → Value) (ops : List Op) (i : ℕ) (vs : List Value) (ws : List (ℕ × Value)) (op : Op) (all : Ran) → i < length ops → op ≡ get_or ops i op → effect op (latest ws (object_of op) (found (object_of op))) ≡ None → run_from found i vs ws (drop i ops) ≡ all → fails_at i vs ≡ all
run-fail found ops i vs ws op all h is fails ran =
    let step = run_from-none found i vs ws op (drop (i + 1) ops) fails in
    sym step ∙ (ap (λ rest. run_from found i vs ws rest) (sym (drop-here ops i op h is)) ∙ ran)

-- if the place is past the last operation, then running what is left is succeeding with the values and writes so far
pub run-end : (found : ℕ → Value) (ops : List Op) (i : ℕ) (vs : List Value) (ws : List (ℕ × Value)) (all : Ran) → length ops ≤ i → run_from found i vs ws (drop i ops) ≡ all → succeeds vs ws ≡ all
unfolding run_from
run-end found ops i vs ws all h ran = let none = drop-end ops i h in rw none at ran

-- what an operation does on the view that the walk has
pub performed : (ops : List Op) (vs : List Value) (ws : List (ℕ × Value)) (op : Op) (ns : List ℕ) (x : ℕ) (found seen : Value) (did : Option Effect) → ns ≡ named ops → x ≡ object_of op → found ≡ value_at ns vs x → seen ≡ latest ws x found → did ≡ effect op seen → effect op (latest ws (object_of op) (value_at (named ops) vs (object_of op))) ≡ did
performed ops vs ws op ns x found seen did n o f s d = rw (← n, ← o, ← f, ← s) (sym d)
