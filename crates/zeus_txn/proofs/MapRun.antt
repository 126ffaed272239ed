-- A transaction that is run on the values that a map has of the objects that it names is run at the map.
use Rattle.std.proofs.Common.{ℕ, ◌≡◌, ◌∙◌, List, map, ap}
use Rattle.zeus_base.specs.declared.value.Value.{Value}
use Rattle.zeus_txn.specs.declared.map.Versioned.{Versioned}
use Rattle.zeus_txn.specs.declared.ops.Op.{Op}
use Rattle.zeus_txn.specs.declared.reply.Ran.{Ran}
use Rattle.zeus_txn.specs.Map.{content, run_at}
use Rattle.zeus_txn.specs.Ops.{named}
use Rattle.zeus_txn.specs.Run.{run, value_at}
use Rattle.zeus_txn.specs.RunLaws.{run-value_at}

-- if the values given are those that a map has of the objects named, then running on them is running at the map
pub ran-run_at : (m : List Versioned) (tx : List Op) (ns : List ℕ) (items : List Versioned) (values slice : List Value) (ran : Ran) → ns ≡ named tx → items ≡ m → values ≡ map (λ x. (content items x).value) ns → slice ≡ values → ran ≡ run (value_at (named tx) slice) tx → ran ≡ run_at m tx
ran-run_at m tx ns items values slice ran n i v s r =
    let found : ℕ → Value = λ x. (content m x).value in
    let here : slice ≡ map found (named tx) = s ∙ (v ∙ (ap (λ ks. map (λ x. (content items x).value) ks) n ∙ ap (λ (l : List Versioned). map (λ x. (content l x).value) (named tx)) i)) in
    r ∙ (ap (λ vs. run (value_at (named tx) vs) tx) here ∙ run-value_at found tx)
