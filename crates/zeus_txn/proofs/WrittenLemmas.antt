-- What a walk over operations knows of the objects that they store.
use Rattle.std.proofs.Common.{ℕ, Bool, true, false, ◌≡◌, ◌+◌, ◌<◌, ◌≤◌, List, [], ◌∷◌, length, drop, get_or, if◌then◌else◌, refl}
use Rattle.zeus_txn.specs.Ops.{object_of, stores, mentioned, named, written_after, written}
use Rattle.zeus_txn.specs.RunLaws.{HasRoom, HasRoom-mentioned}
use Rattle.zeus_txn.specs.declared.ops.Op.{Op}
use Rattle.zeus_txn.proofs.Rests.{drop-here, drop-end}
use Rattle.zeus_txn.proofs.RunLemmas.{named-at}

-- one operation adds its object to those written if it stores, else nothing
pub written_after-one : (all : List ℕ) (op : Op) → written_after all (op ∷ []) ≡ (if stores op then mentioned all (object_of op) else all)
unfolding written_after
written_after-one all op = refl

-- the walk goes on behind an operation
pub written_after-step : (ops : List Op) (all : List ℕ) (i : ℕ) (op : Op) → i < length ops → op ≡ get_or ops i op → written_after all (drop i ops) ≡ written ops → written_after (written_after all (op ∷ [])) (drop (i + 1) ops) ≡ written ops
unfolding written_after
written_after-step ops all i op h is walked = rw (drop-here ops i op h is) at walked

-- if a walk past the last operation ends with the objects written, then it has come to all of them
pub written-whole : (ops : List Op) (all : List ℕ) (i : ℕ) → length ops ≤ i → written_after all (drop i ops) ≡ written ops → all ≡ written ops
unfolding written_after
written-whole ops all i h walked = let none = drop-end ops i h in rw none at walked

-- if what is written so far has room among the objects named, then so has it after one more operation of the transaction
pub written_after-room : (ops : List Op) (all : List ℕ) (i : ℕ) (op : Op) → i < length ops → op ≡ get_or ops i op → HasRoom all (named ops) → HasRoom (written_after all (op ∷ [])) (named ops)
written_after-room ops all i op h is room =
    rw written_after-one (elim (stores op) as (λ (b : Bool). HasRoom (if b then mentioned all (object_of op) else all) (named ops)) [
      | true ↦ HasRoom-mentioned (object_of op) all (named ops) room (named-at ops i op h is)
      | false ↦ room
    ])
