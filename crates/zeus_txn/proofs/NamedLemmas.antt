-- What a walk over operations knows of the objects that they name.
use Rattle.std.proofs.Common.{ℕ, true, false, ◌≡◌, ◌+◌, ◌<◌, ◌≤◌, List, [], ◌∷◌, ◌++◌, length, drop, get_or, nat_lt, refl, sym, ◌∙◌, ap, arith, length-append}
use Rattle.std.proofs.lemmas.Bool.{lt-ltb}
use Rattle.zeus_txn.specs.Ops.{object_of, mentions, mentioned, named_after, named}
use Rattle.zeus_txn.specs.OpLaws.{mentioned-new, length-named_after}
use Rattle.zeus_txn.specs.declared.ops.Op.{Op}
use Rattle.zeus_txn.proofs.Rests.{drop-here, drop-end}

-- the objects named after one more operation in front: its object is added, then the rest are walked
pub named_after-cons : (all : List ℕ) (op : Op) (ops : List Op) → named_after all (op ∷ ops) ≡ named_after (mentioned all (object_of op)) ops
unfolding named_after
named_after-cons all op ops = refl

-- the walk goes on behind an operation with its object among the others
pub named_after-step : (ops : List Op) (all : List ℕ) (i : ℕ) (op : Op) → i < length ops → op ≡ get_or ops i op → named_after all (drop i ops) ≡ named ops → named_after (mentioned all (object_of op)) (drop (i + 1) ops) ≡ named ops
named_after-step ops all i op h is walked =
    sym (named_after-cons all op (drop (i + 1) ops)) ∙ (ap (λ rest. named_after all rest) (sym (drop-here ops i op h is)) ∙ walked)

-- a new object behind eight others is one too many
pub named-many : (ops : List Op) (all : List ℕ) (i : ℕ) (op : Op) → i < length ops → op ≡ get_or ops i op → named_after all (drop i ops) ≡ named ops → mentions (object_of op) all ≡ false → length all ≡ 8 → nat_lt 8 (length (named ops)) ≡ true
named-many ops all i op h is walked new eight =
    let next = named_after-step ops all i op h is walked in
    let more : mentioned all (object_of op) ≡ all ++ object_of op ∷ [] = mentioned-new (object_of op) all new in
    let kept = length-named_after (mentioned all (object_of op)) (drop (i + 1) ops) in
    let count : length (mentioned all (object_of op)) ≡ 9 = rw more (omega (arith, length-append all (object_of op ∷ []))) in
    lt-ltb 8 (length (named ops)) (omega (arith, ap length next))

-- at the end of the walk the objects are those that are named
pub named-whole : (ops : List Op) (all : List ℕ) (i : ℕ) → length ops ≤ i → named_after all (drop i ops) ≡ named ops → all ≡ named ops
unfolding named_after
named-whole ops all i h walked = let none = drop-end ops i h in rw none at walked
