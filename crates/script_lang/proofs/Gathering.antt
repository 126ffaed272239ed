-- What operations name with one more behind them.
use Rattle.std.proofs.Common.{◌≡◌, ℕ, ◌≤◌, Bool, true, false, List, [], ◌∷◌, ◌++◌, length, arith, length-append, refl}
use Rattle.std.specs.Prelude.{◌||◌, nat_lt}
use Rattle.std.proofs.lemmas.Bool.Decides.{nat_tests}
use Rattle.zeus_txn.specs.declared.ops.Op.{Op}
use Rattle.zeus_txn.specs.Ops.{object_of, mentions, mentioned, named_after, named}
use Rattle.script_lang.specs.Gathered.{takes_object}
use Rattle.zeus_txn.specs.OpLaws.{mentioned-new, mentioned-old}

named_after-push : (seen : List ℕ) (ops : List Op) (op : Op) → named_after seen (ops ++ op ∷ []) ≡ mentioned (named_after seen ops) (object_of op)
unfolding named_after
named_after-push seen [] op = refl
named_after-push seen (o ∷ ops) op = named_after-push (mentioned seen (object_of o)) ops op

-- one more operation at the end adds its object to the objects named
pub named-push : (ops : List Op) (op : Op) → named (ops ++ op ∷ []) ≡ mentioned (named ops) (object_of op)
unfolding named
named-push ops op = named_after-push [] ops op

-- if an operation on an object may follow, then at most 8 objects are named with it
pub length-taken : (before : List Op) (x : ℕ) → takes_object before x ≡ true → length (named before) ≤ 8 → length (mentioned (named before) x) ≤ 8
unfolding takes_object
length-taken before x takes few = go (mentions x (named before)) refl takes
  where
    go : (t : Bool) → mentions x (named before) ≡ t → (t || nat_lt (length (named before)) 8) ≡ true → length (mentioned (named before) x) ≤ 8
    go true e h = rw (mentioned-old x (named before) e) few
    go false e h = rw (mentioned-new x (named before) e, length-append) (grind (arith, nat_tests))
