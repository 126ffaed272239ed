-- Among the objects that operations name none stands twice.
use Rattle.std.specs.Prelude.{ℕ, List, [], ◌∷◌}
use Rattle.std.proofs.Common.{arith}
use Rattle.zeus_txn.specs.Ops.{mentioned, named, named_after, object_of}
use Rattle.zeus_txn.specs.RunLaws.{AreDistinct, distinct-mentioned}
use Rattle.zeus_txn.specs.declared.ops.Op.{Op}

distinct-named_after : (ops : List Op) (ks : List ℕ) → AreDistinct ks → AreDistinct (named_after ks ops)
unfolding named_after
distinct-named_after [] ks d = d
distinct-named_after (op ∷ ops) ks d = distinct-named_after ops (mentioned ks (object_of op)) (distinct-mentioned (object_of op) ks d)

-- operations name no object twice
pub distinct-named : (ops : List Op) → AreDistinct (named ops)
unfolding named AreDistinct
distinct-named ops = distinct-named_after ops [] tt
