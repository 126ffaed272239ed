-- The copies at the start.
use Rattle.std.specs.Prelude.{ℕ, zero, suc, ◌≡◌, Bool, true, false, List, [], ◌∷◌, None, map, refl}
use Rattle.zeus_base.specs.Nodes.{has}
use Rattle.zeus_base.specs.declared.config.ObjectDecl.{ObjectDecl}
use Rattle.zeus_model.specs.declared.state.Copy.{Copy}
use Rattle.zeus_model.specs.State.{version_of}
use Rattle.zeus_model.specs.Tables.{nth, where_true}
use Rattle.zeus_model.specs.World.{start_copy}

where_true-version : (b : Bool) (c : Copy) → c.ver ≡ 0 → version_of (where_true b c) ≡ 0
unfolding version_of where_true
where_true-version true c e = e
where_true-version false c e = refl

-- each copy has version 0
pub start-version : (me : ℕ) (objects : List ObjectDecl) (x : ℕ) → version_of (nth None (map (start_copy me) objects) x) ≡ 0
unfolding nth start_copy
start-version me [] x = unfold version_of in refl
start-version me (o ∷ os) zero = where_true-version (has me o.replicas) _ refl
start-version me (o ∷ os) (suc x) = start-version me os x
