-- The first that there is of two, and what stands where a test holds.
use Rattle.std.specs.Prelude.{◌≡◌, Bool, true, false, Option, Some, None, refl}
use Rattle.zeus_model.specs.Tables.{or_else, where_true}

-- nothing is the first of two where neither is there
pub or_else-none : {A : Type 0} (a b : Option A) → or_else a b ≡ None → (a ≡ None) × (b ≡ None)
unfolding or_else
or_else-none None b h = (refl, h)
or_else-none (Some a) b h = absurd cc

-- nothing stands where a test does not hold
pub where_true-none : {A : Type 0} (test : Bool) (a : A) → where_true test a ≡ None → test ≡ false
unfolding where_true
where_true-none true a h = absurd cc
where_true-none false a h = refl

-- the first of two is one of them
pub or_else-either : {A : Type 0} (a b : Option A) (v : A) (P : Type 0) → or_else a b ≡ Some v → (a ≡ Some v → P) → (b ≡ Some v → P) → P
unfolding or_else
or_else-either None b v P h f g = g h
or_else-either (Some a) b v P h f g = f h
