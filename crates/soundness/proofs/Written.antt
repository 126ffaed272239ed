-- A value that is written once: steps that write it where there was none, and leave it else.
use Rattle.std.specs.Prelude.{ℕ, zero, suc, ◌≡◌, List, [], ◌∷◌, Option, Some, None, slice_get}
use Rattle.std.proofs.Common.{refl, ap}

-- a step writes a value where there was none, or leaves what is there
pub data Writes {A : Type 0} : Option A → Option A → Option A → Type 0 where
  leaves : (o : Option A) → Writes None o o
  fills : (a : A) → Writes (Some a) None (Some a)

-- what several steps write, one after another
pub data Written {A : Type 0} : List (Option A) → Option A → Option A → Type 0 where
  ended : (o : Option A) → Written [] o o
  onward : (t : Option A) (ts : List (Option A)) (old mid new : Option A) → Writes t old mid → Written ts mid new → Written (t ∷ ts) old new

-- what is there stays
pub Writes-some : {A : Type 0} (t old new : Option A) (a : A) → Writes t old new → old ≡ Some a → (t ≡ None) × (new ≡ Some a)
Writes-some t old new a (leaves _) is = (refl, is)
Writes-some t old new a (fills _) is = absurd cc

-- what is written is there
pub Writes-told : {A : Type 0} (t old new : Option A) (a : A) → Writes t old new → t ≡ Some a → new ≡ Some a
Writes-told t old new a (leaves _) is = absurd cc
Writes-told t old new a (fills _) is = is

-- a value that is there was written now, if it was not there before
pub Writes-new : {A : Type 0} (t old new : Option A) (a : A) → Writes t old new → old ≡ None → new ≡ Some a → t ≡ Some a
Writes-new t old new a (leaves _) none is = absurd cc
Writes-new t old new a (fills _) none is = is

-- where nothing is written, all stays
pub Writes-none : {A : Type 0} (old new : Option A) → Writes None old new → new ≡ old
Writes-none old new (leaves _) = refl

-- what is there stays, and nothing more is written
pub Written-some : {A : Type 0} (ts : List (Option A)) (old new : Option A) (a : A) → Written ts old new → old ≡ Some a
    → (new ≡ Some a) × ((k : ℕ) (b : A) → slice_get ts k ≡ Some (Some b) → ⊥)
Written-some [] old new a (ended _) is = (is, λ k b h. cc)
Written-some (t ∷ ts) old new a (onward _ _ _ mid _ w rest) is =
    let here = Writes-some t old mid a w is in
    let later = Written-some ts mid new a rest here.1 in
    (later.0, not_here t ts here.0 later.1)
  where
    not_here : {A : Type 0} (t : Option A) (ts : List (Option A)) → t ≡ None → ((k : ℕ) (b : A) → slice_get ts k ≡ Some (Some b) → ⊥)
        → (k : ℕ) (b : A) → slice_get (t ∷ ts) k ≡ Some (Some b) → ⊥
    not_here t ts none later zero b h = cc
    not_here t ts none later (suc k) b h = later k b h

-- a value that is there at last was written by one of the steps
pub Written-found : {A : Type 0} (ts : List (Option A)) (old new : Option A) (a : A) → Written ts old new → old ≡ None → new ≡ Some a
    → (k : ℕ) × (slice_get ts k ≡ Some (Some a))
Written-found [] old new a (ended _) none is = absurd cc
Written-found (t ∷ ts) old new a (onward _ _ _ None _ w rest) none is =
    let later = Written-found ts None new a rest refl is in
    (suc later.0, later.1)
Written-found (t ∷ ts) old new a (onward _ _ _ (Some b) _ w rest) none is =
    let told = Writes-new t old (Some b) b w none refl in
    let stays = (Written-some ts (Some b) new b rest refl).0 in
    (0, cc)

-- what a step wrote is there at last
pub Written-kept : {A : Type 0} (ts : List (Option A)) (old new : Option A) (a : A) (k : ℕ) → Written ts old new → slice_get ts k ≡ Some (Some a) → new ≡ Some a
Written-kept [] old new a k (ended _) h = absurd cc
Written-kept (t ∷ ts) old new a zero (onward _ _ _ mid _ w rest) h =
    let told : t ≡ Some a = cc in
    (Written-some ts mid new a rest (Writes-told t old mid a w told)).0
Written-kept (t ∷ ts) old new a (suc k) (onward _ _ _ mid _ w rest) h = Written-kept ts mid new a k rest h

-- at most one step writes
pub Written-once : {A : Type 0} (ts : List (Option A)) (old new : Option A) (a b : A) (k l : ℕ) → Written ts old new
    → slice_get ts k ≡ Some (Some a) → slice_get ts l ≡ Some (Some b) → k ≡ l
Written-once [] old new a b k l (ended _) h g = absurd cc
Written-once (t ∷ ts) old new a b zero zero (onward _ _ _ mid _ w rest) h g = refl
Written-once (t ∷ ts) old new a b zero (suc l) (onward _ _ _ mid _ w rest) h g =
    let told : t ≡ Some a = cc in
    absurd ((Written-some ts mid new a rest (Writes-told t old mid a w told)).1 l b g)
Written-once (t ∷ ts) old new a b (suc k) zero (onward _ _ _ mid _ w rest) h g =
    let told : t ≡ Some b = cc in
    absurd ((Written-some ts mid new b rest (Writes-told t old mid b w told)).1 k a h)
Written-once (t ∷ ts) old new a b (suc k) (suc l) (onward _ _ _ mid _ w rest) h g = ap suc (Written-once ts mid new a b k l rest h g)
