-- Laws of maps: which writes can be made on one, and that a transaction's can.
use Rattle.std.specs.Prelude.{ℕ, suc, true, false, ◌||◌, ◌==◌, ◌≡◌, ◌≢◌, ◌-◌, ◌^◌, ◌<◌, List, [], ◌∷◌, length, All, refl}
use Rattle.std.proofs.Common.{arith}
use Rattle.std.proofs.lemmas.Bool.{eqb-true}
use Rattle.std.proofs.lemmas.Bool.Decides.{nat_tests}
use Rattle.zeus_base.specs.declared.value.Value.{Value}
use Rattle.zeus_base.specs.Tables.{put}
use Rattle.zeus_base.specs.TableLaws.{nth-put_other, length-put}
use Rattle.zeus_txn.specs.declared.map.Versioned.{Versioned}
use Rattle.zeus_txn.specs.declared.ops.Op.{Op}
use Rattle.zeus_txn.specs.Map.{no_content, content, run_at}
use Rattle.zeus_txn.specs.Ops.{mentions, named}
use Rattle.zeus_txn.specs.RunLaws.{keys, AreDistinct, run-are_of}

-- what holds of each object of a list holds of one that it mentions
pub All-mentioned : (P : ℕ → Type 0) (xs : List ℕ) (x : ℕ) → All P xs → mentions x xs ≡ true → P x
unfolding mentions
All-mentioned P [] x all h = absurd cc
All-mentioned P (y ∷ ys) x all h =
    elim (x == y) as (λ b. (x == y) ≡ b → (b || mentions x ys) ≡ true → P x) [
      | true ↦ λ is _. rw (eqb-true x y is) (all 0 y (omega arith))
      | false ↦ λ _ rest. All-mentioned P ys x (λ k d less. all (suc k) d (omega arith)) rest
    ] refl h

-- each write in turn finds its object with a version that can rise, and no later write is of the same object
unfoldable pub CanWrite : List Versioned → List (ℕ × Value) → Type 0
CanWrite map [] = Unit {0}
CanWrite map (w ∷ ws) = (w.0 < length map) × ((content map w.0).ver < 2 ^ 64 - 1) × (mentions w.0 (keys ws) ≡ false) × CanWrite map ws

-- if writes can be made on a map and none is of the object put, then they can be made on the map after the put
pub CanWrite-put : (map : List Versioned) (x : ℕ) (v : Versioned) (ws : List (ℕ × Value)) → x < length map → mentions x (keys ws) ≡ false → CanWrite map ws → CanWrite (put no_content map x v) ws
unfolding CanWrite mentions keys
CanWrite-put map x v [] h new can = tt
CanWrite-put map x v (w ∷ ws) h new can =
    let other : x ≢ w.0 = λ e. grind (arith, nat_tests) in
    let rest : mentions x (keys ws) ≡ false = grind arith in
    (rw (length-put no_content map x v h) can.0, rw (nth-put_other no_content map x w.0 v other) can.1, can.2, CanWrite-put map x v ws h rest can.3)

can_write : (map : List Versioned) (ns : List ℕ) (ws : List (ℕ × Value)) → ((x : ℕ) → mentions x ns ≡ true → x < length map) → ((x : ℕ) → mentions x ns ≡ true → (content map x).ver < 2 ^ 64 - 1) → AreDistinct (keys ws) → ((x : ℕ) → mentions x (keys ws) ≡ true → mentions x ns ≡ true) → CanWrite map ws
unfolding CanWrite AreDistinct keys mentions
can_write map ns [] inside low distinct named = tt
can_write map ns (w ∷ ws) inside low distinct named =
    let this : mentions w.0 ns ≡ true = named w.0 (grind (arith, nat_tests)) in
    (inside w.0 this, low w.0 this, distinct.0, can_write map ns ws inside low distinct.1 (λ x h. named x (grind arith)))

-- what operations write at a map that has their objects, with versions that can rise, can be written there
pub run_at-can_write : (map : List Versioned) (tx : List Op) → All (λ x. x < length map) (named tx) → ((x : ℕ) → x < length map → (content map x).ver < 2 ^ 64 - 1) → CanWrite map (run_at map tx).writes
run_at-can_write map tx inside low =
    let are = run-are_of (λ x. (content map x).value) tx in
    let within : (x : ℕ) → mentions x (named tx) ≡ true → x < length map = λ x h. All-mentioned (λ y. y < length map) (named tx) x inside h in
    can_write map (named tx) (run_at map tx).writes within (λ x h. low x (within x h)) are.distinct are.named
