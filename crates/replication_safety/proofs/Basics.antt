-- The letters that are sent, what a node keeps, and views that shrink.
use Rattle.std.specs.Prelude.{ℕ, zero, suc, ◌≡◌, ◌≢◌, ◌+◌, ◌<◌, ◌≤◌, true, length}
use Rattle.std.proofs.Common.{arith, inl, inr}
use Rattle.std.proofs.lemmas.Bool.{cases_lt, cases_eq}
use Rattle.zeus_base.specs.Nodes.{is_subset}
use Rattle.zeus_base.specs.NodeLaws.{is_subset-refl, is_subset-trans}
use Rattle.replication_safety.specs.StreamState.{StreamState, Letter, In, IsView, IsLive, IsMember, IsOut, view, top}
use Rattle.replication_safety.specs.Moves.{Sends, nothing}
use Rattle.replication_safety.specs.ReplicationInvariant.{IsViewed, Holds}

-- ---- letters

-- who says nothing leaves the letters as they are
pub silent-only : (old new : StreamState) (l : Letter) → Sends old new nothing → In l new.letters → In l old.letters
silent-only old new l s m = elim (s.only l m) [ inl before ↦ before | inr none ↦ absurd none ]

-- ---- functions that agree

-- if two tables agree at one node and at each other one, then they agree at all
pub agree : {A : Type 0} (f g : ℕ → A) (n : ℕ) → ((m : ℕ) → m ≢ n → f m ≡ g m) → f n ≡ g n → (m : ℕ) → f m ≡ g m
agree f g n others one m =
    elim (cases_eq m n) [ inl same ↦ rw (same) one | inr other ↦ others m other ]

-- ---- what a node holds

-- if a node keeps an entry or knows that it has passed, then the entry is below the node's next one
pub Holds-top : (l : StreamState) (n k : ℕ) → Holds l n k → k < top l n
Holds-top l n k h = grind arith

-- if an entry is below a node's next one, then the node keeps it or knows that it has passed
pub top-Holds : (l : StreamState) (n k : ℕ) → k < top l n → Holds l n k
top-Holds l n k h =
    elim (cases_lt k (l.done n)) [ inl below ↦ inr below | inr above ↦ inl (above, h) ]

-- ---- views

-- a later view is a subset of an earlier one
pub view-shrinks : (l : StreamState) (e d : ℕ) → IsViewed l → 1 ≤ e → e + d ≤ length l.views → is_subset (view l (e + d)) (view l e) ≡ true
view-shrinks l e zero v low high = let same : e + 0 ≡ e = omega arith in rw same (is_subset-refl (view l e))
view-shrinks l e (suc d) v low high =
    let next : e + suc d ≡ suc (e + d) = omega arith in
    let step : is_subset (view l (suc (e + d))) (view l (e + d)) ≡ true = v.shrinking (e + d) (omega arith, omega arith) (omega arith, omega arith) in
    let rest : is_subset (view l (e + d)) (view l e) ≡ true = view-shrinks l e d v low (omega arith) in
    rw next (is_subset-trans (view l (suc (e + d))) (view l (e + d)) (view l e) step rest)

-- who is out of an epoch has stopped
pub IsOut-stopped : (l : StreamState) (e n : ℕ) → IsViewed l → IsView l e → IsOut l e n → IsLive l n → ⊥
IsOut-stopped l e n v is_e out live =
    let inside : IsMember l e n = v.live n e live is_e in
    absurd cc
