-- What follows from what holds of a stream at one moment.
use Rattle.std.specs.Prelude.{ℕ, ◌≡◌, ◌≢◌, ◌<◌, ◌≤◌, true, ◌↔◌}
use Rattle.std.proofs.Common.{arith, refl, ap, inl, inr}
use Rattle.std.proofs.lemmas.Bool.{cases_eq}
use Rattle.zeus_base.specs.Nodes.{has, is_subset}
use Rattle.zeus_base.specs.NodeLaws.{is_subset-has}
use Rattle.replication_safety.specs.StreamState.{StreamState, Entry, Stores, In, IsView, IsLive, IsMember, IsOut, Has, HasReported, IsAlive, view, end, kept_at, entry_of, entry}
use Rattle.replication_safety.specs.ReplicationInvariant.{Holds, IsCopy, IsWitnessed, ReplicationInvariant}
use Rattle.replication_safety.proofs.Basics.{IsOut-stopped}

-- what a node keeps was committed
pub kept-committed : (l : StreamState) (passed n k : ℕ) → ReplicationInvariant l passed → Has l n k → k < end l
kept-committed l passed n k r h =
    elim (cases_eq n l.home) [
      | inl own ↦ let here : Has l l.home k = rw own at h in here.1
      | inr foreign ↦
          let o = r.from_letters n k h foreign in
          (r.copies o.0 n o.1 k o.2 (entry_of (kept_at l n k)) o.3).committed
    ]

-- an unpassed entry is the same wherever it is kept
pub content-agrees : (l : StreamState) (passed n k : ℕ) → ReplicationInvariant l passed → Has l n k → passed ≤ k → entry_of (kept_at l n k) ≡ entry l k
content-agrees l passed n k r h above =
    elim (cases_eq n l.home) [
      | inl own ↦ rw own refl
      | inr foreign ↦
          let o = r.from_letters n k h foreign in
          (r.copies o.0 n o.1 k o.2 (entry_of (kept_at l n k)) o.3).same (omega (arith, r.most l.home))
    ]

-- if a live node keeps an entry that has not passed, then the entry lives
pub kept-alive : (l : StreamState) (passed n k : ℕ) → ReplicationInvariant l passed → IsLive l n → Has l n k → passed ≤ k → IsAlive l passed k
unfolding IsAlive
kept-alive l passed n k r live h above = (above, kept-committed l passed n k r h, inr (inl (n, live, h)))

-- while the stream's own node lives, the entries that live are those that it keeps
pub own-alive : (l : StreamState) (passed k : ℕ) → ReplicationInvariant l passed → IsLive l l.home → IsAlive l passed k ↔ Has l l.home k
unfolding IsAlive
own-alive l passed k r live =
    let first : passed ≡ l.done l.home = r.own_first live in
    (λ alive. (omega (arith, alive.0), alive.1), λ h. (omega (arith, h.0), h.1, inl live))

-- a live node that keeps an entry keeps each unpassed one before it
pub stored-down : (l : StreamState) (passed n k j : ℕ) → ReplicationInvariant l passed → IsLive l n → Has l n k → passed ≤ j → j ≤ k → Has l n j × IsAlive l passed j
stored-down l passed n k j r live h above below =
    let here : Has l n j = (omega (arith, r.most n), omega (arith, h.1)) in
    (here, kept-alive l passed n j r live here above)

-- an entry that has passed is not stored again
pub no-restore : (l : StreamState) (passed from f e k d : ℕ) (x : Entry) → ReplicationInvariant l passed → In (Stores from f e k d x) l.letters → IsLive l f → k < passed → Holds l f k
no-restore l passed from f e k d x r m live below =
    let c : IsCopy l passed f k d x = r.copies from f e k d x m in
    c.safe below f live c.follower

-- a live node that has reported in an epoch is in it or in a later one
reported-later : (l : StreamState) (passed n e : ℕ) → ReplicationInvariant l passed → HasReported l n e → e ≤ l.epoch n
reported-later l passed n e r h =
    elim h [ inl sent ↦ (r.viewed.reports n e sent).1 | inr knows ↦ omega (arith, knows.0) ]

-- where all members have reported, an unpassed entry of a non-member's stream is neither kept by a live node nor on its way to one
pub replay-over : (l : StreamState) (passed e k : ℕ) → ReplicationInvariant l passed → IsView l e → IsOut l e l.home → ((n : ℕ) → IsMember l e n → HasReported l n e) → IsAlive l passed k → ⊥
unfolding IsAlive
replay-over l passed e k r v out all alive =
    elim alive.2 [
      | inl live ↦ IsOut-stopped l e l.home r.viewed v out live
      | inr other ↦
          elim other [
            | inl kept ↦
                let foreign : kept.0 ≢ l.home = λ own. IsOut-stopped l e l.home r.viewed v out (rw own at kept.1) in
                let w : IsWitnessed l e k = r.kept_barrier e k kept.0 v out alive.0 (r.viewed.live kept.0 e kept.1 v) foreign kept.2 in
                w.4 (all w.0 w.1)
            | inr flight ↦
                let later : e ≤ l.epoch flight.0 = reported-later l passed flight.0 e r (all flight.0 (r.viewed.live flight.0 e flight.5 v)) in
                let w : IsWitnessed l e k = r.sent_barrier e k flight.1 flight.0 flight.2 flight.3 flight.4 v out alive.0 (omega (arith, flight.6)) flight.7 in
                w.4 (all w.0 w.1)
          ]
    ]

-- where a live node of a later epoch knows of all members that they have reported, they have
pub open-reported : (l : StreamState) (passed n m : ℕ) → ReplicationInvariant l passed → IsLive l n → 2 ≤ l.epoch n → is_subset (view l (l.epoch n)) (l.reported n) ≡ true
    → IsMember l (l.epoch n) m → HasReported l m (l.epoch n)
open-reported l passed n m r live later all member =
    let knows : has m (l.reported n) ≡ true = is_subset-has m (view l (l.epoch n)) (l.reported n) all member in
    elim (r.reports n m live knows) [
      | inl one ↦ absurd (omega arith)
      | inr other ↦ elim other [
        | inl own ↦ inr (ap l.epoch own, rw (ap l.reported own, own) (rw own at knows))
        | inr sent ↦ inl sent
      ]
    ]
