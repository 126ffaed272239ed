-- What a move leaves of the entries: an unpassed entry stays what it is and where it is, and what is kept after a move was kept
-- before it or came by it.
use Rattle.std.specs.Prelude.{ℕ, ◌≡◌, ◌≢◌, ◌<◌, ◌≤◌}
use Rattle.std.proofs.Common.{arith, ap, inl, inr}
use Rattle.std.proofs.lemmas.Bool.{cases_lt}
use Rattle.replication_safety.specs.StreamState.{StreamState, Entry, Stores, In, IsLive, Has, top, end, kept_at, entry_of, entry}
use Rattle.replication_safety.specs.Moves.{Tells, Commits, StoresNext}
use Rattle.replication_safety.specs.ReplicationInvariant.{IsCopy, ReplicationInvariant}
use Rattle.replication_safety.proofs.Basics.{Holds-top}
use Rattle.replication_safety.proofs.PreservesReplication.{Grows}
use Rattle.replication_safety.proofs.Letters.{IsItsEntry, tellable-entry}
use Rattle.replication_safety.proofs.Appends.{commits-appends, appends-new}
use Rattle.replication_safety.proofs.Consequences.{no-restore}

-- ---- what stays, for any move that grows

-- if an entry was committed before a move and has not passed after it, then it is the same entry
pub entry-stays : (old new : StreamState) (now k : ℕ) → Grows old new → ReplicationInvariant new now → now ≤ k → k < end old → entry new k ≡ entry old k
entry-stays old new now k g r above below = g.entry k (omega (arith, r.most new.home)) below

-- if a node keeps an entry that has not passed after a move, then it keeps it after the move
pub has-stays : (old new : StreamState) (now n k : ℕ) → Grows old new → ReplicationInvariant new now → now ≤ k → Has old n k → Has new n k
has-stays old new now n k g r above h = (omega (arith, r.most n), omega (arith, g.top n, h.1))

-- ---- what comes

-- a committed entry is that of the next number
pub commits-entry : (old new : StreamState) (x : Entry) → Commits old new x → entry new (end old) ≡ x
commits-entry old new x s = rw s.acts.acts.setting.home (ap entry_of (appends-new old new old.home x (commits-appends old new x s)))

-- what a node stores has not passed, is what its own node committed, and lived already
pub stores-unpassed : (old new : StreamState) (passed n : ℕ) (x : Entry) → ReplicationInvariant old passed → StoresNext old new n x → passed ≤ top old n
stores-unpassed old new passed n x r s =
    elim (cases_lt (top old n) passed) [
      | inl below ↦
          let held : top old n < top old n = Holds-top old n (top old n) (no-restore old passed s.sent.0 n (old.epoch n) (top old n) s.sent.1 x r s.sent.3 s.acts.acts.live below) in
          omega arith
      | inr above ↦ above
    ]

-- the entry that a node stores next is the one that the stream's own node committed at that number
pub stores-entry : (old new : StreamState) (passed n : ℕ) (x : Entry) → ReplicationInvariant old passed → StoresNext old new n x → x ≡ entry old (top old n)
stores-entry old new passed n x r s =
    let c : IsCopy old passed n (top old n) s.sent.1 x = r.copies s.sent.0 n (old.epoch n) (top old n) s.sent.1 x s.sent.3 in
    c.same (omega (arith, r.most old.home, stores-unpassed old new passed n x r s))

-- a live node that keeps an entry that has passed had it from a letter
passed-repeated : (l : StreamState) (passed n k : ℕ) (x : Entry) → ReplicationInvariant l passed → IsLive l n → Has l n k → k < passed → x ≡ entry_of (kept_at l n k)
    → (sender receiver epoch done : ℕ) × In (Stores sender receiver epoch k done x) l.letters
passed-repeated l passed n k x r live h below is =
    let foreign : n ≢ l.home = λ own. let first : passed ≡ l.done l.home = r.own_first (rw own at live) in omega (arith, h.0, ap l.done own) in
    let o = r.from_letters n k h foreign in
    (o.0, n, o.1, o.2, rw is o.3)

-- a letter with an entry that has passed says what an earlier letter said
pub tells-repeats : (old new : StreamState) (passed n from to e k d : ℕ) (x : Entry) → ReplicationInvariant old passed → Tells old new n → In (Stores from to e k d x) new.letters → k < passed
    → (sender receiver epoch done : ℕ) × In (Stores sender receiver epoch k done x) old.letters
tells-repeats old new passed n from to e k d x r s m below =
    elim (s.sends.only (Stores from to e k d x) m) [
      | inl before ↦ (from, to, e, d, before)
      | inr now ↦
          let t : IsItsEntry old n from to e k d x = tellable-entry old n from to e k d x now in
          passed-repeated old passed n k x r s.acts.live t.kept below t.entry
    ]
