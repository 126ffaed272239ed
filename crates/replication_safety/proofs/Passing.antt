-- Passes keep what holds of a stream; and what passes is stored at all its live followers.
use Rattle.std.specs.Prelude.{ℕ, suc, ◌≡◌, ◌≢◌, ◌-◌, ◌<◌, ◌≤◌, true, List, length}
use Rattle.std.proofs.Common.{arith, sym, ap, ◌∙◌, inl, inr}
use Rattle.std.proofs.lemmas.Bool.{cases_eq}
use Rattle.std.proofs.lemmas.List.{length-drop}
use Rattle.zeus_base.specs.Nodes.{has, without, meet}
use Rattle.zeus_base.specs.NodeLaws.{has-without_other, has-meet, is_subset-has}
use Rattle.zeus_model.specs.declared.state.Kept.{Kept}
use Rattle.replication_safety.specs.StreamState.{StreamState, Entry, Stores, Stored, In, IsView, IsLive, Has, view, top, end, kept_at, entry_of, entry}
use Rattle.replication_safety.specs.Moves.{Raises, PassesFirst}
use Rattle.replication_safety.specs.ReplicationInvariant.{ReplicationInvariant}
use Rattle.replication_safety.proofs.Basics.{IsOut-stopped, Holds-top}
use Rattle.replication_safety.proofs.PreservesReplication.{Grows, PreservesKept, PreservesReplication, carried}
use Rattle.replication_safety.proofs.Same.{acts-live}
use Rattle.replication_safety.proofs.Appends.{acting-says}
use Rattle.replication_safety.proofs.Drops.{Drops, drops-top, drops-top_other, drops-grows, drops-kept, drops-sizes, keeps_Raises}
use Rattle.replication_safety.proofs.Consequences.{kept-committed, content-agrees}

-- a node that passes its first entry drops just that one
pub passes-drops : (old new : StreamState) (n : ℕ) → PassesFirst old new n → Drops old new n (suc (old.done n))
passes-drops old new n s =
    let one : suc (old.done n) - old.done n ≡ 1 = omega arith in
    record { acts = s.acts; above = omega arith; done = s.done; kept = rw one s.kept }

-- passing an entry takes nothing back
pub grows_PassesFirst : (old new : StreamState) (n : ℕ) → PassesFirst old new n → Grows old new
grows_PassesFirst old new n s = drops-grows old new n (suc (old.done n)) (passes-drops old new n s)

-- the number of the next entry stays
passes-top_here : (old new : StreamState) (n : ℕ) → PassesFirst old new n → top new n ≡ top old n
passes-top_here old new n s = omega (arith, s.done, s.some, ap length s.kept, length-drop 1 (old.kept n))

-- passing an entry leaves the number of each node's next entry
pub passes-top : (old new : StreamState) (n m : ℕ) → PassesFirst old new n → top new m ≡ top old m
passes-top old new n m s =
    elim (cases_eq m n) [
      | inl same ↦ rw same (passes-top_here old new n s)
      | inr other ↦ drops-top_other old new n (suc (old.done n)) m (passes-drops old new n s) other
    ]

-- if a node passes its first entry, then it kept that one
pub passes-kept : (old new : StreamState) (n : ℕ) → PassesFirst old new n → Has old n (old.done n)
passes-kept old new n s = (omega arith, omega (arith, s.some))

-- while the stream's own node lives, no other passes
pub passes-own : (old new : StreamState) (passed n : ℕ) → ReplicationInvariant old passed → PassesFirst old new n → IsLive old old.home → n ≡ old.home
passes-own old new passed n r s live =
    elim s.may [
      | inl own ↦ own
      | inr out ↦ absurd (IsOut-stopped old (old.epoch n) old.home r.viewed (r.viewed.epochs n s.acts.acts.live) out live)
    ]

-- ---- an entry that has passed elsewhere

-- is passed as it is known to have passed
pub passes-raises : (old new : StreamState) (passed n : ℕ) → ReplicationInvariant old passed → PassesFirst old new n → old.done n < passed → Raises old new passed n (suc (old.done n))
passes-raises old new passed n r s below =
    let d : Drops old new n (suc (old.done n)) = passes-drops old new n s in
    record {
      acts = s.acts;
      foreign = λ own. let first : passed ≡ old.done old.home = r.own_first (rw own at s.acts.acts.live) in omega (arith, ap old.done own);
      above = omega arith;
      known = below;
      done = s.done;
      kept = d.kept;
    }

-- if an entry that has passed elsewhere passes at one more node, then the replication invariant still holds
pub keeps_PassesFirst_again : (old new : StreamState) (passed n : ℕ) → ReplicationInvariant old passed → PassesFirst old new n → old.done n < passed → ReplicationInvariant new passed
keeps_PassesFirst_again old new passed n r s below = keeps_Raises old new passed n (suc (old.done n)) r (passes-raises old new passed n r s below)

-- ---- the first pass of an entry

-- each live follower has acknowledged it
passes-acknowledged : (old new : StreamState) (passed n g : ℕ) → ReplicationInvariant old passed → PassesFirst old new n → IsLive old g → has g (kept_at old n (old.done n)).followers ≡ true → g ≢ n
    → In (Stored g (old.done n)) old.letters
passes-acknowledged old new passed n g r s live f other =
    let k : Kept = kept_at old n (old.done n) in
    let members : List ℕ = view old (old.epoch n) in
    let own : IsView old (old.epoch n) = r.viewed.epochs n s.acts.acts.live in
    let m : has g members ≡ true = r.viewed.live g (old.epoch n) live own in
    let both : has g (meet k.followers members) ≡ true = grind (arith, has-meet g k.followers members, f, m) in
    let asked : has g (without n (meet k.followers members)) ≡ true = has-without_other g n (meet k.followers members) other ∙ both in
    r.acks n (old.done n) g (passes-kept old new n s) (is_subset-has g (without n (meet k.followers members)) k.acks s.complete asked)

-- what passes first is stored at each live follower
pub first_pass-stored : (old new : StreamState) (passed n g : ℕ) → ReplicationInvariant old passed → PassesFirst old new n → old.done n ≡ passed
    → IsLive old g → has g (kept_at old n passed).followers ≡ true → Has old g passed
first_pass-stored old new passed n g r s first live f =
    elim (cases_eq g n) [
      | inl same ↦ let h : Has old n (old.done n) = passes-kept old new n s in rw (same, ← first) h
      | inr other ↦
          let here : has g (kept_at old n (old.done n)).followers ≡ true = rw (← first) at f in
          let held : old.done n < top old g = Holds-top old g (old.done n) (r.stored g (old.done n) (passes-acknowledged old new passed n g r s live here other)) in
          (r.most g, omega arith)
    ]

-- a node passes an entry that no node has passed before
record IsFirstPass (old new : StreamState) (passed n : ℕ) : Type 0 where
  invariant : ReplicationInvariant old passed
  passes : PassesFirst old new n
  first : old.done n ≡ passed

first_pass-most : (old new : StreamState) (passed n m : ℕ) → IsFirstPass old new passed n → new.done m ≤ suc passed
first_pass-most old new passed n m p =
    let s : PassesFirst old new n = p.passes in
    let r : ReplicationInvariant old passed = p.invariant in
    elim (cases_eq m n) [
      | inl same ↦ rw same (omega (arith, s.done, p.first))
      | inr other ↦ omega (arith, s.acts.acts.others.done m other, r.most m)
    ]

first_pass-own_first : (old new : StreamState) (passed n : ℕ) → IsFirstPass old new passed n → IsLive new new.home → suc passed ≡ new.done new.home
first_pass-own_first old new passed n p live =
    let s : PassesFirst old new n = p.passes in
    let home : new.home ≡ old.home = s.acts.acts.setting.home in
    let before : IsLive old old.home = acts-live old new n old.home s.acts.acts (rw home at live) in
    let own : n ≡ new.home = passes-own old new passed n p.invariant s before ∙ sym home in
    let same : new.done n ≡ new.done new.home = ap new.done own in
    omega (arith, s.done, p.first)

-- an entry that was sent and has not passed is that of the stream's own node
unpassed-sent : (old : StreamState) (passed from to e k d : ℕ) (x : Entry) → ReplicationInvariant old passed → In (Stores from to e k d x) old.letters → passed ≤ k → x ≡ entry old k
unpassed-sent old passed from to e k d x r m above = (r.copies from to e k d x m).same (omega (arith, r.most old.home))

-- what passes first is stored at each live node that follows the entry of the stream's own node
first_pass-first : (old new : StreamState) (passed n g : ℕ) → IsFirstPass old new passed n → IsLive new g → has g (entry old passed).followers ≡ true → passed < top new g
first_pass-first old new passed n g p live f =
    let s : PassesFirst old new n = p.passes in
    let r : ReplicationInvariant old passed = p.invariant in
    let first : old.done n ≡ passed = p.first in
    let kept : Has old n passed = (omega arith, omega (arith, s.some)) in
    let agrees : entry_of (kept_at old n passed) ≡ entry old passed = content-agrees old passed n passed r kept (omega arith) in
    let followers : (entry old passed).followers ≡ (kept_at old n passed).followers = ap (λ (y : Entry). y.followers) (sym agrees) in
    let asked : has g (kept_at old n passed).followers ≡ true = sym (ap (has g) followers) ∙ f in
    let held : Has old g passed = first_pass-stored old new passed n g r s first (acts-live old new n g s.acts.acts live) asked in
    omega (arith, held.1, drops-top old new n (suc (old.done n)) g (passes-drops old new n s))

first_pass-keeps : (old new : StreamState) (passed n : ℕ) → IsFirstPass old new passed n → PreservesKept old new passed (suc passed)
first_pass-keeps old new passed n p =
    let s : PassesFirst old new n = p.passes in
    let r : ReplicationInvariant old passed = p.invariant in
    let d : Drops old new n (suc (old.done n)) = passes-drops old new n s in
    let committed : old.done n < end old = kept-committed old passed n (old.done n) r (passes-kept old new n s) in
    record {
      rises = omega arith;
      most = λ m. first_pass-most old new passed n m p;
      known = (n, s.done ∙ ap suc p.first);
      own_first = first_pass-own_first old new passed n p;
      committed = rw s.acts.acts.setting.home (omega (arith, p.first, drops-top old new n (suc (old.done n)) old.home d));
      sizes = λ m. omega (arith, r.sizes m, drops-sizes old new n (suc (old.done n)) m d);
      kept = λ m k h. inl (drops-kept old new n (suc (old.done n)) m k d h);
      first = λ from to e k f g x m above below live is.
          let here : k ≡ passed = omega arith in
          let same : x ≡ entry old passed = unpassed-sent old passed from to e k f x r m above ∙ ap (entry old) here in
          let follower : has g (entry old passed).followers ≡ true = sym (ap (λ (y : Entry). has g y.followers) same) ∙ is in
          rw here (first_pass-first old new passed n g p live follower);
    }

first_pass-preserves : (old new : StreamState) (passed n : ℕ) → IsFirstPass old new passed n → PreservesReplication old new passed (suc passed)
first_pass-preserves old new passed n p =
    let s : PassesFirst old new n = p.passes in
    record {
      grows = grows_PassesFirst old new n s;
      keeps = first_pass-keeps old new passed n p;
      says = acting-says old new passed (suc passed) n p.invariant s.acts;
    }

-- if an entry passes at the first node of all, then the replication invariant holds with one more passed
pub keeps_PassesFirst_first : (old new : StreamState) (passed n : ℕ) → ReplicationInvariant old passed → PassesFirst old new n → old.done n ≡ passed → ReplicationInvariant new (suc passed)
keeps_PassesFirst_first old new passed n r s first = carried old new passed (suc passed) r (first_pass-preserves old new passed n record { invariant = r; passes = s; first = first })
