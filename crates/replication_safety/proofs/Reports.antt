-- Reports, and the letters that a node sends by itself, keep what holds of a stream.
use Rattle.std.specs.Prelude.{ℕ, ◌≡◌, true, List, [], length, ◌⊎◌}
use Rattle.std.proofs.Common.{arith, sym, ap, ◌∙◌, inl, inr}
use Rattle.std.proofs.lemmas.Bool.{cases_eq}
use Rattle.zeus_base.specs.Nodes.{has, with_node}
use Rattle.zeus_base.specs.NodeLaws.{has-with_other}
use Rattle.replication_safety.specs.StreamState.{StreamState, Reports, In, IsLive, IsOut, Has, HasReported}
use Rattle.replication_safety.specs.Moves.{ReportsItself, Hears}
use Rattle.replication_safety.specs.ReplicationInvariant.{ReplicationInvariant}
use Rattle.replication_safety.proofs.Basics.{silent-only, agree}
use Rattle.replication_safety.proofs.PreservesReplication.{Grows, PreservesReplication, carried}
use Rattle.replication_safety.proofs.Same.{SameKept, acts-grows, same-kept, silent-says, quiet-silent, quiet-reports, acts-live, acts-epoch, acts-viewed}

-- who is in a set with one more node is that node or was in the set
has-with_either : (m n : ℕ) (ms : List ℕ) → has m (with_node n ms) ≡ true → (m ≡ n) ⊎ (has m ms ≡ true)
has-with_either m n ms h =
    elim (cases_eq m n) [ inl same ↦ inl same | inr other ↦ inr (sym (has-with_other m n ms other) ∙ h) ]

-- ---- a node reports

-- if a node reports, then each node keeps what it kept
pub reports-kept : (old new : StreamState) (n : ℕ) → ReportsItself old new n → SameKept old new
reports-kept old new n s =
    record {
      home = s.acts.setting.home;
      done = agree new.done old.done n s.acts.others.done s.done;
      kept = agree new.kept old.kept n s.acts.others.kept s.kept;
    }

-- a node that keeps an entry of a non-member's stream does not report
reports-silent : (old new : StreamState) (n m e k : ℕ) → ReportsItself old new n → IsOut old e old.home → Has old m k → HasReported new m e → HasReported old m e
reports-silent old new n m e k s out h is =
    elim is [
      | inl sent ↦ inl (silent-only old new (Reports m e) s.sends sent)
      | inr knows ↦
          elim (cases_eq m n) [
            | inl same ↦
                let epoch : old.epoch n ≡ e = sym s.acts.epoch ∙ sym (ap new.epoch same) ∙ knows.0 in
                let none : old.kept n ≡ [] = s.empty (rw epoch out) in
                let nothing_kept : length (old.kept m) ≡ 0 = rw (same, none) in
                absurd (omega (arith, h.0, h.1))
            | inr other ↦ quiet-silent old new m e s.sends (s.acts.others.epoch m other) (s.acts.others.reported m other) (inr knows)
          ]
    ]

reports-reports : (old new : StreamState) (passed n m a : ℕ) → ReplicationInvariant old passed → ReportsItself old new n → IsLive new m → has a (new.reported m) ≡ true
    → (new.epoch m ≡ 1) ⊎ ((a ≡ m) ⊎ In (Reports a (new.epoch m)) new.letters)
reports-reports old new passed n m a r s live h =
    elim (cases_eq m n) [
      | inl same ↦
          let is : has a (with_node n (old.reported n)) ≡ true = rw (ap new.reported same, s.reported) at h in
          elim (has-with_either a n (old.reported n) is) [
            | inl own ↦ inr (inl (own ∙ sym same))
            | inr before ↦
                let was : has a (old.reported m) ≡ true = rw same before in
                elim (r.reports m a (acts-live old new n m s.acts live) was) [
                  | inl one ↦ inl (acts-epoch old new n m s.acts ∙ one)
                  | inr other ↦ elim other [
                    | inl own ↦ inr (inl own)
                    | inr sent ↦ inr (inr (rw (acts-epoch old new n m s.acts) (s.sends.stay (Reports a (old.epoch m)) sent)))
                  ]
                ]
          ]
      | inr other ↦
          quiet-reports old new passed m a r s.sends.stay (acts-live old new n m s.acts) (s.acts.others.epoch m other) (s.acts.others.reported m other) live h
    ]

-- reporting takes nothing back
pub grows_ReportsItself : (old new : StreamState) (n : ℕ) → ReportsItself old new n → Grows old new
grows_ReportsItself old new n s = acts-grows old new n (reports-kept old new n s) s.acts s.sends.stay

reports-preserves : (old new : StreamState) (passed n : ℕ) → ReplicationInvariant old passed → ReportsItself old new n → PreservesReplication old new passed passed
reports-preserves old new passed n r s =
    record {
      grows = grows_ReportsItself old new n s;
      keeps = same-kept old new passed r (reports-kept old new n s) (λ m. acts-live old new n m s.acts);
      says = silent-says old new passed s.acts.setting s.sends (acts-viewed old new n r.viewed s.acts s.sends)
          (λ m a. reports-reports old new passed n m a r s)
          (λ m e k is out h. reports-silent old new n m e k s out h);
    }

-- if the replication invariant holds, then it holds after a node reports
pub keeps_ReportsItself : (old new : StreamState) (passed n : ℕ) → ReplicationInvariant old passed → ReportsItself old new n → ReplicationInvariant new passed
keeps_ReportsItself old new passed n r s = carried old new passed passed r (reports-preserves old new passed n r s)

-- ---- a node hears of a report

-- if a node hears a report, then each node keeps what it kept
pub hears-kept : (old new : StreamState) (n a : ℕ) → Hears old new n a → SameKept old new
hears-kept old new n a s =
    record {
      home = s.acts.setting.home;
      done = agree new.done old.done n s.acts.others.done s.done;
      kept = agree new.kept old.kept n s.acts.others.kept s.kept;
    }

-- what a node hears of itself it has said
hears-silent : (old new : StreamState) (n a m e : ℕ) → Hears old new n a → HasReported new m e → HasReported old m e
hears-silent old new n a m e s is =
    elim is [
      | inl sent ↦ inl (silent-only old new (Reports m e) s.sends sent)
      | inr knows ↦
          elim (cases_eq m n) [
            | inl same ↦
                let epoch : old.epoch n ≡ e = sym s.acts.epoch ∙ sym (ap new.epoch same) ∙ knows.0 in
                let known : has m (with_node a (old.reported n)) ≡ true = rw (ap new.reported same, s.reported) at knows.1 in
                elim (has-with_either m a (old.reported n) known) [
                  | inl own ↦ let sent : In (Reports a e) old.letters = rw epoch at s.sent in inl (rw own sent)
                  | inr before ↦
                      let was : has m (old.reported m) ≡ true = rw (ap old.reported same) before in
                      inr (ap old.epoch same ∙ epoch, was)
                ]
            | inr other ↦ quiet-silent old new m e s.sends (s.acts.others.epoch m other) (s.acts.others.reported m other) (inr knows)
          ]
    ]

hears-reports : (old new : StreamState) (passed n b m a : ℕ) → ReplicationInvariant old passed → Hears old new n b → IsLive new m → has a (new.reported m) ≡ true
    → (new.epoch m ≡ 1) ⊎ ((a ≡ m) ⊎ In (Reports a (new.epoch m)) new.letters)
hears-reports old new passed n b m a r s live h =
    let epoch : new.epoch m ≡ old.epoch m = acts-epoch old new n m s.acts in
    elim (cases_eq m n) [
      | inl same ↦
          let is : has a (with_node b (old.reported n)) ≡ true = rw (ap new.reported same, s.reported) at h in
          elim (has-with_either a b (old.reported n) is) [
            | inl heard ↦
                let sent : In (Reports b (old.epoch m)) new.letters = rw (ap old.epoch same) (s.sends.stay (Reports b (old.epoch n)) s.sent) in
                inr (inr (rw (epoch, heard) sent))
            | inr before ↦
                let was : has a (old.reported m) ≡ true = rw same before in
                elim (r.reports m a (acts-live old new n m s.acts live) was) [
                  | inl one ↦ inl (epoch ∙ one)
                  | inr other ↦ elim other [
                    | inl own ↦ inr (inl own)
                    | inr sent ↦ inr (inr (rw epoch (s.sends.stay (Reports a (old.epoch m)) sent)))
                  ]
                ]
          ]
      | inr other ↦
          quiet-reports old new passed m a r s.sends.stay (acts-live old new n m s.acts) (s.acts.others.epoch m other) (s.acts.others.reported m other) live h
    ]

-- hearing a report takes nothing back
pub grows_Hears : (old new : StreamState) (n a : ℕ) → Hears old new n a → Grows old new
grows_Hears old new n a s = acts-grows old new n (hears-kept old new n a s) s.acts s.sends.stay

hears-preserves : (old new : StreamState) (passed n a : ℕ) → ReplicationInvariant old passed → Hears old new n a → PreservesReplication old new passed passed
hears-preserves old new passed n a r s =
    record {
      grows = grows_Hears old new n a s;
      keeps = same-kept old new passed r (hears-kept old new n a s) (λ m. acts-live old new n m s.acts);
      says = silent-says old new passed s.acts.setting s.sends (acts-viewed old new n r.viewed s.acts s.sends)
          (λ m b. hears-reports old new passed n a m b r s)
          (λ m e k is out h. hears-silent old new n a m e s);
    }

-- if the replication invariant holds, then it holds after a node hears a report
pub keeps_Hears : (old new : StreamState) (passed n a : ℕ) → ReplicationInvariant old passed → Hears old new n a → ReplicationInvariant new passed
keeps_Hears old new passed n a r s = carried old new passed passed r (hears-preserves old new passed n a r s)
