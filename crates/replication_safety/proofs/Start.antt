-- How a stream begins, and what of it never falls.
use Rattle.std.specs.Prelude.{ℕ, ◌≡◌, length}
use Rattle.std.proofs.Common.{arith, sym, ap, inl}
use Rattle.replication_safety.specs.StreamState.{StreamState, Stores, Stored, Passes, Reports, Has}
use Rattle.replication_safety.specs.ReplicationInvariant.{IsViewed, ReplicationInvariant}
use Rattle.replication_safety.specs.Rises.{Rises}
use Rattle.replication_safety.specs.Start.{IsStart}
use Rattle.replication_safety.proofs.PreservesReplication.{Grows}

start-empty : (l : StreamState) (n k : ℕ) → IsStart l → Has l n k → ⊥
start-empty l n k s h = omega (arith, h.0, h.1, s.done n, ap length (s.kept n))

start-viewed : (l : StreamState) → IsStart l → IsViewed l
start-viewed l s =
    record {
      shrinking = λ e low high. absurd (omega (arith, low.0, high.1, s.one_view));
      live = λ n e live is. let one : e ≡ 1 = omega (arith, is.0, is.1, s.one_view) in rw one (s.live n live).1;
      epochs = λ n live. omega (arith, (s.live n live).0, s.one_view);
      bounded = λ n. omega (arith, s.bounded n, s.one_view);
      entries = λ from to e k d x m. absurd (s.unsaid (Stores from to e k d x) m);
      reports = λ from e m. absurd (s.unsaid (Reports from e) m);
    }

-- what holds of every stream holds at its start
pub start-Replication : (l : StreamState) → IsStart l → ReplicationInvariant l 0
start-Replication l s =
    record {
      viewed = start-viewed l s;
      most = λ n. omega (arith, s.done n);
      known = (l.home, s.done l.home);
      own_first = λ live. sym (s.done l.home);
      committed = omega arith;
      sizes = λ n. omega (arith, ap length (s.kept n));
      home_foreign = λ k h. absurd (start-empty l l.home k s h);
      copies = λ from to e k d x m. absurd (s.unsaid (Stores from to e k d x) m);
      from_letters = λ n k h foreign. absurd (start-empty l n k s h);
      acks = λ n k a h is. absurd (start-empty l n k s h);
      stored = λ n k m. absurd (s.unsaid (Stored n k) m);
      told = λ to d m. absurd (s.unsaid (Passes to d) m);
      reports = λ n m live is. inl (s.live n live).0;
      kept_barrier = λ e k n v out above m foreign h. absurd (start-empty l n k s h);
      sent_barrier = λ e k from to f d x v out above le m. absurd (s.unsaid (Stores from to f k d x) m);
    }

-- what grows rises
pub grows-rises : (old new : StreamState) → Grows old new → Rises old new
grows-rises old new g =
    record {
      home = g.home;
      live = g.live;
      epoch = g.epoch;
      done = g.done;
      top = g.top;
      committed = rw g.home (g.top old.home);
      entry = g.entry;
    }
