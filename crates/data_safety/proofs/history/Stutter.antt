-- Nothing has changed but the order of letters: the data invariant stays.
use Rattle.std.specs.Prelude.{ℕ, ◌≡◌, true}
use Rattle.std.proofs.Common.{arith, refl, ap, ◌∙◌, inl, inr}
use Rattle.std.proofs.lemmas.Bool.{cases_Bool}
use Rattle.zeus_base.specs.declared.order.Stream.{Stream}
use Rattle.zeus_model.specs.State.{Node}
use Rattle.machine_moves.specs.SystemState.{SystemState, IsNumbered, Same, nothing}
use Rattle.machine_moves.proofs.Steady.{same_keep}
use Rattle.ownership_safety.specs.Moves as owning
use Rattle.ownership_safety.proofs.KeepsViews.{keeps_Stops}
use Rattle.replication_safety.specs.Moves as storing
use Rattle.invariants.specs.Streams.{stream_state}
use Rattle.invariants.specs.Objects.{object}
use Rattle.invariants.proofs.AboutStreams.{sends_stream}
use Rattle.invariants.proofs.AboutObjects.{sends_object}
use Rattle.invariants.proofs.StreamFrames.{same_setting as stream_setting, stream-stopped}
use Rattle.invariants.proofs.StreamSeen.{Seen, stopped, same_fields}
use Rattle.invariants.proofs.ObjectMoves.{same_setting as object_setting, same_stopped, same_epoch, same_entry_as, same_gather_as}
use Rattle.data_safety.specs.RunState.{RunState, Witness}
use Rattle.data_safety.specs.DataInvariant.{DataInvariant}
use Rattle.data_safety.proofs.Consequences.{numbered}
use Rattle.data_safety.proofs.ownership.StreamsUnchanged.{SameRows, same-rows, same-slots, rows-done, rows-end}
use Rattle.data_safety.proofs.ownership.OwnershipFrame.{IsFramed, framed-replication, framed-copied}
use Rattle.data_safety.proofs.ownership.OwnershipKept.{framed-entered, framed-booked}
use Rattle.data_safety.proofs.ownership.OwnershipMoves.{place-same, given-before}

-- past the last node stands a stopped one
outside_stopped : (s : SystemState) → IsNumbered s → (s.node s.config.nodes).stopped ≡ true
outside_stopped s numbered = elim (cases_Bool (s.node s.config.nodes).stopped) [
  | inl stop ↦ stop
  | inr live ↦ let within = numbered.within s.config.nodes live in absurd (omega arith)
]

-- what a stream and an object see is what they would see of a node that stops which was stopped
seen_stream : (old new : SystemState) (t : Stream) (passed : ℕ) → IsNumbered old → Same old new → Seen (stream_state old t) (stream_state new t) passed
seen_stream old new t passed numbered s =
    let m : ℕ = old.config.nodes in
    stopped m record {
      setting = stream_setting old new t s.views;
      others = record {
        stopped = λ k ne. (same_fields old new t k (s.nodes k)).0;
        epoch = λ k ne. (same_fields old new t k (s.nodes k)).1;
        reported = λ k ne. (same_fields old new t k (s.nodes k)).2;
        done = λ k ne. (same_fields old new t k (s.nodes k)).3;
        kept = λ k ne. (same_fields old new t k (s.nodes k)).4;
      };
      stopped = (same_fields old new t m (s.nodes m)).0 ∙ stream-stopped old t m ∙ outside_stopped old numbered;
      epoch = (same_fields old new t m (s.nodes m)).1;
      reported = (same_fields old new t m (s.nodes m)).2;
      done = (same_fields old new t m (s.nodes m)).3;
      kept = (same_fields old new t m (s.nodes m)).4;
      sends = sends_stream old new t nothing storing.nothing s.sends (λ l k none_at i. none_at);
    }

object_stops : (old new : SystemState) (x : ℕ) → IsNumbered old → Same old new → owning.Stops (object old x) (object new x) old.config.nodes
unfolding object
object_stops old new x numbered s =
    let m : ℕ = old.config.nodes in
    record {
      setting = object_setting old new x s.config s.views;
      others = record {
        stopped = λ k ne. same_stopped old new x k (ap (λ (n : Node). n.stopped) (s.nodes k));
        epoch = λ k ne. same_epoch old new x k (ap (λ (n : Node). n.epoch) (s.nodes k));
        entry = λ k ne. same_entry_as old new x k s.config (s.nodes k);
        gather = λ k ne. same_gather_as old new x k s.config (s.nodes k);
      };
      stopped = same_stopped old new x m (ap (λ (n : Node). n.stopped) (s.nodes m)) ∙ outside_stopped old numbered;
      epoch = same_epoch old new x m (ap (λ (n : Node). n.epoch) (s.nodes m));
      entry = same_entry_as old new x m s.config (s.nodes m);
      gather = same_gather_as old new x m s.config (s.nodes m);
      sends = sends_object old new x nothing owning.nothing s.sends (λ l k none i. none);
    }

module _ (y z : RunState) (u : Witness) (f : DataInvariant y u) (s : Same y.system z.system) (txs : z.txs ≡ y.txs) (book : z.book ≡ y.book) where
  rows-kept : (n : ℕ) → SameRows (y.system.node n) (z.system.node n)
  rows-kept n = rw (s.nodes n) (same-rows (y.system.node n) (y.system.node n) refl refl)

  same_frame : IsFramed y z u
  same_frame = record {
    config = s.config;
    txs = txs;
    book = book;
    live = λ n live. rw (s.nodes n) at live;
    slots = λ n. same-slots (y.system.node n) (z.system.node n) (rows-kept n);
    dones = rows-done y.system z.system rows-kept;
    ends = rows-end y.system z.system rows-kept;
    seen = λ t. seen_stream y.system z.system t (u.passed t) (numbered y u f) s;
    first = λ n h. rw s.views h;
  }

  -- if only the order of letters has changed, then the invariant stays
  pub same-invariant : DataInvariant z u
  same-invariant = record {
    limits = rw s.config f.limits;
    steady = same_keep y.system z.system s f.steady;
    ownership = λ x within. keeps_Stops (object y.system x) (object z.system x) y.system.config.nodes (object_stops y.system z.system x (numbered y u f) s) (u.chain x) (f.ownership x (rw s.config at within));
    replication = framed-replication y z u u.chain f same_frame;
    copied = framed-copied y z u u.chain f same_frame rows-kept
        (λ x within. inl record { place = place-same y z u u x s.config refl; copies = λ n live. rw (s.nodes n) refl });
    entered = framed-entered y z u u.chain f same_frame
        (λ x within. inl record { place = place-same y z u u x s.config refl; copies = λ n live. rw (s.nodes n) refl })
        (λ n a i x live inside m own. rw (s.nodes n) own)
        (λ n x e p c within g last. f.entered.given n x e p c within (given-before y.system z.system x nothing s.sends (λ l from to e q k no i. no) n e p c g) last);
    booked = framed-booked y z u u.chain f same_frame;
  }
