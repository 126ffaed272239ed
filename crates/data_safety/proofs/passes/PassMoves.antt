-- What holds after a pass: the first of an entry, or a later one.
use Rattle.std.specs.Prelude.{ℕ, suc, ◌≡◌, ◌≢◌, ◌≤◌, Bool, true, List, if◌then◌else◌}
use Rattle.std.proofs.Common.{refl, sym, ap, subst, inl, inr}
use Rattle.std.proofs.lemmas.Bool.{cases_Bool}
use Rattle.zeus_base.specs.Nodes.{has}
use Rattle.zeus_base.specs.Limits.{KeepsLimits}
use Rattle.zeus_base.specs.Order.{same_stream}
use Rattle.zeus_base.specs.OrderLaws.{same_stream-true, same_stream-refl}
use Rattle.zeus_base.specs.declared.config.Config.{Config}
use Rattle.zeus_base.specs.declared.order.Stream.{Stream}
use Rattle.zeus_packet.specs.declared.write.Write.{Write}
use Rattle.zeus_model.specs.In.{In}
use Rattle.zeus_model.specs.State.{slot}
use Rattle.zeus_model.specs.Book.{record_of, reply_or}
use Rattle.machine_moves.specs.SystemState.{IsLive}
use Rattle.machine_moves.proofs.Steady.{IsSteady}
use Rattle.replication_safety.specs.StreamState.{Has}
use Rattle.invariants.specs.Streams.{stream_state}
use Rattle.data_safety.specs.RunState.{RunState, Witness, pending_at, Lives, overwritten}
use Rattle.data_safety.specs.DataInvariant.{DataInvariant, IsRun, left}
use Rattle.data_safety.proofs.history.SerialRun.{first-left, left-same}
use Rattle.data_safety.proofs.stores.EntriesShrink.{EntriesShrink, ShrunkStream, shrink-entered}
use Rattle.data_safety.proofs.passes.PassCopies.{Revalidates, again-copied, first-copied}
use Rattle.data_safety.proofs.passes.PassLeft.{again-left, first-shrink_left}
use Rattle.data_safety.proofs.passes.PassBooked.{IsPoint, again-booked, point-booked, pointing}

-- one entry more of the stream has passed
abbrev pub passed_on : Witness → Stream → Witness
passed_on u p = record { chain = u.chain; passed = λ t. if same_stream t p then suc (u.passed t) else u.passed t }

-- of the stream that passes, one entry more has passed
pub passed_on-here : (u : Witness) (p : Stream) → (passed_on u p).passed p ≡ suc (u.passed p)
passed_on-here u p = rw (same_stream-refl p) refl

-- of each other stream as many entries have passed as before
pub passed_on-other : (u : Witness) (p t : Stream) → t ≢ p → (passed_on u p).passed t ≡ u.passed t
passed_on-other u p t other = elim (cases_Bool (same_stream t p)) [
  | inl same ↦ absurd (other (same_stream-true t p same))
  | inr away ↦ rw away refl
]

module _ (y z : RunState) (u v : Witness) (f : DataInvariant y u) (steady : IsSteady z.system) (s : EntriesShrink y z u v)
    (shrunk : (t : Stream) → ShrunkStream (stream_state y.system t) (stream_state z.system t) (u.passed t) (v.passed t)) where
  -- if an entry passes for the first time, and all live followers have it, then the invariant stays
  pub pass-first : (o k id : ℕ) (p : Stream) (own : Bool) → Revalidates y z o (pending_at y p k).writes → IsPoint y z u v p k id own → Lives y u p k
      → ((m : ℕ) → IsLive y.system m → has m (pending_at y p k).followers ≡ true → Has (stream_state y.system p) m k) → Has (stream_state y.system p) p.node k → DataInvariant z v
  pass-first o k id p own r h alive stored home =
      let is_run : IsRun y u p k = f.entered.serial p k alive in
      let leaves : (x : ℕ) → left z x ≡ overwritten (left y) (pending_at y p k).writes x =
      λ x. first-left y z u p k x record { id = id; reply = reply_or (record_of y.book id).reply } (pointing y z u v f s p k id own h) (sym h.first) h.id_is is_run in
      record {
        limits = subst (λ (c : Config). KeepsLimits c) (sym s.config) f.limits;
        steady = steady;
        ownership = s.objects.ownership;
        replication = λ t. (s.streams t).replication;
        copied = first-copied y z u v f s shrunk o k p r h.first h.rises h.others alive leaves stored home;
        entered = shrink-entered y z u v f s (first-shrink_left y z u v f s k p h.first h.rises h.others alive leaves);
        booked = point-booked y z u v f s p k id own h is_run;
      }

  -- if an entry passes that is not above the history, and the book stays, then the invariant stays
  pub pass-again : (o : ℕ) (ws : List Write) → Revalidates y z o ws → ((w : Write) → In w ws → w.ver ≤ (left y w.obj).ver) → z.book ≡ y.book
      → ((t : Stream) → v.passed t ≡ u.passed t) → ((n r : ℕ) → (slot (z.system.node n) r).done ≡ (slot (y.system.node n) r).done) → DataInvariant z v
  pass-again o ws r low book passed dones =
      let same : (x : ℕ) → left z x ≡ left y x = λ x. left-same y z x s.config s.txs (ap (λ (b : Rattle.zeus_model.specs.Book.Book). b.points) book) in
      record {
        limits = subst (λ (c : Config). KeepsLimits c) (sym s.config) f.limits;
        steady = steady;
        ownership = s.objects.ownership;
        replication = λ t. (s.streams t).replication;
        copied = again-copied y z u v f s shrunk o ws r low same passed;
        entered = shrink-entered y z u v f s (again-left y z u v f s same passed);
        booked = again-booked y z u v f s book passed dones;
      }
