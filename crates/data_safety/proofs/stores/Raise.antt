-- A node learns that stored entries have passed.
use Rattle.std.specs.Prelude.{ℕ, ◌≡◌, ◌≢◌, ◌+◌, ◌-◌, ◌<◌, ◌≤◌, List, take, drop, length}
use Rattle.std.proofs.Common.{arith, refl, sym, ap, subst, ◌∙◌, inl, inr}
use Rattle.std.proofs.lemmas.Bool.{lt-ltb}
use Rattle.zeus_base.specs.declared.order.Stream.{Stream}
use Rattle.zeus_packet.specs.declared.write.Write.{Write}
use Rattle.zeus_model.specs.In.{In}
use Rattle.zeus_model.specs.Tables.{nth}
use Rattle.zeus_model.specs.State.{Node, Slot, log, with_log}
use Rattle.zeus_model.specs.Commit.{no_kept, raise, after_passing, writes_of}
use Rattle.zeus_model.specs.declared.state.Kept.{Kept}
use Rattle.machine_moves.specs.SystemState.{Changes, nothing}
use Rattle.machine_moves.specs.Move.{raises}
use Rattle.machine_moves.proofs.Steady.{move_keep}
use Rattle.replication_safety.specs.StreamState.{Has, kept_at}
use Rattle.replication_safety.specs.Moves.{Raises}
use Rattle.replication_safety.proofs.Alive.{alive_Raises}
use Rattle.replication_safety.proofs.Drops.{raises-drops, keeps_Raises}
use Rattle.invariants.specs.Streams.{stream_state}
use Rattle.invariants.proofs.StreamEntries.{HearsPassed, raise_here, raise-other}
use Rattle.invariants.proofs.StreamFrames.{logs-quiet}
use Rattle.invariants.proofs.StreamSeen.{stream_cases, log_done_is, log_kept_is}
use Rattle.data_safety.specs.RunState.{RunState, Witness}
use Rattle.data_safety.specs.DataInvariant.{DataInvariant, left}
use Rattle.data_safety.proofs.stores.EntriesShrink.{ShrunkStream, shrunk-drops, shrunk-quiet}
use Rattle.data_safety.proofs.passes.PassLogs.{KeepsSlots, kept-slots, shrink-logs, writes_of-in, kept-low}
use Rattle.data_safety.proofs.passes.PassCopies.{Revalidates}
use Rattle.data_safety.proofs.passes.PassMoves.{pass-again}

-- the node with the entries below d taken out
abbrev pub raised_node : Node → Stream → ℕ → Node
raised_node n s d = with_log (after_passing n (take (d - (log n s).done) (log n s).kept)) s record { done = d; kept = drop (d - (log n s).done) (log n s).kept }

raise-is : (n : Node) (s : Stream) (d : ℕ) → (log n s).done < d → raise n s d ≡ raised_node n s d
unfolding raise
raise-is n s d h = rw (lt-ltb (log n s).done d h) refl

raise-keeps : (n : Node) (s : Stream) (d : ℕ) → (log n s).done < d → KeepsSlots n (raise n s d)
raise-keeps n s d h = rw (raise-is n s d h) record { slots = refl; entries = refl; gathers = refl; stopped = refl; epoch = refl; me = refl }

module _ (y z : RunState) (u : Witness) (f : DataInvariant y u) (n d : ℕ) (s : Stream) (heard : HearsPassed y.system n s d)
    (c : Changes y.system z.system n (raise (y.system.node n) s d) nothing) (txs : z.txs ≡ y.txs) where
  away : n ≢ s.node
  away = λ e. heard.foreign (sym e)

  raising : Raises (stream_state y.system s) (stream_state z.system s) (u.passed s) n d
  raising = raise_here y.system z.system s n d (u.passed s) (f.replication s) heard c

  done_is : (stream_state y.system s).done n ≡ (log (y.system.node n) s).done
  done_is = log_done_is y.system s n away

  shrunk_stream : (t : Stream) → ShrunkStream (stream_state y.system t) (stream_state z.system t) (u.passed t) (u.passed t)
  shrunk_stream t = elim (stream_cases t s) [
    | inl same ↦ subst (λ (q : Stream). ShrunkStream (stream_state y.system q) (stream_state z.system q) (u.passed q) (u.passed q)) (sym same)
        (shrunk-drops (stream_state y.system s) (stream_state z.system s) (u.passed s) (u.passed s) n d (raises-drops (stream_state y.system s) (stream_state z.system s) (u.passed s) n d raising)
        (keeps_Raises (stream_state y.system s) (stream_state z.system s) (u.passed s) n d (f.replication s) raising) (omega arith)
        (λ k. alive_Raises (stream_state y.system s) (stream_state z.system s) (u.passed s) (u.passed s) k n d raising (omega arith)))
    | inr other ↦
        let k : KeepsSlots (y.system.node n) (raise (y.system.node n) s d) = raise-keeps (y.system.node n) s d heard.above in
        shrunk-quiet y.system z.system t (u.passed t) n (raise (y.system.node n) s d) (f.replication t) c
        (logs-quiet (y.system.node n) (raise (y.system.node n) s d) t n k.stopped k.epoch (ap (λ (m : Node). m.reported) (raise-is (y.system.node n) s d heard.above)) k.slots
        (raise-other (y.system.node n) s t d (λ e. other (sym e))))
  ]

  revalidates : Revalidates y z n (writes_of (take (d - (log (y.system.node n) s).done) (log (y.system.node n) s).kept))
  revalidates = record {
    here = ap (λ (k : Node). k.copies) c.node ∙ ap (λ (k : Node). k.copies) (raise-is (y.system.node n) s d heard.above);
    others = λ m other. ap (λ (k : Node). k.copies) (c.others m other);
  }

  low : (w : Write) → In w (writes_of (take (d - (log (y.system.node n) s).done) (log (y.system.node n) s).kept)) → w.ver ≤ (left y w.obj).ver
  low w i =
      let done : ℕ = (log (y.system.node n) s).done in
      let it = writes_of-in (d - done) (log (y.system.node n) s).kept w i in
      let size : length ((stream_state y.system s).kept n) ≡ length (log (y.system.node n) s).kept = ap (λ (ks : List Kept). length ks) (log_kept_is y.system s n away) in
      let held : Has (stream_state y.system s) n (done + it.0) = (omega (arith, done_is), omega (arith, done_is, size, it.2)) in
      let back : done + it.0 - (stream_state y.system s).done n ≡ it.0 = omega (arith, done_is) in
      let at : kept_at (stream_state y.system s) n (done + it.0) ≡ nth no_kept (log (y.system.node n) s).kept it.0 =
      ap (λ (j : ℕ). nth no_kept ((stream_state y.system s).kept n) j) back ∙ ap (λ (ks : List Kept). nth no_kept ks it.0) (log_kept_is y.system s n away) in
      kept-low y u s n (done + it.0) w f held away (omega (arith, it.1, heard.above, raising.known)) (rw at it.3)

  -- if a node learns that entries it stored have passed, and the book stays, then the invariant stays
  pub keeps_raise : z.book ≡ y.book → DataInvariant z u
  keeps_raise book =
      let k : KeepsSlots (y.system.node n) (raise (y.system.node n) s d) = raise-keeps (y.system.node n) s d heard.above in
      pass-again y z u u f (move_keep y.system z.system (raises n d s heard.letter heard.foreign heard.receivable heard.raising heard.above c) f.steady)
      (shrink-logs y z u u.passed n (raise (y.system.node n) s d) f c k txs (λ t. (shrunk_stream t).goes)) shrunk_stream
      n (writes_of (take (d - (log (y.system.node n) s).done) (log (y.system.node n) s).kept)) revalidates low book (λ t. refl)
      (λ m q. ap (λ (b : Slot). b.done) (kept-slots y.system z.system n m q (raise (y.system.node n) s d) c k))
