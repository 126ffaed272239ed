-- What a stream sees of the moves of its entries.
use Rattle.std.specs.Prelude.{ℕ, suc, zero, ◌≡◌, ◌≢◌, ◌==◌, ◌<◌, ◌≤◌, ◌+◌, ◌-◌, true, false, List, [], ◌∷◌, ◌++◌, map, take, drop, length, Option, None, nat_lt}
use Rattle.std.proofs.Common.{arith, refl, sym, ap, inl, inr, ◌∙◌, subst}
use Rattle.std.proofs.lemmas.Bool.{cases_Bool, lt-ltb, eq-eqb}
use Rattle.std.proofs.lemmas.List.{length-map}
use Rattle.zeus_base.specs.Nodes.{has, without, meet, is_subset}
use Rattle.zeus_base.specs.NodeLaws.{has-without_same}
use Rattle.zeus_base.specs.TableLaws.{nth-put_other}
use Rattle.zeus_base.specs.declared.order.Stream.{Stream}
use Rattle.zeus_packet.specs.declared.letter.Body.TheVariants.{RInv, RAck}
use Rattle.zeus_packet.specs.declared.letter.Letter.{Letter}
use Rattle.zeus_packet.specs.declared.letter.RInv.{RInv as Invalidation}
use Rattle.zeus_txn.specs.Ops.{named}
use Rattle.zeus_model.specs.In.{In}
use Rattle.zeus_model.specs.Tables.{nth, put, or_else, where_true}
use Rattle.zeus_model.specs.State.{Node, Slot, StreamLog, no_slot, slot, log, with_slot, with_log, with_copies}
use Rattle.zeus_model.specs.Commit.{as_kept, each_write, applied, after_passing, raise, store, next_kept, no_kept, no_pending, passes, passes_at, pass_own, pass_kept, acked_kept, acked_pending}
use Rattle.zeus_model.specs.Local.{committed, rewritten_copy, write_cause, full_cause, run_here, new_writes, replicas_of}
use Rattle.zeus_model.specs.declared.state.Current.{Current}
use Rattle.zeus_model.specs.declared.state.Kept.{Kept}
use Rattle.zeus_model.specs.declared.state.Pending.{Pending}
use Rattle.zeus_model.specs.declared.answer.Tried.{Tried}
use Rattle.machine_moves.specs.Move.{IsRaising, by_entry, by_word, own_kept}
use Rattle.machine_moves.specs.SystemState.{SystemState, IsNumbered, IsReceivable, Changes, nothing}
use Rattle.replication_safety.specs.StreamState.{StreamState, Entry, Stores, Stored, Passes, Has, kept_at, top}
use Rattle.replication_safety.specs.Moves as moves
use Rattle.replication_safety.specs.ReplicationInvariant.{ReplicationInvariant}
use Rattle.invariants.specs.Streams.{stream_state}
use Rattle.invariants.proofs.AboutStreams.{says, about-in, says-rinv, says-rack, says-rval}
use Rattle.invariants.proofs.StreamFrames.{IsQuiet, stream-home, own-done, own-kept, log-done, log-kept, acts_stream, slots-quiet, logs-quiet, with_log-same, with_log-other, with_slot-same, with_slot-other}
use Rattle.invariants.proofs.StreamSeen.{Seen, raised, stored_next, noted, passed_first, committed_by, actor, stream_cases, sees_nothing, quiet_sends, after_fields, before_fields, own_done_is, own_kept_is, log_done_is, log_kept_is}

-- if a count is above what has passed, then a raise to it drops the entries up to it from the front
pub raise-taken : (n : Node) (s : Stream) (d : ℕ) → (log n s).done < d → log (raise n s d) s ≡ record { done = d; kept = drop (d - (log n s).done) (log n s).kept }
unfolding raise
raise-taken n s d h = rw (lt-ltb (log n s).done d h) (with_log-same (after_passing n (take (d - (log n s).done) (log n s).kept)) s record { done = d; kept = drop (d - (log n s).done) (log n s).kept })

-- a raise of one stream leaves each other one
pub raise-other : (n : Node) (s t : Stream) (d : ℕ) → s ≢ t → log (raise n s d) t ≡ log n t
unfolding raise
raise-other n s t d ne = elim (cases_Bool (nat_lt (log n s).done d)) [
  | inl above ↦ rw above (with_log-other (after_passing n (take (d - (log n s).done) (log n s).kept)) s t record { done = d; kept = drop (d - (log n s).done) (log n s).kept } ne)
  | inr not_above ↦ rw not_above refl
]

-- stop, epoch and reports stay
pub record SameStanding (n m : Node) : Type 0 where
  pub stopped : m.stopped ≡ n.stopped
  pub epoch : m.epoch ≡ n.epoch
  pub reported : m.reported ≡ n.reported

-- a raise leaves stop, epoch, reports and slots
pub raise-standing : (n : Node) (s : Stream) (d : ℕ) → (SameStanding n (raise n s d)) × ((raise n s d).slots ≡ n.slots)
unfolding raise
raise-standing n s d = elim (cases_Bool (nat_lt (log n s).done d)) [
  | inl above ↦ rw above (record { stopped = refl; epoch = refl; reported = refl }, refl)
  | inr not_above ↦ rw not_above (record { stopped = refl; epoch = refl; reported = refl }, refl)
]

raise_known : (old : SystemState) (s : Stream) (n d passed : ℕ) (l : Letter) → ReplicationInvariant (stream_state old s) passed → In l old.letters → IsRaising s d l → d ≤ passed
unfolding stream_state
raise_known old s n d passed l replication i (by_entry from to e r is done_is) =
    let said = about-in s (Stores from to e r.number r.done record { followers = r.followers; writes = r.writes }) l old.letters i (says-rinv s from to e r is) in
    let low = (replication.copies from to e r.number r.done record { followers = r.followers; writes = r.writes } said).done_passed in
    rw (← done_is) low
raise_known old s n d passed l replication i (by_word from to e) =
    (replication.told to d (about-in s (Passes to d) l old.letters i (says-rval s from to e d))).0

-- a node that acts on what it keeps of the stream alone
on_kept : (old new : SystemState) (t : Stream) (n : ℕ) (after : Node) → Changes old new n after nothing → SameStanding (old.node n) after
    → moves.ActsOnKept (stream_state old t) (stream_state new t) n
on_kept old new t n after c st = record {
  acts = acts_stream old new t n after nothing c st.stopped st.epoch;
  reported = (after_fields old new t n after c.node).2 ∙ st.reported ∙ sym (before_fields old t n).2;
  sends = quiet_sends old new t n after c;
}

-- a letter tells the node n that more entries of another's stream have passed than n counts
pub record HearsPassed (old : SystemState) (n : ℕ) (s : Stream) (d : ℕ) : Type 0 where
  pub letter : Letter
  pub receivable : IsReceivable old n letter
  pub foreign : s.node ≢ n
  pub raising : IsRaising s d letter
  pub above : (log (old.node n) s).done < d

-- if a node raises the count of the stored stream of another, then the stream sees the raise
pub raise_here : (old new : SystemState) (s : Stream) (n d passed : ℕ) → ReplicationInvariant (stream_state old s) passed → HearsPassed old n s d
    → Changes old new n (raise (old.node n) s d) nothing → moves.Raises (stream_state old s) (stream_state new s) passed n d
raise_here old new s n d passed replication heard c = record {
  acts = on_kept old new s n (raise (old.node n) s d) c (raise-standing (old.node n) s d).0;
  foreign = λ e. away (e ∙ stream-home old s);
  above = rw (log_done_is old s n away) heard.above;
  known = raise_known old s n d passed heard.letter replication heard.receivable.2 heard.raising;
  done = (after_fields old new s n (raise (old.node n) s d) c.node).3 ∙ log-done (raise (old.node n) s d) s n away
      ∙ ap (λ (k : StreamLog). k.done) (raise-taken (old.node n) s d heard.above);
  kept = (after_fields old new s n (raise (old.node n) s d) c.node).4 ∙ log-kept (raise (old.node n) s d) s n away
      ∙ ap (λ (k : StreamLog). k.kept) (raise-taken (old.node n) s d heard.above) ∙ rw (log_done_is old s n away, log_kept_is old s n away) refl;
}
  where
    away : n ≢ s.node
    away = λ e. heard.foreign (sym e)

-- if a node raises the count of the stored stream of another, then each stream sees a move
pub sees_raise : (old new : SystemState) (t s : Stream) (n d passed : ℕ) → ReplicationInvariant (stream_state old t) passed → HearsPassed old n s d
    → Changes old new n (raise (old.node n) s d) nothing → Seen (stream_state old t) (stream_state new t) passed
sees_raise old new t s n d passed replication heard c =
    elim (stream_cases s t) [
      | inr other ↦
          let st = raise-standing (old.node n) s d in
          sees_nothing old new t n passed (raise (old.node n) s d) c
          (logs-quiet (old.node n) (raise (old.node n) s d) t n st.0.stopped st.0.epoch st.0.reported st.1 (raise-other (old.node n) s t d other))
      | inl same ↦ subst (λ (u : Stream). Seen (stream_state old u) (stream_state new u) passed) same
          (raised n d (raise_here old new s n d passed (subst (λ (u : Stream). ReplicationInvariant (stream_state old u) passed) (sym same) replication) heard c))
    ]

-- ---- an entry is stored

same_standing : (n m : Node) → m.stopped ≡ n.stopped → m.epoch ≡ n.epoch → m.reported ≡ n.reported → SameStanding n m
same_standing n m a b c = record { stopped = a; epoch = b; reported = c }

stored_letter : (old : SystemState) (n : ℕ) (r : Invalidation) (l : Letter) → l.body ≡ RInv r → IsReceivable old n l
    → In (Stores l.from n ((stream_state old r.stream).epoch n) r.number r.done record { followers = r.followers; writes = r.writes }) (stream_state old r.stream).letters
unfolding stream_state
stored_letter old n r l body g =
    let says_it : In (Stores l.from l.to l.epoch r.number r.done record { followers = r.followers; writes = r.writes }) (says r.stream l) =
    rw body (says-rinv r.stream l.from l.to l.epoch r refl) in
    let said = about-in r.stream (Stores l.from l.to l.epoch r.number r.done record { followers = r.followers; writes = r.writes }) l old.letters g.2 says_it in
    rw (← g.1, ← g.0) said

-- a letter brings the node n the next entry of another's stream, where n counts all that has passed before it
pub record HearsNext (old : SystemState) (n : ℕ) (r : Invalidation) : Type 0 where
  pub letter : Letter
  pub receivable : IsReceivable old n letter
  pub body : letter.body ≡ RInv r
  pub foreign : r.stream.node ≢ n
  pub passed : r.done ≤ (log (old.node n) r.stream).done
  pub number : r.number ≡ next_kept (log (old.node n) r.stream)

-- if a node stores the next entry of the stream of another, then the stream sees it stored
pub store_here : (old new : SystemState) (n : ℕ) (r : Invalidation) → HearsNext old n r
    → Changes old new n (store (old.node n) r) nothing → moves.StoresNext (stream_state old r.stream) (stream_state new r.stream) n record { followers = r.followers; writes = r.writes }
store_here old new n r heard c = record {
  acts = on_kept old new r.stream n (store (old.node n) r) c (same_standing (old.node n) (store (old.node n) r) refl refl refl);
  sent = (heard.letter.from, r.done, rw (log_done_is old r.stream n away) heard.passed, sent_top);
  done = (after_fields old new r.stream n (store (old.node n) r) c.node).3 ∙ log-done (store (old.node n) r) r.stream n away
      ∙ ap (λ (k : StreamLog). k.done) logged ∙ sym (log_done_is old r.stream n away);
  kept = (after_fields old new r.stream n (store (old.node n) r) c.node).4 ∙ log-kept (store (old.node n) r) r.stream n away
      ∙ ap (λ (k : StreamLog). k.kept) logged ∙ rw (log_kept_is old r.stream n away) refl;
}
  where
    away : n ≢ r.stream.node
    away = λ e. heard.foreign (sym e)

    entry_log : StreamLog
    entry_log = record { done = (log (old.node n) r.stream).done; kept = (log (old.node n) r.stream).kept ++ record { followers = r.followers; writes = r.writes; acks = [] } ∷ [] }

    logged : log (store (old.node n) r) r.stream ≡ entry_log
    logged = with_log-same (with_copies (old.node n) (each_write applied (old.node n).copies r.writes)) r.stream entry_log

    top_is : r.number ≡ top (stream_state old r.stream) n
    top_is = heard.number ∙ rw (log_done_is old r.stream n away, log_kept_is old r.stream n away) refl

    sent_top : In (Stores heard.letter.from n ((stream_state old r.stream).epoch n) (top (stream_state old r.stream) n) r.done record { followers = r.followers; writes = r.writes }) (stream_state old r.stream).letters
    sent_top = subst (λ (k : ℕ). In (Stores heard.letter.from n ((stream_state old r.stream).epoch n) k r.done record { followers = r.followers; writes = r.writes }) (stream_state old r.stream).letters)
        top_is (stored_letter old n r heard.letter heard.body heard.receivable)

-- if a node stores the next entry of the stream of another, then each stream sees a move
pub sees_store : (old new : SystemState) (t : Stream) (n passed : ℕ) (r : Invalidation) → HearsNext old n r
    → Changes old new n (store (old.node n) r) nothing → Seen (stream_state old t) (stream_state new t) passed
sees_store old new t n passed r heard c =
    elim (stream_cases r.stream t) [
      | inr other ↦
          sees_nothing old new t n passed (store (old.node n) r) c
          (logs-quiet (old.node n) (store (old.node n) r) t n refl refl refl refl
          (with_log-other (with_copies (old.node n) (each_write applied (old.node n).copies r.writes)) r.stream t
          record { done = (log (old.node n) r.stream).done; kept = (log (old.node n) r.stream).kept ++ record { followers = r.followers; writes = r.writes; acks = [] } ∷ [] } other))
      | inl same ↦ subst (λ (u : Stream). Seen (stream_state old u) (stream_state new u) passed) same
          (stored_next n record { followers = r.followers; writes = r.writes } (store_here old new n r heard c))
    ]

-- ---- an acknowledgement is noted

-- the node once it has noted an acknowledgement of entry i of its own stream
abbrev pub noting_own : Node → ℕ → ℕ → ℕ → Node
noting_own n s i from =
    with_slot n s record {
      current = (slot n s).current;
      done = (slot n s).done;
      pending = put no_pending (slot n s).pending i (acked_pending (nth no_pending (slot n s).pending i) from);
    }

-- the node once it has noted an acknowledgement of entry i of the stored stream of another
abbrev pub noting_kept : Node → Stream → ℕ → ℕ → Node
noting_kept n s i from =
    with_log n s record {
      done = (log n s).done;
      kept = put no_kept (log n s).kept i (acked_kept (nth no_kept (log n s).kept i) from);
    }

-- a letter tells the node n that its sender stores the entry k of the stream t
pub record HearsStored (old : SystemState) (n : ℕ) (t : Stream) (k : ℕ) : Type 0 where
  pub from : ℕ
  pub letter : Letter
  pub receivable : IsReceivable old n letter
  pub sender : letter.from ≡ from
  pub body : letter.body ≡ RAck t k

acked_letter : (old : SystemState) (t : Stream) (n k : ℕ) (heard : HearsStored old n t k) → In (Stored heard.from k) (stream_state old t).letters
unfolding stream_state
acked_letter old t n k heard =
    let says_it : In (Stored heard.letter.from k) (says t heard.letter) = rw heard.body (says-rack t heard.letter.from heard.letter.to heard.letter.epoch k) in
    let said = about-in t (Stored heard.letter.from k) heard.letter old.letters heard.receivable.2 says_it in
    rw (← heard.sender) said

-- acknowledging a pending entry is acknowledging what it shares with a stored one
noted-map : (ps : List Pending) (i from : ℕ) → i < length ps
    → map as_kept (put no_pending ps i (acked_pending (nth no_pending ps i) from)) ≡ put no_kept (map as_kept ps) i (acked_kept (nth no_kept (map as_kept ps) i) from)
unfolding nth put
noted-map [] i from h = absurd (omega arith)
noted-map (p ∷ ps) zero from h = refl
noted-map (p ∷ ps) (suc i) from h = ap (λ (ks : List Kept). as_kept p ∷ ks) (noted-map ps i from (omega arith))

within_noted : (o : StreamState) (n i d : ℕ) (ks : List Kept) → o.done n ≡ d → o.kept n ≡ ks → i < length ks → Has o n (d + i)
within_noted o n i d ks done_is kept_is within =
    let within' : i < length (o.kept n) = rw kept_is within in
    rw (← done_is) (omega arith, omega arith)

-- the entry of this place is put back acknowledged
kept_noted : (o : StreamState) (n i d from : ℕ) (ks : List Kept) → o.done n ≡ d → o.kept n ≡ ks
    → put no_kept ks i (acked_kept (nth no_kept ks i) from) ≡ put no_kept (o.kept n) (d + i - o.done n) (acked_kept (kept_at o n (d + i)) from)
kept_noted o n i d from ks done_is kept_is =
    let back : d + i - o.done n ≡ i = rw done_is (omega arith) in
    rw (back, kept_is) refl

note_own_here : (old new : SystemState) (n s i : ℕ) (t : Stream) → n ≡ t.node → s ≡ t.slot → (heard : HearsStored old n t ((slot (old.node n) s).done + i))
    → i < length (slot (old.node n) s).pending
    → Changes old new n (noting_own (old.node n) s i heard.from) nothing → moves.NotesAck (stream_state old t) (stream_state new t) n ((slot (old.node n) s).done + i) heard.from
unfolding own_kept
note_own_here old new n s i t home at_slot heard within c = record {
  acts = on_kept old new t n after c (same_standing (old.node n) after refl refl refl);
  sent = acked_letter old t n ((slot (old.node n) s).done + i) heard;
  has = within_noted (stream_state old t) n i (slot (old.node n) s).done (map as_kept (slot (old.node n) s).pending) done_is kept_is (rw (length-map (slot (old.node n) s).pending as_kept) within);
  done = (after_fields old new t n after c.node).3 ∙ own-done after t n home
      ∙ ap (λ (k : ℕ). (slot after k).done) (sym at_slot) ∙ ap (λ (k : Slot). k.done) slotted ∙ sym done_is;
  kept = (after_fields old new t n after c.node).4 ∙ own-kept after t n home
      ∙ ap (λ (k : ℕ). map as_kept (slot after k).pending) (sym at_slot) ∙ ap (λ (k : Slot). map as_kept k.pending) slotted
      ∙ noted-map (slot (old.node n) s).pending i heard.from within
      ∙ kept_noted (stream_state old t) n i (slot (old.node n) s).done heard.from (map as_kept (slot (old.node n) s).pending) done_is kept_is;
}
  where
    after : Node
    after = noting_own (old.node n) s i heard.from

    done_is : (stream_state old t).done n ≡ (slot (old.node n) s).done
    done_is = own_done_is old t n home ∙ ap (λ (k : ℕ). (slot (old.node n) k).done) (sym at_slot)

    kept_is : (stream_state old t).kept n ≡ map as_kept (slot (old.node n) s).pending
    kept_is = own_kept_is old t n home ∙ ap (λ (k : ℕ). map as_kept (slot (old.node n) k).pending) (sym at_slot)

    slotted : slot (noting_own (old.node n) s i heard.from) s ≡ record {
      current = (slot (old.node n) s).current;
      done = (slot (old.node n) s).done;
      pending = put no_pending (slot (old.node n) s).pending i (acked_pending (nth no_pending (slot (old.node n) s).pending i) heard.from);
    }
    slotted = with_slot-same (old.node n) s record {
      current = (slot (old.node n) s).current;
      done = (slot (old.node n) s).done;
      pending = put no_pending (slot (old.node n) s).pending i (acked_pending (nth no_pending (slot (old.node n) s).pending i) heard.from);
    }

-- a change of one slot is quiet for the streams of the others
pub other_slot : (n : Node) (t : Stream) (me s : ℕ) (l : Slot) → record { node = me; slot = s } ≢ t → IsQuiet n (with_slot n s l) t me
other_slot n t me s l ne =
    slots-quiet n (with_slot n s l) t me refl refl refl refl
    (λ home.
    let away : s ≢ t.slot = λ e. ne (ap (λ (k : ℕ). stream_at k s) home ∙ ap (λ (k : ℕ). stream_at t.node k) e) in
    (ap (λ (k : Slot). k.done) (with_slot-other n s t.slot l away), ap (λ (k : Slot). k.pending) (with_slot-other n s t.slot l away)))
  where
    stream_at : ℕ → ℕ → Stream
    stream_at k j = record { node = k; slot = j }

-- if a node notes an acknowledgement of its own stream, then each stream sees a move
pub sees_note_own : (old new : SystemState) (t : Stream) (n s i passed : ℕ) (heard : HearsStored old n record { node = n; slot = s } ((slot (old.node n) s).done + i))
    → i < length (slot (old.node n) s).pending → Changes old new n (noting_own (old.node n) s i heard.from) nothing → Seen (stream_state old t) (stream_state new t) passed
sees_note_own old new t n s i passed heard within c =
    elim (stream_cases record { node = n; slot = s } t) [
      | inr other ↦ sees_nothing old new t n passed (noting_own (old.node n) s i heard.from) c
          (other_slot (old.node n) t n s record {
            current = (slot (old.node n) s).current;
            done = (slot (old.node n) s).done;
            pending = put no_pending (slot (old.node n) s).pending i (acked_pending (nth no_pending (slot (old.node n) s).pending i) heard.from);
          } other)
      | inl same ↦ subst (λ (u : Stream). Seen (stream_state old u) (stream_state new u) passed) same
          (noted n ((slot (old.node n) s).done + i) heard.from (note_own_here old new n s i record { node = n; slot = s } refl refl heard within c))
    ]

note_kept_here : (old new : SystemState) (s : Stream) (n i : ℕ) → s.node ≢ n → (heard : HearsStored old n s ((log (old.node n) s).done + i)) → i < length (log (old.node n) s).kept
    → Changes old new n (noting_kept (old.node n) s i heard.from) nothing → moves.NotesAck (stream_state old s) (stream_state new s) n ((log (old.node n) s).done + i) heard.from
note_kept_here old new s n i foreign heard within c = record {
  acts = on_kept old new s n after c (same_standing (old.node n) after refl refl refl);
  sent = acked_letter old s n ((log (old.node n) s).done + i) heard;
  has = within_noted (stream_state old s) n i (log (old.node n) s).done (log (old.node n) s).kept (log_done_is old s n away) (log_kept_is old s n away) within;
  done = (after_fields old new s n after c.node).3 ∙ log-done after s n away ∙ ap (λ (k : StreamLog). k.done) logged ∙ sym (log_done_is old s n away);
  kept = (after_fields old new s n after c.node).4 ∙ log-kept after s n away ∙ ap (λ (k : StreamLog). k.kept) logged
      ∙ kept_noted (stream_state old s) n i (log (old.node n) s).done heard.from (log (old.node n) s).kept (log_done_is old s n away) (log_kept_is old s n away);
}
  where
    away : n ≢ s.node
    away = λ e. foreign (sym e)

    after : Node
    after = noting_kept (old.node n) s i heard.from

    logged : log (noting_kept (old.node n) s i heard.from) s ≡ record {
      done = (log (old.node n) s).done;
      kept = put no_kept (log (old.node n) s).kept i (acked_kept (nth no_kept (log (old.node n) s).kept i) heard.from);
    }
    logged = with_log-same (old.node n) s record {
      done = (log (old.node n) s).done;
      kept = put no_kept (log (old.node n) s).kept i (acked_kept (nth no_kept (log (old.node n) s).kept i) heard.from);
    }

-- if a node notes an acknowledgement of the stored stream of another, then each stream sees a move
pub sees_note_kept : (old new : SystemState) (t s : Stream) (n i passed : ℕ) → s.node ≢ n → (heard : HearsStored old n s ((log (old.node n) s).done + i))
    → i < length (log (old.node n) s).kept → Changes old new n (noting_kept (old.node n) s i heard.from) nothing → Seen (stream_state old t) (stream_state new t) passed
sees_note_kept old new t s n i passed foreign heard within c =
    elim (stream_cases s t) [
      | inr other ↦ sees_nothing old new t n passed (noting_kept (old.node n) s i heard.from) c
          (logs-quiet (old.node n) (noting_kept (old.node n) s i heard.from) t n refl refl refl refl
          (with_log-other (old.node n) s t record {
            done = (log (old.node n) s).done;
            kept = put no_kept (log (old.node n) s).kept i (acked_kept (nth no_kept (log (old.node n) s).kept i) heard.from);
          } other))
      | inl same ↦ subst (λ (u : Stream). Seen (stream_state old u) (stream_state new u) passed) same
          (noted n ((log (old.node n) s).done + i) heard.from (note_kept_here old new s n i foreign heard within c))
    ]

-- ---- an entry passes

-- what the node's test says of the first entry
first_passes : (n : Node) (k : Kept) → passes n k ≡ true → is_subset (without n.me (meet k.followers n.members)) k.acks ≡ true
unfolding passes_at
first_passes n k h = h

-- every member that follows the first entry has acknowledged it
complete_first : (o : StreamState) (n me : ℕ) (members : List ℕ) (ks : List Kept) → o.kept n ≡ ks → me ≡ n
    → members ≡ Rattle.replication_safety.specs.StreamState.view o (o.epoch n)
    → is_subset (without me (meet (nth no_kept ks 0).followers members)) (nth no_kept ks 0).acks ≡ true
    → is_subset (without n (meet (kept_at o n (o.done n)).followers (Rattle.replication_safety.specs.StreamState.view o (o.epoch n)))) (kept_at o n (o.done n)).acks ≡ true
complete_first o n me members ks kept_is me_is members_is h =
    let first : o.done n - o.done n ≡ 0 = omega arith in
    rw (first, kept_is, ← members_is, ← me_is) h

drop-map : (ps : List Pending) → map as_kept (drop 1 ps) ≡ drop 1 (map as_kept ps)
drop-map [] = refl
drop-map (p ∷ ps) = refl

-- if the head entry of a node's own stream passes, then the stream sees it pass
pub pass_own_here : (old new : SystemState) (n s : ℕ) (t : Stream) → IsNumbered old → n ≡ t.node → s ≡ t.slot → 0 < length (slot (old.node n) s).pending
    → passes (old.node n) (nth no_kept (own_kept (old.node n) s) 0) ≡ true → Changes old new n (pass_own (old.node n) s 1) nothing
    → moves.PassesFirst (stream_state old t) (stream_state new t) n
unfolding own_kept
pass_own_here old new n s t numbered home at_slot some ok c = record {
  acts = on_kept old new t n (pass_own (old.node n) s 1) c (same_standing (old.node n) (pass_own (old.node n) s 1) refl refl refl);
  some = rw kept_is (rw (length-map (slot (old.node n) s).pending as_kept) some);
  may = inl (home ∙ sym (stream-home old t));
  complete = complete_first (stream_state old t) n (old.node n).me (old.node n).members (map as_kept (slot (old.node n) s).pending) kept_is
      (actor old t n numbered c.live).me (actor old t n numbered c.live).members
      (first_passes (old.node n) (nth no_kept (map as_kept (slot (old.node n) s).pending) 0) ok);
  done = (after_fields old new t n (pass_own (old.node n) s 1) c.node).3 ∙ own-done (pass_own (old.node n) s 1) t n home
      ∙ ap (λ (k : ℕ). (slot (pass_own (old.node n) s 1) k).done) (sym at_slot) ∙ ap (λ (k : Slot). k.done) slotted
      ∙ add_one (slot (old.node n) s).done ∙ ap (λ (k : ℕ). suc k) (sym done_is);
  kept = (after_fields old new t n (pass_own (old.node n) s 1) c.node).4 ∙ own-kept (pass_own (old.node n) s 1) t n home
      ∙ ap (λ (k : ℕ). map as_kept (slot (pass_own (old.node n) s 1) k).pending) (sym at_slot) ∙ ap (λ (k : Slot). map as_kept k.pending) slotted
      ∙ drop-map (slot (old.node n) s).pending ∙ ap (λ (ks : List Kept). drop 1 ks) (sym kept_is);
}
  where
    done_is : (stream_state old t).done n ≡ (slot (old.node n) s).done
    done_is = own_done_is old t n home ∙ ap (λ (k : ℕ). (slot (old.node n) k).done) (sym at_slot)

    kept_is : (stream_state old t).kept n ≡ map as_kept (slot (old.node n) s).pending
    kept_is = own_kept_is old t n home ∙ ap (λ (k : ℕ). map as_kept (slot (old.node n) k).pending) (sym at_slot)

    slotted : slot (pass_own (old.node n) s 1) s ≡ record { current = (slot (old.node n) s).current; done = (slot (old.node n) s).done + 1; pending = drop 1 (slot (old.node n) s).pending }
    slotted = with_slot-same (after_passing (old.node n) (take 1 (map as_kept (slot (old.node n) s).pending))) s
        record { current = (slot (old.node n) s).current; done = (slot (old.node n) s).done + 1; pending = drop 1 (slot (old.node n) s).pending }

    add_one : (k : ℕ) → k + 1 ≡ suc k
    add_one k = omega arith

-- if the head entry of a node's own stream passes, then each stream sees a move
pub sees_pass_own : (old new : SystemState) (t : Stream) (n s passed : ℕ) → IsNumbered old → 0 < length (slot (old.node n) s).pending
    → passes (old.node n) (nth no_kept (own_kept (old.node n) s) 0) ≡ true → Changes old new n (pass_own (old.node n) s 1) nothing
    → Seen (stream_state old t) (stream_state new t) passed
sees_pass_own old new t n s passed numbered some ok c =
    elim (stream_cases record { node = n; slot = s } t) [
      | inr other ↦ sees_nothing old new t n passed (pass_own (old.node n) s 1) c
          (slots-quiet (old.node n) (pass_own (old.node n) s 1) t n refl refl refl refl
          (λ home.
          let away : s ≢ t.slot = λ e. other (ap (λ (k : ℕ). stream_at k s) home ∙ ap (λ (k : ℕ). stream_at t.node k) e) in
          let same = with_slot-other (after_passing (old.node n) (take 1 (map as_kept (slot (old.node n) s).pending))) s t.slot
          record { current = (slot (old.node n) s).current; done = (slot (old.node n) s).done + 1; pending = drop 1 (slot (old.node n) s).pending } away in
          (ap (λ (k : Slot). k.done) same, ap (λ (k : Slot). k.pending) same)))
      | inl same ↦ subst (λ (u : Stream). Seen (stream_state old u) (stream_state new u) passed) same
          (passed_first n (pass_own_here old new n s record { node = n; slot = s } numbered refl refl some ok c))
    ]
  where
    stream_at : ℕ → ℕ → Stream
    stream_at k j = record { node = k; slot = j }

-- if the head entry of the stored stream of a node that is no member passes, then the stream sees it pass
pub pass_kept_here : (old new : SystemState) (s : Stream) (n : ℕ) → IsNumbered old → has s.node (old.node n).members ≡ false → s.node ≢ n
    → 0 < length (log (old.node n) s).kept → passes (old.node n) (nth no_kept (log (old.node n) s).kept 0) ≡ true
    → Changes old new n (pass_kept (old.node n) s 1) nothing → moves.PassesFirst (stream_state old s) (stream_state new s) n
pass_kept_here old new s n numbered out foreign some ok c = record {
  acts = on_kept old new s n (pass_kept (old.node n) s 1) c (same_standing (old.node n) (pass_kept (old.node n) s 1) refl refl refl);
  some = rw (log_kept_is old s n away) some;
  may = inr (rw (stream-home old s, ← (actor old s n numbered c.live).members) out);
  complete = complete_first (stream_state old s) n (old.node n).me (old.node n).members (log (old.node n) s).kept (log_kept_is old s n away)
      (actor old s n numbered c.live).me (actor old s n numbered c.live).members (first_passes (old.node n) (nth no_kept (log (old.node n) s).kept 0) ok);
  done = (after_fields old new s n (pass_kept (old.node n) s 1) c.node).3 ∙ log-done (pass_kept (old.node n) s 1) s n away
      ∙ ap (λ (k : StreamLog). k.done) logged ∙ add_one (log (old.node n) s).done ∙ ap (λ (k : ℕ). suc k) (sym (log_done_is old s n away));
  kept = (after_fields old new s n (pass_kept (old.node n) s 1) c.node).4 ∙ log-kept (pass_kept (old.node n) s 1) s n away
      ∙ ap (λ (k : StreamLog). k.kept) logged ∙ ap (λ (ks : List Kept). drop 1 ks) (sym (log_kept_is old s n away));
}
  where
    away : n ≢ s.node
    away = λ e. foreign (sym e)

    logged : log (pass_kept (old.node n) s 1) s ≡ record { done = (log (old.node n) s).done + 1; kept = drop 1 (log (old.node n) s).kept }
    logged = with_log-same (after_passing (old.node n) (take 1 (log (old.node n) s).kept)) s record { done = (log (old.node n) s).done + 1; kept = drop 1 (log (old.node n) s).kept }

    add_one : (k : ℕ) → k + 1 ≡ suc k
    add_one k = omega arith

-- if the head entry of the stored stream of a node that is no member passes, then each stream sees a move
pub sees_pass_kept : (old new : SystemState) (t s : Stream) (n passed : ℕ) → IsNumbered old → has s.node (old.node n).members ≡ false → s.node ≢ n
    → 0 < length (log (old.node n) s).kept → passes (old.node n) (nth no_kept (log (old.node n) s).kept 0) ≡ true
    → Changes old new n (pass_kept (old.node n) s 1) nothing → Seen (stream_state old t) (stream_state new t) passed
sees_pass_kept old new t s n passed numbered out foreign some ok c =
    elim (stream_cases s t) [
      | inr other ↦ sees_nothing old new t n passed (pass_kept (old.node n) s 1) c
          (logs-quiet (old.node n) (pass_kept (old.node n) s 1) t n refl refl refl refl
          (with_log-other (after_passing (old.node n) (take 1 (log (old.node n) s).kept)) s t
          record { done = (log (old.node n) s).done + 1; kept = drop 1 (log (old.node n) s).kept } other))
      | inl same ↦ subst (λ (u : Stream). Seen (stream_state old u) (stream_state new u) passed) same
          (passed_first n (pass_kept_here old new s n numbered out foreign some ok c))
    ]

-- ---- a transaction is committed

-- a transaction is committed where the slot has room
commit_room : (l : Slot) (rest : Option Tried) → or_else (full_cause l) rest ≡ None → length l.pending ≢ 16
unfolding or_else full_cause where_true
commit_room l rest h full = let is : (length l.pending == 16) ≡ true = eq-eqb (length l.pending) 16 full in cc (rw is at h)

-- the entry that a commit of the transaction makes: the writes, and the replicas but for the node itself
abbrev pub entry_made : Node → ℕ → Current → Entry
entry_made n me c =
    record { followers = without me (replicas_of n (new_writes n (run_here n c.tx).writes)); writes = new_writes n (run_here n c.tx).writes }

-- the node once it has committed the slot's transaction
abbrev pub committing : Node → ℕ → ℕ → Current → Node
committing n me s c =
    committed n s c (run_here n c.tx) (without me (replicas_of n (new_writes n (run_here n c.tx).writes))) (new_writes n (run_here n c.tx).writes)

map-append_one : (ps : List Pending) (p : Pending) → map as_kept (ps ++ p ∷ []) ≡ map as_kept ps ++ as_kept p ∷ []
map-append_one [] p = refl
map-append_one (q ∷ ps) p = ap (λ (ks : List Kept). as_kept q ∷ ks) (map-append_one ps p)

below_sixteen : (k : ℕ) → k ≤ 16 → k ≢ 16 → k < 16
below_sixteen k h ne = omega arith

commits_at : (old new : StreamState) (x : Entry) (n : ℕ) → n ≡ old.home → moves.ActsOnKept old new n → length (old.kept n) < 16 → has n x.followers ≡ false
    → new.done n ≡ old.done n → new.kept n ≡ old.kept n ++ record { followers = x.followers; writes = x.writes; acks = [] } ∷ [] → moves.Commits old new x
commits_at old new x n home a room foreign done kept = record {
  acts = subst (λ (k : ℕ). moves.ActsOnKept old new k) home a;
  room = subst (λ (k : ℕ). length (old.kept k) < 16) home room;
  foreign = subst (λ (k : ℕ). has k x.followers ≡ false) home foreign;
  done = subst (λ (k : ℕ). new.done k ≡ old.done k) home done;
  kept = subst (λ (k : ℕ). new.kept k ≡ old.kept k ++ record { followers = x.followers; writes = x.writes; acks = [] } ∷ []) home kept;
}

-- if a slot commits a transaction that nothing stands against, then its stream sees the commit
pub commit_here : (old new : SystemState) (n s passed : ℕ) (c : Current) (t : Stream) → ReplicationInvariant (stream_state old t) passed → n ≡ t.node → s ≡ t.slot
    → write_cause (old.node n) s c.tx ≡ None → Changes old new n (committing (old.node n) n s c) nothing
    → moves.Commits (stream_state old t) (stream_state new t) (entry_made (old.node n) n c)
unfolding own_kept write_cause
commit_here old new n s passed c t replication home at_slot free change =
    let made : Pending = record {
      id = c.id;
      reply = (run_here (old.node n) c.tx).reply;
      named = named c.tx;
      followers = (entry_made (old.node n) n c).followers;
      writes = (entry_made (old.node n) n c).writes;
      acks = [];
    } in
    let slotted : slot (committing (old.node n) n s c) s ≡ record { current = None; done = (slot (old.node n) s).done; pending = (slot (old.node n) s).pending ++ made ∷ [] } =
    with_slot-same (with_copies (old.node n) (each_write rewritten_copy (old.node n).copies (entry_made (old.node n) n c).writes)) s
    record { current = None; done = (slot (old.node n) s).done; pending = (slot (old.node n) s).pending ++ made ∷ [] } in
    let done_is : (stream_state old t).done n ≡ (slot (old.node n) s).done = own_done_is old t n home ∙ ap (λ (k : ℕ). (slot (old.node n) k).done) (sym at_slot) in
    let kept_is : (stream_state old t).kept n ≡ map as_kept (slot (old.node n) s).pending = own_kept_is old t n home ∙ ap (λ (k : ℕ). map as_kept (slot (old.node n) k).pending) (sym at_slot) in
    let not_full : length (slot (old.node n) s).pending ≢ 16 = commit_room (slot (old.node n) s) _ free in
    let size : length ((stream_state old t).kept n) ≤ 16 = replication.sizes n in
    let count : length ((stream_state old t).kept n) ≡ length (slot (old.node n) s).pending = ap (λ (ks : List Kept). length ks) kept_is ∙ length-map (slot (old.node n) s).pending as_kept in
    let room : length ((stream_state old t).kept n) < 16 = below_sixteen (length ((stream_state old t).kept n)) size (λ e. not_full (sym count ∙ e)) in
    commits_at (stream_state old t) (stream_state new t) (entry_made (old.node n) n c) n (home ∙ sym (stream-home old t))
    (on_kept old new t n (committing (old.node n) n s c) change (same_standing (old.node n) (committing (old.node n) n s c) refl refl refl))
    room (has-without_same n (replicas_of (old.node n) (new_writes (old.node n) (run_here (old.node n) c.tx).writes)))
    ((after_fields old new t n (committing (old.node n) n s c) change.node).3 ∙ own-done (committing (old.node n) n s c) t n home
    ∙ ap (λ (k : ℕ). (slot (committing (old.node n) n s c) k).done) (sym at_slot) ∙ ap (λ (k : Slot). k.done) slotted ∙ sym done_is)
    ((after_fields old new t n (committing (old.node n) n s c) change.node).4 ∙ own-kept (committing (old.node n) n s c) t n home
    ∙ ap (λ (k : ℕ). map as_kept (slot (committing (old.node n) n s c) k).pending) (sym at_slot) ∙ ap (λ (k : Slot). map as_kept k.pending) slotted
    ∙ map-append_one (slot (old.node n) s).pending made
    ∙ ap (λ (ks : List Kept). ks ++ record { followers = (entry_made (old.node n) n c).followers; writes = (entry_made (old.node n) n c).writes; acks = [] } ∷ []) (sym kept_is))

-- a commit in one slot is quiet for the streams of the others
pub commit_quiet : (n : Node) (t : Stream) (me s : ℕ) (c : Current) → record { node = me; slot = s } ≢ t → IsQuiet n (committing n me s c) t me
commit_quiet n t me s c ne =
    slots-quiet n (committing n me s c) t me refl refl refl refl
    (λ home.
    let away : s ≢ t.slot = λ e. ne (ap (λ (k : ℕ). stream_at k s) home ∙ ap (λ (k : ℕ). stream_at t.node k) e) in
    let same : slot (committing n me s c) t.slot ≡ slot n t.slot = nth-put_other no_slot n.slots s t.slot _ away in
    (ap (λ (k : Slot). k.done) same, ap (λ (k : Slot). k.pending) same))
  where
    stream_at : ℕ → ℕ → Stream
    stream_at k j = record { node = k; slot = j }

-- if a slot commits a transaction that nothing stands against, then each stream sees a move
pub sees_commit : (old new : SystemState) (t : Stream) (n s passed : ℕ) (c : Current) → ReplicationInvariant (stream_state old t) passed
    → write_cause (old.node n) s c.tx ≡ None → Changes old new n (committing (old.node n) n s c) nothing → Seen (stream_state old t) (stream_state new t) passed
sees_commit old new t n s passed c replication free change =
    elim (stream_cases record { node = n; slot = s } t) [
      | inr other ↦ sees_nothing old new t n passed (committing (old.node n) n s c) change (commit_quiet (old.node n) t n s c other)
      | inl same ↦ subst (λ (u : Stream). Seen (stream_state old u) (stream_state new u) passed) same
          (committed_by (entry_made (old.node n) n c)
          (commit_here old new n s passed c record { node = n; slot = s } (subst (λ (u : Stream). ReplicationInvariant (stream_state old u) passed) (sym same) replication) refl refl free change))
    ]
