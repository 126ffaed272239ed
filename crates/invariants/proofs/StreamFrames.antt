-- How each move of the machine looks to one stream.
use Rattle.std.specs.Prelude.{ℕ, ◌≡◌, ◌≢◌, List, [], map}
use Rattle.std.proofs.Common.{refl, sym, ap, inl, inr, ◌∙◌}
use Rattle.std.proofs.lemmas.Bool.{eq-eqb, ne_eqb}
use Rattle.zeus_base.specs.TableLaws.{nth-put_same, nth-put_other}
use Rattle.zeus_base.specs.declared.order.Stream.{Stream}
use Rattle.zeus_packet.specs.declared.letter.Letter.{Letter}
use Rattle.zeus_model.specs.In.{In}
use Rattle.zeus_model.specs.Tables.{nth, put}
use Rattle.zeus_model.specs.State.{Node, Slot, StreamLog, no_slot, no_log, slot, log, with_slot, with_log}
use Rattle.machine_moves.specs.Move.{own_kept}
use Rattle.machine_moves.specs.SystemState.{SystemState, Changes}
use Rattle.replication_safety.specs.StreamState.{Letter as Said}
use Rattle.replication_safety.specs.Moves as moves
use Rattle.invariants.specs.Streams.{stream_state, done_of, kept_of}
use Rattle.invariants.proofs.AboutStreams.{says, sends_stream}
use Rattle.invariants.proofs.ObjectSeen.{same_or_not}

-- ---- the fields of a stream

-- how many entries of the stream a node knows to have passed, as the stream has it, is what the node has
pub stream-done : (s : SystemState) (t : Stream) (m : ℕ) → (stream_state s t).done m ≡ done_of (s.node m) t m
unfolding stream_state
stream-done s t m = refl

-- the entries of the stream that a node has behind those that passed, as the stream has it, are what the node has
pub stream-kept : (s : SystemState) (t : Stream) (m : ℕ) → (stream_state s t).kept m ≡ kept_of (s.node m) t m
unfolding stream_state
stream-kept s t m = refl

-- a stream's home is its node
pub stream-home : (s : SystemState) (t : Stream) → (stream_state s t).home ≡ t.node
unfolding stream_state
stream-home s t = refl

-- who has reported at a node, as the stream has it, is what the node has
pub stream-reported : (s : SystemState) (t : Stream) (m : ℕ) → (stream_state s t).reported m ≡ (s.node m).reported
unfolding stream_state
stream-reported s t m = refl

-- whether a node is stopped, as the stream has it, is what the node has
pub stream-stopped : (s : SystemState) (t : Stream) (m : ℕ) → (stream_state s t).stopped m ≡ (s.node m).stopped
unfolding stream_state
stream-stopped s t m = refl

-- at its home the count of a stream is that of its slot
pub own-done : (n : Node) (t : Stream) (m : ℕ) → m ≡ t.node → done_of n t m ≡ (slot n t.slot).done
unfolding done_of
own-done n t m e = rw (eq-eqb m t.node e) refl

-- at its home the entries of a stream are those that its slot has pending
pub own-kept : (n : Node) (t : Stream) (m : ℕ) → m ≡ t.node → kept_of n t m ≡ own_kept n t.slot
unfolding kept_of
own-kept n t m e = rw (eq-eqb m t.node e) refl

-- at each other node the count of a stream is that of the stored stream
pub log-done : (n : Node) (t : Stream) (m : ℕ) → m ≢ t.node → done_of n t m ≡ (log n t).done
unfolding done_of
log-done n t m ne = rw (ne_eqb m t.node ne) refl

-- at each other node the entries of a stream are those of the stored stream
pub log-kept : (n : Node) (t : Stream) (m : ℕ) → m ≢ t.node → kept_of n t m ≡ (log n t).kept
unfolding kept_of
log-kept n t m ne = rw (ne_eqb m t.node ne) refl

-- ---- what stays

-- if the views stay, then they stay as the stream sees them
pub same_setting : (old new : SystemState) (t : Stream) → new.views ≡ old.views → moves.SameSetting (stream_state old t) (stream_state new t)
unfolding stream_state
same_setting old new t v = record { home = refl; views = v }

-- if all nodes but one stay, then all nodes but that one stay as the stream sees them
pub same_others : (old new : SystemState) (t : Stream) (n : ℕ) → ((m : ℕ) → m ≢ n → new.node m ≡ old.node m) → moves.SameOthers (stream_state old t) (stream_state new t) n
unfolding stream_state
same_others old new t n others = record {
  stopped = λ m ne. ap (λ (k : Node). k.stopped) (others m ne);
  epoch = λ m ne. ap (λ (k : Node). k.epoch) (others m ne);
  reported = λ m ne. ap (λ (k : Node). k.reported) (others m ne);
  done = λ m ne. ap (λ (k : Node). done_of k t m) (others m ne);
  kept = λ m ne. ap (λ (k : Node). kept_of k t m) (others m ne);
}

-- if a node changes but for its stop and its epoch, then the stream sees it act
pub acts_stream : (old new : SystemState) (t : Stream) (n : ℕ) (after : Node) (allowed : Letter → Type 0) → Changes old new n after allowed
    → after.stopped ≡ (old.node n).stopped → after.epoch ≡ (old.node n).epoch → moves.Acts (stream_state old t) (stream_state new t) n
unfolding stream_state
acts_stream old new t n after allowed c stop epoch = record {
  setting = same_setting old new t c.views;
  others = same_others old new t n c.others;
  live = c.live;
  stopped = ap (λ (k : Node). k.stopped) c.node ∙ stop;
  epoch = ap (λ (k : Node). k.epoch) c.node ∙ epoch;
}

-- what a change of a node must leave, for the stream to see nothing of it
pub record IsQuiet (before after : Node) (t : Stream) (n : ℕ) : Type 0 where
  pub stopped : after.stopped ≡ before.stopped
  pub epoch : after.epoch ≡ before.epoch
  pub reported : after.reported ≡ before.reported
  pub done : done_of after t n ≡ done_of before t n
  pub kept : kept_of after t n ≡ kept_of before t n

-- a node that changes nothing of the stream, and says what it may
pub tells_stream : (old new : SystemState) (t : Stream) (n : ℕ) (after : Node) (allowed : Letter → Type 0) → Changes old new n after allowed
    → IsQuiet (old.node n) after t n → ((l : Letter) (m : Said) → allowed l → In m (says t l) → moves.IsTellable (stream_state old t) n m)
    → moves.Tells (stream_state old t) (stream_state new t) n
tells_stream old new t n after allowed c q hears = record {
  acts = acts_stream old new t n after allowed c q.stopped q.epoch;
  reported = reported_is old new t n after c.node q.reported;
  done = stream-done new t n ∙ ap (λ (k : Node). done_of k t n) c.node ∙ q.done ∙ sym (stream-done old t n);
  kept = stream-kept new t n ∙ ap (λ (k : Node). kept_of k t n) c.node ∙ q.kept ∙ sym (stream-kept old t n);
  sends = sends_stream old new t allowed (moves.IsTellable (stream_state old t) n) c.sends hears;
}
  where
    reported_is : (old new : SystemState) (t : Stream) (n : ℕ) (after : Node) → new.node n ≡ after → after.reported ≡ (old.node n).reported
        → (stream_state new t).reported n ≡ (stream_state old t).reported n
    reported_is old new t n after e r = stream-reported new t n ∙ ap (λ (k : Node). k.reported) e ∙ r ∙ sym (stream-reported old t n)

-- a change of the slots that leaves done and the pending entries of one
pub slots-quiet : (n m : Node) (t : Stream) (me : ℕ) → m.stopped ≡ n.stopped → m.epoch ≡ n.epoch → m.reported ≡ n.reported → m.logs ≡ n.logs
    → (me ≡ t.node → ((slot m t.slot).done ≡ (slot n t.slot).done) × ((slot m t.slot).pending ≡ (slot n t.slot).pending)) → IsQuiet n m t me
unfolding own_kept
slots-quiet n m t me stop epoch reported logs slots =
    elim (same_or_not me t.node) [
      | inl own ↦ record {
        stopped = stop;
        epoch = epoch;
        reported = reported;
        done = own-done m t me own ∙ (slots own).0 ∙ sym (own-done n t me own);
        kept = own-kept m t me own ∙ ap (λ (ps : List Rattle.zeus_model.specs.declared.state.Pending.Pending). map Rattle.zeus_model.specs.Commit.as_kept ps) (slots own).1 ∙ sym (own-kept n t me own);
      }
      | inr foreign ↦ record {
        stopped = stop;
        epoch = epoch;
        reported = reported;
        done = log-done m t me foreign ∙ ap (λ (ls : List (List StreamLog)). (nth no_log (nth [] ls t.node) t.slot).done) logs ∙ sym (log-done n t me foreign);
        kept = log-kept m t me foreign ∙ ap (λ (ls : List (List StreamLog)). (nth no_log (nth [] ls t.node) t.slot).kept) logs ∙ sym (log-kept n t me foreign);
      }
    ]

-- a change of the logs that leaves one of them
pub logs-quiet : (n m : Node) (t : Stream) (me : ℕ) → m.stopped ≡ n.stopped → m.epoch ≡ n.epoch → m.reported ≡ n.reported → m.slots ≡ n.slots
    → log m t ≡ log n t → IsQuiet n m t me
unfolding own_kept
logs-quiet n m t me stop epoch reported slots logs =
    elim (same_or_not me t.node) [
      | inl own ↦ record {
        stopped = stop;
        epoch = epoch;
        reported = reported;
        done = own-done m t me own ∙ ap (λ (ss : List Slot). (nth no_slot ss t.slot).done) slots ∙ sym (own-done n t me own);
        kept = own-kept m t me own ∙ ap (λ (ss : List Slot). map Rattle.zeus_model.specs.Commit.as_kept (nth no_slot ss t.slot).pending) slots ∙ sym (own-kept n t me own);
      }
      | inr foreign ↦ record {
        stopped = stop;
        epoch = epoch;
        reported = reported;
        done = log-done m t me foreign ∙ ap (λ (l : StreamLog). l.done) logs ∙ sym (log-done n t me foreign);
        kept = log-kept m t me foreign ∙ ap (λ (l : StreamLog). l.kept) logs ∙ sym (log-kept n t me foreign);
      }
    ]

-- ---- one log, one slot

-- the stream whose log was written has that log
pub with_log-same : (n : Node) (s : Stream) (l : StreamLog) → log (with_log n s l) s ≡ l
with_log-same n s l =
    ap (λ (ls : List StreamLog). nth no_log ls s.slot) (nth-put_same [] n.logs s.node (put no_log (nth [] n.logs s.node) s.slot l))
    ∙ nth-put_same no_log (nth [] n.logs s.node) s.slot l

-- each other stream has its log as before
pub with_log-other : (n : Node) (s t : Stream) (l : StreamLog) → s ≢ t → log (with_log n s l) t ≡ log n t
with_log-other n s t l ne =
    elim (same_or_not s.node t.node) [
      | inl same ↦
          let slots : s.slot ≢ t.slot = λ e. ne (stream_eq s t same e) in
          ap (λ (ls : List StreamLog). nth no_log ls t.slot)
          (ap (λ (k : ℕ). nth [] (put [] n.logs s.node (put no_log (nth [] n.logs s.node) s.slot l)) k) (sym same)
          ∙ nth-put_same [] n.logs s.node (put no_log (nth [] n.logs s.node) s.slot l))
          ∙ nth-put_other no_log (nth [] n.logs s.node) s.slot t.slot l slots
          ∙ ap (λ (k : ℕ). nth no_log (nth [] n.logs k) t.slot) same
      | inr other ↦
          ap (λ (ls : List StreamLog). nth no_log ls t.slot) (nth-put_other [] n.logs s.node t.node (put no_log (nth [] n.logs s.node) s.slot l) other)
    ]
  where
    stream_of : ℕ → ℕ → Stream
    stream_of k l = record { node = k; slot = l }

    stream_eq : (s t : Stream) → s.node ≡ t.node → s.slot ≡ t.slot → s ≡ t
    stream_eq s t a b = ap (λ (k : ℕ). stream_of k s.slot) a ∙ ap (λ (k : ℕ). stream_of t.node k) b

-- the slot that was written reads what was written
pub with_slot-same : (n : Node) (s : ℕ) (l : Slot) → slot (with_slot n s l) s ≡ l
with_slot-same n s l = nth-put_same no_slot n.slots s l

-- each other slot than the one written reads as before
pub with_slot-other : (n : Node) (s t : ℕ) (l : Slot) → s ≢ t → slot (with_slot n s l) t ≡ slot n t
with_slot-other n s t l ne = nth-put_other no_slot n.slots s t l ne
