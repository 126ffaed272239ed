-- Each move of the machine, as each stream sees it.
use Rattle.std.specs.Prelude.{ℕ, ◌≡◌, ◌≢◌, ◌==◌, ◌<◌, ◌≤◌, ◌+◌, ◌-◌, true, false, List, [], ◌∷◌, ◌++◌, map, length, if◌then◌else◌, ◌⊎◌}
use Rattle.std.proofs.Common.{arith, refl, sym, ap, inl, inr, ◌∙◌, subst}
use Rattle.std.proofs.lemmas.Bool.{cases_Bool}
use Rattle.std.proofs.lemmas.List.{length-map}
use Rattle.zeus_base.specs.Nodes.{has, with_node, is_subset}
use Rattle.zeus_base.specs.Order.{same_stream}
use Rattle.zeus_base.specs.OrderLaws.{same_stream-true, same_stream-from}
use Rattle.zeus_base.specs.declared.order.Stream.{Stream}
use Rattle.zeus_packet.specs.declared.letter.Body.TheVariants.{Recovered}
use Rattle.zeus_packet.specs.declared.letter.Letter.{Letter}
use Rattle.zeus_packet.specs.declared.place.Proposal.{Proposal}
use Rattle.zeus_model.specs.In.{In}
use Rattle.zeus_model.specs.Tables.{nth}
use Rattle.zeus_model.specs.State.{Node, Slot, StreamLog, no_slot, no_log, slot, log, own_stream}
use Rattle.zeus_model.specs.Commit.{as_kept, no_kept}
use Rattle.zeus_model.specs.declared.state.Kept.{Kept}
use Rattle.machine_moves.specs.Move.{IsTellable, IsAboutProposal, request, advice, placement, reported, own_entry, kept_entry, stored, own_passed, kept_passed, to_arbiter, to_collector, own_kept}
use Rattle.machine_moves.specs.SystemState.{SystemState, IsLive, IsNumbered, IsReceivable, Changes, NewView, nothing}
use Rattle.replication_safety.specs.StreamState.{StreamState, Entry, Stores, Stored, Passes, Reports, Has, IsOut, kept_at, entry_of, top, Letter as Said}
use Rattle.replication_safety.specs.Moves as moves
use Rattle.invariants.specs.Streams.{stream_state, about, said_of, done_of, kept_of}
use Rattle.invariants.proofs.AboutStreams.{says, about-in, only_of-from, says-recovered, sends_stream}
use Rattle.invariants.proofs.AboutObjects.{In-one}
use Rattle.invariants.proofs.ObjectSeen.{installed_node}
use Rattle.invariants.proofs.StreamFrames.{IsQuiet, stream-done, stream-kept, stream-home, stream-reported, own-done, own-kept, log-done, log-kept, same_setting, same_others, acts_stream, tells_stream}

-- what a stream sees of a move
pub data Seen (old new : StreamState) (passed : ℕ) : Type 0 where
  viewed : (set : List ℕ) → moves.NewView old new set → Seen old new passed
  stopped : (n : ℕ) → moves.Stops old new n → Seen old new passed
  installed : (n e : ℕ) → moves.Installs old new n e → Seen old new passed
  told : (n : ℕ) → moves.Tells old new n → Seen old new passed
  reports_itself : (n : ℕ) → moves.ReportsItself old new n → Seen old new passed
  heard : (n m : ℕ) → moves.Hears old new n m → Seen old new passed
  committed_by : (x : Entry) → moves.Commits old new x → Seen old new passed
  stored_next : (n : ℕ) (x : Entry) → moves.StoresNext old new n x → Seen old new passed
  raised : (n d : ℕ) → moves.Raises old new passed n d → Seen old new passed
  noted : (n k a : ℕ) → moves.NotesAck old new n k a → Seen old new passed
  passed_first : (n : ℕ) → moves.PassesFirst old new n → Seen old new passed

-- a member and a node that is no member are two
pub outsider : (a b : ℕ) (ms : List ℕ) → has a ms ≡ true → has b ms ≡ false → a ≢ b
outsider a b ms h g e = cc

-- a stream is the same as another or not
pub stream_cases : (s t : Stream) → (s ≡ t) ⊎ (s ≢ t)
stream_cases s t = elim (cases_Bool (same_stream s t)) [
  | inl same ↦ inl (same_stream-true s t same)
  | inr other ↦ inr (λ e. let same : same_stream s t ≡ true = same_stream-from s t e in cc)
]

-- a move that the stream sees nothing of
pub sees_nothing : (old new : SystemState) (t : Stream) (n passed : ℕ) (after : Node) → Changes old new n after nothing
    → IsQuiet (old.node n) after t n → Seen (stream_state old t) (stream_state new t) passed
sees_nothing old new t n passed after c q = told n (tells_stream old new t n after nothing c q (λ l m none i. absurd none))

-- letters about proposals say nothing of a stream
pub about_proposal-silent : (n : Node) (x : ℕ) (p : Proposal) (t : Stream) (l : Letter) (m : Said) → IsAboutProposal n x p l → In m (says t l) → ⊥
unfolding said_of
about_proposal-silent n x p t l m (to_arbiter to h) i = elim i [ ]
about_proposal-silent n x p t l m (to_collector to h r) i = elim i [ ]

-- if a node changes nothing of the stream and sends letters about a proposal, then the stream sees a move
pub sees_proposal : (old new : SystemState) (t : Stream) (n x passed : ℕ) (p : Proposal) (after : Node) → Changes old new n after (IsAboutProposal (old.node n) x p)
    → IsQuiet (old.node n) after t n → Seen (stream_state old t) (stream_state new t) passed
sees_proposal old new t n x passed p after c q =
    told n (tells_stream old new t n after (IsAboutProposal (old.node n) x p) c q (λ l m about i. absurd (about_proposal-silent (old.node n) x p t l m about i)))

-- ---- what the node that acts knows

-- the node has its number, and the members and the epoch that the stream sees
pub record IsActor (old : SystemState) (t : Stream) (n : ℕ) : Type 0 where
  pub me : (old.node n).me ≡ n
  pub members : (old.node n).members ≡ Rattle.replication_safety.specs.StreamState.view (stream_state old t) ((stream_state old t).epoch n)
  pub epoch : (stream_state old t).epoch n ≡ (old.node n).epoch

-- a live node has its number, and the members and the epoch that the stream sees
pub actor : (old : SystemState) (t : Stream) (n : ℕ) → IsNumbered old → IsLive old n → IsActor old t n
unfolding stream_state
actor old t n numbered live = record { me = numbered.me n live; members = numbered.members n live; epoch = refl }

-- at its home the stream has the count of its slot
pub own_done_is : (old : SystemState) (t : Stream) (n : ℕ) → n ≡ t.node → (stream_state old t).done n ≡ (slot (old.node n) t.slot).done
own_done_is old t n e = stream-done old t n ∙ own-done (old.node n) t n e

-- at its home the stream has the entries that its slot has pending
pub own_kept_is : (old : SystemState) (t : Stream) (n : ℕ) → n ≡ t.node → (stream_state old t).kept n ≡ own_kept (old.node n) t.slot
own_kept_is old t n e = stream-kept old t n ∙ own-kept (old.node n) t n e

-- at each other node the stream has the count of the stored stream
pub log_done_is : (old : SystemState) (t : Stream) (n : ℕ) → n ≢ t.node → (stream_state old t).done n ≡ (log (old.node n) t).done
log_done_is old t n ne = stream-done old t n ∙ log-done (old.node n) t n ne

-- at each other node the stream has the entries of the stored stream
pub log_kept_is : (old : SystemState) (t : Stream) (n : ℕ) → n ≢ t.node → (stream_state old t).kept n ≡ (log (old.node n) t).kept
log_kept_is old t n ne = stream-kept old t n ∙ log-kept (old.node n) t n ne

-- ---- what a node may tell of a stream

own_length : (n : Node) (s k : ℕ) → k < length (slot n s).pending → k < length (own_kept n s)
unfolding own_kept
own_length n s k h = rw (length-map (slot n s).pending as_kept) h

-- what the node n writes into letters about a stream that it keeps: its number, its epoch, how many entries have passed, and those that it keeps
record TellsKept (o : StreamState) (n : ℕ) : Type 0 where
  me : ℕ
  epoch : ℕ
  done : ℕ
  kept : List Kept
  me_is : me ≡ n
  epoch_is : o.epoch n ≡ epoch
  done_is : o.done n ≡ done
  kept_is : o.kept n ≡ kept

-- another member that follows the entry of the place k
record IsFollower (o : StreamState) (n to k : ℕ) (ks : List Kept) : Type 0 where
  within : k < length ks
  follower : has to (nth no_kept ks k).followers ≡ true
  member : has to (Rattle.replication_safety.specs.StreamState.view o (o.epoch n)) ≡ true
  other : to ≢ n

may_entry : (o : StreamState) (n to k : ℕ) (tells : TellsKept o n) → IsFollower o n to k tells.kept → (n ≡ o.home) ⊎ IsOut o (o.epoch n) o.home
    → moves.IsTellable o n (Stores tells.me to tells.epoch (tells.done + k) tells.done (entry_of (nth no_kept tells.kept k)))
may_entry o n to k tells is may =
    let within' : k < length (o.kept n) = rw tells.kept_is is.within in
    let follower' : has to (nth no_kept (o.kept n) k).followers ≡ true = rw tells.kept_is is.follower in
    let back : o.done n + k - o.done n ≡ k = omega arith in
    let follower_at : has to (kept_at o n (o.done n + k)).followers ≡ true = rw back follower' in
    let told_it : moves.IsTellable o n (Stores n to (o.epoch n) (o.done n + k) (o.done n) (entry_of (kept_at o n (o.done n + k)))) =
    moves.entry to (o.done n + k) (omega arith, omega arith) may follower_at is.member is.other in
    let told_k : moves.IsTellable o n (Stores n to (o.epoch n) (o.done n + k) (o.done n) (entry_of (nth no_kept (o.kept n) k))) =
    subst (λ (j : ℕ). moves.IsTellable o n (Stores n to (o.epoch n) (o.done n + k) (o.done n) (entry_of (nth no_kept (o.kept n) j)))) back told_it in
    rw (tells.me_is, ← tells.done_is, ← tells.kept_is, ← tells.epoch_is) told_k

-- what a node tells without a change of its state is what a stream's node may tell
pub tellable-stream : (old : SystemState) (t : Stream) (n : ℕ) (l : Letter) (m : Said) → IsNumbered old → IsLive old n → has n (old.node n).members ≡ true → IsTellable (old.node n) l → In m (says t l)
    → moves.IsTellable (stream_state old t) n m
unfolding said_of
tellable-stream old t n l m numbered live own_member (request to y w) i = elim i [ ]
tellable-stream old t n l m numbered live own_member (advice to y s c) i = elim i [ ]
tellable-stream old t n l m numbered live own_member (placement to y) i = elim i [ ]
tellable-stream old t n l m numbered live own_member (reported to r) i =
    let a : IsActor old t n = actor old t n numbered live in
    let same : m ≡ Reports (old.node n).me (old.node n).epoch = In-one m (Reports (old.node n).me (old.node n).epoch) i in
    let has_it : has n ((stream_state old t).reported n) ≡ true = rw (stream-reported old t n) (subst (λ (k : ℕ). has k (old.node n).reported ≡ true) a.me r) in
    rw (same, a.me, ← a.epoch) (moves.reported has_it)
tellable-stream old t n l m numbered live own_member (own_entry to s k within follower member other) i =
    let found = only_of-from t (own_stream (old.node n) s) m (Stores (old.node n).me to (old.node n).epoch ((slot (old.node n) s).done + k) (slot (old.node n) s).done (entry_of (nth no_kept (own_kept (old.node n) s) k))) i in
    let u : Stream = own_stream (old.node n) s in
    let a : IsActor old u n = actor old u n numbered live in
    let home : n ≡ (stream_state old u).home = sym a.me ∙ sym (stream-home old u) in
    subst (λ (v : Stream). moves.IsTellable (stream_state old v) n m) found.0
    (rw found.1 (may_entry (stream_state old u) n to k
    record {
      me = (old.node n).me;
      epoch = (old.node n).epoch;
      done = (slot (old.node n) s).done;
      kept = own_kept (old.node n) s;
      me_is = a.me;
      epoch_is = a.epoch;
      done_is = own_done_is old u n (sym a.me);
      kept_is = own_kept_is old u n (sym a.me);
    }
    record { within = own_length (old.node n) s k within; follower = follower; member = rw (← a.members) member; other = λ e. other (e ∙ sym a.me) } (inl home)))
tellable-stream old t n l m numbered live own_member (kept_entry to k s out within follower member other) i =
    let found = only_of-from t s m (Stores (old.node n).me to (old.node n).epoch ((log (old.node n) s).done + k) (log (old.node n) s).done (entry_of (nth no_kept (log (old.node n) s).kept k))) i in
    let a : IsActor old s n = actor old s n numbered live in
    let away : n ≢ s.node = outsider n s.node (old.node n).members own_member out in
    let out_now : IsOut (stream_state old s) ((stream_state old s).epoch n) (stream_state old s).home = rw (stream-home old s, ← a.members) out in
    subst (λ (v : Stream). moves.IsTellable (stream_state old v) n m) found.0
    (rw found.1 (may_entry (stream_state old s) n to k
    record {
      me = (old.node n).me;
      epoch = (old.node n).epoch;
      done = (log (old.node n) s).done;
      kept = (log (old.node n) s).kept;
      me_is = a.me;
      epoch_is = a.epoch;
      done_is = log_done_is old s n away;
      kept_is = log_kept_is old s n away;
    }
    record { within = within; follower = follower; member = rw (← a.members) member; other = λ e. other (e ∙ sym a.me) } (inr out_now)))
tellable-stream old t n l m numbered live own_member (stored to k s foreign below) i =
    let found = only_of-from t s m (Stored (old.node n).me k) i in
    let a : IsActor old s n = actor old s n numbered live in
    let away : n ≢ s.node = λ e. foreign (sym e ∙ sym a.me) in
    let below_top : k < top (stream_state old s) n = rw (log_done_is old s n away, log_kept_is old s n away) below in
    subst (λ (v : Stream). moves.IsTellable (stream_state old v) n m) found.0
    (rw (found.1, a.me) (moves.stored k (λ e. away (e ∙ stream-home old s)) below_top))
tellable-stream old t n l m numbered live own_member (own_passed to s d low other) i =
    let u : Stream = own_stream (old.node n) s in
    let found = only_of-from t u m (Passes to d) i in
    let a : IsActor old u n = actor old u n numbered live in
    let low' : d ≤ (stream_state old u).done n = rw (own_done_is old u n (sym a.me)) low in
    subst (λ (v : Stream). moves.IsTellable (stream_state old v) n m) found.0
    (rw found.1 (moves.passed to d low' (λ e. other (e ∙ stream-home old u))))
tellable-stream old t n l m numbered live own_member (kept_passed to d s foreign low other) i =
    let found = only_of-from t s m (Passes to d) i in
    let a : IsActor old s n = actor old s n numbered live in
    let away : n ≢ s.node = λ e. foreign (sym e ∙ sym a.me) in
    let low' : d ≤ (stream_state old s).done n = rw (log_done_is old s n away) low in
    subst (λ (v : Stream). moves.IsTellable (stream_state old v) n m) found.0
    (rw found.1 (moves.passed to d low' (λ e. other (e ∙ stream-home old s))))

-- ---- views, stops and installs

-- if a node stays, then all that the stream has of it stays
pub same_fields : (old new : SystemState) (t : Stream) (m : ℕ) → new.node m ≡ old.node m
    → ((stream_state new t).stopped m ≡ (stream_state old t).stopped m) × ((stream_state new t).epoch m ≡ (stream_state old t).epoch m) × ((stream_state new t).reported m ≡ (stream_state old t).reported m)
    × ((stream_state new t).done m ≡ (stream_state old t).done m) × ((stream_state new t).kept m ≡ (stream_state old t).kept m)
unfolding stream_state
same_fields old new t m e =
    (ap (λ (k : Node). k.stopped) e, ap (λ (k : Node). k.epoch) e, ap (λ (k : Node). k.reported) e, ap (λ (k : Node). done_of k t m) e, ap (λ (k : Node). kept_of k t m) e)

view_facts : (old new : SystemState) (t : Stream) (set : List ℕ) → NewView old new set
    → ((stream_state new t).home ≡ (stream_state old t).home) × ((stream_state new t).views ≡ (stream_state old t).views ++ set ∷ [])
    × (is_subset set (Rattle.replication_safety.specs.StreamState.view (stream_state old t) (length (stream_state old t).views)) ≡ true)
    × ((n : ℕ) → (stream_state old t).stopped n ≡ false → has n set ≡ true)
unfolding stream_state
view_facts old new t set v = (refl, v.views, v.subset, v.live)

-- if a view is made, then each stream sees a move
pub sees_view : (old new : SystemState) (t : Stream) (passed : ℕ) (set : List ℕ) → NewView old new set → Seen (stream_state old t) (stream_state new t) passed
sees_view old new t passed set v = viewed set record {
  home = (view_facts old new t set v).0;
  views = (view_facts old new t set v).1;
  subset = (view_facts old new t set v).2;
  live = (view_facts old new t set v).3;
  stopped = λ m. (same_fields old new t m (v.nodes m)).0;
  epoch = λ m. (same_fields old new t m (v.nodes m)).1;
  reported = λ m. (same_fields old new t m (v.nodes m)).2;
  done = λ m. (same_fields old new t m (v.nodes m)).3;
  kept = λ m. (same_fields old new t m (v.nodes m)).4;
  sends = sends_stream old new t nothing moves.nothing v.sends (λ l m none i. none);
}

-- if a node changes without a letter, then nothing is said of the stream
pub quiet_sends : (old new : SystemState) (t : Stream) (n : ℕ) (after : Node) → Changes old new n after nothing → moves.Sends (stream_state old t) (stream_state new t) moves.nothing
quiet_sends old new t n after c = sends_stream old new t nothing moves.nothing c.sends (λ l m none i. none)

-- the fields of the node that acted
pub after_fields : (old new : SystemState) (t : Stream) (n : ℕ) (after : Node) → new.node n ≡ after
    → ((stream_state new t).stopped n ≡ after.stopped) × ((stream_state new t).epoch n ≡ after.epoch) × ((stream_state new t).reported n ≡ after.reported)
    × ((stream_state new t).done n ≡ done_of after t n) × ((stream_state new t).kept n ≡ kept_of after t n)
unfolding stream_state
after_fields old new t n after e =
    (ap (λ (k : Node). k.stopped) e, ap (λ (k : Node). k.epoch) e, ap (λ (k : Node). k.reported) e, ap (λ (k : Node). done_of k t n) e, ap (λ (k : Node). kept_of k t n) e)

-- all that the stream has of a node is what the node has
pub before_fields : (old : SystemState) (t : Stream) (n : ℕ)
    → ((stream_state old t).stopped n ≡ (old.node n).stopped) × ((stream_state old t).epoch n ≡ (old.node n).epoch) × ((stream_state old t).reported n ≡ (old.node n).reported)
    × ((stream_state old t).done n ≡ done_of (old.node n) t n) × ((stream_state old t).kept n ≡ kept_of (old.node n) t n)
unfolding stream_state
before_fields old t n = (refl, refl, refl, refl, refl)

-- a change of nothing but a node's standing leaves its streams
pub standing : (n m : Node) (t : Stream) (k : ℕ) → m.slots ≡ n.slots → m.logs ≡ n.logs → (done_of m t k ≡ done_of n t k) × (kept_of m t k ≡ kept_of n t k)
unfolding done_of kept_of own_kept
standing n m t k slots logs = (
  ap (λ (z : List Slot). if k == t.node then (nth no_slot z t.slot).done else (nth no_log (nth [] m.logs t.node) t.slot).done) slots
      ∙ ap (λ (z : List (List StreamLog)). if k == t.node then (nth no_slot n.slots t.slot).done else (nth no_log (nth [] z t.node) t.slot).done) logs,
  ap (λ (z : List Slot). if k == t.node then map as_kept (nth no_slot z t.slot).pending else (nth no_log (nth [] m.logs t.node) t.slot).kept) slots
      ∙ ap (λ (z : List (List StreamLog)). if k == t.node then map as_kept (nth no_slot n.slots t.slot).pending else (nth no_log (nth [] z t.node) t.slot).kept) logs,
)

-- if a node stops, then each stream sees a move
pub sees_stop : (old new : SystemState) (t : Stream) (n passed : ℕ) → Changes old new n (record (old.node n) { stopped = true }) nothing → Seen (stream_state old t) (stream_state new t) passed
sees_stop old new t n passed c =
    let f = after_fields old new t n (record (old.node n) { stopped = true }) c.node in
    let b = before_fields old t n in
    let same = standing (old.node n) (record (old.node n) { stopped = true }) t n refl refl in
    stopped n record {
      setting = same_setting old new t c.views;
      others = same_others old new t n c.others;
      stopped = f.0;
      epoch = f.1 ∙ sym b.1;
      reported = f.2 ∙ sym b.2;
      done = f.3 ∙ same.0 ∙ sym b.3;
      kept = f.4 ∙ same.1 ∙ sym b.4;
      sends = quiet_sends old new t n (record (old.node n) { stopped = true }) c;
    }

install_facts : (old : SystemState) (t : Stream) (n e : ℕ) → (old.node n).epoch < e → e ≤ length old.views → ((stream_state old t).epoch n < e) × (e ≤ length (stream_state old t).views)
unfolding stream_state
install_facts old t n e later within = (later, within)

-- if a node installs a later epoch that has a view, then each stream sees a move
pub sees_install : (old new : SystemState) (t : Stream) (n e passed : ℕ) → (old.node n).epoch < e → e ≤ length old.views
    → Changes old new n (installed_node old n e) nothing → Seen (stream_state old t) (stream_state new t) passed
sees_install old new t n e passed later within c =
    let f = after_fields old new t n (installed_node old n e) c.node in
    let b = before_fields old t n in
    let same = standing (old.node n) (installed_node old n e) t n refl refl in
    installed n e record {
      setting = same_setting old new t c.views;
      others = same_others old new t n c.others;
      live = b.0 ∙ c.live;
      later = (install_facts old t n e later within).0;
      viewed = (install_facts old t n e later within).1;
      stopped = f.0 ∙ sym b.0;
      epoch = f.1;
      reported = f.2;
      done = f.3 ∙ same.0 ∙ sym b.3;
      kept = f.4 ∙ same.1 ∙ sym b.4;
      sends = quiet_sends old new t n (installed_node old n e) c;
    }

-- ---- reports

-- if a member has no entry of a node that is no member, and it reports, then each stream sees a move
pub sees_report : (old new : SystemState) (t : Stream) (n passed : ℕ) → IsNumbered old → has n (old.node n).members ≡ true
    → ((s : Stream) → has s.node (old.node n).members ≡ false → (log (old.node n) s).kept ≡ [])
    → Changes old new n (record (old.node n) { reported = with_node n (old.node n).reported }) nothing → Seen (stream_state old t) (stream_state new t) passed
sees_report old new t n passed numbered own_member empty c =
    let after : Node = record (old.node n) { reported = with_node n (old.node n).reported } in
    let f = after_fields old new t n after c.node in
    let b = before_fields old t n in
    let same = standing (old.node n) after t n refl refl in
    reports_itself n record {
      acts = acts_stream old new t n after nothing c refl refl;
      empty = λ out.
          let gone : has t.node (old.node n).members ≡ false = rw (actor old t n numbered c.live).members (rw (stream-home old t) at out) in
          let away : n ≢ t.node = outsider n t.node (old.node n).members own_member gone in
          log_kept_is old t n away ∙ empty t gone;
      reported = f.2 ∙ ap (λ (r : List ℕ). with_node n r) (sym b.2);
      done = f.3 ∙ same.0 ∙ sym b.3;
      kept = f.4 ∙ same.1 ∙ sym b.4;
      sends = quiet_sends old new t n after c;
    }

heard_letter : (old : SystemState) (t : Stream) (n m : ℕ) (l : Letter) → l.body ≡ Recovered → l.from ≡ m → IsReceivable old n l
    → In (Reports m ((stream_state old t).epoch n)) (stream_state old t).letters
unfolding stream_state
heard_letter old t n m l body sender r =
    let says_it : In (Reports l.from l.epoch) (says t l) = rw body (says-recovered t l.from l.to l.epoch) in
    let said : In (Reports l.from l.epoch) (about t old.letters) = about-in t (Reports l.from l.epoch) l old.letters r.2 says_it in
    rw (← sender, ← r.1) said

-- if a node hears that another has reported, then each stream sees a move
pub sees_hear : (old new : SystemState) (t : Stream) (n m passed : ℕ) (l : Letter) → l.body ≡ Recovered → l.from ≡ m → IsReceivable old n l
    → Changes old new n (record (old.node n) { reported = with_node m (old.node n).reported }) nothing → Seen (stream_state old t) (stream_state new t) passed
sees_hear old new t n m passed l body sender r c =
    let after : Node = record (old.node n) { reported = with_node m (old.node n).reported } in
    let f = after_fields old new t n after c.node in
    let b = before_fields old t n in
    let same = standing (old.node n) after t n refl refl in
    heard n m record {
      acts = acts_stream old new t n after nothing c refl refl;
      sent = heard_letter old t n m l body sender r;
      reported = f.2 ∙ ap (λ (k : List ℕ). with_node m k) (sym b.2);
      done = f.3 ∙ same.0 ∙ sym b.3;
      kept = f.4 ∙ same.1 ∙ sym b.4;
      sends = quiet_sends old new t n after c;
    }
