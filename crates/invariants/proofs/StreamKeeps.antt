-- Each move of the machine keeps every stream replicated.
use Rattle.std.specs.Prelude.{ℕ, suc, ◌≡◌, ◌==◌, ◌≤◌, Option, true, false}
use Rattle.std.proofs.Common.{arith, refl, sym, ap, inl, inr, ◌∙◌}
use Rattle.std.proofs.lemmas.Bool.{cases_Bool}
use Rattle.zeus_base.specs.Nodes.{has}
use Rattle.zeus_base.specs.Order.{is_below}
use Rattle.zeus_base.specs.declared.order.Stamp.{Stamp}
use Rattle.zeus_base.specs.declared.order.Stream.{Stream}
use Rattle.zeus_model.specs.State.{Node, Slot, entry, gather, slot, with_entry, with_gather, with_copy}
use Rattle.zeus_model.specs.Local.{with_current}
use Rattle.zeus_model.specs.Ownership.{settle, settled_entry, gather_above, holding, driven, bring, brought}
use Rattle.zeus_packet.specs.Place.{new_place}
use Rattle.zeus_packet.specs.declared.place.Place.{Place}
use Rattle.zeus_packet.specs.declared.place.Proposal.{Proposal}
use Rattle.zeus_packet.specs.declared.write.Content.{Content}
use Rattle.zeus_model.specs.declared.state.Current.{Current}
use Rattle.machine_moves.specs.SystemState.{SystemState, IsLive, IsNumbered, Same, nothing}
use Rattle.machine_moves.specs.Move.{IsTellable, Move, Moves, none, next, makes_view, stops, installs, tells, turns, settles, drives, accepts, redrives, gathers, decides, raises, stores, notes_own, notes_kept, passes_own, passes_kept, reports, hears, commits}
use Rattle.machine_moves.proofs.Steady.{IsSteady, IsNumbered-steady, move_keep}
use Rattle.replication_safety.specs.StreamState.{StreamState}
use Rattle.replication_safety.specs.Moves as moves
use Rattle.replication_safety.specs.ReplicationInvariant.{ReplicationInvariant}
use Rattle.replication_safety.proofs.Acks.{keeps_NotesAck}
use Rattle.replication_safety.proofs.Appends.{keeps_Commits, keeps_StoresNext}
use Rattle.replication_safety.proofs.Drops.{keeps_Raises}
use Rattle.replication_safety.proofs.Letters.{keeps_Tells}
use Rattle.replication_safety.proofs.Passing.{keeps_PassesFirst_again, keeps_PassesFirst_first}
use Rattle.replication_safety.proofs.Reports.{keeps_ReportsItself, keeps_Hears}
use Rattle.replication_safety.proofs.Views.{keeps_Stops, keeps_Installs, keeps_NewView}
use Rattle.invariants.specs.Streams.{stream_state}
use Rattle.invariants.proofs.AboutStreams.{sends_stream}
use Rattle.invariants.proofs.StreamFrames.{IsQuiet, stream-stopped, same_setting, tells_stream, slots-quiet, with_slot-same, with_slot-other}
use Rattle.invariants.proofs.StreamSeen.{Seen, viewed, stopped, installed, told, reports_itself, heard, committed_by, stored_next, raised, noted as noted_ack, passed_first, actor, standing, same_fields, sees_nothing, sees_proposal, sees_view, sees_stop, sees_install, sees_report, sees_hear, tellable-stream}
use Rattle.invariants.proofs.StreamEntries.{sees_raise, sees_store, sees_note_own, sees_note_kept, sees_pass_own, sees_pass_kept, sees_commit}
use Rattle.invariants.proofs.ObjectSeen.{same_or_not}

-- a live node is a member of its own epoch
own_member : (old : SystemState) (t : Stream) (n passed : ℕ) → IsNumbered old → ReplicationInvariant (stream_state old t) passed → IsLive old n → has n (old.node n).members ≡ true
own_member old t n passed numbered replication live =
    let lives : (stream_state old t).stopped n ≡ false = stream-stopped old t n ∙ live in
    rw (actor old t n numbered live).members (replication.viewed.live n ((stream_state old t).epoch n) lives (replication.viewed.epochs n lives))

-- a change of a node but for its slots and logs is quiet
pub still : (n m : Node) (t : Stream) (k : ℕ) → m.stopped ≡ n.stopped → m.epoch ≡ n.epoch → m.reported ≡ n.reported → m.slots ≡ n.slots → m.logs ≡ n.logs → IsQuiet n m t k
still n m t k stop epoch reported slots logs =
    record { stopped = stop; epoch = epoch; reported = reported; done = (standing n m t k slots logs).0; kept = (standing n m t k slots logs).1 }

-- a settled placement changes neither slots nor logs
settle_still : (n : Node) (x : ℕ) (stamp : Stamp) (place : Place) (t : Stream) (k : ℕ) → IsQuiet n (settle n x stamp place) t k
unfolding settle
settle_still n x stamp place t k = elim (cases_Bool (is_below (entry n x).stamp stamp)) [
  | inl above ↦ rw above (still n (with_gather (with_entry n x (settled_entry (entry n x) stamp place)) x (gather_above stamp (gather n x))) t k refl refl refl refl refl)
  | inr not_above ↦ rw not_above (still n n t k refl refl refl refl refl)
]

bring_still : (n : Node) (x : ℕ) (p : Proposal) (c : Content) (t : Stream) (k : ℕ) → IsQuiet n (bring n x p c) t k
unfolding bring
bring_still n x p c t k = elim (cases_Bool (p.requester == n.me)) [
  | inl same ↦ rw same (still n (with_copy n x (brought p.want c)) t k refl refl refl refl refl)
  | inr other ↦ rw other (still n n t k refl refl refl refl refl)
]

quiet-then : (a b c : Node) (t : Stream) (k : ℕ) → IsQuiet a b t k → IsQuiet b c t k → IsQuiet a c t k
quiet-then a b c t k f g =
    record { stopped = g.stopped ∙ f.stopped; epoch = g.epoch ∙ f.epoch; reported = g.reported ∙ f.reported; done = g.done ∙ f.done; kept = g.kept ∙ f.kept }

-- another current transaction leaves the entries of the slot
turn_still : (n : Node) (s k : ℕ) (c : Option Current) (t : Stream) → IsQuiet n (with_current n s c) t k
turn_still n s k c t =
    slots-quiet n (with_current n s c) t k refl refl refl refl
    (λ home. elim (same_or_not s t.slot) [
      | inl same ↦
          let at : slot (with_current n s c) t.slot ≡ record { current = c; done = (slot n s).done; pending = (slot n s).pending } =
          ap (λ (j : ℕ). slot (with_current n s c) j) (sym same) ∙ with_slot-same n s record { current = c; done = (slot n s).done; pending = (slot n s).pending } in (
            ap (λ (l : Slot). l.done) at ∙ ap (λ (j : ℕ). (slot n j).done) same,
            ap (λ (l : Slot). l.pending) at ∙ ap (λ (j : ℕ). (slot n j).pending) same,
          )
      | inr other ↦
          let at : slot (with_current n s c) t.slot ≡ slot n t.slot = with_slot-other n s t.slot record { current = c; done = (slot n s).done; pending = (slot n s).pending } other in
          (ap (λ (l : Slot). l.done) at, ap (λ (l : Slot). l.pending) at)
    ])

-- each stream sees one of its moves
pub sees_move : (old new : SystemState) (t : Stream) (passed : ℕ) → IsNumbered old → ReplicationInvariant (stream_state old t) passed → Move old new → Seen (stream_state old t) (stream_state new t) passed
sees_move old new t passed numbered replication (makes_view set v) = sees_view old new t passed set v
sees_move old new t passed numbered replication (stops n c) = sees_stop old new t n passed c
sees_move old new t passed numbered replication (installs n e later within c) = sees_install old new t n e passed later within c
sees_move old new t passed numbered replication (tells n c) =
    told n (tells_stream old new t n (old.node n) (IsTellable (old.node n)) c (still (old.node n) (old.node n) t n refl refl refl refl refl)
    (λ l m allowed i. tellable-stream old t n l m numbered c.live (own_member old t n passed numbered replication c.live) allowed i))
sees_move old new t passed numbered replication (turns n s cu c) = sees_nothing old new t n passed (with_current (old.node n) s cu) c (turn_still (old.node n) s n cu t)
sees_move old new t passed numbered replication (settles n y stamp place l r s above c) =
    sees_nothing old new t n passed (settle (old.node n) y stamp place) c (settle_still (old.node n) y stamp place t n)
sees_move old new t passed numbered replication (drives n y requester want may c acked) =
    sees_proposal old new t n y passed (driven (old.node n) y requester want) (holding (old.node n) y (driven (old.node n) y requester want)) c
    (still (old.node n) (holding (old.node n) y (driven (old.node n) y requester want)) t n refl refl refl refl refl)
sees_move old new t passed numbered replication (accepts n y p may c acked) =
    sees_proposal old new t n y passed p (holding (old.node n) y p) c (still (old.node n) (holding (old.node n) y p) t n refl refl refl refl refl)
sees_move old new t passed numbered replication (redrives n y p held opened sourced c) =
    sees_proposal old new t n y passed p (old.node n) c (still (old.node n) (old.node n) t n refl refl refl refl refl)
sees_move old new t passed numbered replication (gathers n y from p co l body sender r below greatest c) =
    sees_nothing old new t n passed _ c (still (old.node n) _ t n refl refl refl refl refl)
sees_move old new t passed numbered replication (decides n y g co gathered decidable content c) =
    sees_nothing old new t n passed (bring (settle (old.node n) y g.proposal.stamp (new_place g.proposal)) y g.proposal co) c
    (quiet-then (old.node n) (settle (old.node n) y g.proposal.stamp (new_place g.proposal)) _ t n
    (settle_still (old.node n) y g.proposal.stamp (new_place g.proposal) t n)
    (bring_still (settle (old.node n) y g.proposal.stamp (new_place g.proposal)) y g.proposal co t n))
sees_move old new t passed numbered replication (raises n d s l foreign r is above c) =
    sees_raise old new t s n d passed replication record { letter = l; receivable = r; foreign = foreign; raising = is; above = above } c
sees_move old new t passed numbered replication (stores n r l foreign g body low number room c) =
    sees_store old new t n passed r record { letter = l; receivable = g; body = body; foreign = foreign; passed = low; number = number } c
sees_move old new t passed numbered replication (notes_own n s i from l r sender body within c) =
    sees_note_own old new t n s i passed record { from = from; letter = l; receivable = r; sender = sender; body = body } within c
sees_move old new t passed numbered replication (notes_kept n i from s l foreign r sender body within c) =
    sees_note_kept old new t s n i passed foreign record { from = from; letter = l; receivable = r; sender = sender; body = body } within c
sees_move old new t passed numbered replication (passes_own n s some ok c) = sees_pass_own old new t n s passed numbered some ok c
sees_move old new t passed numbered replication (passes_kept n s out foreign some ok c) = sees_pass_kept old new t s n passed numbered out foreign some ok c
sees_move old new t passed numbered replication (reports n empty c) = sees_report old new t n passed numbered (own_member old t n passed numbered replication c.live) empty c
sees_move old new t passed numbered replication (hears n m l body sender r c) = sees_hear old new t n m passed l body sender r c
sees_move old new t passed numbered replication (commits n s cu within is no_cause c) = sees_commit old new t n s passed cu replication no_cause c

-- replicated, whatever has passed
abbrev pub IsKept : StreamState → Type 0
IsKept l = (passed : ℕ) × ReplicationInvariant l passed

-- if the invariant holds of a stream, then also after each move that it sees
pub seen-keeps : (old new : StreamState) (passed : ℕ) → ReplicationInvariant old passed → Seen old new passed → IsKept new
seen-keeps old new passed r (viewed set v) = (passed, keeps_NewView old new passed set r v)
seen-keeps old new passed r (stopped n s) = (passed, keeps_Stops old new passed n r s)
seen-keeps old new passed r (installed n e i) = (passed, keeps_Installs old new passed n e r i)
seen-keeps old new passed r (told n t) = (passed, keeps_Tells old new passed n r t)
seen-keeps old new passed r (reports_itself n p) = (passed, keeps_ReportsItself old new passed n r p)
seen-keeps old new passed r (heard n m h) = (passed, keeps_Hears old new passed n m r h)
seen-keeps old new passed r (committed_by x c) = (passed, keeps_Commits old new passed x r c)
seen-keeps old new passed r (stored_next n x s) = (passed, keeps_StoresNext old new passed n x r s)
seen-keeps old new passed r (raised n d s) = (passed, keeps_Raises old new passed n d r s)
seen-keeps old new passed r (noted_ack n k a s) = (passed, keeps_NotesAck old new passed n k a r s)
seen-keeps old new passed r (passed_first n s) =
    elim (same_or_not (old.done n) passed) [
      | inl first ↦ (suc passed, keeps_PassesFirst_first old new passed n r s first)
      | inr again ↦ let low : old.done n ≤ passed = r.most n in (passed, keeps_PassesFirst_again old new passed n r s (omega arith))
    ]

-- a move keeps every stream replicated
pub move-replicates : (old new : SystemState) (t : Stream) → IsNumbered old → IsKept (stream_state old t) → Move old new → IsKept (stream_state new t)
move-replicates old new t numbered before move = seen-keeps (stream_state old t) (stream_state new t) before.0 before.1 (sees_move old new t before.0 numbered before.1 move)

-- past the last node stands a stopped one, so that nothing happens where it stops again
outside_stopped : (s : SystemState) (t : Stream) → IsNumbered s → (stream_state s t).stopped s.config.nodes ≡ true
outside_stopped s t numbered = stream-stopped s t s.config.nodes ∙ elim (cases_Bool (s.node s.config.nodes).stopped) [
  | inl stop ↦ stop
  | inr live ↦ let within = numbered.within s.config.nodes live in absurd (omega arith)
]

-- if the invariant holds of a stream, then also in a system that is the same
pub system-same-replicates : (old new : SystemState) (t : Stream) → IsNumbered old → Same old new → IsKept (stream_state old t) → IsKept (stream_state new t)
system-same-replicates old new t numbered s before =
    let m : ℕ = old.config.nodes in (
      before.0,
      keeps_Stops (stream_state old t) (stream_state new t) before.0 m before.1 record {
        setting = same_setting old new t s.views;
        others = record {
          stopped = λ k ne. (same_fields old new t k (s.nodes k)).0;
          epoch = λ k ne. (same_fields old new t k (s.nodes k)).1;
          reported = λ k ne. (same_fields old new t k (s.nodes k)).2;
          done = λ k ne. (same_fields old new t k (s.nodes k)).3;
          kept = λ k ne. (same_fields old new t k (s.nodes k)).4;
        };
        stopped = (same_fields old new t m (s.nodes m)).0 ∙ outside_stopped old t numbered;
        epoch = (same_fields old new t m (s.nodes m)).1;
        reported = (same_fields old new t m (s.nodes m)).2;
        done = (same_fields old new t m (s.nodes m)).3;
        kept = (same_fields old new t m (s.nodes m)).4;
        sends = sends_stream old new t nothing moves.nothing s.sends (λ l k none_at i. none_at);
      },
    )

-- moves one after another keep every stream replicated
pub moves-replicate : (old new : SystemState) (t : Stream) → IsSteady old → IsKept (stream_state old t) → Moves old new → IsKept (stream_state new t)
moves-replicate old new t steady before (none _ _ s) = system-same-replicates old new t (IsNumbered-steady old steady) s before
moves-replicate old new t steady before (next _ mid _ move more) =
    moves-replicate mid new t (move_keep old mid move steady) (move-replicates old mid t (IsNumbered-steady old steady) before move) more
