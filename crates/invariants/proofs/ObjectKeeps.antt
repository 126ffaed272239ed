-- Each move of the machine keeps every object in order.
use Rattle.std.specs.Prelude.{ℕ, ◌≡◌, ◌++◌, List, [], ◌∷◌}
use Rattle.std.proofs.Common.{arith, refl, sym, ap, inl, inr, ◌∙◌}
use Rattle.zeus_base.specs.OrderLaws.{is_below-irrefl}
use Rattle.zeus_packet.specs.declared.place.Proposal.{Proposal}
use Rattle.zeus_model.specs.State.{Node}
use Rattle.zeus_model.specs.declared.state.Entry.{Entry}
use Rattle.machine_moves.specs.SystemState.{SystemState, IsNumbered, Same, nothing}
use Rattle.machine_moves.specs.Move.{IsTellable, Move, Moves, none, next, makes_view, stops, installs, tells, turns, settles, drives, accepts, redrives, gathers, decides, raises, stores, notes_own, notes_kept, passes_own, passes_kept, reports, hears, commits}
use Rattle.ownership_safety.specs.Object.{Object, Invalidates, Acknowledges, In, rank, Letter as Said}
use Rattle.ownership_safety.specs.Moves as moves
use Rattle.ownership_safety.specs.OwnershipInvariant.{OwnershipInvariant, IsViewed}
use Rattle.ownership_safety.proofs.KeepsGathers.{keeps_Notes, keeps_Tells}
use Rattle.ownership_safety.proofs.KeepsSettled.{keeps_Settles, keeps_Decides}
use Rattle.ownership_safety.proofs.KeepsSpeech.{keeps_Drives, keeps_Accepts, keeps_Redrives}
use Rattle.ownership_safety.proofs.KeepsViews.{nothing-only, quiet-node, entries-ownership, told-kept, keeps_NewView, keeps_Stops, keeps_Installs}
use Rattle.ownership_safety.proofs.NothingSaid.{Quiet, gather-grows}
use Rattle.machine_moves.proofs.Steady.{IsSteady, IsNumbered-steady, move_keep}
use Rattle.invariants.specs.Objects.{object}
use Rattle.invariants.proofs.AboutObjects.{sends_object}
use Rattle.invariants.proofs.Frames.{raise-quiet}
use Rattle.invariants.proofs.ObjectMoves.{tells_object, same_setting, same_stopped, same_epoch, same_entry_as, same_gather_as}
use Rattle.invariants.proofs.ObjectSteps.{tellable-says}
use Rattle.invariants.proofs.ObjectSeen.{Seen, viewed, stopped, installed, settled, driven_by, accepted, redriven, noted_by, decided, told, sees_nothing, sees_view, sees_stop, sees_install, sees_settle, sees_drive, sees_accept, sees_redrive, sees_gather, sees_decide}

-- each object sees one of its moves
pub sees_move : (old new : SystemState) (x : ℕ) (chain : List Proposal) → IsNumbered old → OwnershipInvariant (object old x) chain → Move old new
    → Seen (object old x) (object new x) chain
sees_move old new x chain numbered ownership (makes_view set v) = sees_view old new x chain set v
sees_move old new x chain numbered ownership (stops n c) = sees_stop old new x n chain numbered c
sees_move old new x chain numbered ownership (installs n e later within c) = sees_install old new x n e chain numbered later within c
sees_move old new x chain numbered ownership (tells n c) =
    told n (tells_object old new x n (old.node n) (IsTellable (old.node n)) numbered c refl refl refl refl (λ l m t i. tellable-says (old.node n) x l m t i))
sees_move old new x chain numbered ownership (turns n s cu c) = sees_nothing old new x n _ chain numbered c record { stopped = refl; epoch = refl; entry = refl; gather = refl }
sees_move old new x chain numbered ownership (settles n y stamp place l r s above c) =
    sees_settle old new x n y chain numbered ownership record { stamp = stamp; place = place; letter = l; receivable = r; settling = s; above = above } c
sees_move old new x chain numbered ownership (drives n y requester want may c acked) = sees_drive old new x n y requester want chain numbered may c acked
sees_move old new x chain numbered ownership (accepts n y p may c acked) = sees_accept old new x n y p chain numbered ownership may c acked
sees_move old new x chain numbered ownership (redrives n y p held open_now sourced c) = sees_redrive old new x n y p chain numbered held c
sees_move old new x chain numbered ownership (gathers n y from p co l body sender r below greatest c) =
    sees_gather old new x n y chain numbered
    record { from = from; proposal = p; content = co; letter = l; body = body; sender = sender; receivable = r; below = below; greatest = greatest } c
sees_move old new x chain numbered ownership (decides n y g co gathered decidable content c) =
    sees_decide old new x n y g co chain numbered ownership record { gathered = gathered; decidable = decidable; content = content } c
sees_move old new x chain numbered ownership (raises n d s l foreign r is above c) = sees_nothing old new x n _ chain numbered c (raise-quiet (old.node n) s d x)
sees_move old new x chain numbered ownership (stores n r l foreign is body low number room c) = sees_nothing old new x n _ chain numbered c record { stopped = refl; epoch = refl; entry = refl; gather = refl }
sees_move old new x chain numbered ownership (notes_own n s i from l r sender body within c) = sees_nothing old new x n _ chain numbered c record { stopped = refl; epoch = refl; entry = refl; gather = refl }
sees_move old new x chain numbered ownership (notes_kept n i from s l foreign r sender body within c) = sees_nothing old new x n _ chain numbered c record { stopped = refl; epoch = refl; entry = refl; gather = refl }
sees_move old new x chain numbered ownership (passes_own n s some passes c) = sees_nothing old new x n _ chain numbered c record { stopped = refl; epoch = refl; entry = refl; gather = refl }
sees_move old new x chain numbered ownership (passes_kept n s out foreign some passes c) = sees_nothing old new x n _ chain numbered c record { stopped = refl; epoch = refl; entry = refl; gather = refl }
sees_move old new x chain numbered ownership (reports n empty c) = sees_nothing old new x n _ chain numbered c record { stopped = refl; epoch = refl; entry = refl; gather = refl }
sees_move old new x chain numbered ownership (hears n m l body sender r c) = sees_nothing old new x n _ chain numbered c record { stopped = refl; epoch = refl; entry = refl; gather = refl }
sees_move old new x chain numbered ownership (commits n s cu within is no_cause c) = sees_nothing old new x n _ chain numbered c record { stopped = refl; epoch = refl; entry = refl; gather = refl }

-- in order, whatever the chain
abbrev pub IsInOrder : Object → Type 0
IsInOrder o = (chain : List Proposal) × OwnershipInvariant o chain

-- if the invariant holds of an object, then after each move that it sees it is in order
pub seen-keeps : (old new : Object) (chain : List Proposal) → OwnershipInvariant old chain → Seen old new chain → IsInOrder new
seen-keeps old new chain ownership (viewed set v) = (chain, keeps_NewView old new set v chain ownership)
seen-keeps old new chain ownership (stopped n s) = (chain, keeps_Stops old new n s chain ownership)
seen-keeps old new chain ownership (installed n e i) = (chain, keeps_Installs old new n e i chain ownership)
seen-keeps old new chain ownership (settled n u s) = (chain, keeps_Settles old new chain ownership n u s)
seen-keeps old new chain ownership (driven_by n p d) = (chain, keeps_Drives old new n p d chain ownership)
seen-keeps old new chain ownership (accepted n p a) = (chain, keeps_Accepts old new n p a chain ownership)
seen-keeps old new chain ownership (redriven n p r) = (chain, keeps_Redrives old new n p r chain ownership)
seen-keeps old new chain ownership (noted_by n p a c t) = (chain, keeps_Notes old new n p a c t chain ownership)
seen-keeps old new chain ownership (decided n g d) =
    elim (keeps_Decides old new chain ownership n g d) [
      | inl again ↦ (chain, again.ownership)
      | inr first ↦ (chain ++ g.proposal ∷ [], first.ownership)
    ]
seen-keeps old new chain ownership (told n t) = (chain, keeps_Tells old new n t chain ownership)

-- a move keeps every object in order
pub move-orders : (old new : SystemState) (x : ℕ) → IsNumbered old → IsInOrder (object old x) → Move old new → IsInOrder (object new x)
move-orders old new x numbered before move = seen-keeps (object old x) (object new x) before.0 before.1 (sees_move old new x before.0 numbered before.1 move)

-- ---- the order of letters

-- where nothing has changed but the order of the letters, the object is in order as before
pub same-orders : (old new : Object) → moves.SameSetting old new → ((m : ℕ) → new.stopped m ≡ old.stopped m) → ((m : ℕ) → new.epoch m ≡ old.epoch m)
    → ((m : ℕ) → new.entry m ≡ old.entry m) → ((m : ℕ) → new.gather m ≡ old.gather m) → moves.Sends old new moves.nothing → IsInOrder old → IsInOrder new
same-orders old new setting stop epoch entries gathered sends before =
    let others : moves.SameOthers old new 0 = record { stopped = λ m ne. stop m; epoch = λ m ne. epoch m; entry = λ m ne. entries m; gather = λ m ne. gathered m } in
    let back : (l : Said) → In l new.letters → In l old.letters = nothing-only old new sends in
    let quiet : Quiet old new =
    quiet-node old new 0 setting others (λ h. stop 0 ∙ h) (omega (arith, epoch 0))
    (rw (entries 0) (is_below-irrefl (rank old 0))) (rw (entries 0) (is_below-irrefl (old.entry 0).stamp)) sends.kept
    (λ from to e p i. back (Invalidates from to e p) i) (λ from to e p c i. back (Acknowledges from to e p c) i) in
    let was : IsViewed old = before.1.viewed in
    let is : IsViewed new = record {
      rising = λ e. rw setting.views (was.rising e);
      shrinking = λ e v w. rw setting.views (was.shrinking e (rw setting.views at v) (rw setting.views at w));
      live = λ n e h v. rw setting.views (was.live n e (sym (stop n) ∙ h) (rw setting.views at v));
      epochs = λ n h. rw (epoch n, setting.views) (was.epochs n (sym (stop n) ∙ h));
      invalidations = λ from to e p i. rw (epoch from, setting.views) (was.invalidations from to e p (back (Invalidates from to e p) i));
      acknowledgements = λ from to e p c i. rw (epoch from, setting.views) (was.acknowledgements from to e p c (back (Acknowledges from to e p c) i));
    } in (
      before.0,
      entries-ownership old new before.0 before.1 quiet is entries
          (λ m g h. gather-grows old new quiet.grows m (ap (λ (e : Entry). e.stamp) (entries m)) (epoch m) g (before.1.gathers m g (sym (gathered m) ∙ h)))
          (λ t place i. told-kept old new before.0 before.1 quiet.grows sends t place i),
    )

-- if an object is in order, then so it is in a system that is the same
pub system-same-orders : (old new : SystemState) (x : ℕ) → Same old new → IsInOrder (object old x) → IsInOrder (object new x)
system-same-orders old new x s before =
    same-orders (object old x) (object new x) (same_setting old new x s.config s.views)
    (λ m. same_stopped old new x m (ap (λ (k : Node). k.stopped) (s.nodes m)))
    (λ m. same_epoch old new x m (ap (λ (k : Node). k.epoch) (s.nodes m)))
    (λ m. same_entry_as old new x m s.config (s.nodes m))
    (λ m. same_gather_as old new x m s.config (s.nodes m))
    (sends_object old new x nothing moves.nothing s.sends (λ l m none i. none)) before

-- moves one after another keep every object in order
pub moves-order : (old new : SystemState) (x : ℕ) → IsSteady old → IsInOrder (object old x) → Moves old new → IsInOrder (object new x)
moves-order old new x steady before (none _ _ s) = system-same-orders old new x s before
moves-order old new x steady before (next _ mid _ move more) =
    moves-order mid new x (move_keep old mid move steady) (move-orders old mid x (IsNumbered-steady old steady) before move) more
