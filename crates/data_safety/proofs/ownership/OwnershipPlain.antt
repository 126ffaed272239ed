-- Each move of views, reports, letters and ownership keeps what holds of a run.
use Rattle.std.specs.Prelude.{◌≡◌}
use Rattle.machine_moves.specs.SystemState.{SystemState}
use Rattle.zeus_model.specs.Ownership.{gather_for, noted}
use Rattle.zeus_model.specs.State.{gather}
use Rattle.std.specs.Prelude.{Some}
use Rattle.machine_moves.specs.Move.{Move, makes_view, stops, installs, tells, turns, settles, drives, accepts, redrives, gathers, decides, raises, stores, notes_own, notes_kept, passes_own, passes_kept, reports, hears, commits}
use Rattle.data_safety.specs.RunState.{RunState, Witness}
use Rattle.data_safety.specs.DataInvariant.{DataInvariant}
use Rattle.data_safety.proofs.ownership.NoProposalSent.{stops-invariant, installs-invariant, gathers-invariant, reports-invariant, tells-invariant, notes_own-invariant, notes_kept-invariant, makes_view-invariant}
use Rattle.data_safety.proofs.ownership.OwnershipProposals.{drives-invariant, accepts-invariant, redrives-invariant}
use Rattle.data_safety.proofs.ownership.OwnershipSettles.{settles-invariant}
use Rattle.data_safety.proofs.ownership.OwnershipDecides.{decides-invariant}

-- the moves that neither store entries nor let them pass, nor touch the current transactions
unfoldable pub IsOwnershipMove : (old new : SystemState) → Move old new → Type 0
IsOwnershipMove old new (turns n s c h) = ⊥
IsOwnershipMove old new (raises n d s l a b e g h) = ⊥
IsOwnershipMove old new (stores n r l a b e g h i j) = ⊥
IsOwnershipMove old new (passes_own n s a b c) = ⊥
IsOwnershipMove old new (passes_kept n s a b c d e) = ⊥
IsOwnershipMove old new (commits n s c a b d e) = ⊥
IsOwnershipMove old new _ = Unit {0}

-- the data invariant, whatever the witness
abbrev pub HasDataInvariant : RunState → Type 0
HasDataInvariant z = (v : Witness) × DataInvariant z v

-- if a move of views, reports, letters or ownership leaves the book, then the invariant stays
pub ownership-invariant : (y z : RunState) (u : Witness) → DataInvariant y u → (move : Move y.system z.system) → IsOwnershipMove y.system z.system move → z.txs ≡ y.txs → z.book ≡ y.book → HasDataInvariant z
unfolding IsOwnershipMove
ownership-invariant y z u f (makes_view set v) h txs book = (u, makes_view-invariant y z u f set (makes_view set v) v txs book)
ownership-invariant y z u f (stops n c) h txs book = (u, stops-invariant y z u f n record { move = stops n c; change = c; txs = txs; book = book })
ownership-invariant y z u f (installs n e later within c) h txs book = (u, installs-invariant y z u f n e record { move = installs n e later within c; change = c; txs = txs; book = book })
ownership-invariant y z u f (tells n c) h txs book = (u, tells-invariant y z u f n record { move = tells n c; change = c; txs = txs; book = book })
ownership-invariant y z u f (turns n s cu c) h txs book = absurd h
ownership-invariant y z u f (settles n x stamp place l r is above c) h txs book = (
  u,
  settles-invariant y z u f n x record { stamp = stamp; place = place; letter = l; receivable = r; settling = is; above = above }
      record { move = settles n x stamp place l r is above c; change = c; txs = txs; book = book },
)
ownership-invariant y z u f (drives n x requester want may c acked) h txs book =
    (u, drives-invariant y z u f n x requester want may record { move = drives n x requester want may c acked; change = c; txs = txs; book = book })
ownership-invariant y z u f (accepts n x p may c acked) h txs book =
    (u, accepts-invariant y z u f n x p may acked record { move = accepts n x p may c acked; change = c; txs = txs; book = book })
ownership-invariant y z u f (redrives n x p held opened sourced c) h txs book =
    (u, redrives-invariant y z u f n x p held opened record { move = redrives n x p held opened sourced c; change = c; txs = txs; book = book })
ownership-invariant y z u f (gathers n x from p co l body sender r below greatest c) h txs book = (
  u,
  gathers-invariant y z u f n x (Some (noted (gather_for p (gather (y.system.node n) x)) from co))
      record { move = gathers n x from p co l body sender r below greatest c; change = c; txs = txs; book = book },
)
ownership-invariant y z u f (decides n x g co gathered decidable content c) h txs book =
    decides-invariant y z u f n x g co record { gathered = gathered; decidable = decidable; content = content }
    record { move = decides n x g co gathered decidable content c; change = c; txs = txs; book = book }
ownership-invariant y z u f (raises n d s l foreign r is above c) h txs book = absurd h
ownership-invariant y z u f (stores n r l foreign g body low number room c) h txs book = absurd h
ownership-invariant y z u f (notes_own n s i from l r sender body within c) h txs book =
    (u, notes_own-invariant y z u f n s i from within record { move = notes_own n s i from l r sender body within c; change = c; txs = txs; book = book })
ownership-invariant y z u f (notes_kept n i from s l foreign r sender body within c) h txs book =
    (u, notes_kept-invariant y z u f n i from s within record { move = notes_kept n i from s l foreign r sender body within c; change = c; txs = txs; book = book })
ownership-invariant y z u f (passes_own n s some ok c) h txs book = absurd h
ownership-invariant y z u f (passes_kept n s out foreign some ok c) h txs book = absurd h
ownership-invariant y z u f (reports n empty c) h txs book = (u, reports-invariant y z u f n n record { move = reports n empty c; change = c; txs = txs; book = book })
ownership-invariant y z u f (hears n m l body sender r c) h txs book = (u, reports-invariant y z u f n m record { move = hears n m l body sender r c; change = c; txs = txs; book = book })
ownership-invariant y z u f (commits n s cu within is no_cause c) h txs book = absurd h
