-- Each move of a run keeps the data invariant.
use Rattle.std.specs.Prelude.{◌≡◌}
use Rattle.machine_moves.specs.Move.{Move, makes_view, stops, installs, tells, turns, settles, drives, accepts, redrives, gathers, decides, raises, stores, notes_own, notes_kept, passes_own, passes_kept, reports, hears, commits}
use Rattle.machine_moves.specs.Plain.{IsPlain}
use Rattle.data_safety.specs.RunState.{RunState, Witness}
use Rattle.data_safety.specs.RunMoves.{RunMove, RunMoves, plain, stutters, begins, reads, refuses, commits_tx, passes_own_tx, passes_kept_tx, ended, onward}
use Rattle.data_safety.specs.DataInvariant.{DataInvariant}
use Rattle.data_safety.proofs.commits.Commit.{keeps_commit}
use Rattle.data_safety.proofs.ownership.OwnershipPlain.{HasDataInvariant, IsOwnershipMove, ownership-invariant}
use Rattle.data_safety.proofs.passes.PassKept.{keeps_pass_kept}
use Rattle.data_safety.proofs.passes.PassOwn.{keeps_pass_own}
use Rattle.data_safety.proofs.stores.Raise.{keeps_raise}
use Rattle.data_safety.proofs.commits.ReadMoves.{reads-invariant}
use Rattle.data_safety.proofs.history.BookOnlyMoves.{stutters-invariant, begins-invariant, refuses-invariant}
use Rattle.data_safety.proofs.stores.Store.{keeps_store}

-- a move that writes nothing into the book
plain-keeps : (y z : RunState) (u : Witness) → DataInvariant y u → (move : Move y.system z.system) → IsPlain y.system z.system move → z.txs ≡ y.txs → z.book ≡ y.book → HasDataInvariant z
unfolding IsPlain IsOwnershipMove
plain-keeps y z u f (raises n d s l foreign r is above c) h txs book =
    (u, keeps_raise y z u f n d s record { letter = l; receivable = r; foreign = foreign; raising = is; above = above } c txs book)
plain-keeps y z u f (stores n r l foreign g body low number room c) h txs book =
    (u, keeps_store y z u f n r record { letter = l; receivable = g; body = body; foreign = foreign; passed = low; number = number } room c txs book)
plain-keeps y z u f (turns n s cu c) h txs book = absurd h
plain-keeps y z u f (passes_own n s some ok c) h txs book = absurd h
plain-keeps y z u f (passes_kept n s out foreign some ok c) h txs book = absurd h
plain-keeps y z u f (commits n s cu within is no_cause c) h txs book = absurd h
plain-keeps y z u f (makes_view set v) h txs book = ownership-invariant y z u f (makes_view set v) tt txs book
plain-keeps y z u f (stops n c) h txs book = ownership-invariant y z u f (stops n c) tt txs book
plain-keeps y z u f (installs n e later within c) h txs book = ownership-invariant y z u f (installs n e later within c) tt txs book
plain-keeps y z u f (tells n c) h txs book = ownership-invariant y z u f (tells n c) tt txs book
plain-keeps y z u f (settles n x stamp place l r s above c) h txs book = ownership-invariant y z u f (settles n x stamp place l r s above c) tt txs book
plain-keeps y z u f (drives n x requester want may c acked) h txs book = ownership-invariant y z u f (drives n x requester want may c acked) tt txs book
plain-keeps y z u f (accepts n x p may c acked) h txs book = ownership-invariant y z u f (accepts n x p may c acked) tt txs book
plain-keeps y z u f (redrives n x p held opened sourced c) h txs book = ownership-invariant y z u f (redrives n x p held opened sourced c) tt txs book
plain-keeps y z u f (gathers n x from p co l body sender r below greatest c) h txs book = ownership-invariant y z u f (gathers n x from p co l body sender r below greatest c) tt txs book
plain-keeps y z u f (decides n x g co gathered decidable content c) h txs book = ownership-invariant y z u f (decides n x g co gathered decidable content c) tt txs book
plain-keeps y z u f (notes_own n s i from l r sender body within c) h txs book = ownership-invariant y z u f (notes_own n s i from l r sender body within c) tt txs book
plain-keeps y z u f (notes_kept n i from s l foreign r sender body within c) h txs book = ownership-invariant y z u f (notes_kept n i from s l foreign r sender body within c) tt txs book
plain-keeps y z u f (reports n empty c) h txs book = ownership-invariant y z u f (reports n empty c) tt txs book
plain-keeps y z u f (hears n m l body sender r c) h txs book = ownership-invariant y z u f (hears n m l body sender r c) tt txs book

-- each move keeps the data invariant of a run
pub move-invariant : (y z : RunState) (u : Witness) → DataInvariant y u → RunMove y z → HasDataInvariant z
move-invariant y z u f (plain move is txs book) = plain-keeps y z u f move is txs book
move-invariant y z u f (stutters same txs book steps) = (u, stutters-invariant y z u f same txs book steps)
move-invariant y z u f (begins n s id c named tx at in_slot within fresh free ch txs book) =
    (u, begins-invariant y z u f n s id c record { named = named; tx = tx; at_node = at; at_slot = in_slot; fresh = fresh; change = ch; txs = txs; book = book })
move-invariant y z u f (reads n s c is reader clear ch txs book) =
    (u, reads-invariant y z u f n s c record { current = is; reader = reader; free = clear; change = ch; txs = txs; book = book })
move-invariant y z u f (refuses n s c is reader ch txs book) = (u, refuses-invariant y z u f n s c is ch txs book)
move-invariant y z u f (commits_tx n s c within is writer clear ch txs book) =
    (u, keeps_commit y z u f n s c record { within = within; current = is; writes = writer; free = clear; change = ch; txs = txs; book = book })
move-invariant y z u f (passes_own_tx n s some ok ch txs book) = (_, keeps_pass_own y z u f n s some ok ch txs book)
move-invariant y z u f (passes_kept_tx n s out foreign some ok ch txs book) = keeps_pass_kept y z u f n s out foreign some ok ch txs book

-- if the invariant holds, then also after moves of a run, with some witness
pub moves-invariant : (y z : RunState) (u : Witness) → DataInvariant y u → RunMoves y z → HasDataInvariant z
moves-invariant y z u f (ended _) = (u, f)
moves-invariant y z u f (onward _ mid _ move more) = let next : HasDataInvariant mid = move-invariant y mid u f move in moves-invariant mid z next.0 next.1 more
