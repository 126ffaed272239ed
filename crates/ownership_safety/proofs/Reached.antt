-- Every move keeps what holds of an object, so it holds of all that is reached.
use Rattle.std.specs.Prelude.{ℕ, ◌≡◌, ◌<◌, List, [], ◌∷◌, ◌++◌, length, ◌⊎◌}
use Rattle.std.proofs.Common.{arith, inl, inr}
use Rattle.zeus_packet.specs.declared.place.Proposal.{Proposal}
use Rattle.ownership_safety.specs.Object.{Object}
use Rattle.ownership_safety.specs.OwnershipInvariant.{OwnershipInvariant}
use Rattle.ownership_safety.specs.Kept.{Grows, Rises, IsAgain, IsFirst}
use Rattle.ownership_safety.proofs.Grows.{Extends, Extends-refl, Extends-append, Extends-trans, Rises-refl, Rises-further}
use Rattle.ownership_safety.specs.Run.{IsMove, IsReached, makes_view, stops, installs, settles, drives, accepts, redrives, notes, tells, decides_again, decides_first, begins, moves, IsRun, none, further}
use Rattle.ownership_safety.proofs.KeepsViews.{keeps_NewView, keeps_Stops, keeps_Installs, grows_NewView, grows_Stops, grows_Installs}
use Rattle.ownership_safety.proofs.KeepsSpeech.{keeps_Drives, keeps_Accepts, keeps_Redrives, grows_Drives, grows_Accepts, grows_Redrives}
use Rattle.ownership_safety.proofs.KeepsGathers.{keeps_Notes, keeps_Tells, grows_Notes, grows_Tells}
use Rattle.ownership_safety.proofs.KeepsSettled.{keeps_Settles, keeps_Decides, grows_Settles, grows_Decides}
use Rattle.ownership_safety.proofs.Start.{start-ownership}

again_ownership : (old new : Object) (chain : List Proposal) (n : ℕ) (p : Proposal) → p.base.ver < length chain → IsAgain old new chain n p ⊎ IsFirst old new chain n p → OwnershipInvariant new chain
again_ownership old new chain n p inside (inl again) = again.ownership
again_ownership old new chain n p inside (inr first) = let last = first.last in absurd (omega arith)

first_ownership : (old new : Object) (chain : List Proposal) (n : ℕ) (p : Proposal) → p.base.ver ≡ length chain → IsAgain old new chain n p ⊎ IsFirst old new chain n p → OwnershipInvariant new (chain ++ p ∷ [])
first_ownership old new chain n p last (inl again) = let inside = again.inside in absurd (omega arith)
first_ownership old new chain n p last (inr first) = first.ownership

-- if the invariant holds, then also after any move
pub move-ownership : (old new : Object) (chain longer : List Proposal) → OwnershipInvariant old chain → IsMove old new chain longer → OwnershipInvariant new longer
move-ownership old new chain longer ownership (makes_view set is) = keeps_NewView old new set is chain ownership
move-ownership old new chain longer ownership (stops n is) = keeps_Stops old new n is chain ownership
move-ownership old new chain longer ownership (installs n e is) = keeps_Installs old new n e is chain ownership
move-ownership old new chain longer ownership (settles n u is) = keeps_Settles old new chain ownership n u is
move-ownership old new chain longer ownership (drives n p is) = keeps_Drives old new n p is chain ownership
move-ownership old new chain longer ownership (accepts n p is) = keeps_Accepts old new n p is chain ownership
move-ownership old new chain longer ownership (redrives n p is) = keeps_Redrives old new n p is chain ownership
move-ownership old new chain longer ownership (notes n p a c is) = keeps_Notes old new n p a c is chain ownership
move-ownership old new chain longer ownership (tells n is) = keeps_Tells old new n is chain ownership
move-ownership old new chain longer ownership (decides_again n g is inside) =
    again_ownership old new chain n g.proposal inside (keeps_Decides old new chain ownership n g is)
move-ownership old new chain longer ownership (decides_first n g is last) =
    first_ownership old new chain n g.proposal last (keeps_Decides old new chain ownership n g is)

-- if the invariant holds, then a move takes nothing back
pub move-grows : (old new : Object) (chain longer : List Proposal) → OwnershipInvariant old chain → IsMove old new chain longer → Grows old new
move-grows old new chain longer ownership (makes_view set is) = grows_NewView old new set is
move-grows old new chain longer ownership (stops n is) = grows_Stops old new n is
move-grows old new chain longer ownership (installs n e is) = grows_Installs old new n e is
move-grows old new chain longer ownership (settles n u is) = grows_Settles old new chain ownership n u is
move-grows old new chain longer ownership (drives n p is) = grows_Drives old new n p is chain ownership
move-grows old new chain longer ownership (accepts n p is) = grows_Accepts old new n p is
move-grows old new chain longer ownership (redrives n p is) = grows_Redrives old new n p is
move-grows old new chain longer ownership (notes n p a c is) = grows_Notes old new n p a c is
move-grows old new chain longer ownership (tells n is) = grows_Tells old new n is
move-grows old new chain longer ownership (decides_again n g is inside) = grows_Decides old new chain ownership n g is
move-grows old new chain longer ownership (decides_first n g is last) = grows_Decides old new chain ownership n g is

-- the invariant holds of every object that moves reach
pub reached-ownership : (o : Object) (chain : List Proposal) → IsReached o chain → OwnershipInvariant o chain
reached-ownership o chain (begins _ start) = start-ownership o start
reached-ownership o chain (moves old _ before _ reached move) =
    move-ownership old o before chain (reached-ownership old before reached) move

-- a move extends the chain, or leaves it
pub move-extends : (old new : Object) (chain longer : List Proposal) → IsMove old new chain longer → Extends chain longer
move-extends old new chain longer (decides_first n g is last) = Extends-append chain (g.proposal ∷ [])
move-extends old new chain longer (makes_view set is) = Extends-refl chain
move-extends old new chain longer (stops n is) = Extends-refl chain
move-extends old new chain longer (installs n e is) = Extends-refl chain
move-extends old new chain longer (settles n u is) = Extends-refl chain
move-extends old new chain longer (drives n p is) = Extends-refl chain
move-extends old new chain longer (accepts n p is) = Extends-refl chain
move-extends old new chain longer (redrives n p is) = Extends-refl chain
move-extends old new chain longer (notes n p a c is) = Extends-refl chain
move-extends old new chain longer (tells n is) = Extends-refl chain
move-extends old new chain longer (decides_again n g is inside) = Extends-refl chain

-- ---- moves one after another

module _ (old : Object) (chain : List Proposal) where
  -- if the invariant holds, then also after a run of moves
  pub run-ownership : (new : Object) (longer : List Proposal) → OwnershipInvariant old chain → IsRun old chain new longer → OwnershipInvariant new longer
  run-ownership new longer ownership none = ownership
  run-ownership new longer ownership (further mid _ before _ run move) =
      move-ownership mid new before longer (run-ownership mid before ownership run) move

  -- if the invariant holds, then in a run of moves views, letters and stops stay, and epochs, ranks and settled stamps do not fall
  pub run-rises : (new : Object) (longer : List Proposal) → OwnershipInvariant old chain → IsRun old chain new longer → Rises old new
  run-rises new longer ownership none = Rises-refl old
  run-rises new longer ownership (further mid _ before _ run move) =
      Rises-further old mid new (run-rises mid before ownership run) (move-grows mid new before longer (run-ownership mid before ownership run) move)

  -- a run of moves extends the chain, or leaves it
  pub run-extends : (new : Object) (longer : List Proposal) → IsRun old chain new longer → Extends chain longer
  run-extends new longer none = Extends-refl chain
  run-extends new longer (further mid _ before _ run move) =
      Extends-trans chain before longer (run-extends mid before run) (move-extends mid new before longer move)

  -- one run of moves and then another are a run
  pub run-append : (mid : Object) (before : List Proposal) → IsRun old chain mid before → (new : Object) (longer : List Proposal) → IsRun mid before new longer → IsRun old chain new longer
  run-append mid before one new longer none = one
  run-append mid before one new longer (further there _ so_far _ run move) =
      further there new so_far longer (run-append mid before one there so_far run) move
