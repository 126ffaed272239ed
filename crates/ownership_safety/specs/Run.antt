-- The states of an object that moves lead to from the beginning, each with the chain of what was decided on the way.
use Rattle.std.specs.Prelude.{ℕ, ◌≡◌, ◌<◌, List, [], ◌∷◌, ◌++◌, length, Option}
use Rattle.zeus_packet.specs.declared.place.Proposal.{Proposal}
use Rattle.zeus_packet.specs.declared.write.Content.{Content}
use Rattle.zeus_model.specs.declared.state.Gather.{Gather}
use Rattle.ownership_safety.specs.Object.{Object}
use Rattle.ownership_safety.specs.Moves.{NewView, Stops, Installs, Settles, Drives, Accepts, Redrives, Notes, Decides, Tells}
use Rattle.ownership_safety.specs.Kept.{IsStart}

-- one move leads from the old object to the new one; only a first decision makes the chain longer
pub data IsMove (old new : Object) (chain : List Proposal) : List Proposal → Type 0 where
  makes_view : (set : List ℕ) → NewView old new set → IsMove old new chain chain
  stops : (n : ℕ) → Stops old new n → IsMove old new chain chain
  installs : (n e : ℕ) → Installs old new n e → IsMove old new chain chain
  settles : (n u : ℕ) → Settles old new chain n u → IsMove old new chain chain
  drives : (n : ℕ) (p : Proposal) → Drives old new n p → IsMove old new chain chain
  accepts : (n : ℕ) (p : Proposal) → Accepts old new n p → IsMove old new chain chain
  redrives : (n : ℕ) (p : Proposal) → Redrives old new n p → IsMove old new chain chain
  notes : (n : ℕ) (p : Proposal) (a : ℕ) (c : Option Content) → Notes old new n p a c → IsMove old new chain chain
  tells : (n : ℕ) → Tells old new n → IsMove old new chain chain
  decides_again : (n : ℕ) (g : Gather) → Decides old new n g → g.proposal.base.ver < length chain → IsMove old new chain chain
  decides_first : (n : ℕ) (g : Gather) → Decides old new n g → g.proposal.base.ver ≡ length chain → IsMove old new chain (chain ++ g.proposal ∷ [])

-- moves lead from a start to the object, and the chain has what they decided on the way
pub data IsReached : Object → List Proposal → Type 0 where
  begins : (o : Object) → IsStart o → IsReached o []
  moves : (old new : Object) (chain longer : List Proposal) → IsReached old chain → IsMove old new chain longer → IsReached new longer

-- moves one after another
pub data IsRun (old : Object) (chain : List Proposal) : Object → List Proposal → Type 0 where
  none : IsRun old chain old chain
  further : (mid new : Object) (before after : List Proposal) → IsRun old chain mid before → IsMove mid new before after → IsRun old chain new after
