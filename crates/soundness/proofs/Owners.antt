-- No object has two live owners.
use Rattle.std.specs.Prelude.{ℕ, ◌≡◌, ◌==◌, ◌<◌, Bool, true, false, ◌&&◌, List, length, Option, Some, None, is_none, All}
use Rattle.std.proofs.Common.{refl, ◌∙◌, arith}
use Rattle.std.proofs.lemmas.Bool.Decides.{nat_tests}
use Rattle.zeus_base.specs.Limits.{KeepsLimits}
use Rattle.zeus_base.specs.declared.config.Config.{Config}
use Rattle.zeus_base.specs.declared.step.Step.{Step}
use Rattle.zeus_packet.specs.declared.place.Proposal.{Proposal}
use Rattle.zeus_txn.specs.declared.tx.TxDecl.{TxDecl}
use Rattle.zeus_model.specs.Sound.{IsLiveOwner}
use Rattle.zeus_model.specs.State.{Node, entry, owns}
use Rattle.zeus_model.specs.World.{World, run, start, node}
use Rattle.machine_moves.specs.Fits.{StepFits}
use Rattle.machine_moves.specs.SystemState.{system, IsNumbered}
use Rattle.machine_moves.proofs.Runs.{run_numbered}
use Rattle.ownership_safety.specs.Object.{IsOwner}
use Rattle.ownership_safety.proofs.Owner.{one_owner}
use Rattle.invariants.specs.Objects.{object}
use Rattle.invariants.proofs.ObjectMoves.{object-live}
use Rattle.invariants.proofs.AboutObjects.{object-entry}
use Rattle.invariants.proofs.ObjectKeeps.{IsInOrder}
use Rattle.invariants.proofs.Runs.{run_ownership}

-- what it is for a node to own an object
record Owning (n : Node) (x : ℕ) : Type 0 where
  owner : (entry n x).place.owner ≡ n.me
  free : (entry n x).proposal ≡ None

none_is : (o : Option Proposal) → is_none o ≡ true → o ≡ None
none_is None h = refl
none_is (Some p) h = cc

owning : (n : Node) (x : ℕ) → owns n x ≡ true → Owning n x
unfolding owns
owning n x h = both ((entry n x).place.owner == n.me) (is_none (entry n x).proposal) h (owner_is n x) (none_is (entry n x).proposal)
  where
    owner_is : (n : Node) (x : ℕ) → ((entry n x).place.owner == n.me) ≡ true → (entry n x).place.owner ≡ n.me
    owner_is n x t = grind (arith, nat_tests)

    both : (a b : Bool) → (a && b) ≡ true → (a ≡ true → (entry n x).place.owner ≡ n.me) → (b ≡ true → (entry n x).proposal ≡ None) → Owning n x
    both true b t f g = record { owner = f refl; free = g t }
    both false b t f g = cc

system_live : (w : World) (n : ℕ) → (node w n).stopped ≡ false → ((system w).node n).stopped ≡ false
unfolding system
system_live w n h = h

system_owns : (w : World) (x n : ℕ) → owns (node w n) x ≡ true → owns ((system w).node n) x ≡ true
unfolding system
system_owns w x n h = h

-- a live owner of a world is an owner of the object
pub live_owner : (w : World) (x n : ℕ) → IsNumbered (system w) → IsLiveOwner w x n → IsOwner (object (system w) x) n
live_owner w x n numbered is =
    let live : ((system w).node n).stopped ≡ false = system_live w n is.live in
    let within = numbered.within n live in
    let there : (object (system w) x).entry n ≡ entry ((system w).node n) x = object-entry (system w) x n within in
    let o : Owning ((system w).node n) x = owning ((system w).node n) x (system_owns w x n is.owns) in
    record {
      live = object-live (system w) x n live;
      free = rw there o.free;
      owner = rw there o.owner ∙ numbered.me n live;
    }

pub run_one_owner : (c : Config) (txs : List TxDecl) (steps : List Step) (x a b : ℕ) → KeepsLimits c → All (StepFits c txs) steps → x < length c.objects
    → IsLiveOwner (run (start c txs) steps) x a → IsLiveOwner (run (start c txs) steps) x b → a ≡ b
run_one_owner c txs steps x a b keeps fits within first second =
    let order : IsInOrder (object (system (run (start c txs) steps)) x) = run_ownership c txs steps x keeps fits within in
    let numbered : IsNumbered (system (run (start c txs) steps)) = run_numbered c txs steps keeps fits in
    one_owner (object (system (run (start c txs) steps)) x) order.0 order.1 a b
    (live_owner (run (start c txs) steps) x a numbered first) (live_owner (run (start c txs) steps) x b numbered second)
