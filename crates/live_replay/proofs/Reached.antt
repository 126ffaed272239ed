-- What is known of a slot of a reached world.
use Rattle.std.specs.Prelude.{ℕ, ◌≡◌, Some}
use Rattle.zeus_model.specs.declared.state.Current.{Current}
use Rattle.zeus_model.specs.State.{slot}
use Rattle.zeus_model.specs.World.{World, node}
use Rattle.machine_moves.specs.SystemState.{system}
use Rattle.soundness.proofs.Runs.{IsReached}
use Rattle.live_model.specs.Cell.{declared}

-- the current transaction of a slot is one of its node
pub reached-current : (w : World) (n s : ℕ) (c : Current) → IsReached w → (slot (node w n) s).current ≡ Some c → (declared w.txs c.id).node ≡ n
unfolding system
reached-current w n s c r is =
    let f = r.data_invariant in let b = f.booked in (b.current n s c is).5
