-- Whether all are closed is decided by those that are left.
use Rattle.std.proofs.Common.{◌≡◌, ◌-◌, length}
use Rattle.zeus_model.specs.Readers.{all_closed, each_closed}
use Rattle.zeus_model.specs.Tables.{numbers_from}
use Rattle.random_schedule.proofs.closing.all_closed.Given as goal

abbrev pub invariant-loop-id : goal.invariant-loop-id
invariant-loop-id l = each_closed l.world (numbers_from l.id (length l.world.txs - l.id)) ≡ all_closed l.world
