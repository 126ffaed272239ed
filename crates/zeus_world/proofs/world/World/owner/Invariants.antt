use Rattle.std.proofs.Common.{◌≡◌}
use Rattle.zeus_model.specs.Readers.{owner}
use Rattle.zeus_world.proofs.Standing.{owner_from}
use Rattle.zeus_world.proofs.world.World.owner.Given as goal

-- the owner is the first among the nodes that are left
abbrev pub invariant-loop-number : goal.invariant-loop-number
invariant-loop-number l = owner_from l.self l.obj l.number ≡ owner l.self l.obj
