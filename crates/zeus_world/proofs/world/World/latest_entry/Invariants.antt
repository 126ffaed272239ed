use Rattle.std.proofs.Common.{◌≡◌, drop}
use Rattle.zeus_model.specs.Sound.{latest_entry, newest}
use Rattle.zeus_world.proofs.world.World.latest_entry.Given as goal

-- the latest entry is the newest of this one and those of the nodes that are left
abbrev pub invariant-loop-node : goal.invariant-loop-node
invariant-loop-node l = newest l.obj l.latest (drop l.node-index l.self.nodes) ≡ latest_entry l.self l.obj
