use Rattle.std.proofs.Common.{◌≡◌}
use Rattle.zeus_model.specs.Readers.{is_lost, live_among, no_nodes}
use Rattle.zeus_world.proofs.world.World.is_lost.Given as goal

-- the object is lost where none of the replicas that are left is live
abbrev pub invariant-loop-replica : goal.invariant-loop-replica
invariant-loop-replica l = no_nodes (live_among l.self l.replica-iterator) ≡ is_lost l.self l.fn.obj
