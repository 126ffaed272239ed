-- The links in front are as they are to be, and the rest is as it was.
use Rattle.std.proofs.Common.{◌≡◌, ◌++◌, drop, take}
use Rattle.std.specs.Prelude.{map}
use Rattle.random_schedule.specs.Schedule.{behind}
use Rattle.random_schedule.proofs.deliveries.use_packet.Given as goal

abbrev pub invariant-loop-link : goal.invariant-loop-link
invariant-loop-link l = l.link-items ≡ map (behind l.packet) (take l.link-index l.fn.links) ++ drop l.link-index l.fn.links
