use Rattle.std.proofs.Common.{drop}
use Rattle.zeus_wire.proofs.Room.{Remains}
use Rattle.zeus_wire.proofs.writing.values.write_writes.Given as goal

abbrev pub invariant-loop-write : goal.invariant-loop-write
invariant-loop-write l = Remains l.version l.writes (drop l.write-index l.writes) l.fn.out l.out
