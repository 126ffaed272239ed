-- What is written so far came behind what was held; room is used up by it alone.
use Rattle.std.proofs.Common.{◌≡◌, ◌≤◌, ◌+◌, ◌-◌, length, take}
use Rattle.std.specs.Io.KnownBytes.{Appends}
use Rattle.zeus_io.proofs.transfer.write_all.Given as goal

abbrev pub invariant-loop-written : goal.invariant-loop-written
invariant-loop-written g l = Appends (g.K.Sink.held l.initial.sink) (g.K.Sink.held l.sink) (take l.written l.bytes)
    × (l.written ≤ length l.bytes)
    × (g.K.Sink.faults l.sink ≡ g.K.Sink.faults l.initial.sink)
    × (length l.bytes ≤ g.K.Sink.room l.initial.sink → g.K.Sink.faults l.sink ≡ g.K.Sink.faults l.initial.sink)
    × (length l.bytes ≤ g.K.Sink.room l.initial.sink → g.K.Sink.room l.initial.sink ≤ g.K.Sink.room l.sink + l.written)

abbrev pub decreases-loop-written : goal.decreases-loop-written
decreases-loop-written g l = length l.bytes - l.written
