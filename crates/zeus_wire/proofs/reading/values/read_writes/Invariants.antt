use Rattle.std.proofs.Common.{◌≡◌, ◌-◌, length, []}
use Rattle.zeus_wire.specs.Reading.{writes_at}
use Rattle.zeus_wire.proofs.reading.values.read_writes.Given as goal

abbrev pub invariant-loop : goal.invariant-loop
invariant-loop l = (length l.writes ≡ l.counter) × (writes_at l.limits (l.count - l.counter) l.writes l.input ≡ writes_at l.limits l.count [] l.fn.input)
