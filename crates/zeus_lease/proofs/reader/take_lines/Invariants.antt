use Rattle.std.proofs.Common.{◌≡◌, ◌+◌, ◌≤◌, length}
use Rattle.script_lang.specs.Cut.{cut}
use Rattle.script_lang.specs.Following.{followed}
use Rattle.zeus_lease.specs.Reading.{state_of, taken}
use Rattle.zeus_lease.proofs.reader.take_lines.Given as goal

abbrev pub invariant-loop-line : goal.invariant-loop-line
invariant-loop-line l = (l.number + length l.lines ≤ length l.bytes + 2) × (followed taken (state_of l.draft) l.number l.lines ≡ followed taken (state_of l.fn.draft) 1 (cut 10 l.fn.bytes))

abbrev pub decreases-loop-line : goal.decreases-loop-line
decreases-loop-line l = length l.lines
