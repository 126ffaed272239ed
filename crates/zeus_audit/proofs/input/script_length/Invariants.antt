-- The bytes that were counted, and those of the lines that are left, are all.
use Rattle.std.proofs.Common.{◌≡◌, ◌+◌, length}
use Rattle.script_lang.specs.Cut.{cut, joined}
use Rattle.zeus_audit.specs.Inputs.{script_length}
use Rattle.zeus_audit.proofs.input.script_length.Given as goal

abbrev pub invariant-loop-line : goal.invariant-loop-line
invariant-loop-line l =
    (l.count + script_length l.lines ≡ script_length (cut 10 l.fn.bytes)) × (l.count + length (joined 10 l.lines) ≡ length l.fn.bytes)

abbrev pub decreases-loop-line : goal.decreases-loop-line
decreases-loop-line l = length l.lines
