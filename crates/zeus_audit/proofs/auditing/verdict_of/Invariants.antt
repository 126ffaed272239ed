-- What the lines that are left tell is what all of them tell.
use Rattle.std.proofs.Common.{◌≡◌, ◌+◌, ◌≤◌, length}
use Rattle.script_lang.specs.Cut.{cut}
use Rattle.zeus_audit.specs.Auditing.{lines_taken}
use Rattle.zeus_audit.specs.Fitting.{Fits}
use Rattle.zeus_audit.specs.Progress.{state_of}
use Rattle.zeus_audit.proofs.auditing.verdict_of.Given as goal

abbrev pub invariant-loop-line : goal.invariant-loop-line
invariant-loop-line l =
    (l.number + length l.lines ≤ length l.text + 2)
    × (lines_taken l.script (state_of l.progress) l.number l.lines ≡ lines_taken l.script (state_of l.fn.progress) 1 (cut 10 l.fn.text))
    × Fits l.script (state_of l.progress)

abbrev pub decreases-loop-line : goal.decreases-loop-line
decreases-loop-line l = length l.lines
