use Rattle.std.proofs.Common.{◌≡◌, ◌+◌, ◌≤◌, length}
use Rattle.script_lang.specs.Cut.{cut}
use Rattle.script_lang.specs.Drafts.{state_of}
use Rattle.script_lang.specs.Reading.{lines_taken}
use Rattle.script_lang.proofs.reader.take_lines.Given as goal

abbrev pub invariant-loop-line : goal.invariant-loop-line
invariant-loop-line l = (l.number + length l.lines ≤ length l.bytes + 2) × (lines_taken l.live (state_of l.draft) l.number l.lines ≡ lines_taken l.live (state_of l.fn.draft) 1 (cut 10 l.fn.bytes))

abbrev pub decreases-loop-line : goal.decreases-loop-line
decreases-loop-line l = length l.lines
