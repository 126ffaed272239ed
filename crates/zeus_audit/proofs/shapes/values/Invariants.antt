-- What the words that are left say is what all of them say.
use Rattle.std.proofs.Common.{◌≡◌, length}
use Rattle.zeus_audit.specs.Shapes.{values_at}
use Rattle.zeus_audit.proofs.shapes.values.Given as goal

abbrev pub invariant-loop-words : goal.invariant-loop-words
invariant-loop-words l = values_at l.version l.words ≡ values_at l.fn.version l.fn.words

abbrev pub decreases-loop-words : goal.decreases-loop-words
decreases-loop-words l = length l.words
