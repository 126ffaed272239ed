-- What the words that are left say is what all of them say.
use Rattle.std.proofs.Common.{◌≡◌, length}
use Rattle.zeus_audit.specs.Shapes.{numbers_at}
use Rattle.zeus_audit.proofs.shapes.numbers.Given as goal

abbrev pub invariant-loop-words : goal.invariant-loop-words
invariant-loop-words l = numbers_at l.words ≡ numbers_at l.fn.words

abbrev pub decreases-loop-words : goal.decreases-loop-words
decreases-loop-words l = length l.words
