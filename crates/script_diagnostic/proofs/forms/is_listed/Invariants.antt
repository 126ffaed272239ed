use Rattle.std.proofs.Common.{◌≡◌, length}
use Rattle.zeus_model.specs.Words.{cut, is_among}
use Rattle.script_diagnostic.proofs.forms.is_listed.Given as goal

abbrev pub invariant-loop-other : goal.invariant-loop-other
invariant-loop-other l = is_among l.word l.words ≡ is_among l.word (cut 32 l.fn.list)

abbrev pub decreases-loop-other : goal.decreases-loop-other
decreases-loop-other l = length l.words
