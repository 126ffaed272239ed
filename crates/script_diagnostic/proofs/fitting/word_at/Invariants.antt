-- The word at the place that is left, of those that are left, stays the word at the place of all.
use Rattle.std.proofs.Common.{◌≡◌, ◌-◌}
use Rattle.zeus_model.specs.Faults.{word_of}
use Rattle.zeus_model.specs.Words.{cut}
use Rattle.script_diagnostic.proofs.fitting.word_at.Given as goal

abbrev pub invariant-loop-turn : goal.invariant-loop-turn
invariant-loop-turn l = word_of l.words (l.fn.place - l._turn) ≡ word_of (cut 32 l.fn.line) l.fn.place
