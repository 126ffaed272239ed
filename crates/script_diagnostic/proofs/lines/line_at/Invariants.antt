-- The line so far and those that are left have the line at the place that is left.
use Rattle.std.proofs.Common.{◌≡◌, ◌-◌, [], ◌∷◌}
use Rattle.zeus_model.specs.Tables.{nth}
use Rattle.zeus_model.specs.Words.{cut}
use Rattle.script_diagnostic.proofs.lines.line_at.Given as goal

abbrev pub invariant-loop-turn : goal.invariant-loop-turn
invariant-loop-turn l = nth [] (l.line ∷ l.lines) (l.fn.number - l._turn) ≡ nth [] ([] ∷ cut 10 l.fn.bytes) l.fn.number
