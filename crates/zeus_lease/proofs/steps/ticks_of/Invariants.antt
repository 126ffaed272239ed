use Rattle.std.proofs.Common.{◌≡◌, ◌-◌, []}
use Rattle.zeus_lease.specs.Reading.{ticks_after}
use Rattle.zeus_lease.proofs.steps.ticks_of.Given as goal

-- the numbers so far, and those that are left
abbrev pub invariant-loop-turn : goal.invariant-loop-turn
invariant-loop-turn l = ticks_after (l.count - l._turn) l.ticks.items l.words ≡ ticks_after l.fn.count [] l.fn.words
