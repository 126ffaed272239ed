-- What is written and what is left to write stay the whole.
use Rattle.std.proofs.Common.{◌≡◌, ◌++◌, ◌-◌, take}
use Rattle.zeus_model.specs.Words.{cut}
use Rattle.script_diagnostic.specs.Fitting.{ended}
use Rattle.script_diagnostic.proofs.fitting.write_parts.Given as goal

abbrev pub invariant-loop-turn : goal.invariant-loop-turn
invariant-loop-turn l =
    l.out.items ++ ended l.separator (take (l.fn.count - l._turn) l.parts) ≡ l.fn.out.items ++ ended l.fn.separator (take l.fn.count (cut l.fn.separator l.fn.bytes))
