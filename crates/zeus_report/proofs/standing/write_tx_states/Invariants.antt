-- What is written and the lines of the transactions that are left stay the lines of all.
use Rattle.std.proofs.Common.{◌≡◌, ◌++◌, ◌-◌}
use Rattle.zeus_model.specs.ReportText.{tx_state_lines}
use Rattle.zeus_model.specs.Tables.{numbers_from}
use Rattle.zeus_report.proofs.standing.write_tx_states.Given as goal

abbrev pub invariant-loop-k : goal.invariant-loop-k
invariant-loop-k l = l.out.items ++ tx_state_lines l.world (numbers_from l.k (l.count - l.k)) ≡ l.fn.out.items ++ tx_state_lines l.world (numbers_from 0 l.count)
