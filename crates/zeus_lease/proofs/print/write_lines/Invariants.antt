-- What is written and the lines of the steps that are left stay the lines of all, and steps are counted.
use Rattle.std.proofs.Common.{◌≡◌, ◌+◌, ◌++◌, drop, length}
use Rattle.zeus_lease.specs.Text.{answer_lines}
use Rattle.zeus_lease.proofs.print.write_lines.Given as goal

abbrev pub invariant-loop-number : goal.invariant-loop-number
invariant-loop-number l =
    record {
      text : l.out.items ++ answer_lines l.leases l.number (drop l.number l.steps) ≡ l.fn.out.items ++ answer_lines l.fn.leases 0 l.steps;
      count : l.leases.steps ≡ l.fn.leases.steps + l.number;
      nodes : length l.leases.nodes ≡ length l.fn.leases.nodes;
    }
