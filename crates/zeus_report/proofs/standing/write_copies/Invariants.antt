-- What is written and the copies at the nodes that are left stay the copies at all.
use Rattle.std.proofs.Common.{◌≡◌, ◌++◌}
use Rattle.zeus_model.specs.ReportText.{copy_lines}
use Rattle.zeus_model.specs.Readers.{live_among}
use Rattle.zeus_report.proofs.standing.write_copies.Given as goal

abbrev pub invariant-loop-node : goal.invariant-loop-node
invariant-loop-node l =
    l.out.items ++ copy_lines l.names l.world l.obj (live_among l.world l.node-iterator)
    ≡ l.fn.out.items ++ copy_lines l.names l.world l.obj (live_among l.world l.fn.nodes)
