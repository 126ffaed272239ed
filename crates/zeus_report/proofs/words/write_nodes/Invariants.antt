-- What is written and the text of the nodes that are left stay the text of all.
use Rattle.std.proofs.Common.{◌≡◌, ◌++◌}
use Rattle.zeus_model.specs.ReportWords.{more_nodes_text}
use Rattle.zeus_report.proofs.words.write_nodes.Given as goal

abbrev pub invariant-loop-node : goal.invariant-loop-node
invariant-loop-node l = l.out.items ++ more_nodes_text l.node-iterator ≡ l.initial.out.items ++ more_nodes_text l.initial.node-iterator
