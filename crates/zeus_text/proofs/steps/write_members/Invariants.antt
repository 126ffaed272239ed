-- What is written and the text of the nodes that are left stay the text of all.
use Rattle.std.proofs.Common.{◌≡◌, ◌++◌, map, decimal}
use Rattle.zeus_model.specs.Spelling.{spaced}
use Rattle.zeus_text.proofs.steps.write_members.Given as goal

abbrev pub invariant-loop-node : goal.invariant-loop-node
invariant-loop-node l = l.out.items ++ spaced (map decimal l.node-iterator) ≡ l.fn.out.items ++ spaced (map decimal l.fn.set)
