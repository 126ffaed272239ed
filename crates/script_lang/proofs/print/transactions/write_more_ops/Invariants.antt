-- What is written and the text of the operations that are left stay the text of all.
use Rattle.std.proofs.Common.{◌≡◌, ◌++◌, drop}
use Rattle.zeus_model.specs.Spelling.{more_op_words, spaced}
use Rattle.script_lang.proofs.print.transactions.write_more_ops.Given as goal

abbrev pub invariant-loop-op : goal.invariant-loop-op
invariant-loop-op l = l.out.items ++ spaced (more_op_words l.names (drop l.op-index l.ops)) ≡ l.fn.out.items ++ spaced (more_op_words l.names l.ops)
