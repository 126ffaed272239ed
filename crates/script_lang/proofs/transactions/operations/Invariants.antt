use Rattle.std.proofs.Common.{◌≡◌, ◌-◌, ◌≤◌, length}
use Rattle.script_lang.specs.Operations.{ops_after, ops_at}
use Rattle.script_lang.proofs.transactions.operations.Given as goal

abbrev pub invariant-loop-words : goal.invariant-loop-words
invariant-loop-words l = (1 ≤ length l.ops) × (ops_after l.version l.names (16 - length l.ops) l.ops l.words ≡ ops_at l.fn.version l.fn.names l.fn.words)

abbrev pub decreases-loop-words : goal.decreases-loop-words
decreases-loop-words l = 16 - length l.ops
