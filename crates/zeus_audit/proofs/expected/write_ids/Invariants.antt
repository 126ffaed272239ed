-- What is written and the transactions that are left stay all of them.
use Rattle.std.proofs.Common.{◌≡◌, ◌++◌, drop, map, decimal}
use Rattle.zeus_model.specs.Spelling.{spaced}
use Rattle.zeus_audit.proofs.expected.write_ids.Given as goal

abbrev pub invariant-loop-id : goal.invariant-loop-id
invariant-loop-id l = l.out.items ++ spaced (map decimal (drop l.id-index l.ids)) ≡ l.fn.out.items ++ spaced (map decimal l.ids)
