use Rattle.std.proofs.Common.{◌≡◌, ◌≤◌, drop, length}
use Rattle.zeus_txn.specs.Ops.{named, named_after}
use Rattle.zeus_txn.proofs.tx.named.Given as goal

abbrev pub invariant-loop-op : goal.invariant-loop-op
invariant-loop-op l =
    record {
      walked : named_after l.all (drop l.op-index l.ops) ≡ named l.ops;
      few : length l.all ≤ 8;
    }
