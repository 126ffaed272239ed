use Rattle.std.proofs.Common.{◌≡◌, drop}
use Rattle.zeus_txn.specs.Ops.{named, written, written_after}
use Rattle.zeus_txn.specs.RunLaws.{HasRoom}
use Rattle.zeus_txn.proofs.tx.Tx.written.Given as goal

abbrev pub invariant-loop-op : goal.invariant-loop-op
invariant-loop-op l =
    record {
      walked : written_after l.all (drop l.op-index l.ops) ≡ written l.ops;
      room : HasRoom l.all (named l.ops);
    }
