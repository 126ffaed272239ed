use Rattle.std.proofs.Common.{◌≡◌, ◌≤◌, length, drop}
use Rattle.zeus_txn.specs.Ops.{named}
use Rattle.zeus_txn.specs.Run.{run, run_from, value_at}
use Rattle.zeus_txn.specs.RunLaws.{keys, HasRoom}
use Rattle.zeus_txn.proofs.run.run_ops.Given as goal

abbrev pub invariant-loop-place : goal.invariant-loop-place
invariant-loop-place l =
    record {
      ran : run_from (value_at (named l.ops) l.values) l.place l.given l.writes (drop l.place l.ops) ≡ run (value_at (named l.ops) l.values) l.ops;
      few : length l.given ≤ l.place;
      room : HasRoom (keys l.writes) (named l.ops);
    }
