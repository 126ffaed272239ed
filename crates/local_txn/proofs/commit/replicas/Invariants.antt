use Rattle.std.proofs.Common.{◌≡◌, ◌-◌, [], drop}
use Rattle.zeus_model.specs.Local.{replicas_of}
use Rattle.local_txn.specs.Tries.{node_of}
use Rattle.local_txn.proofs.commit.replicas.Given as goal

abbrev pub invariant-loop-turn : goal.invariant-loop-turn
invariant-loop-turn l = l.all ≡ replicas_of (node_of 0 l.dir.entries []) (drop (l.count - l.turn) l.writes)
