use Rattle.std.proofs.Common.{◌≡◌, ◌+◌, ◌≤◌, ◌++◌, length, vec_capacity}
use Rattle.zeus_model.specs.Membership.{apart}
use Rattle.commit_pipeline.specs.Pipes.{sends}
use Rattle.commit_pipeline.proofs.due.DueList.add.Given as goal

abbrev pub invariant-loop-node : goal.invariant-loop-node
invariant-loop-node l =
    record {
      items : l.self-inside.sends.items ++ sends l.number (apart l.node-iterator l.acks) ≡ l.initial.self-inside.sends.items ++ sends l.number (apart l.fn.followers l.acks);
      room : length l.self-inside.sends.items + length l.node-iterator ≤ 128;
      capacity : 128 ≤ vec_capacity l.self-inside.sends;
    }
