use Rattle.std.proofs.Common.{◌≡◌, not}
use Rattle.std.specs.List.{find}
use Rattle.zeus_base.specs.Nodes.{has}
use Rattle.membership.proofs.service.least_apart.Given as goal

-- the nodes that are left have the same first one
abbrev pub invariant-loop-node : goal.invariant-loop-node
invariant-loop-node l =
    find (λ n. not (has n l.others)) l.node-iterator ≡ find (λ n. not (has n l.others)) l.fn.set
