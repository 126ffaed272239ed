use Rattle.std.proofs.Common.{◌≡◌, length, sym, subst}
use Rattle.zeus_lease.specs.Machine.{Machine}
use Rattle.zeus_lease.proofs.Ranges.{start_kept, start_ready}
use Rattle.zeus_lease.proofs.leases.Leases.new.Goals as goal

pub invariant_of-result : goal.invariant_of-result
invariant_of-result c = rw c.in_ok-new.ensures (start_kept c.args.nodes c.args.term c.args.percent c.requires)

pub returns-clause-ready : goal.returns-clause-ready
returns-clause-ready c = subst (λ (m : Machine). (length m.nodes ≡ c.args.nodes) × (m.steps ≡ 0)) (sym c.in_ok-new.ensures) (start_ready c.args.nodes c.args.term c.args.percent)
