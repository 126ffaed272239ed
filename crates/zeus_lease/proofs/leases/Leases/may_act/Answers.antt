use Rattle.zeus_lease.specs.Kept.{shown}
use Rattle.zeus_lease.proofs.Rows.{may_is_acted}
use Rattle.zeus_lease.proofs.Safe.{never_acts}
use Rattle.zeus_lease.proofs.leases.Leases.may_act.Goals as goal

pub returns-clause-act : goal.returns-clause-act
returns-clause-act c = rw (c.may_act.ensures, ← c.self.view_is) (may_is_acted (shown c.self.inside.state) c.args.node)

pub returns-clause-left_out : goal.returns-clause-left_out
returns-clause-left_out c =
    rw (c.may_act.ensures, ← c.self.view_is) (λ out. (never_acts (shown c.self.inside.state) c.args.node c.self.invariant.safe out).1)
