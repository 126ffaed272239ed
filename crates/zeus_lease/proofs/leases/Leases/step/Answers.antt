use Rattle.zeus_lease.specs.Kept.{shown}
use Rattle.zeus_lease.proofs.Rows.{still_kept, still_left_out, still_nodes}
use Rattle.zeus_lease.proofs.Safe.{never_acts}
use Rattle.zeus_lease.proofs.leases.Leases.step.Goals as goal

pub invariant_of-self : goal.invariant_of-self
invariant_of-self c =
    let few = rw (← c.self.view_is) at c.requires.few in
    let fits = rw (← c.self.view_is) at c.requires.fits in
    still_kept c.step.result (shown c.self.inside.state) (shown c.step.new.self) c.args.step.now c.step.ensures.after c.step.ensures.err c.self.invariant few fits

pub returns-clause-left_out : goal.returns-clause-left_out
returns-clause-left_out c = λ n out.
    let few = rw (← c.self.view_is) at c.requires.few in
    let fits = rw (← c.self.view_is) at c.requires.fits in
    let kept = still_kept c.step.result (shown c.self.inside.state) (shown c.step.new.self) c.args.step.now c.step.ensures.after c.step.ensures.err c.self.invariant few fits in
    let before = rw (← c.self.view_is) at out in
    let now = still_left_out c.step.result (shown c.self.inside.state) (shown c.step.new.self) c.args.step.now c.step.ensures.after c.step.ensures.err n before in
    (now, never_acts (shown c.step.new.self) n kept.safe now)

pub returns-clause-never : goal.returns-clause-never
returns-clause-never c = λ n out.
    let few = rw (← c.self.view_is) at c.requires.few in
    let fits = rw (← c.self.view_is) at c.requires.fits in
    let kept = still_kept c.step.result (shown c.self.inside.state) (shown c.step.new.self) c.args.step.now c.step.ensures.after c.step.ensures.err c.self.invariant few fits in
    never_acts (shown c.step.new.self) n kept.safe out

pub returns-clause-nodes : goal.returns-clause-nodes
returns-clause-nodes c =
    let fits = rw (← c.self.view_is) at c.requires.fits in
    rw (← c.self.view_is) (still_nodes c.step.result (shown c.self.inside.state) (shown c.step.new.self) c.args.step.now c.step.ensures.after c.self.invariant fits)
