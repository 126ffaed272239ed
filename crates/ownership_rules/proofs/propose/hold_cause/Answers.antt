use Rattle.std.proofs.Common.{sym, ◌∙◌}
use Rattle.zeus_model.specs.Ownership.{accept_cause}
use Rattle.ownership_rules.proofs.Rows.{first_cause-none, first_cause-some, hold_cause-directory, hold_cause-source, hold_cause-stranger}
use Rattle.ownership_rules.proofs.propose.hold_cause.Goals as goal

pub returns-in-None : goal.returns-in-None
returns-in-None c =
    let none = rw c.entry.ensures at c.in-None.ensures in
    rw (hold_cause-source c.args.node.now c.args.obj c.args.p.now (sym c.is_source.ensures ∙ c.if-is_source.true), ← none, first_cause-none (accept_cause c.args.node.now c.args.obj c.args.p.now))
    c.accept_cause.ensures

pub returns-in-Some : goal.returns-in-Some
returns-in-Some c =
    let some = rw c.entry.ensures at c.in-Some.ensures in
    rw (hold_cause-source c.args.node.now c.args.obj c.args.p.now (sym c.is_source.ensures ∙ c.if-is_source.true), ← some)
    (sym (first_cause-some c.in-Some.cause (accept_cause c.args.node.now c.args.obj c.args.p.now)))

pub returns-then-has : goal.returns-then-has
returns-then-has c =
    rw c.entry.ensures at c.greater_cause-greater.ensures
    ∙ sym (hold_cause-directory c.args.node.now c.args.obj c.args.p.now (sym c.is_source.ensures ∙ c.if-is_source.false) (sym (rw (c.directory.ensures, c.me.ensures.number) at c.has.ensures) ∙ c.if-has.true))

pub returns-else-has : goal.returns-else-has
returns-else-has c =
    sym (hold_cause-stranger c.args.node.now c.args.obj c.args.p.now (sym c.is_source.ensures ∙ c.if-is_source.false) (sym (rw (c.directory.ensures, c.me.ensures.number) at c.has.ensures) ∙ c.if-has.false))
