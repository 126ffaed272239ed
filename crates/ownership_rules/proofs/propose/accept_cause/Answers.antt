use Rattle.std.proofs.Common.{sym, ◌∙◌}
use Rattle.ownership_rules.proofs.Rows.{accept_cause-held, accept_cause-new}
use Rattle.ownership_rules.proofs.propose.accept_cause.Goals as goal

pub returns-then-is_held : goal.returns-then-is_held
returns-then-is_held c =
    c.unready_cause.ensures ∙ sym (accept_cause-held c.args.node.now c.args.obj c.args.p.now (sym (rw c.entry.ensures at c.is_held.ensures) ∙ c.if-is_held.true))

pub returns-else-is_held : goal.returns-else-is_held
returns-else-is_held c =
    c.source_cause.ensures ∙ sym (accept_cause-new c.args.node.now c.args.obj c.args.p.now (sym (rw c.entry.ensures at c.is_held.ensures) ∙ c.if-is_held.false))
