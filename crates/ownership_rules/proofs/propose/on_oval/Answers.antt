use Rattle.std.proofs.Common.{refl, sym, ◌∙◌}
use Rattle.ownership_rules.proofs.Rows.{on_oval-again, on_oval-own, on_oval-settled}
use Rattle.ownership_rules.proofs.propose.on_oval.Goals as goal

pub returns-then-not-is_below : goal.returns-then-not-is_below
returns-then-not-is_below c =
    rw (on_oval-again c.args.node.now c.args.obj c.args.stamp c.args.place (sym (rw c.entry.ensures at c.is_below.ensures) ∙ c.if-not-is_below.true))
    (record { says = refl; becomes = refl; unsent = refl; unpassed = refl })

pub returns-then-takes_over : goal.returns-then-takes_over
returns-then-takes_over c =
    rw (on_oval-own c.args.node.now c.args.obj c.args.stamp c.args.place (sym (rw c.entry.ensures at c.is_below.ensures) ∙ c.if-not-is_below.false) (sym c.takes_over.ensures ∙ c.if-takes_over.true))
    (record { says = refl; becomes = refl; unsent = refl; unpassed = refl })

pub returns : goal.returns
returns c =
    rw (on_oval-settled c.args.node.now c.args.obj c.args.stamp c.args.place (sym (rw c.entry.ensures at c.is_below.ensures) ∙ c.if-not-is_below.false) (sym c.takes_over.ensures ∙ c.if-takes_over.false))
    (record { says = refl; becomes = c.settle.ensures; unsent = refl; unpassed = refl })
