use Rattle.std.proofs.Common.{sym, ◌∙◌}
use Rattle.ownership_rules.proofs.Rows.{hold_or_refuse-cause, on_oinv-based, on_oinv-own, on_oinv-settled}
use Rattle.ownership_rules.proofs.propose.on_oinv.Goals as goal

pub returns-then-not-is_below : goal.returns-then-not-is_below
returns-then-not-is_below c =
    rw (on_oinv-settled c.args.node.now c.args.node.now c.args.from c.args.obj c.args.p.now (sym (rw c.entry.ensures at c.is_below.ensures) ∙ c.if-not-is_below.true))
    c.answer_settled.ensures

pub returns-then-not-settle_base : goal.returns-then-not-settle_base
returns-then-not-settle_base c =
    let above = sym (rw c.entry.ensures at c.is_below.ensures) ∙ c.if-not-is_below.false in
    let own = rw c.if-not-settle_base.true at c.settle_base.ensures.answer in
    let same = c.settle_base.ensures.refused c.if-not-settle_base.true in
    rw (on_oinv-own c.args.node.now c.settle_base.new.node c.args.from c.args.obj c.args.p.now above own, same) (rw same at c.refuse.ensures)

pub returns-in-Some : goal.returns-in-Some
returns-in-Some c =
    let above = sym (rw c.entry.ensures at c.is_below.ensures) ∙ c.if-not-is_below.false in
    let based = rw c.if-not-settle_base.false at c.settle_base.ensures.answer in
    rw (on_oinv-based c.args.node.now c.settle_base.new.node c.args.from c.args.obj c.args.p.now above based, ← c.in-Some.ensures, hold_or_refuse-cause c.settle_base.new.node c.args.from c.args.obj c.args.p.now c.in-Some.cause)
    c.refuse-in-Some.ensures

pub returns-in-None : goal.returns-in-None
returns-in-None c =
    let above = sym (rw c.entry.ensures at c.is_below.ensures) ∙ c.if-not-is_below.false in
    let based = rw c.if-not-settle_base.false at c.settle_base.ensures.answer in
    rw (on_oinv-based c.args.node.now c.settle_base.new.node c.args.from c.args.obj c.args.p.now above based, ← c.in-None.ensures) c.hold.ensures
