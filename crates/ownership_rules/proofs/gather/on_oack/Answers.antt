use Rattle.std.proofs.Common.{refl, sym, ◌∙◌}
use Rattle.zeus_model.specs.Ownership.{collect_or_refuse}
use Rattle.node_state.specs.EffectLaws.{adds_nothing}
use Rattle.ownership_rules.proofs.Rows.{on_oack-based, on_oack-own, on_oack-settled}
use Rattle.ownership_rules.proofs.gather.on_oack.Goals as goal

pub returns-then-not-is_below : goal.returns-then-not-is_below
returns-then-not-is_below c =
    rw (on_oack-settled c.args.node.now c.args.node.now c.args.from c.args.obj c.args.p.now c.args.content (sym (rw c.entry.ensures at c.is_below.ensures) ∙ c.if-not-is_below.true))
    c.answer_settled.ensures

pub returns-then-not-settle_base : goal.returns-then-not-settle_base
returns-then-not-settle_base c =
    let above = sym (rw c.entry.ensures at c.is_below.ensures) ∙ c.if-not-is_below.false in
    let own = rw c.if-not-settle_base.true at c.settle_base.ensures.answer in
    rw (on_oack-own c.args.node.now c.settle_base.new.node c.args.from c.args.obj c.args.p.now c.args.content above own)
    (record { says = refl; becomes = c.settle_base.ensures.refused c.if-not-settle_base.true; adds = adds_nothing c.args.out.now c.requires.room })

pub returns-in-Some : goal.returns-in-Some
unfolding collect_or_refuse
returns-in-Some c =
    let above = sym (rw c.entry.ensures at c.is_below.ensures) ∙ c.if-not-is_below.false in
    let based = rw c.if-not-settle_base.false at c.settle_base.ensures.answer in
    rw (on_oack-based c.args.node.now c.settle_base.new.node c.args.from c.args.obj c.args.p.now c.args.content above based, ← c.in-Some.ensures)
    (record { says = refl; becomes = refl; adds = adds_nothing c.args.out.now c.requires.room })

pub returns-in-None : goal.returns-in-None
unfolding collect_or_refuse
returns-in-None c =
    let above = sym (rw c.entry.ensures at c.is_below.ensures) ∙ c.if-not-is_below.false in
    let based = rw c.if-not-settle_base.false at c.settle_base.ensures.answer in
    rw (on_oack-based c.args.node.now c.settle_base.new.node c.args.from c.args.obj c.args.p.now c.args.content above based, ← c.in-None.ensures)
    c.gather.ensures
