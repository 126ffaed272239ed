use Rattle.std.proofs.Common.{sym, ◌∙◌}
use Rattle.node_ranges.specs.Places.{proposal_fits-parts}
use Rattle.node_ranges.specs.Ranges.{limits_of}
use Rattle.ownership_rules.proofs.Rows.{limits_of-settle, rebased-not_above, rebased-own, rebased-settled}
use Rattle.ownership_rules.proofs.propose.settle_base.Goals as goal

pub returns-then-not-is_below-clause-answer : goal.returns-then-not-is_below-clause-answer
returns-then-not-is_below-clause-answer c =
    rebased-not_above c.args.node.now c.args.obj c.args.p.now (sym (rw c.entry.ensures at c.is_below.ensures) ∙ c.if-not-is_below.true)

pub returns-then-takes_over-clause-answer : goal.returns-then-takes_over-clause-answer
returns-then-takes_over-clause-answer c =
    rebased-own c.args.node.now c.args.obj c.args.p.now c.args.node.now (sym (rw c.entry.ensures at c.is_below.ensures) ∙ c.if-not-is_below.false) (sym c.takes_over.ensures ∙ c.if-takes_over.true)

pub settle-requires-clause-stamp : goal.settle-requires-clause-stamp
settle-requires-clause-stamp c = (proposal_fits-parts (limits_of c.args.node.now) c.args.p.now c.requires.proposal).base

pub settle-requires-clause-place : goal.settle-requires-clause-place
settle-requires-clause-place c = (proposal_fits-parts (limits_of c.args.node.now) c.args.p.now c.requires.proposal).place

pub returns-clause-answer : goal.returns-clause-answer
returns-clause-answer c =
    rw c.settle.ensures
    (rebased-settled c.args.node.now c.args.obj c.args.p.now (sym (rw c.entry.ensures at c.is_below.ensures) ∙ c.if-not-is_below.false) (sym c.takes_over.ensures ∙ c.if-takes_over.false))

pub returns-clause-limits : goal.returns-clause-limits
returns-clause-limits c = rw c.settle.ensures (limits_of-settle c.args.node.now c.args.obj c.args.p.now.base c.args.p.now.base_place c.requires.object)
