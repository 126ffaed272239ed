use Rattle.std.proofs.Common.{sym, ◌∙◌}
use Rattle.local_txn.specs.Tries.{held_at}
use Rattle.local_txn.proofs.Against.{first_held_here, first_held_none, first_later, told_held-none}
use Rattle.local_txn.proofs.causes.first_held.Goals as goal

pub returns-then-is_some : goal.returns-then-is_some
returns-then-is_some c =
    let here = c.loop-object-test.true in
    let is = c.object-item.is in
    first_held_here (held_at c.args.slot c.args.copies.now.holds) c.args.objects.now _ _ _ here is c.held_by_another-found.ensures (sym c.is_some.ensures ∙ c.if-is_some.true)
    ∙ c.loop-object.invariant

pub loop-object-preserved : goal.loop-object-preserved
loop-object-preserved c =
    let here = c.loop-object-test.true in
    let is = c.object-item.is in
    first_later (held_at c.args.slot c.args.copies.now.holds) c.args.objects.now _ _ here is
    (told_held-none _ _ c.held_by_another-found.ensures (sym c.is_some.ensures ∙ c.if-is_some.false))
    ∙ c.loop-object.invariant

pub returns : goal.returns
returns c =
    let past = c.loop-object-test.false in
    first_held_none c.args.slot c.args.copies.now.holds _ _ past ∙ c.loop-object.invariant
