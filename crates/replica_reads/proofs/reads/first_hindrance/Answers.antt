use Rattle.std.proofs.Common.{None, sym, ◌∙◌}
use Rattle.zeus_txn.specs.Ops.{named}
use Rattle.zeus_model.specs.Local.{hindrance_at}
use Rattle.zeus_model.specs.Tables.{nth}
use Rattle.replica_reads.proofs.Hindering.{first_found, first_later, first_none, hindrance_whole}
use Rattle.replica_reads.proofs.reads.first_hindrance.Goals as goal

pub loop-object-init : goal.loop-object-init
loop-object-init c = hindrance_whole c.args.copies.now.copies c.args.tx.now

pub returns-then-is_some : goal.returns-then-is_some
returns-then-is_some c =
    let list = c.as_slice-object-items.ensures.list ∙ c.named-named.ensures in
    let here = rw list at c.loop-object-test.true in
    let is = rw list at c.object-item.is in
    first_found (λ y. hindrance_at y (nth None c.args.copies.now.copies y)) (named c.args.tx.now) _ _ _ here is c.hindrance_at-found.ensures (sym c.is_some.ensures ∙ c.if-is_some.true)
    ∙ c.loop-object.invariant

pub loop-object-preserved : goal.loop-object-preserved
loop-object-preserved c =
    let list = c.as_slice-object-items.ensures.list ∙ c.named-named.ensures in
    let here = rw list at c.loop-object-test.true in
    let is = rw list at c.object-item.is in
    first_later (λ y. hindrance_at y (nth None c.args.copies.now.copies y)) (named c.args.tx.now) _ _ _ here is c.hindrance_at-found.ensures (sym c.is_some.ensures ∙ c.if-is_some.false)
    ∙ c.loop-object.invariant

pub returns : goal.returns
returns c =
    let list = c.as_slice-object-items.ensures.list ∙ c.named-named.ensures in
    let past = rw list at c.loop-object-test.false in
    first_none (λ y. hindrance_at y (nth None c.args.copies.now.copies y)) _ _ past ∙ c.loop-object.invariant
