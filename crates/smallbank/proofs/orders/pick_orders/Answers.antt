use Rattle.std.proofs.Common.{rules}
use Rattle.smallbank.proofs.Picking.{picking_all, picking_more, picking_none}
use Rattle.smallbank.specs.Orders.{picked_orders}
use Rattle.smallbank.proofs.orders.pick_orders.Goals as goal

pub loop-number-init : goal.loop-number-init
loop-number-init c = search (rules, picking_none)

pub loop-number-preserved : goal.loop-number-preserved
loop-number-preserved c =
    picking_more c.args.accounts c.args.count c.loop-number._number c.loop-number.orders.items c.push_order.new.orders.items c.loop-number.words c.push_order.new.words
    (picked_orders c.args.accounts c.args.count c.args.words.now) c.loop-number-test.true c.in_ok-push_order.ensures.order c.push_order.ensures.words c.loop-number.invariant

pub returns : goal.returns
returns c =
    picking_all c.args.accounts c.args.count c.loop-number._number c.loop-number.orders.items c.loop-number.words
    (picked_orders c.args.accounts c.args.count c.args.words.now) c.loop-number-test.false c.loop-number.invariant
