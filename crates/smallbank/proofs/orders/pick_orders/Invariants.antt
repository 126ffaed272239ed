use Rattle.std.proofs.Common.{◌-◌}
use Rattle.smallbank.specs.Orders.{picked_orders}
use Rattle.smallbank.proofs.Picking.{IsPicking}
use Rattle.smallbank.proofs.orders.pick_orders.Given as goal

abbrev pub invariant-loop-number : goal.invariant-loop-number
invariant-loop-number l = IsPicking l.accounts (l.count - l._number) l.orders.items l.words (picked_orders l.accounts l.count l.initial.words)
