use Rattle.std.proofs.Common.{◌≡◌, map, take}
use Rattle.smallbank.specs.Orders.{declared_tx}
use Rattle.smallbank.proofs.script.declare_all.Given as goal

abbrev pub invariant-loop-order : goal.invariant-loop-order
invariant-loop-order l = l.txs.items ≡ map declared_tx (take l.order-index l.orders)
