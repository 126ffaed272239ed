use Rattle.std.proofs.Common.{◌≡◌, map, take}
use Rattle.smallbank.specs.Orders.{tx_of}
use Rattle.smallbank.proofs.orders.txs_of.Given as goal

abbrev pub invariant-loop-order : goal.invariant-loop-order
invariant-loop-order l = l.txs.items ≡ map tx_of (take l.order-index l.orders)
