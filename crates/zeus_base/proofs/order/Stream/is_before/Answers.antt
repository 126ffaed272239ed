use Rattle.std.proofs.Common.{rules}
use Rattle.zeus_base.specs.Order.{is_before}
use Rattle.zeus_base.proofs.order.Stream.is_before.Goals as goal

pub returns : goal.returns
unfolding is_before
returns c = search rules
