use Rattle.std.proofs.Common.{rules}
use Rattle.zeus_base.specs.Order.{is_below}
use Rattle.zeus_base.proofs.order.Stamp.is_below.Goals as goal

pub returns : goal.returns
unfolding is_below
returns c = search rules
