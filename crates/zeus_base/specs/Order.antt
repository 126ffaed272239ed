-- Which of two stamps is the older, and which of two streams comes first.
use Rattle.std.specs.Prelude.{Bool, ◌&&◌, ◌||◌, ◌==◌, nat_lt}
use Rattle.zeus_base.specs.declared.order.Stamp.{Stamp}
use Rattle.zeus_base.specs.declared.order.Stream.{Stream}

-- a stamp is below another where its version is lower, or the versions are one and its driver is lower
unfoldable pub is_below : Stamp → Stamp → Bool
is_below a b = nat_lt a.ver b.ver || ((a.ver == b.ver) && nat_lt a.driver b.driver)

-- whether two stamps are one
unfoldable pub same_stamp : Stamp → Stamp → Bool
same_stamp a b = (a.ver == b.ver) && (a.driver == b.driver)

-- a stream is before another where its node is lower, or the nodes are one and its slot is lower
unfoldable pub is_before : Stream → Stream → Bool
is_before a b = nat_lt a.node b.node || ((a.node == b.node) && nat_lt a.slot b.slot)

-- whether two streams are one
unfoldable pub same_stream : Stream → Stream → Bool
same_stream a b = (a.node == b.node) && (a.slot == b.slot)
