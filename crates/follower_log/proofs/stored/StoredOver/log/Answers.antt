use Rattle.std.proofs.Common.{◌<◌, length, sym, arith}
use Rattle.follower_log.proofs.Logs.{log_read, slot_within}
use Rattle.follower_log.proofs.stored.StoredOver.log.Goals as goal

pub index-requires : goal.index-requires
index-requires g c =
    let stream = rw (← c.self.view_is) at c.requires in
    let row = rw c.place.ensures at c.index-logs.ensures in
    let within : c.args.s.slot < length c.logs.inside.slots.items = rw c.logs.view_is (slot_within _ c.args.s _ stream row) in
    omega arith

pub returns : goal.returns
returns g c =
    let stream = rw (← c.self.view_is) at c.requires in
    let row = rw c.place.ensures at c.index-logs.ensures in
    let log = rw (c.place-2.ensures, c.logs.view_is) at c.index.ensures in
    rw (← c.self.view_is) (sym (log_read _ c.args.s _ _ stream row log))
