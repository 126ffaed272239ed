use Rattle.std.proofs.Common.{◌<◌, length, arith}
use Rattle.follower_log.specs.StreamLaws.{IsStreamOf-with_log_at}
use Rattle.follower_log.proofs.Logs.{log_read, log_written, rest_written, slot_within}
use Rattle.follower_log.proofs.stored.StoredOver.raise_rest.Goals as goal

pub index_mut-log-requires : goal.index_mut-log-requires
index_mut-log-requires g c =
    let stream = rw (← c.self.view_is) at c.requires.stream in
    let row = rw c.place.ensures at c.index_mut-logs.ensures.value in
    let within : c.args.s.slot < length c.logs.inside.slots.items = rw c.logs.view_is (slot_within _ c.args.s _ stream row) in
    omega arith

pub raise_rest-requires : goal.raise_rest-requires
raise_rest-requires g c =
    let stream = rw (← c.self.view_is) at c.requires.stream in
    let row = rw c.place.ensures at c.index_mut-logs.ensures.value in
    let log = rw (c.place-2.ensures, c.logs.view_is) at c.index_mut-log.ensures.value in
    rw (← c.self.view_is, log_read _ c.args.s _ _ stream row log) at c.requires.raised

pub returns-clause-after : goal.returns-clause-after
returns-clause-after g c =
    let stream = rw (← c.self.view_is) at c.requires.stream in
    let row = rw c.place.ensures at c.index_mut-logs.ensures.value in
    let log = rw (c.place-2.ensures, c.logs.view_is) at c.index_mut-log.ensures.value in
    rw (← c.self.view_is, c.place.ensures, c.place-2.ensures, c.logs.view_is, log_written _ c.args.s _ c.raise_rest.new.self stream row)
    (rest_written _ c.args.s _ _ c.args.done stream (log_read _ c.args.s _ _ stream row log) c.raise_rest.ensures)

pub returns-clause-streams : goal.returns-clause-streams
returns-clause-streams g c = λ t there.
    let stream = rw (← c.self.view_is) at c.requires.stream in
    let row = rw c.place.ensures at c.index_mut-logs.ensures.value in
    rw (c.place.ensures, c.place-2.ensures, c.logs.view_is, log_written _ c.args.s _ c.raise_rest.new.self stream row) (IsStreamOf-with_log_at _ c.args.s t c.raise_rest.new.self stream (rw (← c.self.view_is) at there))
