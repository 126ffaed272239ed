use Rattle.std.proofs.Common.{◌<◌, length, arith}
use Rattle.follower_log.specs.StreamLaws.{IsStreamOf-with_log_at}
use Rattle.follower_log.proofs.Logs.{log_read, log_written, raised_written, slot_within, with_log_at-same}
use Rattle.follower_log.proofs.stored.StoredOver.raise_one.Goals as goal

pub index_mut-log-requires : goal.index_mut-log-requires
index_mut-log-requires g c =
    let stream = rw (← c.self.view_is) at c.requires in
    let row = rw c.place.ensures at c.index_mut-logs.ensures.value in
    let within : c.args.s.slot < length c.logs.inside.slots.items = rw c.logs.view_is (slot_within _ c.args.s _ stream row) in
    omega arith

pub returns-clause-entry : goal.returns-clause-entry
returns-clause-entry g c =
    let stream = rw (← c.self.view_is) at c.requires in
    let row = rw c.place.ensures at c.index_mut-logs.ensures.value in
    let log = rw (c.place-2.ensures, c.logs.view_is) at c.index_mut-log.ensures.value in
    rw (← c.self.view_is, log_read _ c.args.s _ _ stream row log) c.raise_one.ensures.entry

pub returns-clause-raised : goal.returns-clause-raised
returns-clause-raised g c =
    let stream = rw (← c.self.view_is) at c.requires in
    let row = rw c.place.ensures at c.index_mut-logs.ensures.value in
    let log = rw (c.place-2.ensures, c.logs.view_is) at c.index_mut-log.ensures.value in
    rw (← c.self.view_is, c.place.ensures, c.place-2.ensures, c.logs.view_is, log_written _ c.args.s _ c.raise_one.new.self stream row, log_read _ c.args.s _ _ stream row log)
    (raised_written _ c.args.s c.index_mut-log.result.now c.raise_one.new.self c.raise_one.result c.raise_one.ensures.raised)

pub returns-clause-kept : goal.returns-clause-kept
returns-clause-kept g c = λ none.
    let stream = rw (← c.self.view_is) at c.requires in
    let row = rw c.place.ensures at c.index_mut-logs.ensures.value in
    let log = rw (c.place-2.ensures, c.logs.view_is) at c.index_mut-log.ensures.value in
    rw (← c.self.view_is, c.place.ensures, c.place-2.ensures, c.logs.view_is, log_written _ c.args.s _ c.raise_one.new.self stream row, c.raise_one.ensures.kept none, ← log_read _ c.args.s _ _ stream row log)
    (with_log_at-same _ c.args.s stream)

pub returns-clause-streams : goal.returns-clause-streams
returns-clause-streams g c = λ t there.
    let stream = rw (← c.self.view_is) at c.requires in
    let row = rw c.place.ensures at c.index_mut-logs.ensures.value in
    rw (c.place.ensures, c.place-2.ensures, c.logs.view_is, log_written _ c.args.s _ c.raise_one.new.self stream row) (IsStreamOf-with_log_at _ c.args.s t c.raise_one.new.self stream (rw (← c.self.view_is) at there))
