use Rattle.std.proofs.Common.{◌<◌, length, sym, ◌∙◌, arith}
use Rattle.zeus_model.specs.Commit.{on_kept_rack}
use Rattle.follower_log.specs.StreamLaws.{IsStreamOf-with_log_at}
use Rattle.follower_log.proofs.Logs.{log_of, log_read, log_written, slot_within, written_of, acked_logs}
use Rattle.follower_log.proofs.stored.StoredOver.ack.Goals as goal

pub index_mut-log-requires : goal.index_mut-log-requires
index_mut-log-requires g c =
    let stream = rw (← c.self.view_is) at c.requires in
    let row = rw c.place.ensures at c.index_mut-logs.ensures.value in
    let within : c.args.s.slot < length c.logs.inside.slots.items = rw c.logs.view_is (slot_within _ c.args.s _ stream row) in
    omega arith

pub returns-clause-answer : goal.returns-clause-answer
returns-clause-answer g c = λ n same.
    let stream = rw (← c.self.view_is) at c.requires in
    let row = rw c.place.ensures at c.index_mut-logs.ensures.value in
    let log = rw (c.place-2.ensures, c.logs.view_is) at c.index_mut-log.ensures.value in
    c.ack.ensures.answer n c.args.s (log_of n _ c.args.s _ (same ∙ sym c.self.view_is) (log_read _ c.args.s _ _ stream row log))

pub returns-clause-after : goal.returns-clause-after
returns-clause-after g c = λ n same.
    let stream = rw (← c.self.view_is) at c.requires in
    let row = rw c.place.ensures at c.index_mut-logs.ensures.value in
    let log = rw (c.place-2.ensures, c.logs.view_is) at c.index_mut-log.ensures.value in
    let here = log_of n _ c.args.s _ (same ∙ sym c.self.view_is) (log_read _ c.args.s _ _ stream row log) in
    rw (c.place.ensures, c.place-2.ensures, c.logs.view_is) (written_of n _ c.args.s _ _ (on_kept_rack n c.args.from c.args.s c.args.number).node (same ∙ sym c.self.view_is) stream row (c.ack.ensures.after n c.args.s here) (acked_logs n c.args.from c.args.s c.args.number))

pub returns-clause-streams : goal.returns-clause-streams
returns-clause-streams g c = λ t there.
    let stream = rw (← c.self.view_is) at c.requires in
    let row = rw c.place.ensures at c.index_mut-logs.ensures.value in
    rw (c.place.ensures, c.place-2.ensures, c.logs.view_is, log_written _ c.args.s _ c.ack.new.self stream row) (IsStreamOf-with_log_at _ c.args.s t c.ack.new.self stream (rw (← c.self.view_is) at there))
