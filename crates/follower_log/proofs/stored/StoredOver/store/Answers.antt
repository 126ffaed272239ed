use Rattle.std.proofs.Common.{◌<◌, length, sym, ◌∙◌, arith}
use Rattle.zeus_model.specs.Commit.{stored_rinv}
use Rattle.follower_log.specs.StreamLaws.{IsStreamOf-with_log_at}
use Rattle.follower_log.proofs.Logs.{log_of, log_read, log_written, slot_within, written_of, stored_logs}
use Rattle.follower_log.proofs.stored.StoredOver.store.Goals as goal

pub index_mut-log-requires : goal.index_mut-log-requires
index_mut-log-requires g c =
    let stream = rw (← c.self.view_is) at c.requires.stream in
    let row = rw c.place.ensures at c.index_mut-logs.ensures.value in
    let within : c.args.r.now.stream.slot < length c.logs.inside.slots.items = rw c.logs.view_is (slot_within _ c.args.r.now.stream _ stream row) in
    omega arith

pub returns-clause-answer : goal.returns-clause-answer
returns-clause-answer g c = λ n from same.
    let stream = rw (← c.self.view_is) at c.requires.stream in
    let row = rw c.place.ensures at c.index_mut-logs.ensures.value in
    let log = rw (c.place-2.ensures, c.logs.view_is) at c.index_mut-log.ensures.value in
    c.store.ensures.answer n from (log_of n _ c.args.r.now.stream _ (same ∙ sym c.self.view_is) (log_read _ c.args.r.now.stream _ _ stream row log))

pub returns-clause-after : goal.returns-clause-after
returns-clause-after g c = λ n from same.
    let stream = rw (← c.self.view_is) at c.requires.stream in
    let row = rw c.place.ensures at c.index_mut-logs.ensures.value in
    let log = rw (c.place-2.ensures, c.logs.view_is) at c.index_mut-log.ensures.value in
    let here = log_of n _ c.args.r.now.stream _ (same ∙ sym c.self.view_is) (log_read _ c.args.r.now.stream _ _ stream row log) in
    rw (c.place.ensures, c.place-2.ensures, c.logs.view_is) (written_of n _ c.args.r.now.stream _ _ (stored_rinv n from c.args.r.now).node (same ∙ sym c.self.view_is) stream row (c.store.ensures.after n from here) (stored_logs n from c.args.r.now))

pub returns-clause-streams : goal.returns-clause-streams
returns-clause-streams g c = λ t there.
    let stream = rw (← c.self.view_is) at c.requires.stream in
    let row = rw c.place.ensures at c.index_mut-logs.ensures.value in
    rw (c.place.ensures, c.place-2.ensures, c.logs.view_is, log_written _ c.args.r.now.stream _ c.store.new.self stream row) (IsStreamOf-with_log_at _ c.args.r.now.stream t c.store.new.self stream (rw (← c.self.view_is) at there))
