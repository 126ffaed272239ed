use Rattle.std.proofs.Common.{◌<◌, ◌≡◌, length, refl, ap, true, None, Some}
use Rattle.std.specs.Prelude.{is_some}
use Rattle.zeus_base.specs.TableLaws.{length-put, nth-put_same}
use Rattle.zeus_model.specs.Book.{TxRecord, no_record, record_of}
use Rattle.history_book.proofs.Current.{current_free}
use Rattle.history_book.proofs.book.Book.read.Goals as goal

pub set_reply-requires-clause-first : goal.set_reply-requires-clause-first
set_reply-requires-clause-first c = (current_free _ c.requires.current).point

pub add_point-requires-clause-there : goal.add_point-requires-clause-there
add_point-requires-clause-there c =
    rw (c.set_reply.ensures, length-put no_record c.args.self.now.book.records c.args.id _ c.requires.there) c.requires.there

pub add_point-requires-clause-replied : goal.add_point-requires-clause-replied
add_point-requires-clause-replied c =
    rw (c.set_reply.ensures, nth-put_same no_record c.args.self.now.book.records c.args.id (record (record_of c.args.self.now.book c.args.id) { reply = Some c.args.reply })) refl

pub add_point-requires-clause-first : goal.add_point-requires-clause-first
add_point-requires-clause-first c =
    rw (c.set_reply.ensures, nth-put_same no_record c.args.self.now.book.records c.args.id (record (record_of c.args.self.now.book c.args.id) { reply = Some c.args.reply })) (current_free _ c.requires.current).point

pub ack-requires : goal.ack-requires
ack-requires c =
    let there : c.args.id < length c.set_reply.new.self.book.records =
    rw (c.set_reply.ensures, length-put no_record c.args.self.now.book.records c.args.id _ c.requires.there) c.requires.there
    in
    rw (c.add_point.ensures, length-put no_record c.set_reply.new.self.book.records c.args.id _ there) there
