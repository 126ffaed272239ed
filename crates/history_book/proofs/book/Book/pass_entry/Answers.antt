use Rattle.history_book.proofs.Passing.{entry_passed, none_passed, passed_both, point_size}
use Rattle.history_book.proofs.book.Book.pass_entry.Goals as goal

pub point_once-is_point-requires-clause-there : goal.point_once-is_point-requires-clause-there
point_once-is_point-requires-clause-there c = c.in-Some.ensures.replied.there

pub point_once-is_point-requires-clause-replied : goal.point_once-is_point-requires-clause-replied
point_once-is_point-requires-clause-replied c = c.in-Some.ensures.replied.reply

pub ack_once-is_acked-requires : goal.ack_once-is_acked-requires
ack_once-is_acked-requires c = point_size c.args.self.now.book _ c.in-Some.id _ c.in-Some.ensures.replied.there c.point_once-is_point.ensures.change

pub returns-in-Some-clause-change : goal.returns-in-Some-clause-change
returns-in-Some-clause-change c =
    entry_passed c.args.self.now.book _ c.args.own c.args.stream.now c.args.number c.in-Some.id _ _ _ _ _ _ c.in-Some.ensures.tx
    (passed_both _ _ _ _ _ _ _ c.point_once-is_point.ensures.change c.ack_once-is_acked.ensures.change) c.push_if.ensures.ids c.push_if-in-Some.ensures.ids

pub returns-in_default-clause-change : goal.returns-in_default-clause-change
returns-in_default-clause-change c =
    none_passed c.args.self.now.book c.args.own c.args.stream.now c.args.number c.args.points.now.ids c.args.acked.now.ids c.in_default.ensures.tx
