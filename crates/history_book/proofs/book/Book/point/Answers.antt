use Rattle.std.proofs.Common.{◌≡◌, ◌∙◌, sym, ap, Some, None, true, false}
use Rattle.std.specs.Prelude.{is_some}
use Rattle.history_book.proofs.History.{length-points, none_there, pointed_there, point_there, point_replied}
use Rattle.history_book.proofs.book.Book.point.Goals as goal

pub returns-in_default : goal.returns-in_default
returns-in_default c =
    rw (← c.self.view_is, length-points c.self.inside.records.items c.self.inside.points.ids) (none_there c.self.inside.points.ids c.args.place c.in_default.ensures)

pub returns-in-None : goal.returns-in-None
returns-in-None c =
    let pointed = pointed_there c.self.inside.records.items c.self.inside.points.ids c.args.place c.in-Some.id c.self.invariant.pointed c.in-Some.ensures in
    let none = rw (← c.self.view_is) at c.in-None.ensures in
    let has = pointed.reply in
    let no = ap is_some (sym none) in
    cc

pub returns-in-Some-reply : goal.returns-in-Some-reply
returns-in-Some-reply c =
    let replied = rw (← c.self.view_is) at c.in-Some-reply.ensures in
    rw (← c.self.view_is)
    (point_there c.self.inside.records.items c.self.inside.points.ids c.args.place c.in-Some.id c.in-Some.ensures
    ∙ ap Some (point_replied c.self.inside.records.items c.in-Some.id _ replied))
