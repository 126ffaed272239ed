use Rattle.std.proofs.Common.{◌≡◌, ◌<◌, length}
use Rattle.zeus_base.specs.TableLaws.{nth_read}
use Rattle.zeus_base.specs.Tables.{nth}
use Rattle.zeus_audit.specs.declared.stage.Mark.TheVariants as marks
use Rattle.zeus_audit.proofs.Replying.{begun_new, begun_old}
use Rattle.zeus_audit.proofs.steps.begin.Goals as goal

pub returns-in-New : goal.returns-in-New
returns-in-New c =
    let ms = c.args.marks.now.items in
    let there : c.place.result < length ms = rw c.place.ensures c.requires in
    let found = nth_read marks.New ms c.place.result c.index.result.now there c.index.ensures in
    let new : nth marks.New ms c.args.id ≡ marks.New = cc (found, c.place.ensures, c.in-New.is) in
    rw c.place-in-New.ensures (begun_new ms c.args.id c.requires new)

pub returns-in_default : goal.returns-in_default
returns-in_default c =
    let ms = c.args.marks.now.items in
    let there : c.place.result < length ms = rw c.place.ensures c.requires in
    let found = nth_read marks.New ms c.place.result c.index.result.now there c.index.ensures in
    let here : nth marks.New ms c.args.id ≡ c.index.result.now = cc (found, c.place.ensures) in
    begun_old ms c.args.id c.index.result.now here c.in_default.not-New
