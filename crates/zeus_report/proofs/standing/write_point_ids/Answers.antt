use Rattle.std.proofs.Common.{◌<◌, ◌≤◌, length, refl, arith}
use Rattle.zeus_base.specs.TableLaws.{nth_here}
use Rattle.zeus_base.specs.LoopLaws.{one_more, all_done}
use Rattle.zeus_model.specs.ReportText.{points_text}
use Rattle.zeus_model.specs.ReportWords.{number}
use Rattle.zeus_model.specs.Book.{no_reply}
use Rattle.zeus_report.specs.Lines.{point_at}
use Rattle.zeus_report.proofs.standing.write_point_ids.Goals as goal

pub loop-place-preserved : goal.loop-place-preserved
unfolding points_text
loop-place-preserved c =
    let points = c.args.book.now.book.points in
    let within : c.loop-place.place < length points = omega (arith, c.len-place-end.ensures, c.loop-place-test.true) in
    one_more points_text (λ p. number p.id) (λ p ps. refl) points c.loop-place.place (point_at points c.loop-place.place)
    c.loop-place.out.items c.write_point_id.new.out.items _ within
    (nth_here record { id = 0; reply = no_reply } points c.loop-place.place within)
    c.loop-place.invariant (c.in_ok-write_point_id.ensures)

pub returns : goal.returns
unfolding points_text
returns c =
    let points = c.args.book.now.book.points in
    let past : length points ≤ c.loop-place.place = omega (arith, c.len-place-end.ensures, c.loop-place-test.false) in
    all_done points_text refl points c.loop-place.place c.loop-place.out.items _ past c.loop-place.invariant
