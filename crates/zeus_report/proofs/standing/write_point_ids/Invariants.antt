-- What is written and the points that are left stay all of them.
use Rattle.std.proofs.Common.{◌≡◌, ◌++◌, drop}
use Rattle.zeus_model.specs.ReportText.{points_text}
use Rattle.zeus_report.proofs.standing.write_point_ids.Given as goal

abbrev pub invariant-loop-place : goal.invariant-loop-place
invariant-loop-place l =
    l.out.items ++ points_text (drop l.place l.book.book.points) ≡ l.fn.out.items ++ points_text l.book.book.points
