-- What is written and the lines of the points that are left stay the lines of all.
use Rattle.std.proofs.Common.{◌≡◌, ◌++◌, drop}
use Rattle.zeus_model.specs.ReportText.{point_lines}
use Rattle.zeus_report.proofs.runs.write_points.Given as goal

abbrev pub invariant-loop-id : goal.invariant-loop-id
invariant-loop-id l = l.out.items ++ point_lines l.world.book (drop l.id-index l.ids) ≡ l.fn.out.items ++ point_lines l.world.book l.ids
