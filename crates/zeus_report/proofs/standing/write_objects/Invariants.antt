-- What is written and the text of the objects that are left stay the text of all.
use Rattle.std.proofs.Common.{◌≡◌, ◌++◌, ◌-◌}
use Rattle.zeus_model.specs.ReportText.{objects_text}
use Rattle.zeus_model.specs.Tables.{numbers_from}
use Rattle.zeus_report.proofs.standing.write_objects.Given as goal

abbrev pub invariant-loop-x : goal.invariant-loop-x
invariant-loop-x l = l.out.items ++ objects_text l.names l.world (numbers_from l.x (l.count - l.x)) ≡ l.fn.out.items ++ objects_text l.names l.world (numbers_from 0 l.count)
