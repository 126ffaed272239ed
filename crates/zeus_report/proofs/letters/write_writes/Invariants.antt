-- What is written and the text of the writes that are left stay the text of all.
use Rattle.std.proofs.Common.{◌≡◌, ◌++◌, drop}
use Rattle.zeus_model.specs.ReportWords.{writes_text}
use Rattle.zeus_report.proofs.letters.write_writes.Given as goal

abbrev pub invariant-loop-write : goal.invariant-loop-write
invariant-loop-write l = l.out.items ++ writes_text l.names (drop l.write-index l.writes) ≡ l.fn.out.items ++ writes_text l.names l.writes
