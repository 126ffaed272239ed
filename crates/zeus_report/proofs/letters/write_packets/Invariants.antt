-- What is written and the lines of the packets that are left stay the lines of all.
use Rattle.std.proofs.Common.{◌≡◌, ◌++◌, drop}
use Rattle.zeus_model.specs.ReportText.{packet_lines}
use Rattle.zeus_report.proofs.letters.write_packets.Given as goal

abbrev pub invariant-loop-place : goal.invariant-loop-place
invariant-loop-place l = l.out.items ++ packet_lines l.names (drop l.place l.sent) ≡ l.fn.out.items ++ packet_lines l.names l.sent
