use Rattle.std.proofs.Common.{◌≡◌, ◌≤◌, ◌+◌, take}
use Rattle.zeus_world.proofs.report.Packets.fill.Given as goal

abbrev pub invariant-loop-place : goal.invariant-loop-place
invariant-loop-place l = record {
  packets : l.self.packets ≡ take l.place l.sent;
  room : 64 ≤ l.self.room + l.place;
}
