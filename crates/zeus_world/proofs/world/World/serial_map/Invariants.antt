use Rattle.std.proofs.Common.{◌≡◌, drop, length}
use Rattle.zeus_txn.specs.Map.{start_map}
use Rattle.zeus_model.specs.Serial.{serial_map}
use Rattle.zeus_model.specs.Sound.{history_txs}
use Rattle.zeus_world.specs.Serial.{HasVersions}
use Rattle.zeus_world.proofs.world.World.serial_map.Given as goal

-- what is left of the history leads from the map to the map of all
abbrev pub invariant-loop-place : goal.invariant-loop-place
invariant-loop-place l = record {
  versions : HasVersions (length l.self.config.objects) l.place l.map;
  left : serial_map l.map (history_txs l.self (drop l.place l.self.book.points)) ≡ serial_map (start_map l.self.config) (history_txs l.self l.self.book.points);
}
