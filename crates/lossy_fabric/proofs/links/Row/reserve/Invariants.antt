use Rattle.std.proofs.Common.{ℕ, ◌≡◌, ◌<◌, ◌≤◌, length}
use Rattle.zeus_model.specs.Tables.{nth}
use Rattle.lossy_fabric.specs.Links.{no_link, row_letters}
use Rattle.lossy_fabric.proofs.links.Row.reserve.Given as goal

-- the letters stay, and the links before have room
abbrev pub invariant-loop-receiver : goal.invariant-loop-receiver
invariant-loop-receiver l = record {
  same : row_letters l.self-inside.links.items ≡ row_letters l.initial.self-inside.links.items;
  size : length l.self-inside.links.items ≡ l.receiver-end;
  room : (to : ℕ) → to < l.receiver → 64 ≤ (nth no_link l.self-inside.links.items to).room;
}
