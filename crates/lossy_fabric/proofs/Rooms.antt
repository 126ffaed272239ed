-- The room of a link, before and after a letter is added.
use Rattle.std.proofs.Common.{◌≡◌, ℕ, ◌+◌, ◌<◌, ◌≤◌, arith}
use Rattle.std.specs.Prelude.{vec_capacity, vec_len}
use Rattle.std.specs.Global.{Vec}
use Rattle.zeus_wire.specs.Ranges.{longest, room}
use Rattle.lossy_fabric.specs.Links.{link_room}

-- room for a letter is room for its place
pub starts_room : (bytes starts : Vec ℕ) → 0 < link_room bytes starts → vec_len starts < vec_capacity starts
unfolding link_room
starts_room bytes starts h = omega arith

-- room for a letter is room for the longest packet
pub bytes_room : (bytes starts : Vec ℕ) → 0 < link_room bytes starts → longest 2 ≤ room bytes
unfolding link_room longest
bytes_room bytes starts h = omega arith

-- the starts stay within numbers of 32 bits
pub starts_fit : (bytes starts : Vec ℕ) → 0 < link_room bytes starts → vec_len starts + 1 ≤ 4294967295
unfolding link_room
starts_fit bytes starts h = omega arith

-- a letter takes the room of one
pub pushed_room : (bytes starts after more : Vec ℕ) → room bytes ≤ room after + longest 2 → vec_capacity more ≡ vec_capacity starts → vec_len more ≡ vec_len starts + 1 → link_room bytes starts ≤ link_room after more + 1
unfolding link_room longest
pushed_room bytes starts after more spent capacity len = omega arith
