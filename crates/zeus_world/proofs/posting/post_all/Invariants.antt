use Rattle.std.proofs.Common.{◌≡◌, ◌≤◌, ◌+◌, ◌++◌, drop, length, vec_capacity, vec_len}
use Rattle.zeus_model.specs.World.{all_posted}
use Rattle.lossy_fabric.specs.Links.{letters}
use Rattle.zeus_world.specs.Posting.{CanPost, link_numbers}
use Rattle.zeus_world.proofs.posting.post_all.Given as goal

-- the letters that are left can be posted, and lead to the same
abbrev pub invariant-loop-letter : goal.invariant-loop-letter
invariant-loop-letter l = record {
  can : CanPost l.links (drop l.letter-index l.batch);
  room : vec_len l.numbers + length (drop l.letter-index l.batch) ≤ vec_capacity l.numbers;
  grows : vec_capacity l.initial.numbers ≤ vec_capacity l.numbers;
  links : all_posted (letters l.links) (drop l.letter-index l.batch) ≡ all_posted (letters l.initial.links) l.batch;
  numbers : l.numbers.items ++ link_numbers (letters l.links) (drop l.letter-index l.batch) ≡ l.initial.numbers.items ++ link_numbers (letters l.initial.links) l.batch;
}
