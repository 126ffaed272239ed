-- The copies at the live nodes of a list, one node after another.
use Rattle.std.proofs.Common.{ℕ, ◌≡◌, Bool, true, false, List, [], ◌∷◌, ◌++◌, refl}
use Rattle.std.specs.Prelude.{if◌then◌else◌}
use Rattle.zeus_model.specs.ReportText.{copy_line, copy_lines}
use Rattle.zeus_model.specs.Readers.{is_live, live_among}
use Rattle.zeus_model.specs.State.{copy}
use Rattle.zeus_model.specs.World.{World, node}
use Rattle.zeus_report.specs.Lines.{live_copy}

split_at : (names : List (List ℕ)) (w : World) (x n : ℕ) (ns : List ℕ) (live : Bool) → copy_lines names w x (if live then n ∷ ns else ns) ≡ (if live then copy_line names x n (copy (node w n) x) else []) ++ copy_lines names w x ns
unfolding copy_lines
split_at names w x n ns true = refl
split_at names w x n ns false = refl

-- the first node's copy, if it is live, and those of the others
pub live_copies_split : (names : List (List ℕ)) (w : World) (x n : ℕ) (ns : List ℕ) → copy_lines names w x (live_among w (n ∷ ns)) ≡ live_copy names w x n ++ copy_lines names w x (live_among w ns)
unfolding live_among
live_copies_split names w x n ns = split_at names w x n (live_among w ns) (is_live w n)
