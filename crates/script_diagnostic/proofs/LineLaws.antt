-- Lines by their numbers.
use Rattle.std.proofs.Common.{◌≡◌, ℕ, zero, suc, List, [], ◌∷◌, drop, refl}
use Rattle.zeus_model.specs.Tables.{nth}

-- the first of the others, with those behind it, are the others
pub nth-others : (line : List ℕ) (lines : List (List ℕ)) (left more : ℕ) → more ≡ suc left → nth [] (nth [] lines 0 ∷ drop 1 lines) left ≡ nth [] (line ∷ lines) more
unfolding nth
nth-others line lines left more e = rw e (go lines left)
  where
    go : (ls : List (List ℕ)) (i : ℕ) → nth [] (nth [] ls 0 ∷ drop 1 ls) i ≡ nth [] ls i
    go [] zero = refl
    go [] (suc i) = refl
    go (l ∷ ls) zero = refl
    go (l ∷ ls) (suc i) = refl

pub nth-first : (line : List ℕ) (lines : List (List ℕ)) (left : ℕ) → left ≡ 0 → nth [] (line ∷ lines) left ≡ line
unfolding nth
nth-first line lines left e = rw e refl
