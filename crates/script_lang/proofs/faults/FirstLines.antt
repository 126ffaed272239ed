-- The first lines of bytes, and the parts that the bytes are cut into.
use Rattle.std.proofs.Common.{◌≡◌, ℕ, zero, suc, ◌≤◌, Bool, true, false, cond, List, [], ◌∷◌, ◌++◌, refl, sym, ap, ◌∙◌, arith}
use Rattle.std.specs.Prelude.{◌==◌}
use Rattle.std.specs.List.{AllByRecursion}
use Rattle.std.proofs.lemmas.Bool.{eqb-true, eqb-false}
use Rattle.zeus_model.specs.FirstFault.{first_lines}
use Rattle.script_lang.specs.Cut.{with_byte, cut}
use Rattle.script_lang.proofs.Cutting.{Lacks, cut_not_none}

-- the text of the first n parts, where each but the last is ended
unfoldable pub shown : ℕ → List (List ℕ) → List ℕ
shown zero ps = []
shown (suc n) [] = []
shown (suc n) (p ∷ []) = p
shown (suc n) (p ∷ q ∷ ps) = p ++ 10 ∷ shown n (q ∷ ps)

-- if parts follow, then one part more in front is shown with its byte 10 before them
pub shown-front : (n : ℕ) (p : List ℕ) (ps : List (List ℕ)) → (ps ≡ [] → ⊥) → shown (suc n) (p ∷ ps) ≡ p ++ 10 ∷ shown n ps
unfolding shown
shown-front n p [] some = absurd (some refl)
shown-front n p (q ∷ ps) some = refl

shown-with_byte : (n b : ℕ) (ps : List (List ℕ)) → shown (suc n) (with_byte b ps) ≡ b ∷ shown (suc n) ps
unfolding shown with_byte
shown-with_byte n b [] = refl
shown-with_byte n b (p ∷ []) = refl
shown-with_byte n b (p ∷ q ∷ ps) = refl

-- the first n lines of bytes are the text of the first n parts of their cut
pub first_lines-shown : (n : ℕ) (bytes : List ℕ) → first_lines n bytes ≡ shown n (cut 10 bytes)
unfolding first_lines shown cut
first_lines-shown zero [] = refl
first_lines-shown zero (b ∷ bytes) = refl
first_lines-shown (suc n) [] = refl
first_lines-shown (suc n) (b ∷ bytes) = go (b == 10) refl (first_lines-shown n bytes) (first_lines-shown (suc n) bytes)
  where
    go : (t : Bool) → (b == 10) ≡ t → first_lines n bytes ≡ shown n (cut 10 bytes) → first_lines (suc n) bytes ≡ shown (suc n) (cut 10 bytes)
        → b ∷ cond t (first_lines n bytes) (first_lines (suc n) bytes) ≡ shown (suc n) (cond t ([] ∷ cut 10 bytes) (with_byte b (cut 10 bytes)))
    go true e ends on = ap (λ (x : ℕ). x ∷ first_lines n bytes) (eqb-true b 10 e) ∙ ap (λ (w : List ℕ). 10 ∷ w) ends ∙ sym (shown-front n [] (cut 10 bytes) (cut_not_none 10 bytes))
    go false e ends on = ap (λ (w : List ℕ). b ∷ w) on ∙ sym (shown-with_byte n b (cut 10 bytes))

-- the first lines of the first lines
pub first_lines-again : (k n : ℕ) (bytes : List ℕ) → k ≤ n → first_lines k (first_lines n bytes) ≡ first_lines k bytes
unfolding first_lines
first_lines-again zero n bytes le = refl
first_lines-again (suc k) zero bytes le = absurd (omega arith)
first_lines-again (suc k) (suc n) [] le = refl
first_lines-again (suc k) (suc n) (b ∷ bytes) le = go (b == 10) (first_lines-again k n bytes (omega arith)) (first_lines-again (suc k) (suc n) bytes le)
  where
    go : (t : Bool) → first_lines k (first_lines n bytes) ≡ first_lines k bytes → first_lines (suc k) (first_lines (suc n) bytes) ≡ first_lines (suc k) bytes
        → b ∷ cond t (first_lines k (cond t (first_lines n bytes) (first_lines (suc n) bytes))) (first_lines (suc k) (cond t (first_lines n bytes) (first_lines (suc n) bytes))) ≡ b ∷ cond t (first_lines k bytes) (first_lines (suc k) bytes)
    go true ends on = ap (λ (w : List ℕ). b ∷ w) ends
    go false ends on = ap (λ (w : List ℕ). b ∷ w) on

-- fewer lines are the same, where more are
pub first_lines-fewer : (k n : ℕ) (xs ys : List ℕ) → k ≤ n → first_lines n xs ≡ first_lines n ys → first_lines k xs ≡ first_lines k ys
first_lines-fewer k n xs ys le same = sym (first_lines-again k n xs le) ∙ ap (first_lines k) same ∙ first_lines-again k n ys le

-- no part holds the separator
lack-with_byte : (d b : ℕ) (ps : List (List ℕ)) → (b ≡ d → ⊥) → AllByRecursion (Lacks d) ps → AllByRecursion (Lacks d) (with_byte b ps)
unfolding with_byte Lacks
lack-with_byte d b [] apart h = ((apart, tt), tt)
lack-with_byte d b (p ∷ ps) apart h = ((apart, h.0), h.1)

-- no part of a cut has the separator in it
pub parts_lack : (d : ℕ) (bytes : List ℕ) → AllByRecursion (Lacks d) (cut d bytes)
unfolding cut Lacks
parts_lack d [] = (tt, tt)
parts_lack d (b ∷ bytes) = go (b == d) refl (parts_lack d bytes)
  where
    go : (t : Bool) → (b == d) ≡ t → AllByRecursion (Lacks d) (cut d bytes) → AllByRecursion (Lacks d) (cond t ([] ∷ cut d bytes) (with_byte b (cut d bytes)))
    go true e rest = (tt, rest)
    go false e rest = lack-with_byte d b (cut d bytes) (eqb-false b d e) rest
