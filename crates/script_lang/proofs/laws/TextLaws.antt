-- Bytes that are cut and put together again.
use Rattle.std.proofs.Common.{◌≡◌, ℕ, Bool, true, false, cond, List, [], ◌∷◌, ◌++◌, refl, sym, ap, ◌∙◌, append_assoc}
use Rattle.std.specs.Prelude.{◌==◌, map}
use Rattle.std.proofs.lemmas.Bool.{eqb-true}
use Rattle.zeus_model.specs.Spelling.{spaced, words_text, lines_text}
use Rattle.script_lang.specs.Cut.{with_byte, cut, joined}
use Rattle.script_lang.proofs.Cutting.{first_part, other_parts, cut_some}

-- ---- words

words_text-with_byte : (b : ℕ) (ps : List (List ℕ)) → words_text (with_byte b ps) ≡ b ∷ words_text ps
unfolding words_text with_byte spaced
words_text-with_byte b [] = refl
words_text-with_byte b (p ∷ ps) = refl

spaced-words : (ps : List (List ℕ)) → (ps ≡ [] → ⊥) → spaced ps ≡ 32 ∷ words_text ps
unfolding words_text spaced
spaced-words [] some = absurd (some refl)
spaced-words (p ∷ ps) some = refl

not_none : (p : List ℕ) (ps qs : List (List ℕ)) → qs ≡ p ∷ ps → qs ≡ [] → ⊥
not_none p ps qs is none = cc

-- the words of a line are the line
pub words_text-cut : (line : List ℕ) → words_text (cut 32 line) ≡ line
unfolding cut words_text spaced
words_text-cut [] = refl
words_text-cut (b ∷ bs) = go (b == 32) refl (words_text-cut bs)
  where
    go : (t : Bool) → (b == 32) ≡ t → words_text (cut 32 bs) ≡ bs → words_text (cond t ([] ∷ cut 32 bs) (with_byte b (cut 32 bs))) ≡ b ∷ bs
    go true e rest =
        let some : cut 32 bs ≡ [] → ⊥ = not_none (first_part (cut 32 bs)) (other_parts (cut 32 bs)) (cut 32 bs) (cut_some 32 bs) in
        spaced-words (cut 32 bs) some ∙ ap (λ (w : List ℕ). 32 ∷ w) rest ∙ ap (λ (x : ℕ). x ∷ bs) (sym (eqb-true b 32 e))
    go false e rest = words_text-with_byte b (cut 32 bs) ∙ ap (λ (w : List ℕ). b ∷ w) rest

-- ---- lines

joined-with_byte : (d b : ℕ) (ps : List (List ℕ)) → joined d (with_byte b ps) ≡ b ∷ joined d ps
unfolding joined with_byte
joined-with_byte d b [] = refl
joined-with_byte d b (p ∷ []) = refl
joined-with_byte d b (p ∷ q ∷ ps) = refl

joined-front : (d : ℕ) (p : List ℕ) (ps : List (List ℕ)) → (ps ≡ [] → ⊥) → joined d (p ∷ ps) ≡ p ++ d ∷ joined d ps
unfolding joined
joined-front d p [] some = absurd (some refl)
joined-front d p (q ∷ ps) some = refl

-- the parts of bytes are the bytes
pub joined-cut : (d : ℕ) (bs : List ℕ) → joined d (cut d bs) ≡ bs
unfolding cut joined
joined-cut d [] = refl
joined-cut d (b ∷ bs) = go (b == d) refl (joined-cut d bs)
  where
    go : (t : Bool) → (b == d) ≡ t → joined d (cut d bs) ≡ bs → joined d (cond t ([] ∷ cut d bs) (with_byte b (cut d bs))) ≡ b ∷ bs
    go true e rest =
        let some : cut d bs ≡ [] → ⊥ = not_none (first_part (cut d bs)) (other_parts (cut d bs)) (cut d bs) (cut_some d bs) in
        joined-front d [] (cut d bs) some ∙ ap (λ (w : List ℕ). d ∷ w) rest ∙ ap (λ (x : ℕ). x ∷ bs) (sym (eqb-true b d e))
    go false e rest = joined-with_byte d b (cut d bs) ∙ ap (λ (w : List ℕ). b ∷ w) rest

-- the texts of lines and an empty part behind them are not nothing
pub ended_lines : (ls : List (List (List ℕ))) → map words_text ls ++ [] ∷ [] ≡ [] → ⊥
ended_lines [] none = cc
ended_lines (l ∷ ls) none = cc

-- if the texts of lines and an empty part are joined by byte 10, then they are the text of the lines
pub joined-lines : (ls : List (List (List ℕ))) → joined 10 (map words_text ls ++ [] ∷ []) ≡ lines_text ls
unfolding joined lines_text
joined-lines [] = refl
joined-lines (l ∷ ls) =
    joined-front 10 (words_text l) (map words_text ls ++ [] ∷ []) (ended_lines ls) ∙ rw (joined-lines ls) (sym (append_assoc (words_text l) (10 ∷ []) (lines_text ls)))

-- if bytes are cut into the texts of lines and an empty part, then they are the text of these lines
pub lines_of_parts : (bytes : List ℕ) (ls : List (List (List ℕ))) → cut 10 bytes ≡ map words_text ls ++ [] ∷ [] → bytes ≡ lines_text ls
lines_of_parts bytes ls is = sym (joined-cut 10 bytes) ∙ ap (joined 10) is ∙ joined-lines ls
