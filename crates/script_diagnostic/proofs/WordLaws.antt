-- Parts of bytes, one after another.
use Rattle.std.proofs.Common.{◌≡◌, ℕ, zero, suc, List, [], ◌∷◌, ◌++◌, take, Option, Some, None, Bor, option_copied, refl, sym, ap, ◌∙◌, append_assoc}
use Rattle.std.proofs.lemmas.List.{append-nil}
use Rattle.script_lang.specs.Cut.{IsNextPart}
use Rattle.zeus_model.specs.Faults.{word_of}
use Rattle.script_diagnostic.specs.Fitting.{ended}

-- behind the next part the others have their places one lower
pub word-later : (part : Option (Bor (List ℕ))) (old new : List (List ℕ)) (left more : ℕ) → more ≡ suc left → IsNextPart part old new → word_of new left ≡ word_of old more
unfolding word_of
word-later None old new left more e (none, same) = rw (e, same, none) refl
word-later (Some p) old new left more e is = rw (e, is) refl

-- the next part is the first of those that are left
pub word-first : (part : Option (Bor (List ℕ))) (old new : List (List ℕ)) (left : ℕ) → left ≡ 0 → IsNextPart part old new → option_copied part ≡ word_of old left
unfolding word_of
word-first None old new left e (none, same) = rw (e, none) refl
word-first (Some p) old new left e is = rw (e, is) refl

-- behind no part there is none
take-none : (n : ℕ) → take n (let none : List (List ℕ) = [] in none) ≡ []
take-none zero = refl
take-none (suc n) = refl

-- no part is left
pub ended-none : (d left more : ℕ) (out whole : List ℕ) (old new : List (List ℕ)) → old ≡ [] → new ≡ old → out ++ ended d (take more old) ≡ whole → out ++ ended d (take left new) ≡ whole
unfolding ended
ended-none d left more out whole old new none same kept = rw (same, none, take-none left) (ap (λ ps. out ++ ended d ps) (sym (take-none more)) ∙ (ap (λ ps. out ++ ended d (take more ps)) (sym none) ∙ kept))

-- the next part is written, and the separator behind it
pub ended-some : (d left more : ℕ) (part out with_part after whole : List ℕ) (old new : List (List ℕ)) → more ≡ suc left → old ≡ part ∷ new → with_part ≡ out ++ part → after ≡ with_part ++ d ∷ []
    → out ++ ended d (take more old) ≡ whole → after ++ ended d (take left new) ≡ whole
unfolding ended
ended-some d left more part out with_part after whole old new e is wrote closed kept =
    let rest = ended d (take left new) in
    let whole_is : out ++ (part ++ d ∷ rest) ≡ whole = ap (λ n. out ++ ended d (take n (part ∷ new))) (sym e) ∙ (ap (λ ps. out ++ ended d (take more ps)) (sym is) ∙ kept) in
    rw (closed, wrote, append_assoc (out ++ part) (d ∷ []) rest, append_assoc out part (d ∷ rest)) whole_is

-- nothing is left to write
pub ended-all : (d left : ℕ) (out whole : List ℕ) (parts : List (List ℕ)) → left ≡ 0 → out ++ ended d (take left parts) ≡ whole → out ≡ whole
unfolding ended
ended-all d left out whole parts e kept = sym (append-nil out) ∙ (ap (λ n. out ++ ended d (take n parts)) (sym e) ∙ kept)
