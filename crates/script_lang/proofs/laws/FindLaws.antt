-- Where a name stands among names.
use Rattle.std.proofs.Common.{◌≡◌, ◌≢◌, ℕ, zero, suc, ◌<◌, Bool, true, false, cond, List, [], ◌∷◌, length, get_or, Option, Some, None, refl, sym, arith}
use Rattle.std.specs.Prelude.{option_map, AllPairs}
use Rattle.std.specs.Str.{bytes_eq}
use Rattle.std.proofs.lemmas.Slice.Eq.{bytes_eq-Decides}
use Rattle.zeus_base.specs.Tables.{nth}
use Rattle.zeus_base.specs.TableLaws.{nth-get_or}
use Rattle.script_lang.specs.Names.{find}

-- a word is equal to itself
pub bytes_eq-same : (w : List ℕ) → bytes_eq w w ≡ true
bytes_eq-same w = (bytes_eq-Decides w w).1 refl

-- if the test finds two words equal, then they are
pub bytes_eq-true : (v w : List ℕ) → bytes_eq v w ≡ true → v ≡ w
bytes_eq-true v w = (bytes_eq-Decides v w).0

-- if two words are not equal, then the test finds them so
pub bytes_eq-other : (v w : List ℕ) → v ≢ w → bytes_eq v w ≡ false
bytes_eq-other v w other = go (bytes_eq v w) refl
  where
    go : (t : Bool) → bytes_eq v w ≡ t → t ≡ false
    go true e = absurd (other (bytes_eq-true v w e))
    go false e = refl

-- if a name is found at a place, then the place is one of the names' and the name stands there
pub find-sound : (names : List (List ℕ)) (w : List ℕ) (i : ℕ) → find names w ≡ Some i → (i < length names) × (nth [] names i ≡ w)
unfolding find nth
find-sound [] w i h = absurd cc
find-sound (n ∷ ns) w i h = go (bytes_eq w n) (find ns w) refl refl h (find-sound ns w)
  where
    go : (t : Bool) (o : Option ℕ) → bytes_eq w n ≡ t → find ns w ≡ o → cond t (Some 0) (option_map suc o) ≡ Some i → ((j : ℕ) → find ns w ≡ Some j → (j < length ns) × (nth [] ns j ≡ w)) → (i < suc (length ns)) × (nth [] (n ∷ ns) i ≡ w)
    go true o e f g more =
        let first : i ≡ 0 = cc in
        rw first (omega arith, sym (bytes_eq-true w n e))
    go false None e f g more = absurd cc
    go false (Some j) e f g more =
        let next : i ≡ suc j = cc in
        let rest = more j f in
        rw next (omega (arith, rest.0), rest.1)

-- if a name is not found, then it stands at no place
pub find-nowhere : (names : List (List ℕ)) (w : List ℕ) → find names w ≡ None → (k : ℕ) (d : List ℕ) → k < length names → get_or names k d ≢ w
unfolding find
find-nowhere [] w h k d lt = absurd (omega arith)
find-nowhere (n ∷ ns) w h k d lt = go (bytes_eq w n) (find ns w) refl refl h (find-nowhere ns w) k lt
  where
    go : (t : Bool) (o : Option ℕ) → bytes_eq w n ≡ t → find ns w ≡ o → cond t (Some 0) (option_map suc o) ≡ None → (find ns w ≡ None → (k : ℕ) (d : List ℕ) → k < length ns → get_or ns k d ≢ w) → (k : ℕ) → k < suc (length ns) → get_or (n ∷ ns) k d ≢ w
    go true o e f g more k lt = absurd cc
    go false (Some j) e f g more k lt = absurd cc
    go false None e f g more zero lt = λ same. let equal : bytes_eq w n ≡ true = rw same (bytes_eq-same w) in absurd cc
    go false None e f g more (suc k) lt = more f k d (omega arith)

-- if a name stands at no place, then it is not found
pub find-none : (names : List (List ℕ)) (w : List ℕ) → ((k : ℕ) (d : List ℕ) → k < length names → get_or names k d ≢ w) → find names w ≡ None
unfolding find
find-none [] w h = refl
find-none (n ∷ ns) w h =
    let first : bytes_eq w n ≡ false = bytes_eq-other w n (λ e. h 0 [] (omega arith) (sym e)) in
    let rest : find ns w ≡ None = find-none ns w (λ k d lt. h (suc k) d (omega arith)) in
    rw (first, rest) refl

-- if no two names are equal, then each is found at its place
pub find-nth : (names : List (List ℕ)) (i : ℕ) → AllPairs (λ a b. a ≢ b) names → i < length names → find names (nth [] names i) ≡ Some i
unfolding find nth
find-nth [] i all lt = absurd (omega arith)
find-nth (n ∷ ns) zero all lt = rw (bytes_eq-same n) refl
find-nth (n ∷ ns) (suc i) all lt =
    let apart : n ≢ nth [] ns i = rw (nth-get_or [] ns i) (all 0 (suc i) [] (omega arith) lt) in
    let first : bytes_eq (nth [] ns i) n ≡ false = bytes_eq-other _ _ (λ e. apart (sym e)) in
    rw (first, find-nth ns i (λ j k d less within. all (suc j) (suc k) d (omega arith) (omega arith)) (omega arith)) refl
