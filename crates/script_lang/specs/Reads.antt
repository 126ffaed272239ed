-- Reading word by word: a value and the words behind it, or what is wrong with the first word that does not fit.
use Rattle.std.specs.Prelude.{◌≡◌, ℕ, Bool, true, false, if◌then◌else◌, List, [], ◌∷◌, Option, Some, None, Result, Ok, Err}
use Rattle.std.proofs.Common.{Bor}
use Rattle.std.specs.Str.{bytes_eq}
use Rattle.zeus_model.specs.declared.fault.Kind.{Kind}
use Rattle.zeus_model.specs.declared.fault.Kind.TheVariants.{Word}

infixl 10 ◌>>=◌
abbrev pub ◌>>=◌ : {A B : Type 0} → Result A Kind → (A → Result B Kind) → Result B Kind
(Ok x) >>= f = f x
(Err k) >>= f = Err k

-- what there is, or else this fault
abbrev pub or_fault : {A : Type 0} → Option A → Kind → Result A Kind
or_fault None k = Err k
or_fault (Some x) k = Ok x

-- the next word and the words behind it; where a word is wanting, its place is faulty
unfoldable pub word_at : List (List ℕ) → Result (List ℕ × List (List ℕ)) Kind
word_at [] = Err Word
word_at (w ∷ ws) = Ok (w, ws)

-- the words behind a keyword, where it is the next word
unfoldable pub keyword_at : List ℕ → List (List ℕ) → Result (Unit {0} × List (List ℕ)) Kind
keyword_at keyword ws = word_at ws >>= λ w. if bytes_eq w.0 keyword then Ok (tt, w.1) else Err Word

-- whether a keyword is the next word, and the words behind it if so
unfoldable pub word_if : List ℕ → List (List ℕ) → Bool × List (List ℕ)
word_if keyword [] = (false, [])
word_if keyword (w ∷ ws) = if bytes_eq w keyword then (true, ws) else (false, w ∷ ws)

-- the line ends here
unfoldable pub ended : List (List ℕ) → Result (Unit {0}) Kind
ended [] = Ok tt
ended (w ∷ ws) = Err Word

-- what was returned, with the words that are left, is what reading gives
abbrev pub Reads : {A : Type 0} → Result A Kind → List (List ℕ) → Result (A × List (List ℕ)) Kind → Type 0
Reads (Ok x) after read = read ≡ Ok (x, after)
Reads (Err k) after read = read ≡ Err k

-- the same of a word that was taken
abbrev pub ReadsWord : Result (Bor (List ℕ)) Kind → List (List ℕ) → Result (List ℕ × List (List ℕ)) Kind → Type 0
ReadsWord (Ok w) after read = read ≡ Ok (w.now, after)
ReadsWord (Err k) after read = read ≡ Err k
