-- How many words of a line fit, found by reading: a line that ends behind words that fit has another fault than the whole line,
-- as it is or with one more word.
use Rattle.std.specs.Prelude.{ℕ, ◌+◌, ◌-◌, Bool, true, false, ◌&&◌, ◌||◌, not, ◌==◌, List, [], ◌∷◌, ◌++◌, length, take, is_some, Result, Ok, Err, codes, if◌then◌else◌}
use Rattle.script_lang.specs.Reading.{script_read}
use Rattle.zeus_model.specs.declared.fault.Kind.{Kind}
use Rattle.zeus_model.specs.declared.fault.Kind.TheVariants as kinds
use Rattle.zeus_model.specs.declared.fault.ScriptFault.{ScriptFault}
use Rattle.zeus_model.specs.declared.script.Script.{Script}
use Rattle.zeus_model.specs.Faults.{word_of}
use Rattle.zeus_model.specs.Tables.{nth}
use Rattle.zeus_model.specs.Words.{cut}

-- line n of bytes, counted from 1; there is none before the first, and none behind the last
abbrev pub line_at : List ℕ → ℕ → List ℕ
line_at bytes n = nth [] ([] ∷ cut 10 bytes) n

-- the words of line n
abbrev pub words_at : List ℕ → ℕ → List (List ℕ)
words_at bytes n = cut 32 (line_at bytes n)

-- parts, each with this byte behind it
unfoldable pub ended : ℕ → List (List ℕ) → List ℕ
ended d [] = []
ended d (p ∷ ps) = p ++ d ∷ ended d ps

-- bytes without the last of them
abbrev pub without_last : List ℕ → List ℕ
without_last bytes = take (length bytes - 1) bytes

-- the lines before line n, and its first k words
abbrev pub shortened : List ℕ → ℕ → ℕ → List ℕ
shortened bytes n k = without_last (ended 10 (take (n - 1) (cut 10 bytes)) ++ ended 32 (take k (words_at bytes n)))

-- whether the kind is `word`
unfoldable pub is_word : Kind → Bool
is_word kinds.Word = true
is_word _ = false

-- whether both kinds are `word`, or neither is
abbrev pub is_like : Kind → Kind → Bool
is_like kind other = if is_word kind then is_word other else not (is_word other)

-- whether reading tells line n with a kind like this one
unfoldable pub is_told : ℕ → Kind → Result Script ScriptFault → Bool
is_told n kind (Ok s) = false
is_told n kind (Err f) = (f.line == n) && is_like kind f.kind

-- whether line n, ended so behind its first k words, has another fault, or none
unfoldable pub is_other : List ℕ → ℕ → Kind → ℕ → List ℕ → Bool
is_other bytes n kind k tail = not (is_told n kind (script_read false (shortened bytes n k ++ tail)))

-- whether line n, which has a fault of this kind, has k words that fit: its end may stand behind them, or what is no number and
-- no name, or a version, or an operation
unfoldable pub fits : List ℕ → ℕ → Kind → ℕ → Bool
fits bytes n kind k =
    is_some (word_of (words_at bytes n) (k - 1))
    && (is_other bytes n kind k (codes "\n") || (is_other bytes n kind k (codes " ?\n") || (is_other bytes n kind k (codes " 1\n") || is_other bytes n kind k (codes " get ?\n"))))

-- so many words fit, and some more if they do
abbrev pub widened : List ℕ → ℕ → Kind → ℕ → ℕ → ℕ
widened bytes n kind k more = if fits bytes n kind (k + more) then k + more else k

-- how many words of line n fit, which are below 128, by halves
unfoldable pub fitting : List ℕ → ℕ → Kind → ℕ
fitting bytes n kind =
    let widen = widened bytes n kind in
    widen (widen (widen (widen (widen (widen (widen 0 64) 32) 16) 8) 4) 2) 1
