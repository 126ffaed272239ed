-- How a text falls into lines, and which of them begin with a byte.
use Rattle.std.proofs.Common.{ℕ, zero, suc, ◌≡◌, ◌<◌, ◌≤◌, ◌+◌, ◌/◌, ◌%◌, Bool, true, false, List, [], ◌∷◌, ◌++◌, length, append_assoc, ap, sym, refl, ◌∙◌, arith, inl, inr}
use Rattle.std.specs.Prelude.{◌==◌, nat_lt, decimal, if◌then◌else◌, All, ◌⊎◌}
use Rattle.std.specs.List.{filter}
use Rattle.std.specs.Fmt.{digits, digits_onto, digit_glyph}
use Rattle.std.proofs.lemmas.Bool.{cond_both, eq-eqb, ne_eqb, ltb-true, ltb-false}
use Rattle.std.proofs.lemmas.List.{append-nil}
use Rattle.std.proofs.lemmas.List.Elements.{All-nil, All-cons, All-head, All-tail}
use Rattle.printed_history.specs.Lines.{cut, with_byte, begins_with, lines_with}

-- whether the byte is none of these
unfoldable pub lacks : ℕ → List ℕ → Bool
lacks d [] = true
lacks d (b ∷ bs) = if b == d then false else lacks d bs

-- whether bytes can stand within a line
abbrev pub is_line : List ℕ → Bool
is_line l = lacks 10 l

-- if two texts lack a byte, then so do both put together
pub lacks-append : (d : ℕ) (a b : List ℕ) → lacks d a ≡ true → lacks d b ≡ true → lacks d (a ++ b) ≡ true
unfolding lacks
lacks-append d [] b h g = g
lacks-append d (c ∷ a) b h g = head_line (c == d) (lacks d a) (lacks d (a ++ b)) h (λ k. lacks-append d a b k g)
  where
    head_line : (t u v : Bool) → (if t then false else u) ≡ true → (u ≡ true → v ≡ true) → (if t then false else v) ≡ true
    head_line true u v p f = p
    head_line false u v p f = f p

-- the first part of a text, up to the separator
pub cut-front : (d : ℕ) (l rest : List ℕ) → lacks d l ≡ true → cut d (l ++ d ∷ rest) ≡ l ∷ cut d rest
unfolding lacks cut with_byte
cut-front d [] rest h = rw (eq-eqb d d refl) refl
cut-front d (b ∷ l) rest h = at (b == d) (cut d (l ++ d ∷ rest)) h (λ k. cut-front d l rest k)
  where
    at : (t : Bool) (parts : List (List ℕ)) → (if t then false else lacks d l) ≡ true → (lacks d l ≡ true → parts ≡ l ∷ cut d rest) → (if t then [] ∷ parts else with_byte b parts) ≡ (b ∷ l) ∷ cut d rest
    at true parts p f = absurd cc
    at false parts p f = rw (f p) refl

-- a text without the separator
pub cut-whole : (d : ℕ) (l : List ℕ) → lacks d l ≡ true → cut d l ≡ l ∷ []
unfolding lacks cut with_byte
cut-whole d [] h = refl
cut-whole d (b ∷ l) h = at (b == d) (cut d l) h (λ k. cut-whole d l k)
  where
    at : (t : Bool) (parts : List (List ℕ)) → (if t then false else lacks d l) ≡ true → (lacks d l ≡ true → parts ≡ l ∷ []) → (if t then [] ∷ parts else with_byte b parts) ≡ (b ∷ l) ∷ []
    at true parts p f = absurd cc
    at false parts p f = rw (f p) refl

-- whatever follows the text, these are its own lines that begin with the byte
pub record Shows (b : ℕ) (text : List ℕ) (found : List (List ℕ)) : Type 0 where
  pub before : (rest : List ℕ) → lines_with b (text ++ rest) ≡ found ++ lines_with b rest

-- an empty text has no line that begins with the byte
pub shows-none : (b : ℕ) → Shows b [] []
shows-none b = record { before = λ rest. refl }

-- the lines of two texts put together that begin with the byte are those of the first and then those of the second
pub shows-append : (b : ℕ) (t u : List ℕ) (f g : List (List ℕ)) → Shows b t f → Shows b u g → Shows b (t ++ u) (f ++ g)
shows-append b t u f g st su = record {
  before = λ rest.
      ap (lines_with b) (append_assoc t u rest) ∙ st.before (u ++ rest) ∙ ap (λ ls. f ++ ls) (su.before rest) ∙ sym (append_assoc f g (lines_with b rest));
}

-- the line, if it begins with the byte
abbrev pub one_line : ℕ → List ℕ → List (List ℕ)
one_line b l = if begins_with b l then l ∷ [] else []

filter-one : (t : Bool) (l : List ℕ) (ls : List (List ℕ)) → (if t then l ∷ ls else ls) ≡ (if t then l ∷ [] else []) ++ ls
filter-one true l ls = refl
filter-one false l ls = refl

-- a whole line
pub shows-line : (b : ℕ) (l : List ℕ) → is_line l ≡ true → Shows b (l ++ 10 ∷ []) (one_line b l)
shows-line b l h = record {
  before = λ rest.
      ap (lines_with b) (append_assoc l (10 ∷ []) rest) ∙ ap (λ ls. filter (begins_with b) ls) (cut-front 10 l rest h) ∙ filter-one (begins_with b l) l (lines_with b rest);
}

-- the lines of the whole text
pub shows-whole : (b : ℕ) (text : List ℕ) (found : List (List ℕ)) → Shows b text found → lines_with b text ≡ found
unfolding cut begins_with
shows-whole b text found s =
    let e : lines_with b (text ++ []) ≡ found ++ [] = s.before [] in
    ap (lines_with b) (sym (append-nil text)) ∙ e ∙ append-nil found

-- ---- pieces of a line

-- pieces, one after another
abbrev pub together : List ℕ → List (List ℕ) → List ℕ
together p [] = p
together p (q ∷ qs) = together (p ++ q) qs

-- each of the pieces lacks byte 10
abbrev pub AreLines : List ℕ → List (List ℕ) → Type 0
AreLines p [] = is_line p ≡ true
AreLines p (q ∷ qs) = (is_line p ≡ true) × AreLines q qs

further : (p q : List ℕ) (qs : List (List ℕ)) → is_line p ≡ true → AreLines q qs → AreLines (p ++ q) qs
further p q [] h g = lacks-append 10 p q h g
further p q (r ∷ rs) h g = (lacks-append 10 p q h g.0, g.1)

-- so do the pieces together
pub is_line-together : (p : List ℕ) (qs : List (List ℕ)) → AreLines p qs → is_line (together p qs) ≡ true
is_line-together p [] h = h
is_line-together p (q ∷ qs) h = is_line-together (p ++ q) qs (further p q qs h.0 h.1)

-- ---- numbers

-- a decimal digit
abbrev pub IsDigit : ℕ → Type 0
IsDigit b = (48 ≤ b) × (b ≤ 57)

glyph : (n : ℕ) → IsDigit (digit_glyph false (n % 10))
glyph n =
    cond_both (nat_lt (n % 10) 10) (48 + n % 10) (87 + n % 10) IsDigit
    (λ less. let small = ltb-true (n % 10) 10 less in (omega arith, omega (arith, small)))
    (λ more. let large = ltb-false (n % 10) 10 more in absurd (omega (arith, large)))

all_digits : (k n : ℕ) (acc : List ℕ) → All IsDigit acc → All IsDigit (digits_onto k 10 false n acc)
all_digits zero n acc h = h
all_digits (suc k) n acc h =
    let more : All IsDigit (digit_glyph false (n % 10) ∷ acc) = All-cons IsDigit _ acc (glyph n) h in
    cond_both (n / 10 == 0) (digit_glyph false (n % 10) ∷ acc) (digits_onto k 10 false (n / 10) (digit_glyph false (n % 10) ∷ acc)) (λ l. All IsDigit l)
    (λ _. more) (λ _. all_digits k (n / 10) (digit_glyph false (n % 10) ∷ acc) more)

-- each byte of a decimal number is a digit
pub decimal-digits : (n : ℕ) → All IsDigit (decimal n)
unfolding digits
decimal-digits n = all_digits 64 n [] (All-nil IsDigit)

-- if a byte is no digit, then digits lack it
pub lacks-digits : (d : ℕ) (l : List ℕ) → All IsDigit l → (d < 48) ⊎ (57 < d) → lacks d l ≡ true
unfolding lacks
lacks-digits d [] h other = refl
lacks-digits d (b ∷ l) h other =
    let first = All-head IsDigit b l h in
    rw (ne_eqb b d (λ e. elim other [ inl less ↦ absurd (omega (arith, first.0, less, e)) | inr more ↦ absurd (omega (arith, first.1, more, e)) ]))
    (lacks-digits d l (All-tail IsDigit b l h) other)

-- a decimal number has no byte but digits
pub lacks-decimal : (d n : ℕ) → (d < 48) ⊎ (57 < d) → lacks d (decimal n) ≡ true
lacks-decimal d n other = lacks-digits d (decimal n) (decimal-digits n) other

-- the digits of a number stand within a line
pub decimal-is_line : (n : ℕ) → is_line (decimal n) ≡ true
decimal-is_line n = lacks-decimal 10 n (inl (omega arith))

-- the line is not empty, and begins with another byte
unfoldable pub IsQuiet : ℕ → List ℕ → Type 0
IsQuiet b [] = ⊥
IsQuiet b (c ∷ cs) = (c == b) ≡ false

-- if a text begins with another byte, then so does the text with more behind it
pub quiet-append : (b : ℕ) (p q : List ℕ) → IsQuiet b p → IsQuiet b (p ++ q)
unfolding IsQuiet
quiet-append b [] q h = absurd h
quiet-append b (c ∷ p) q h = h

-- if a text begins with another byte, then it does not begin with the byte
pub quiet-begins : (b : ℕ) (l : List ℕ) → IsQuiet b l → begins_with b l ≡ false
unfolding IsQuiet begins_with
quiet-begins b [] h = absurd h
quiet-begins b (c ∷ cs) h = h

quiet-digits : (b : ℕ) (l : List ℕ) → 0 < length l → All IsDigit l → (b < 48) ⊎ (57 < b) → IsQuiet b l
unfolding IsQuiet
quiet-digits b [] some h other = absurd (omega (arith, some))
quiet-digits b (c ∷ l) some h other =
    let first = All-head IsDigit c l h in
    ne_eqb c b (λ e. elim other [ inl less ↦ absurd (omega (arith, first.0, less, e)) | inr more ↦ absurd (omega (arith, first.1, more, e)) ])

some_digit : (k n : ℕ) (acc : List ℕ) → 0 < length (digits_onto (suc k) 10 false n acc)
some_digit zero n acc = cond_both (n / 10 == 0) (digit_glyph false (n % 10) ∷ acc) (digit_glyph false (n % 10) ∷ acc) (λ l. 0 < length l) (λ _. omega arith) (λ _. omega arith)
some_digit (suc k) n acc =
    cond_both (n / 10 == 0) (digit_glyph false (n % 10) ∷ acc) (digits_onto (suc k) 10 false (n / 10) (digit_glyph false (n % 10) ∷ acc)) (λ l. 0 < length l)
    (λ _. omega arith) (λ _. some_digit k (n / 10) (digit_glyph false (n % 10) ∷ acc))

-- a decimal number begins with a digit
pub quiet-decimal : (b n : ℕ) → (b < 48) ⊎ (57 < b) → IsQuiet b (decimal n)
unfolding digits
quiet-decimal b n other = quiet-digits b (decimal n) (some_digit 63 n []) (decimal-digits n) other

-- ---- texts with no line that begins with the byte

-- if a line begins with another byte, then it and its end show no line that begins with the byte
pub shows-quiet : (b : ℕ) (l : List ℕ) → IsQuiet b l → is_line l ≡ true → Shows b (l ++ 10 ∷ []) []
shows-quiet b l quiet h = let e = quiet-begins b l quiet in let s = shows-line b l h in rw e at s

-- if the second of two texts shows no line, then both together show the lines of the first
pub shows-left : (b : ℕ) (t u : List ℕ) (f : List (List ℕ)) → Shows b t f → Shows b u [] → Shows b (t ++ u) f
shows-left b t u f st su = let s = shows-append b t u f [] st su in rw (append-nil f) at s

-- if the first of two texts shows no line, then both together show the lines of the second
pub shows-right : (b : ℕ) (t u : List ℕ) (f : List (List ℕ)) → Shows b t [] → Shows b u f → Shows b (t ++ u) f
shows-right b t u f st su = shows-append b t u [] f st su
