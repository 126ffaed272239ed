-- The line of a point tells its transaction and its reply.
use Rattle.std.proofs.Common.{ℕ, ◌≡◌, ◌≢◌, ◌<◌, ◌≤◌, ◌^◌, true, List, [], ◌∷◌, map, Option, Some, None, refl, arith, inl, ap, subst, sym, ◌∙◌, append_assoc}
use Rattle.std.specs.Prelude.{All, ◌++◌, IfSome, codes, decimal}
use Rattle.std.proofs.lemmas.Bool.{ne_eqb}
use Rattle.std.proofs.lemmas.Fmt.{decimal_injective}
use Rattle.std.proofs.lemmas.List.{append-nil}
use Rattle.std.proofs.lemmas.List.Elements.{All-head, All-tail}
use Rattle.zeus_base.specs.declared.value.Value.{Value}
use Rattle.zeus_base.specs.declared.value.Value.TheVariants.{Num, Text}
use Rattle.zeus_model.specs.Book.{Point}
use Rattle.zeus_model.specs.ReportWords.{number, outcome_text, reply_text, values_text}
use Rattle.zeus_model.specs.Scripts.{FitsValue}
use Rattle.zeus_model.specs.Spelling.{value_text, word}
use Rattle.printed_history.specs.Lines.{cut}
use Rattle.printed_history.specs.Printed.{printed_point, FitsPoint}
use Rattle.printed_history.proofs.Lines.{lacks, lacks-decimal, cut-front, cut-whole, IsQuiet, quiet-decimal}

-- a value that prints as one word
abbrev FitsWord : Value → Type 0
FitsWord v = FitsValue 2 v

text_word : (bytes : List ℕ) → All (λ b. (33 ≤ b) × (b ≤ 126)) bytes → lacks 32 bytes ≡ true
unfolding lacks
text_word [] h = refl
text_word (b ∷ bs) h =
    let first = All-head (λ (c : ℕ). (33 ≤ c) × (c ≤ 126)) b bs h in
    let other : b ≢ 32 = λ e. absurd (omega (arith, first.0, e)) in
    rw (ne_eqb b 32 other) (text_word bs (All-tail (λ (c : ℕ). (33 ≤ c) × (c ≤ 126)) b bs h))

value_word : (v : Value) → FitsWord v → lacks 32 (value_text v) ≡ true
unfolding FitsValue value_text lacks
value_word (Num n) h = lacks-decimal 32 n (inl (omega arith))
value_word (Text bytes) h = text_word bytes h.1.2

-- no number prints as a text does
number_no_text : (n : ℕ) (bytes : List ℕ) → decimal n ≡ 39 ∷ bytes → ⊥
unfolding IsQuiet
number_no_text n bytes e =
    let quiet : IsQuiet 39 (39 ∷ bytes) = subst (IsQuiet 39) e (quiet-decimal 39 n (inl (omega arith))) in
    absurd cc

-- values that print the same are one
value-told : (v w : Value) → FitsWord v → FitsWord w → value_text v ≡ value_text w → v ≡ w
unfolding FitsValue value_text
value-told (Num m) (Num n) h g e = ap Num (decimal_injective m n h g e)
value-told (Num m) (Text bytes) h g e = absurd (number_no_text m bytes e)
value-told (Text bytes) (Num n) h g e = absurd (number_no_text n bytes (sym e))
value-told (Text bytes) (Text others) h g e = let same : bytes ≡ others = cc in ap Text same

values-told : (vs ws : List Value) → All FitsWord vs → All FitsWord ws → map value_text vs ≡ map value_text ws → vs ≡ ws
values-told [] [] h g e = refl
values-told [] (w ∷ ws) h g e = absurd cc
values-told (v ∷ vs) [] h g e = absurd cc
values-told (v ∷ vs) (w ∷ ws) h g e =
    let first : value_text v ≡ value_text w = cc in
    let others : map value_text vs ≡ map value_text ws = cc in
    let one = value-told v w (All-head FitsWord v vs h) (All-head FitsWord w ws g) first in
    let rest = values-told vs ws (All-tail FitsWord v vs h) (All-tail FitsWord w ws g) others in
    cc

-- ---- the words of a line

-- a word and the values behind it
value-words : (w : List ℕ) (vs : List Value) → lacks 32 w ≡ true → All FitsWord vs → cut 32 (w ++ values_text vs) ≡ w ∷ map value_text vs
unfolding values_text
value-words w [] h g = rw (append-nil w) (cut-whole 32 w h)
value-words w (v ∷ vs) h g =
    cut-front 32 w (value_text v ++ values_text vs) h
    ∙ ap (λ ls. w ∷ ls) (value-words (value_text v) vs (value_word v (All-head FitsWord v vs g)) (All-tail FitsWord v vs g))

unfoldable outcome_words : Option ℕ → List (List ℕ) → List (List ℕ)
outcome_words None ls = codes "ok" ∷ ls
outcome_words (Some place) ls = codes "failed" ∷ decimal place ∷ ls

reply-words : (failed : Option ℕ) (vs : List Value) → All FitsWord vs → cut 32 (outcome_text failed ++ values_text vs) ≡ outcome_words failed (map value_text vs)
unfolding outcome_text outcome_words lacks
reply-words None vs h = value-words (codes "ok") vs refl h
reply-words (Some place) vs h =
    ap (cut 32) (append_assoc (codes "failed") (number place) (values_text vs)) ∙ cut-front 32 (codes "failed") (decimal place ++ values_text vs) refl
    ∙ ap (λ ls. codes "failed" ∷ ls) (value-words (decimal place) vs (lacks-decimal 32 place (inl (omega arith))) h)

point-words : (p : Point) → FitsPoint p → cut 32 (printed_point p) ≡ codes "*" ∷ decimal p.id ∷ outcome_words p.reply.failed (map value_text p.reply.values)
unfolding lacks
point-words p h =
    ap (cut 32) (append_assoc (codes "*") (number p.id) (word (reply_text p.reply))) ∙ cut-front 32 (codes "*") (decimal p.id ++ word (reply_text p.reply)) refl
    ∙ ap (λ ls. codes "*" ∷ ls) (cut-front 32 (decimal p.id) (reply_text p.reply) (lacks-decimal 32 p.id (inl (omega arith))))
    ∙ ap (λ ls. codes "*" ∷ decimal p.id ∷ ls) (reply-words p.reply.failed p.reply.values h.values)

-- ---- what the words tell

outcome-told : (a b : Option ℕ) (vs ws : List Value) → IfSome a (λ n. n < 2 ^ 64) → IfSome b (λ n. n < 2 ^ 64) → All FitsWord vs → All FitsWord ws
    → outcome_words a (map value_text vs) ≡ outcome_words b (map value_text ws) → (a ≡ b) × (vs ≡ ws)
unfolding outcome_words
outcome-told None None vs ws h g p q e = let others : map value_text vs ≡ map value_text ws = cc in (refl, values-told vs ws p q others)
outcome-told None (Some n) vs ws h g p q e = absurd cc
outcome-told (Some m) None vs ws h g p q e = absurd cc
outcome-told (Some m) (Some n) vs ws h g p q e =
    let place : decimal m ≡ decimal n = cc in
    let others : map value_text vs ≡ map value_text ws = cc in
    (ap Some (decimal_injective m n h g place), values-told vs ws p q others)

same_point : (i j : ℕ) (a b : Option ℕ) (vs ws : List Value) → i ≡ j → a ≡ b → vs ≡ ws
    → ◌≡◌ {A = Point} record { id = i; reply = record { values = vs; failed = a } } record { id = j; reply = record { values = ws; failed = b } }
same_point i j a b vs ws id failed values = cc (id, failed, values)

-- points that print the same line are one
pub point-told : (p q : Point) → FitsPoint p → FitsPoint q → printed_point p ≡ printed_point q → p ≡ q
point-told p q h g e =
    let words = sym (point-words p h) ∙ ap (cut 32) e ∙ point-words q g in
    let id : decimal p.id ≡ decimal q.id = cc in
    let others : outcome_words p.reply.failed (map value_text p.reply.values) ≡ outcome_words q.reply.failed (map value_text q.reply.values) = cc in
    let same_id = decimal_injective p.id q.id h.id g.id id in
    let reply = outcome-told p.reply.failed q.reply.failed p.reply.values q.reply.values h.place g.place h.values g.values others in
    same_point p.id q.id p.reply.failed q.reply.failed p.reply.values q.reply.values same_id reply.0 reply.1
