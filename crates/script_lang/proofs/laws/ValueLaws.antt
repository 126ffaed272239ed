-- Values and names as words: what is read is spelled so, and what is spelled so is read.
use Rattle.std.proofs.Common.{◌≡◌, ℕ, zero, suc, ◌<◌, ◌^◌, Bool, true, false, List, [], ◌∷◌, drop, Some, Ok, refl, ap, arith}
use Rattle.std.specs.Prelude.{◌&&◌, ◌==◌, slice_index, decimal}
use Rattle.std.proofs.lemmas.Bool.{eqb-true, eq-eqb}
use Rattle.std.proofs.lemmas.Bool.Decides.{nat_tests}
use Rattle.std.proofs.lemmas.Fmt.{first_decimal, decimal_digit}
use Rattle.zeus_base.specs.Values.{is_num}
use Rattle.zeus_base.specs.declared.value.Value.{Value}
use Rattle.zeus_base.specs.declared.value.Value.TheVariants.{Num, Text}
use Rattle.zeus_model.specs.Names.{IsName}
use Rattle.zeus_model.specs.Scripts.{FitsValue}
use Rattle.zeus_model.specs.Spelling.{value_text}
use Rattle.script_lang.specs.Names.{is_name, name_of_word}
use Rattle.script_lang.specs.Numbers.{number_of}
use Rattle.script_lang.specs.Values.{is_text, text_of, value_of, value_at}
use Rattle.script_lang.specs.Reads.{word_at}
use Rattle.script_lang.proofs.Naming.{and_true, is_name_Decides, is_text_Decides}
use Rattle.script_lang.proofs.laws.NumberLaws.{number_of-sound, number_of-decimal}
use Rattle.script_lang.proofs.Sound.{IfRead, read_bind, read_ok, read_err, read_cond, read_or}

-- ---- names

-- if a word is read as a name, then it is one, and the name is the word
pub name_of_word-sound : (w : List ℕ) → IfRead (name_of_word w) (λ name. (name ≡ w) × IsName w)
unfolding name_of_word
name_of_word-sound w = read_cond (is_name w) _ _ _ (λ t. read_ok _ _ (refl, (is_name_Decides w).0 t)) (λ f. read_err _ _)

-- if a word is a name, then it is read as that name
pub name_of_word-name : (w : List ℕ) → IsName w → name_of_word w ≡ Ok w
unfolding name_of_word
name_of_word-name w name = rw ((is_name_Decides w).1 name) refl

-- ---- values

text_of-sound : (version : ℕ) (bytes : List ℕ) → version ≡ 2 → IfRead (text_of bytes) (λ v. (39 ∷ bytes ≡ value_text v) × FitsValue version v)
unfolding text_of value_text FitsValue
text_of-sound version bytes two = read_cond (is_text bytes) _ _ _ (λ t. read_ok _ _ (refl, (two, (is_text_Decides bytes).0 t))) (λ f. read_err _ _)

num_of-sound : (version : ℕ) (w : List ℕ) (n : ℕ) → number_of w ≡ Some n → (w ≡ value_text (Num n)) × FitsValue version (Num n)
unfolding value_text FitsValue
num_of-sound version w n h = number_of-sound w n h

marked : (w : List ℕ) → (slice_index w 0 == 39) ≡ true → w ≡ 39 ∷ drop 1 w
marked [] h = absurd cc
marked (b ∷ bs) h = ap (λ (x : ℕ). x ∷ bs) (eqb-true b 39 h)

-- if a word is read as a value, then it spells the value, and the version has such values
pub value_of-sound : (version : ℕ) (w : List ℕ) → IfRead (value_of version w) (λ v. (w ≡ value_text v) × FitsValue version v)
unfolding value_of
value_of-sound version w =
    read_cond ((version == 2) && (slice_index w 0 == 39)) _ _ _
    (λ t.
    let both = and_true (version == 2) (slice_index w 0 == 39) t in
    rw (marked w both.1) (text_of-sound version (drop 1 w) (eqb-true version 2 both.0)))
    (λ f. read_bind _ _ _ (read_or _ _ _ (num_of-sound version w)) (λ n p. read_ok _ _ p))

-- a number begins with no mark
no_mark : (n : ℕ) → n < 2 ^ 64 → (slice_index (decimal n) 0 == 39) ≡ false
no_mark zero lt = rw (decimal_digit 0 (omega arith)) refl
no_mark (suc n) lt = grind (arith, nat_tests, first_decimal (suc n) (omega arith) lt)

unmarked : (a b : Bool) → b ≡ false → (a && b) ≡ false
unmarked true b h = h
unmarked false b h = refl

-- if the version has such values, then the word of a value is read as that value
pub value_of-text : (version : ℕ) (v : Value) → FitsValue version v → value_of version (value_text v) ≡ Ok v
unfolding value_of value_text FitsValue text_of
value_of-text version (Num n) fits = rw (unmarked (version == 2) (slice_index (decimal n) 0 == 39) (no_mark n fits), number_of-decimal n fits) refl
value_of-text version (Text bytes) fits = rw (eq-eqb version 2 fits.0, (is_text_Decides bytes).1 fits.1) refl

-- if the next word is read as a value, then it spells the value, and the version has such values
pub value_at-sound : (version : ℕ) (ws : List (List ℕ)) → IfRead (value_at version ws) (λ x. (ws ≡ value_text x.0 ∷ x.1) × FitsValue version x.0)
unfolding value_at word_at
value_at-sound version [] = read_err _ _
value_at-sound version (w ∷ ws) = read_bind _ _ _ (value_of-sound version w) (λ v p. read_ok _ _ (ap (λ (u : List ℕ). u ∷ ws) p.0, p.1))

-- if the version has such values, then the word of a value is read as it, and the words behind it are left
pub value_at-text : (version : ℕ) (v : Value) (ws : List (List ℕ)) → FitsValue version v → value_at version (value_text v ∷ ws) ≡ Ok (v, ws)
unfolding value_at word_at
value_at-text version v ws fits = rw (value_of-text version v fits) refl

-- in version 1 each value is a number
pub number-in-version-1 : (v : Value) → FitsValue 1 v → is_num v ≡ true
unfolding FitsValue is_num
number-in-version-1 (Num n) fits = refl
number-in-version-1 (Text bytes) fits = absurd (omega (arith, fits.0))
