-- Reading a text.
use Rattle.std.proofs.Common.{◌≡◌, ℕ, ◌≤◌, Bool, true, false, nat_le, List, length, take, drop, All, Decides, Ok, Err, refl, arith}
use Rattle.std.specs.List.{list_all}
use Rattle.std.proofs.lemmas.Bool.{le-ltb}
use Rattle.std.proofs.lemmas.Bool.Decides.{Decides-by_and, Decides-and, nat_tests}
use Rattle.std.proofs.lemmas.List.{length-take-le}
use Rattle.zeus_base.specs.Texts.{IsText}
use Rattle.zeus_wire.specs.declared.fault.Fault.TheVariants.{Field}
use Rattle.zeus_wire.specs.Reading.{bytes_at, and_then, text_at, is_printable}

abbrev IsPrintable : ℕ → Type 0
IsPrintable b = (33 ≤ b) × (b ≤ 126)

Decides-leb : (a b : ℕ) → Decides (nat_le a b) (a ≤ b)
Decides-leb a b = (λ h. grind (arith, nat_tests), λ h. grind (arith, nat_tests))

-- the test of a text's bytes tells whether each is from 33 to 126
pub Decides-printable : (bytes : List ℕ) → Decides (list_all is_printable bytes) (All IsPrintable bytes)
Decides-printable bytes =
    Decides-by_and is_printable IsPrintable (list_all is_printable) (λ b. Decides-and (nat_le 33 b) (nat_le b 126) (Decides-leb 33 b) (Decides-leb b 126)) refl (λ _ _. refl) bytes

not_true : (b : Bool) → (b ≡ true → ⊥) → b ≡ false
not_true true h = absurd (h refl)
not_true false h = refl

not_printable : (bytes : List ℕ) → 1 ≤ length bytes → length bytes ≤ 32 → (IsText bytes → ⊥) → list_all is_printable bytes ≡ false
not_printable bytes some short none =
    not_true (list_all is_printable bytes) (λ h. none (some, short, (Decides-printable bytes).0 h))

-- bytes that are no text are a fault at their first byte
pub text_fault : (len : ℕ) (bytes : List ℕ) → len ≤ length bytes → 1 ≤ len → len ≤ 32 → (IsText (take len bytes) → ⊥) → text_at len bytes ≡ Err (Field (length bytes))
unfolding text_at bytes_at and_then
text_fault len bytes long some short none =
    let taken : length (take len bytes) ≡ len = length-take-le len bytes long in
    let test : list_all is_printable (take len bytes) ≡ false = not_printable (take len bytes) (omega arith) (omega arith) none in
    rw (le-ltb (length bytes) len long, test) refl

-- bytes that are a text are read as it
pub text_read : (len : ℕ) (bytes text rest : List ℕ) → len ≤ length bytes → IsText (take len bytes) → text ≡ take len bytes → rest ≡ drop len bytes → text_at len bytes ≡ Ok (text, rest)
unfolding text_at bytes_at and_then
text_read len bytes text rest long is same behind =
    let test : list_all is_printable (take len bytes) ≡ true = (Decides-printable (take len bytes)).1 is.2 in
    rw (le-ltb (length bytes) len long, test, same, behind) refl
