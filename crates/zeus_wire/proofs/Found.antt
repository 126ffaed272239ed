-- What was read was written so: numbers, and the steps of a reader.
use Rattle.std.proofs.Common.{◌≡◌, ℕ, suc, ◌+◌, ◌^◌, ◌<◌, ◌≤◌, Bool, true, false, cond, ltb, ◌⊎◌, List, [], ◌∷◌, ◌++◌, length, take, drop, Result, Ok, Err, refl, sym, ap, subst, ◌∙◌, append_assoc, arith, inl, inr}
use Rattle.std.specs.Int.{w16, w32, w64, from_be_bytes, to_be_bytes}
use Rattle.std.proofs.lemmas.Bool.{cases_lt, ltb-false}
use Rattle.std.proofs.lemmas.List.{take-append-drop, length-take, get_or-drop, get_or-take, get_or_past}
use Rattle.std.proofs.lemmas.Nat.{be_bytes_2, be_bytes_4, be_bytes_8}
use Rattle.zeus_wire.specs.declared.fault.Fault.{Fault}
use Rattle.zeus_wire.specs.declared.fault.Fault.TheVariants.{Short, Field}
use Rattle.zeus_wire.specs.Ranges.{AreBytes}
use Rattle.zeus_model.specs.PacketSpelling.{u16_bytes, u32_bytes, u64_bytes}
use Rattle.zeus_wire.specs.Reading.{Reader, and_then, checked, bytes_at, gives, u8_at, u16_at, u32_at, u64_at}

-- ---- the steps of a reader that gave a value

-- a reader in two steps gave a value, so each step did
pub and_then_ok : {A B : Type 0} (r : Result (A × List ℕ) Fault) (next : A → Reader B) (y : B × List ℕ) → and_then r next ≡ Ok y → (x : A × List ℕ) × (r ≡ Ok x) × (next x.0 x.1 ≡ Ok y)
unfolding and_then
and_then_ok (Ok x) next y e = (x, refl, e)
and_then_ok (Err f) next y e = absurd cc

test_ok : {A : Type 0} (b : Bool) (f : Fault) (x y : A) → cond b (Ok x) (Err f) ≡ Ok y → (b ≡ true) × (x ≡ y)
test_ok true f x y e = (refl, cc)
test_ok false f x y e = absurd cc

-- a field that was read passed its test
pub checked_ok : {A : Type 0} (test : A → Bool) (r : Reader A) (bytes : List ℕ) (y : A × List ℕ) → checked test r bytes ≡ Ok y → (r bytes ≡ Ok y) × (test y.0 ≡ true)
checked_ok {A = A} test r bytes y e =
    let s = and_then_ok (r bytes) (λ (x : A) rest. cond (test x) (Ok (x, rest)) (Err (Field (length bytes)))) y e in
    let t = test_ok (test s.0.0) (Field (length bytes)) (s.0.0, s.0.1) y s.2 in
    let same : s.0 ≡ y = t.1 in
    (s.1 ∙ ap (λ x. Ok x) same, ap (λ (x : A × List ℕ). test x.0) (sym same) ∙ t.0)

ok_is : {A : Type 0} (x y : A) (f : Fault) → cond true (Ok x) (Err f) ≡ Ok y → x ≡ y
ok_is x y f e = cc

-- what is given without a byte is what was given
pub gives_ok : {A : Type 0} (x : A) (bytes : List ℕ) (y : A × List ℕ) → gives x bytes ≡ Ok y → y ≡ (x, bytes)
gives_ok x bytes y e = sym (ok_is (x, bytes) y Short e)

-- which of two readers gave the value
pub either_ok : {A : Type 0} (b : Bool) (r s : Reader A) (bytes : List ℕ) (y : A × List ℕ) → cond b r s bytes ≡ Ok y → ((b ≡ true) × (r bytes ≡ Ok y)) ⊎ ((b ≡ false) × (s bytes ≡ Ok y))
either_ok true r s bytes y e = inl (refl, e)
either_ok false r s bytes y e = inr (refl, e)

-- what a reader took from the front, and that bytes are left
pub record Took (bytes text behind : List ℕ) : Type 0 where
  pub parts : bytes ≡ text ++ behind
  pub left : AreBytes behind

-- two parts that were taken one after the other
pub took_both : (a x b y c : List ℕ) → Took a x b → Took b y c → Took a (x ++ y) c
took_both a x b y c p q = record { parts = p.parts ∙ ap (λ t. x ++ t) q.parts ∙ sym (append_assoc x y c); left = q.left }

-- ---- numbers

AreBytes-drop : (n : ℕ) (bytes : List ℕ) → AreBytes bytes → AreBytes (drop n bytes)
AreBytes-drop n bytes h i = rw get_or-drop (h (n + i))

AreBytes-take : (n : ℕ) (bytes : List ℕ) → AreBytes bytes → AreBytes (take n bytes)
AreBytes-take n bytes h i =
    elim (cases_lt i n) [
      | inl lt ↦ rw (get_or-take n bytes i 0 lt) (h i)
      | inr le ↦ rw (get_or_past (take n bytes) i 0 (omega (arith, length-take n bytes))) (omega arith)
    ]

-- a byte that was read was written so, and keeps its range
pub u8_found : (bytes : List ℕ) (y : ℕ × List ℕ) → AreBytes bytes → u8_at bytes ≡ Ok y → Took bytes (y.0 ∷ []) y.1 × (y.0 < 256)
unfolding u8_at
u8_found [] y are e = absurd cc
u8_found (b ∷ bytes) y are e =
    subst (λ (z : ℕ × List ℕ). Took (b ∷ bytes) (z.0 ∷ []) z.1 × (z.0 < 256)) (ok_is (b, bytes) y Short e) (record { parts = refl; left = λ i. are (suc i) }, are 0)

short_ok : {A : Type 0} (b : Bool) (f : Fault) (x y : A) → cond b (Err f) (Ok x) ≡ Ok y → (b ≡ false) × (x ≡ y)
short_ok true f x y e = absurd cc
short_ok false f x y e = (refl, cc)

-- bytes that were read stood at the front
pub bytes_found : (n : ℕ) (bytes : List ℕ) (y : List ℕ × List ℕ) → AreBytes bytes → bytes_at n bytes ≡ Ok y → Took bytes y.0 y.1 × (length y.0 ≡ n) × AreBytes y.0
unfolding bytes_at
bytes_found n bytes y are e =
    let t = short_ok (ltb (length bytes) n) Short (take n bytes, drop n bytes) y e in
    let long : n ≤ length bytes = ltb-false _ _ t.0 in
    subst (λ (z : List ℕ × List ℕ). Took bytes z.0 z.1 × (length z.0 ≡ n) × AreBytes z.0) t.1
    (record { parts = sym (take-append-drop n bytes); left = AreBytes-drop n bytes are }, omega (arith, length-take n bytes), AreBytes-take n bytes are)

-- a number of 32 bits that was read was written so, and keeps its range
pub u32_found : (bytes : List ℕ) (y : ℕ × List ℕ) → AreBytes bytes → u32_at bytes ≡ Ok y → Took bytes (u32_bytes y.0) y.1 × (y.0 < 2 ^ 32)
unfolding u32_at u32_bytes
u32_found bytes y are e =
    let s = and_then_ok (bytes_at 4 bytes) (λ front. gives (from_be_bytes w32 front)) y e in
    let front = bytes_found 4 bytes s.0 are s.1 in
    let is : y ≡ (from_be_bytes w32 s.0.0, s.0.1) = gives_ok (from_be_bytes w32 s.0.0) s.0.1 y s.2 in
    let text : to_be_bytes w32 (from_be_bytes w32 s.0.0) ≡ s.0.0 = be_bytes_4 s.0.0 _ front.1 front.2 refl in
    rw is (rw text front.0, omega (arith, front.2 0, front.2 1, front.2 2, front.2 3))

-- a number of 16 bits that was read was written so, and keeps its range
pub u16_found : (bytes : List ℕ) (y : ℕ × List ℕ) → AreBytes bytes → u16_at bytes ≡ Ok y → Took bytes (u16_bytes y.0) y.1 × (y.0 < 2 ^ 16)
unfolding u16_at u16_bytes
u16_found bytes y are e =
    let s = and_then_ok (bytes_at 2 bytes) (λ front. gives (from_be_bytes w16 front)) y e in
    let front = bytes_found 2 bytes s.0 are s.1 in
    let is : y ≡ (from_be_bytes w16 s.0.0, s.0.1) = gives_ok (from_be_bytes w16 s.0.0) s.0.1 y s.2 in
    let text : to_be_bytes w16 (from_be_bytes w16 s.0.0) ≡ s.0.0 = be_bytes_2 s.0.0 _ front.1 front.2 refl in
    rw is (rw text front.0, omega (arith, front.2 0, front.2 1))

-- a number of 64 bits that was read was written so, and keeps its range
pub u64_found : (bytes : List ℕ) (y : ℕ × List ℕ) → AreBytes bytes → u64_at bytes ≡ Ok y → Took bytes (u64_bytes y.0) y.1 × (y.0 < 2 ^ 64)
unfolding u64_at u64_bytes
u64_found bytes y are e =
    let s = and_then_ok (bytes_at 8 bytes) (λ front. gives (from_be_bytes w64 front)) y e in
    let front = bytes_found 8 bytes s.0 are s.1 in
    let is : y ≡ (from_be_bytes w64 s.0.0, s.0.1) = gives_ok (from_be_bytes w64 s.0.0) s.0.1 y s.2 in
    let text : to_be_bytes w64 (from_be_bytes w64 s.0.0) ≡ s.0.0 = be_bytes_8 s.0.0 _ front.1 front.2 refl in
    rw is (rw text front.0, omega (arith, front.2 0, front.2 1, front.2 2, front.2 3, front.2 4, front.2 5, front.2 6, front.2 7))
