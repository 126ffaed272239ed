-- Values, writes and contents: what was read was written so, and keeps its range.
use Rattle.std.proofs.Common.{◌≡◌, ℕ, zero, suc, ◌^◌, ◌<◌, ◌≤◌, Bool, true, false, not, nat_le, ◌==◌, List, [], ◌∷◌, ◌++◌, length, Option, None, Ok, refl, sym, ap, ◌∙◌, append_assoc, arith, inl, inr}
use Rattle.std.specs.List.{list_all}
use Rattle.std.proofs.lemmas.Bool.Decides.{nat_tests}
use Rattle.std.proofs.lemmas.List.{append-nil}
use Rattle.zeus_base.specs.Texts.{IsText}
use Rattle.zeus_base.specs.declared.config.Limits.{Limits}
use Rattle.zeus_base.specs.declared.value.Value.{Value}
use Rattle.zeus_base.specs.declared.value.Value.TheVariants.{Num, Text}
use Rattle.zeus_packet.specs.Fits.{are_once, content_fits, value_fits, write_fits}
use Rattle.zeus_packet.specs.declared.write.Content.{Content}
use Rattle.zeus_packet.specs.declared.write.Write.{Write}
use Rattle.zeus_wire.specs.Ranges.{AreBytes, AreWrites, IsContent, IsValue, IsWrite}
use Rattle.zeus_model.specs.PacketSpelling.{content_bytes, u64_bytes, value_bytes, write_bytes, writes_bytes}
use Rattle.zeus_wire.specs.Reading.{bytes_at, content_at, content_if, is_printable, names, num_at, num_or_text_at, object_at, some_content_at, tagged_value_at, text_at, text_value_at, u8_at, value_at, write_at, writes_at}
use Rattle.zeus_wire.proofs.Booleans.{both_new, both_true, later_new, not_true}
use Rattle.zeus_wire.proofs.Texts.{Decides-printable}
use Rattle.zeus_wire.proofs.Values.{names-append}
use Rattle.zeus_wire.proofs.Found.{Took, took_both, and_then_ok, checked_ok, either_ok, gives_ok, u8_found, u64_found, bytes_found}
use Rattle.zeus_wire.proofs.FoundFields.{object_found}

num_found : (bytes : List ℕ) (y : Value × List ℕ) → AreBytes bytes → num_at bytes ≡ Ok y → (n : ℕ) × (y.0 ≡ Num n) × Took bytes (u64_bytes n) y.1 × (n < 2 ^ 64)
unfolding num_at
num_found bytes y are e =
    let a = and_then_ok _ _ _ e in
    let n = u64_found bytes a.0 are a.1 in
    rw (gives_ok _ _ _ a.2) (a.0.0, refl, n.0, n.1)

text_found : (len : ℕ) (bytes : List ℕ) (y : Value × List ℕ) → AreBytes bytes → 1 ≤ len → len ≤ 32 → text_value_at len bytes ≡ Ok y → (t : List ℕ) × (y.0 ≡ Text t) × Took bytes t y.1 × IsText t × (length t ≡ len)
unfolding text_value_at text_at
text_found len bytes y are some short e =
    let a = and_then_ok _ _ _ e in
    let c = checked_ok (list_all is_printable) (bytes_at len) bytes a.0 a.1 in
    let t = bytes_found len bytes a.0 are c.0 in
    rw (gives_ok _ _ _ a.2) (a.0.0, refl, t.0, (omega (arith, t.1), omega (arith, t.1), (Decides-printable a.0.0).0 c.1), t.1)

tagged_found : (bytes : List ℕ) (y : Value × List ℕ) → AreBytes bytes → tagged_value_at bytes ≡ Ok y → Took bytes (value_bytes 2 y.0) y.1 × IsValue y.0
unfolding tagged_value_at num_or_text_at value_bytes IsValue
tagged_found bytes y are e =
    let a = and_then_ok _ _ _ e in
    let c = checked_ok (λ len. nat_le len 32) u8_at bytes a.0 a.1 in
    let len = u8_found bytes a.0 are c.0 in
    elim (either_ok (a.0.0 == 0) num_at (text_value_at a.0.0) a.0.1 y a.2) [
      | inl first ↦
          let zeroed : a.0.0 ≡ 0 = grind (arith, nat_tests) in
          let n = num_found a.0.1 y len.0.left first.1 in
          let front : Took bytes (0 ∷ []) a.0.1 = rw (← zeroed) len.0 in
          rw n.1 (took_both _ _ _ _ _ front n.2, n.3)
      | inr second ↦
          let some : 1 ≤ a.0.0 = grind (arith, nat_tests) in
          let short : a.0.0 ≤ 32 = grind (arith, nat_tests) in
          let t = text_found a.0.0 a.0.1 y len.0.left some short second.1 in
          let front : Took bytes (length t.0 ∷ []) a.0.1 = rw t.4 len.0 in
          rw t.1 (took_both _ _ _ _ _ front t.2, t.3)
    ]

any_fits : (limits : Limits) (v : Value) → (limits.version == 2) ≡ true → value_fits limits v ≡ true
unfolding value_fits
any_fits limits (Num n) second = refl
any_fits limits (Text t) second = second

value_found_by : (limits : Limits) (version : Bool) (bytes : List ℕ) (y : Value × List ℕ) → AreBytes bytes → (limits.version == 2) ≡ version → value_at limits bytes ≡ Ok y → Took bytes (value_bytes limits.version y.0) y.1 × IsValue y.0 × (value_fits limits y.0 ≡ true)
unfolding value_at value_bytes value_fits IsValue
value_found_by limits true bytes y are second e =
    let two : limits.version ≡ 2 = grind (arith, nat_tests) in
    let found = tagged_found bytes y are (rw second at e) in
    (rw two found.0, found.1, any_fits limits y.0 second)
value_found_by limits false bytes y are other e =
    let n = num_found bytes y are (rw other at e) in
    rw (n.1, other) (n.2, n.3, refl)

-- a value that was read was written so, and keeps its range
pub value_found : (limits : Limits) (bytes : List ℕ) (y : Value × List ℕ) → AreBytes bytes → value_at limits bytes ≡ Ok y → Took bytes (value_bytes limits.version y.0) y.1 × IsValue y.0 × (value_fits limits y.0 ≡ true)
value_found limits bytes y are e = value_found_by limits (limits.version == 2) bytes y are refl e

flag_content : (limits : Limits) (flag : ℕ) (bytes : List ℕ) (y : Option Content × List ℕ) → nat_le flag 1 ≡ true → AreBytes bytes → content_if limits flag bytes ≡ Ok y → (content : List ℕ) × (content_bytes limits.version y.0 ≡ flag ∷ content) × Took bytes content y.1 × IsContent y.0 × (content_fits limits y.0 ≡ true)
unfolding content_if some_content_at content_bytes content_fits IsContent
flag_content limits zero bytes y h are e = rw (gives_ok None bytes y e) ([], refl, record { parts = refl; left = are }, tt, refl)
flag_content limits (suc zero) bytes y h are e =
    let a = and_then_ok _ _ _ e in
    let b = and_then_ok _ _ _ a.2 in
    let ver = u64_found bytes a.0 are a.1 in
    let value = value_found limits a.0.1 b.0 ver.0.left b.1 in
    rw (gives_ok _ _ _ b.2) (u64_bytes a.0.0 ++ value_bytes limits.version b.0.0, refl, took_both _ _ _ _ _ ver.0 value.0, (ver.1, value.1), value.2)
flag_content limits (suc (suc n)) bytes y h are e = absurd (grind (arith, nat_tests))

-- a content that was read was written so, and keeps its range
pub content_found : (limits : Limits) (bytes : List ℕ) (y : Option Content × List ℕ) → AreBytes bytes → content_at limits bytes ≡ Ok y → Took bytes (content_bytes limits.version y.0) y.1 × IsContent y.0 × (content_fits limits y.0 ≡ true)
unfolding content_at
content_found limits bytes y are e =
    let a = and_then_ok _ _ _ e in
    let c = checked_ok (λ flag. nat_le flag 1) u8_at bytes a.0 a.1 in
    let flag = u8_found bytes a.0 are c.0 in
    let behind = flag_content limits a.0.0 a.0.1 y c.1 flag.0.left a.2 in
    (rw behind.1 (took_both _ _ _ _ _ flag.0 behind.2), behind.3, behind.4)

write_found : (limits : Limits) (before : List Write) (bytes : List ℕ) (y : Write × List ℕ) → AreBytes bytes → write_at limits before bytes ≡ Ok y
    → Took bytes (write_bytes limits.version y.0) y.1 × IsWrite y.0 × (write_fits limits y.0 ≡ true) × (names y.0.obj before ≡ false)
unfolding write_at write_bytes write_fits
write_found limits before bytes y are e =
    let a = and_then_ok _ _ _ e in
    let b = and_then_ok _ _ _ a.2 in
    let c = and_then_ok _ _ _ b.2 in
    let new = checked_ok (λ x. not (names x before)) (object_at limits) bytes a.0 a.1 in
    let obj = object_found limits bytes a.0 are new.0 in
    let ver = u64_found a.0.1 b.0 obj.0.left b.1 in
    let value = value_found limits b.0.1 c.0 ver.0.left c.1 in
    rw (gives_ok _ _ _ c.2) (took_both _ _ _ _ _ obj.0 (took_both _ _ _ _ _ ver.0 value.0), record { ver = ver.1; value = value.1 }, rw (obj.1, value.2) refl, not_true (names a.0.0 before) new.1)

-- a write of a new object at the end of writes of different objects
once_more : (before : List Write) (w : Write) → are_once before ≡ true → names w.obj before ≡ false → are_once (before ++ w ∷ []) ≡ true
unfolding are_once
once_more [] w once new = refl
once_more (v ∷ before) w once new =
    let parts = both_true (not (names v.obj before)) (are_once before) once in
    let rest = once_more before w parts.1 (later_new v.obj w.obj (names w.obj before) new) in
    rw (names-append v.obj before (w ∷ []), rest) (both_new v.obj w.obj (names v.obj before) (names w.obj before) (not_true (names v.obj before) parts.0) new)

-- what the writes are that were read behind those before
pub record Added (limits : Limits) (count : ℕ) (before : List Write) (bytes : List ℕ) (y : List Write × List ℕ) : Type 0 where
  pub added : List Write
  pub is : y.0 ≡ before ++ added
  pub count_is : length added ≡ count
  pub text : Took bytes (writes_bytes limits.version added) y.1
  pub are : AreWrites added
  pub fit : list_all (write_fits limits) added ≡ true
  pub once : are_once y.0 ≡ true

-- writes that were read were written so, and are of different objects
pub writes_found : (limits : Limits) (count : ℕ) (before : List Write) (bytes : List ℕ) (y : List Write × List ℕ) → AreBytes bytes → are_once before ≡ true → writes_at limits count before bytes ≡ Ok y → Added limits count before bytes y
unfolding writes_at writes_bytes AreWrites
writes_found limits zero before bytes y are once e =
    rw (gives_ok before bytes y e) record { added = []; is = sym (append-nil before); count_is = refl; text = record { parts = refl; left = are }; are = tt; fit = refl; once = once }
writes_found limits (suc n) before bytes y are once e =
    let a = and_then_ok _ _ _ e in
    let w = write_found limits before bytes a.0 are a.1 in
    let others = writes_found limits n (before ++ a.0.0 ∷ []) a.0.1 y w.0.left (once_more before a.0.0 once w.3) a.2 in
    record {
      added = a.0.0 ∷ others.added;
      is = others.is ∙ append_assoc before (a.0.0 ∷ []) others.added;
      count_is = ap suc others.count_is;
      text = took_both _ _ _ _ _ w.0 others.text;
      are = (w.1, others.are);
      fit = rw (w.2, others.fit) refl;
      once = others.once;
    }
