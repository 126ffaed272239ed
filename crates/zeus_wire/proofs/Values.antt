-- Values, writes and contents: what was written is read again.
use Rattle.std.proofs.Common.{◌≡◌, ℕ, ◌^◌, ◌<◌, ◌≤◌, Bool, true, false, not, ◌||◌, nat_le, ◌==◌, List, [], ◌∷◌, ◌++◌, length, Option, Some, None, Ok, refl, sym, ◌∙◌, append_assoc, arith}
use Rattle.std.specs.List.{list_all}
use Rattle.std.proofs.lemmas.Bool.Decides.{nat_tests}
use Rattle.std.proofs.lemmas.List.{append-nil}
use Rattle.zeus_base.specs.Texts.{IsText}
use Rattle.zeus_base.specs.declared.config.Limits.{Limits}
use Rattle.zeus_base.specs.declared.value.Value.{Value}
use Rattle.zeus_base.specs.declared.value.Value.TheVariants.{Num, Text}
use Rattle.zeus_packet.specs.Fits.{are_once, content_fits, object_fits, value_fits, write_fits}
use Rattle.zeus_packet.specs.declared.write.Content.{Content}
use Rattle.zeus_packet.specs.declared.write.Write.{Write}
use Rattle.zeus_wire.specs.Ranges.{AreLimits, AreWrites, IsContent, IsValue, IsWrite}
use Rattle.zeus_model.specs.PacketSpelling.{content_bytes, u16_bytes, u64_bytes, value_bytes, write_bytes, writes_bytes}
use Rattle.zeus_wire.specs.Reading.{and_then, content_at, content_if, is_printable, names, num_at, num_or_text_at, some_content_at, tagged_value_at, text_at, text_value_at, value_at, write_at, writes_at}
use Rattle.zeus_wire.proofs.Booleans.{apart, both_true, not_true}
use Rattle.zeus_wire.proofs.Texts.{Decides-printable}
use Rattle.zeus_wire.proofs.Numbers.{bytes_again, u64_again, u8_again}
use Rattle.zeus_wire.proofs.Fields.{object_again}

num_again : (n : ℕ) (rest : List ℕ) → n < 2 ^ 64 → num_at (u64_bytes n ++ rest) ≡ Ok (Num n, rest)
unfolding num_at and_then
num_again n rest is = rw (u64_again n rest is) refl

text_value_again : (t rest : List ℕ) → IsText t → text_value_at (length t) (t ++ rest) ≡ Ok (Text t, rest)
unfolding text_value_at text_at and_then
text_value_again t rest is =
    let printable : list_all is_printable t ≡ true = (Decides-printable t).1 is.2 in
    rw (bytes_again (length t) t rest refl, printable) refl

tagged_again : (v : Value) (rest : List ℕ) → IsValue v → tagged_value_at (value_bytes 2 v ++ rest) ≡ Ok (v, rest)
unfolding tagged_value_at num_or_text_at value_bytes IsValue and_then
tagged_again (Num n) rest is = rw (u8_again 0 (u64_bytes n ++ rest), num_again n rest is) refl
tagged_again (Text t) rest is =
    let short : nat_le (length t) 32 ≡ true = grind (arith, nat_tests, is.1) in
    let some : (length t == 0) ≡ false = grind (arith, nat_tests, is.0) in
    rw (u8_again (length t) (t ++ rest), short, some, text_value_again t rest is) refl

plain_again : (limits : Limits) (v : Value) (rest : List ℕ) → IsValue v → (limits.version == 2) ≡ false → value_fits limits v ≡ true → num_at (value_bytes limits.version v ++ rest) ≡ Ok (v, rest)
unfolding value_bytes value_fits IsValue
plain_again limits (Num n) rest is other fits = rw other (num_again n rest is)
plain_again limits (Text t) rest is other fits = absurd cc

value_by_version : (limits : Limits) (v : Value) (rest : List ℕ) (b : Bool) → IsValue v → (limits.version == 2) ≡ b → value_fits limits v ≡ true → value_at limits (value_bytes limits.version v ++ rest) ≡ Ok (v, rest)
unfolding value_at
value_by_version limits v rest true is second fits =
    let two : limits.version ≡ 2 = grind (arith, nat_tests) in
    rw (second, two) (tagged_again v rest is)
value_by_version limits v rest false is other fits = rw other (plain_again limits v rest is other fits)

-- a value that was written is read again
pub value_again : (limits : Limits) (v : Value) (rest : List ℕ) → IsValue v → value_fits limits v ≡ true → value_at limits (value_bytes limits.version v ++ rest) ≡ Ok (v, rest)
value_again limits v rest is fits = value_by_version limits v rest (limits.version == 2) is refl fits

-- a content that was written is read again
pub content_again : (limits : Limits) (content : Option Content) (rest : List ℕ) → IsContent content → content_fits limits content ≡ true → content_at limits (content_bytes limits.version content ++ rest) ≡ Ok (content, rest)
unfolding content_at content_if some_content_at content_bytes content_fits IsContent and_then
content_again limits None rest is fits = rw (u8_again 0 rest) refl
content_again limits (Some c) rest is fits =
    rw (u8_again 1 ((u64_bytes c.ver ++ value_bytes limits.version c.value) ++ rest), append_assoc (u64_bytes c.ver) (value_bytes limits.version c.value) rest, u64_again c.ver (value_bytes limits.version c.value ++ rest) is.0, value_again limits c.value rest is.1 fits) refl

write_again : (limits : Limits) (before : List Write) (w : Write) (rest : List ℕ) → AreLimits limits → IsWrite w → write_fits limits w ≡ true → names w.obj before ≡ false → write_at limits before (write_bytes limits.version w ++ rest) ≡ Ok (w, rest)
unfolding write_at write_bytes write_fits and_then
write_again limits before w rest are is fits new =
    let obj : object_fits limits w.obj ≡ true = (both_true (object_fits limits w.obj) (value_fits limits w.value) fits).0 in
    let value : value_fits limits w.value ≡ true = (both_true (object_fits limits w.obj) (value_fits limits w.value) fits).1 in
    let few : limits.objects ≤ 2 ^ 16 = omega (arith, are.objects) in
    let regrouped : (u16_bytes w.obj ++ (u64_bytes w.ver ++ value_bytes limits.version w.value)) ++ rest ≡ u16_bytes w.obj ++ (u64_bytes w.ver ++ (value_bytes limits.version w.value ++ rest)) = simp append_assoc in
    rw (regrouped, object_again limits w.obj (u64_bytes w.ver ++ (value_bytes limits.version w.value ++ rest)) few obj, new, u64_again w.ver (value_bytes limits.version w.value ++ rest) is.ver, value_again limits w.value rest is.value value) refl

-- of writes of different objects none before another is of its object
pub names-append : (x : ℕ) (a b : List Write) → names x (a ++ b) ≡ (names x a || names x b)
names-append x [] b = refl
names-append x (w ∷ a) b = rw (names-append x a b) (grind arith)

are_once-later : (before : List Write) (w : Write) (after : List Write) → are_once (before ++ (w ∷ after)) ≡ true → names w.obj before ≡ false
unfolding are_once
are_once-later [] w after h = refl
are_once-later (v ∷ before) w after h =
    let parts = both_true (not (names v.obj (before ++ (w ∷ after)))) (are_once (before ++ (w ∷ after))) h in
    let rest : names w.obj before ≡ false = are_once-later before w after parts.1 in
    let new : (names v.obj before || ((w.obj == v.obj) || names v.obj after)) ≡ false = sym (names-append v.obj before (w ∷ after)) ∙ not_true (names v.obj (before ++ (w ∷ after))) parts.0 in
    apart v.obj w.obj (names v.obj before) (names v.obj after) (names w.obj before) rest new

-- writes of different objects are read again behind those before them
pub writes_again : (limits : Limits) (before ws : List Write) (rest : List ℕ) → AreLimits limits → AreWrites ws → list_all (write_fits limits) ws ≡ true → are_once (before ++ ws) ≡ true
    → writes_at limits (length ws) before (writes_bytes limits.version ws ++ rest) ≡ Ok (before ++ ws, rest)
unfolding writes_at writes_bytes AreWrites and_then
writes_again limits before [] rest are is fits once = rw (append-nil before) refl
writes_again limits before (w ∷ ws) rest are is fits once =
    let parts = both_true (write_fits limits w) (list_all (write_fits limits) ws) fits in
    let regrouped : (before ++ w ∷ []) ++ ws ≡ before ++ (w ∷ ws) = append_assoc before (w ∷ []) ws in
    let others : are_once ((before ++ w ∷ []) ++ ws) ≡ true = rw regrouped once in
    rw (append_assoc (write_bytes limits.version w) (writes_bytes limits.version ws) rest, write_again limits before w (writes_bytes limits.version ws ++ rest) are is.0 parts.0 (are_once-later before w ws once), writes_again limits (before ++ w ∷ []) ws rest are is.1 parts.1 others, regrouped) refl
