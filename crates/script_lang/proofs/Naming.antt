-- A word is a name where the test says so.
use Rattle.std.proofs.Common.{◌≡◌, ℕ, suc, cond, Option, Some, None, ◌≤◌, Bool, true, false, List, [], ◌∷◌, length, get_or, All, Decides, arith, refl}
use Rattle.std.specs.Prelude.{◌&&◌, ◌||◌, nat_lt, nat_le, slice_index}
use Rattle.std.specs.List.{list_all, list_any}
use Rattle.std.specs.Str.{bytes_eq}
use Rattle.std.specs.Prelude.{position, option_map, not, ◌+◌}
use Rattle.std.specs.List.{position_or_len}
use Rattle.std.proofs.lemmas.List.Sums.{AllPass-from_list_all, list_all-from_AllPass}
use Rattle.std.proofs.lemmas.Bool.Decides.{nat_tests}
use Rattle.zeus_model.specs.Names.{IsName, IsLetter, IsNameByte}
use Rattle.zeus_base.specs.Texts.{IsText}
use Rattle.script_lang.specs.Values.{is_printable, is_text}
use Rattle.script_lang.specs.Names.{is_letter, is_name_byte, is_name, find}

-- the test of letters is true of letters and of no other byte
pub is_letter_Decides : (b : ℕ) → Decides (is_letter b) (IsLetter b)
is_letter_Decides b = grind (arith, nat_tests)

-- the test of name bytes is true of these and of no other byte
pub is_name_byte_Decides : (b : ℕ) → Decides (is_name_byte b) (IsNameByte b)
is_name_byte_Decides b = grind (arith, nat_tests)

-- the test of all bytes of a word is true if each of them is a name byte, and only then
pub all_name_bytes : (w : List ℕ) → Decides (list_all is_name_byte w) (All IsNameByte w)
all_name_bytes w = (
  λ h k d lt. (is_name_byte_Decides (get_or w k d)).0 (AllPass-from_list_all is_name_byte w h k d lt),
  λ h. list_all-from_AllPass is_name_byte w (λ k d lt. (is_name_byte_Decides (get_or w k d)).1 (h k d lt)),
)

-- if both together are true, then each is
pub and_true : (x y : Bool) → (x && y) ≡ true → (x ≡ true) × (y ≡ true)
and_true true y h = (refl, h)
and_true false y h = absurd cc

-- the test of names is true of names and of no other word
pub is_name_Decides : (w : List ℕ) → Decides (is_name w) (IsName w)
unfolding is_name
is_name_Decides w =
    let bytes = all_name_bytes w in
    let first = is_letter_Decides (slice_index w 0) in
    let some = nat_lt 0 (length w) in
    let few = nat_le (length w) 16 in (
      λ h.
          let d = and_true (some && few && is_letter (slice_index w 0)) (list_all is_name_byte w) h in
          let c = and_true (some && few) (is_letter (slice_index w 0)) d.0 in
          let b = and_true some few c.0 in
          (grind (arith, nat_tests, b.0), grind (arith, nat_tests, b.1), first.0 c.1, bytes.0 d.1),
      λ h.
          let a : some ≡ true = grind (arith, nat_tests, h.0) in
          let b : few ≡ true = grind (arith, nat_tests, h.1) in
          let c : is_letter (slice_index w 0) ≡ true = first.1 h.2 in
          let d : list_all is_name_byte w ≡ true = bytes.1 h.3 in
          rw (a, b, c, d) refl,
    )

-- the place among more names
place_step : (t : Bool) (k n : ℕ) (o : Option ℕ) → cond (nat_lt k n) (Some k) None ≡ o → cond (nat_lt (cond (not t) (1 + k) 0) (suc n)) (Some (cond (not t) (1 + k) 0)) None ≡ cond t (Some 0) (option_map suc o)
place_step true k n o h = grind (arith, nat_tests)
place_step false k n None h = grind (arith, nat_tests)
place_step false k n (Some i) h = grind (arith, nat_tests)

-- the place of a word among names is where the search finds it
pub position_is_find : (names : List (List ℕ)) (w : List ℕ) → position (bytes_eq w) names ≡ find names w
unfolding find
position_is_find [] w = refl
position_is_find (n ∷ ns) w = place_step (bytes_eq w n) (position_or_len (bytes_eq w) ns) (length ns) (find ns w) (position_is_find ns w)

-- if a word is not found among names, then it equals none of them
pub new_name : (names : List (List ℕ)) (w : List ℕ) → find names w ≡ None → list_any (bytes_eq w) names ≡ false
unfolding find
new_name [] w none = refl
new_name (n ∷ ns) w none = go (bytes_eq w n) (find ns w) none (new_name ns w)
  where
    go : (t : Bool) (o : Option ℕ) → cond t (Some 0) (option_map suc o) ≡ None → (o ≡ None → list_any (bytes_eq w) ns ≡ false) → (t || list_any (bytes_eq w) ns) ≡ false
    go true o e rest = absurd cc
    go false None e rest = rest refl
    go false (Some i) e rest = absurd cc

is_printable_Decides : (b : ℕ) → Decides (is_printable b) ((33 ≤ b) × (b ≤ 126))
is_printable_Decides b = grind (arith, nat_tests)

all_printable : (w : List ℕ) → Decides (list_all is_printable w) (All (λ b. (33 ≤ b) × (b ≤ 126)) w)
all_printable w = (
  λ h k d lt. (is_printable_Decides (get_or w k d)).0 (AllPass-from_list_all is_printable w h k d lt),
  λ h. list_all-from_AllPass is_printable w (λ k d lt. (is_printable_Decides (get_or w k d)).1 (h k d lt)),
)

-- the test of texts is true of texts and of no other word
pub is_text_Decides : (w : List ℕ) → Decides (is_text w) (IsText w)
unfolding is_text
is_text_Decides w =
    let bytes = all_printable w in
    let some = nat_lt 0 (length w) in
    let few = nat_le (length w) 32 in (
      λ h.
          let c = and_true (some && few) (list_all is_printable w) h in
          let b = and_true some few c.0 in
          (grind (arith, nat_tests, b.0), grind (arith, nat_tests, b.1), bytes.0 c.1),
      λ h.
          let a : some ≡ true = grind (arith, nat_tests, h.0) in
          let b : few ≡ true = grind (arith, nat_tests, h.1) in
          let c : list_all is_printable w ≡ true = bytes.1 h.2 in
          rw (a, b, c) refl,
    )
