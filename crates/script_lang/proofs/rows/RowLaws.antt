-- The rows that single words meet, and what reading says of these words.
use Rattle.std.proofs.Common.{◌≡◌, ℕ, suc, ◌+◌, ◌-◌, ◌*◌, ◌<◌, ◌^◌, Bool, true, false, cond, List, [], ◌∷◌, drop, Option, Some, None, Ok, Err, refl, ap, ◌∙◌, arith}
use Rattle.std.specs.Prelude.{◌&&◌, ◌||◌, not, nat_lt, nat_le, decimal, option_map}
use Rattle.std.specs.Str.{bytes_eq}
use Rattle.std.proofs.lemmas.Bool.{lt-ltb, ltb-true}
use Rattle.std.proofs.lemmas.Bool.Decides.{nat_tests}
use Rattle.std.proofs.lemmas.Fmt.{digits_value-decimal}
use Rattle.std.proofs.lemmas.Slice.Eq.{bytes_eq-Decides}
use Rattle.zeus_model.specs.Faults.{is_wrong, is_marked, is_no_text, is_no_number, is_out_of_range, is_no_name, is_twice, is_unknown, is_too_long, is_not_live, row_met}
use Rattle.zeus_model.specs.Places.{Number, Value as AValue, NewName, must, ends}
use Rattle.zeus_model.specs.Tables.{or_else, where_true}
use Rattle.zeus_model.specs.Words.{digits_said, number_in, is_number, is_name, is_text, is_among}
use Rattle.zeus_model.specs.declared.fault.Kind.{Kind}
use Rattle.zeus_model.specs.declared.fault.Kind.TheVariants as kinds
use Rattle.script_lang.specs.Names.{find, name_of_word}
use Rattle.script_lang.specs.Numbers.{number_of, range_of, range_at, number_at}
use Rattle.script_lang.specs.Objects.{new_name_of}
use Rattle.script_lang.specs.Reads.{or_fault, ended}
use Rattle.script_lang.specs.Values.{text_of, value_of, value_at}
use Rattle.script_lang.proofs.laws.FindLaws.{bytes_eq-true}
use Rattle.script_lang.proofs.faults.FirstWord.{Rows, first_fault, Tells, tells_bind, tells_ok, tells_err, row_of, reads, word_first, Next, stops}
use Rattle.script_lang.proofs.laws.NumberLaws.{read_on, own, number_of-sound, number_of-decimal}

-- opens the table
unfoldable pub table : ℕ
unfolding row_met is_wrong is_no_text is_no_number is_out_of_range is_no_name is_twice is_unknown is_too_long is_not_live or_else where_true
table = 0

-- ---- numbers

digits_said-read : (n : ℕ) (w : List ℕ) → digits_said n w ≡ read_on n w
unfolding digits_said
digits_said-read n [] = refl
digits_said-read n (b ∷ bs) = digits_said-read (10 * n + (b - 48)) bs

-- the number of a spelled number
pub number_in-decimal : (n : ℕ) → n < 2 ^ 64 → number_in (decimal n) ≡ n
number_in-decimal n lt = digits_said-read 0 (decimal n) ∙ digits_value-decimal own n lt

-- if a word is read as a number, then it is a numeral, and of that number
pub number_said : (w : List ℕ) (n : ℕ) → number_of w ≡ Some n → (is_number w ≡ true) × (number_in w ≡ n)
unfolding is_number
number_said w n h =
    let s = number_of-sound w n h in
    let value : number_in w ≡ n = ap number_in s.0 ∙ number_in-decimal n s.1 in
    let same : bytes_eq w (decimal n) ≡ true = (bytes_eq-Decides w (decimal n)).1 s.0 in
    let small : nat_lt n (2 ^ 64) ≡ true = lt-ltb n (2 ^ 64) s.1 in
    (rw (value, same, small) refl, value)

none_said_of : (w : List ℕ) (a b : Bool) → bytes_eq w (decimal (number_in w)) ≡ a → nat_lt (number_in w) (2 ^ 64) ≡ b → number_of w ≡ None → (a && b) ≡ false
none_said_of w true true e f h =
    let same : w ≡ decimal (number_in w) = bytes_eq-true w (decimal (number_in w)) e in
    let read : number_of (decimal (number_in w)) ≡ Some (number_in w) = number_of-decimal (number_in w) (ltb-true (number_in w) (2 ^ 64) f) in
    let there : number_of w ≡ Some (number_in w) = ap number_of same ∙ read in
    absurd cc
none_said_of w true false e f h = refl
none_said_of w false b e f h = refl

-- if a word is not read as a number, then it is no numeral
pub none_said : (w : List ℕ) → number_of w ≡ None → is_number w ≡ false
unfolding is_number
none_said w h = none_said_of w (bytes_eq w (decimal (number_in w))) (nat_lt (number_in w) (2 ^ 64)) refl refl h

range_row_of : (lowest limit : ℕ) (w : List ℕ) (o : Option ℕ) → number_of w ≡ o → row_met (must (Number lowest limit)) (Some w) ≡ row_of (range_of lowest limit w)
unfolding table range_of
range_row_of lowest limit w None e = rw (e, none_said w e) refl
range_row_of lowest limit w (Some n) e = rw (e, (number_said w n e).0, (number_said w n e).1) (go (nat_le lowest n && nat_lt n limit))
  where
    go : (b : Bool) → or_else (where_true (not b) kinds.Range) None ≡ row_of {A = ℕ} (cond b (Ok n) (Err kinds.Range))
    go true = refl
    go false = refl

-- the row that a word meets where a number of a range must stand is the fault of reading it so
pub range_row : (lowest limit : ℕ) (w : List ℕ) → row_met (must (Number lowest limit)) (Some w) ≡ row_of (range_of lowest limit w)
range_row lowest limit w = range_row_of lowest limit w (number_of w) refl

number_row_of : (w : List ℕ) (o : Option ℕ) → number_of w ≡ o → row_met (must (Number 0 (2 ^ 64))) (Some w) ≡ row_of (or_fault (number_of w) kinds.Number)
unfolding table
number_row_of w None e = rw (e, none_said w e) refl
number_row_of w (Some n) e =
    let small : nat_lt n (2 ^ 64) ≡ true = lt-ltb n (2 ^ 64) (number_of-sound w n e).1 in
    let low : nat_le 0 n ≡ true = grind (arith, nat_tests) in
    rw (e, (number_said w n e).0, (number_said w n e).1, low, small) refl

-- the row that a word meets where a number must stand is the fault of reading it so
pub number_row : (w : List ℕ) → row_met (must (Number 0 (2 ^ 64))) (Some w) ≡ row_of (or_fault (number_of w) kinds.Number)
number_row w = number_row_of w (number_of w) refl

module _ (R : Rows) (T : Option Kind) (ws : List (List ℕ)) (so : first_fault R ws ≡ T) where
  pub range_told : (lowest limit : ℕ) → ((w : Option (List ℕ)) → R [] w ≡ row_met (must (Number lowest limit)) w) → Tells T (range_at lowest limit ws) (λ x. Next R T (λ w. range_of lowest limit w ≡ Ok x.0) x.1)
  unfolding range_at table
  range_told lowest limit at =
      tells_bind T _ _ _ (word_first R T ws so (at None)) (λ w p.
      tells_bind T _ _ _ (reads R T w.0 w.1 p (range_of lowest limit w.0) (at (Some w.0) ∙ range_row lowest limit w.0)) (λ n q.
      tells_ok T _ _ (record { word = w.0; is = q.0; so = q.1 })))

  pub number_told : ((w : Option (List ℕ)) → R [] w ≡ row_met (must (Number 0 (2 ^ 64))) w) → Tells T (number_at ws) (λ x. Next R T (λ w. or_fault (number_of w) kinds.Number ≡ Ok x.0) x.1)
  unfolding number_at table
  number_told at =
      tells_bind T _ _ _ (word_first R T ws so (at None)) (λ w p.
      tells_bind T _ _ _ (reads R T w.0 w.1 p (or_fault (number_of w.0) kinds.Number) (at (Some w.0) ∙ number_row w.0)) (λ n q.
      tells_ok T _ _ (record { word = w.0; is = q.0; so = q.1 })))

-- ---- values

value_row_of : (version : ℕ) (w : List ℕ) (m t : Bool) (o : Option ℕ) → is_marked version w ≡ m → is_text (drop 1 w) ≡ t → number_of w ≡ o → row_met (must (AValue version)) (Some w) ≡ row_of (value_of version w)
unfolding table value_of text_of
value_row_of version w true true o e f g = rw (e, f) refl
value_row_of version w true false o e f g = rw (e, f) refl
value_row_of version w false t None e f g = rw (e, g, none_said w g) refl
value_row_of version w false t (Some n) e f g = rw (e, g, (number_said w n g).0) refl

-- the row that a word meets where a value must stand is the fault of reading it so
pub value_row : (version : ℕ) (w : List ℕ) → row_met (must (AValue version)) (Some w) ≡ row_of (value_of version w)
value_row version w = value_row_of version w (is_marked version w) (is_text (drop 1 w)) (number_of w) refl refl refl

-- if a value must stand next, then reading it fails with the first fault, or leaves that fault to the words behind it
pub value_told : (R : Rows) (T : Option Kind) (ws : List (List ℕ)) → first_fault R ws ≡ T → (version : ℕ) → ((w : Option (List ℕ)) → R [] w ≡ row_met (must (AValue version)) w) → Tells T (value_at version ws) (λ x. Next R T (λ w. value_of version w ≡ Ok x.0) x.1)
unfolding value_at table
value_told R T ws so version at =
    tells_bind T _ _ _ (word_first R T ws so (at None)) (λ w p.
    tells_bind T _ _ _ (reads R T w.0 w.1 p (value_of version w.0) (at (Some w.0) ∙ value_row version w.0)) (λ v q.
    tells_ok T _ _ (record { word = w.0; is = q.0; so = q.1 })))

-- ---- names

among_choice : (b : Bool) (o : Option ℕ) (c : Bool) → (o ≡ None → c ≡ false) → cond b (Some 0) (option_map suc o) ≡ None → (b || c) ≡ false
among_choice true o c h e = absurd cc
among_choice false None c h e = h refl
among_choice false (Some i) c h e = absurd cc

-- if a word is not found among names, then it is none of them
pub among_none : (names : List (List ℕ)) (w : List ℕ) → find names w ≡ None → is_among w names ≡ false
unfolding find is_among
among_none [] w h = refl
among_none (n ∷ ns) w h = among_choice (bytes_eq w n) (find ns w) (is_among w ns) (among_none ns w) h

among_chosen : (b : Bool) (o : Option ℕ) (c : Bool) (i : ℕ) → ((j : ℕ) → o ≡ Some j → c ≡ true) → cond b (Some 0) (option_map suc o) ≡ Some i → (b || c) ≡ true
among_chosen true o c i h e = refl
among_chosen false None c i h e = absurd cc
among_chosen false (Some j) c i h e = h j refl

-- if a word is found among names, then it is one of them
pub among_some : (names : List (List ℕ)) (w : List ℕ) (i : ℕ) → find names w ≡ Some i → is_among w names ≡ true
unfolding find is_among
among_some [] w i h = absurd cc
among_some (n ∷ ns) w i h = among_chosen (bytes_eq w n) (find ns w) (is_among w ns) i (among_some ns w) h

new_name_row_of : (names : List (List ℕ)) (w : List ℕ) (b : Bool) (o : Option ℕ) → is_name w ≡ b → find names w ≡ o → row_met (must (NewName names)) (Some w) ≡ row_of (new_name_of names w)
unfolding table new_name_of name_of_word
new_name_row_of names w false o e f = rw e refl
new_name_row_of names w true None e f = rw (e, f, among_none names w f) refl
new_name_row_of names w true (Some i) e f = rw (e, f, among_some names w i f) refl

-- the row that a word meets where a new name must stand is the fault of reading it so
pub new_name_row : (names : List (List ℕ)) (w : List ℕ) → row_met (must (NewName names)) (Some w) ≡ row_of (new_name_of names w)
new_name_row names w = new_name_row_of names w (is_name w) (find names w) refl refl

-- ---- the end of a line

-- if the line must end here, then a word that still stands is its first fault
pub ended_told : (R : Rows) (T : Option Kind) (ws : List (List ℕ)) → first_fault R ws ≡ T → ((w : Option (List ℕ)) → R [] w ≡ row_met ends w) → Tells T (ended ws) (λ _. Unit {0})
unfolding ended table
ended_told R T [] so at = tells_ok T tt _ tt
ended_told R T (w ∷ ws) so at = tells_err T kinds.Word _ (stops R T w ws so kinds.Word (at (Some w)))
