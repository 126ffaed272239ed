-- The rows that the words of operations meet, and what reading says of the operations.
use Rattle.std.proofs.Common.{◌≡◌, ℕ, zero, suc, ◌+◌, Bool, true, false, cond, List, [], ◌∷◌, ◌++◌, length, Option, Some, None, Ok, Err, refl, sym, ap, ◌∙◌, arith, length-append}
use Rattle.std.specs.Prelude.{codes, ◌&&◌, ◌||◌, ◌==◌, not, nat_lt, nat_le}
use Rattle.std.specs.Str.{bytes_eq}
use Rattle.std.proofs.lemmas.Bool.{eq-eqb, eqb-true}
use Rattle.std.proofs.lemmas.Bool.Decides.{nat_tests}
use Rattle.zeus_base.specs.Tables.{nth}
use Rattle.zeus_base.specs.declared.value.Value.{Value}
use Rattle.zeus_base.specs.declared.value.Value.TheVariants as values
use Rattle.zeus_txn.specs.Ops.{object_of, mentions, mentioned, named_after, named}
use Rattle.zeus_txn.specs.declared.ops.Op.{Op}
use Rattle.zeus_model.specs.Faults.{row_met}
use Rattle.zeus_model.specs.Places.{Said, Declared, WordPlace, must, second_word, under, op_keywords, op_forms, behind, OpParts, with_word, with_words, with_name, noted_after, named_in, separator, op_place, ops_place}
use Rattle.zeus_model.specs.Tables.{or_else, where_true}
use Rattle.zeus_model.specs.Words.{is_among, is_name}
use Rattle.zeus_model.specs.declared.fault.Kind.{Kind}
use Rattle.zeus_model.specs.declared.fault.Kind.TheVariants as kinds
use Rattle.script_lang.specs.declared.keywords.OpWord.{OpWord}
use Rattle.script_lang.specs.declared.keywords.OpWord.TheVariants as words
use Rattle.script_lang.specs.Gathered.{takes_object}
use Rattle.script_lang.specs.Names.{find, name_of_word}
use Rattle.script_lang.specs.Numbers.{digits_from, number_of}
use Rattle.script_lang.specs.Operations.{op_word_of, object_of_word, operand_at, op_rest_at, op_at, ops_after, ops_at}
use Rattle.script_lang.specs.Reads.{◌>>=◌, or_fault}
use Rattle.script_lang.specs.Values.{value_of, text_of}
use Rattle.script_lang.proofs.laws.FindLaws.{bytes_eq-true, bytes_eq-same, find-sound}
use Rattle.script_lang.proofs.faults.FirstWord.{Rows, next, first_fault, first_fault-same, Tells, tells_bind, tells_ok, tells_err, row_of, reads, word_first, stops, passes}
use Rattle.script_lang.proofs.laws.OpLaws.{op_text, HasWord, op_word_of-sound}
use Rattle.script_lang.proofs.rows.RowLaws.{table, number_told, value_told, among_none, among_some}
use Rattle.script_lang.proofs.Sound.{IfRead, read_bind, read_ok, read_err, read_cond, read_or, read_is}

-- ---- the objects that are named, as words and as numbers

-- the names of these objects
SameNames : List (List ℕ) → List (List ℕ) → List ℕ → Type 0
SameNames names [] [] = Unit {0}
SameNames names [] (x ∷ xs) = ⊥
SameNames names (w ∷ ws) [] = ⊥
SameNames names (w ∷ ws) (x ∷ xs) = (find names w ≡ Some x) × SameNames names ws xs

same_word : (names : List (List ℕ)) (v w : List ℕ) (x y : ℕ) → find names v ≡ Some x → find names w ≡ Some y → (b c : Bool) → bytes_eq v w ≡ b → (x == y) ≡ c → b ≡ c
same_word names v w x y h g true true e f = refl
same_word names v w x y h g false false e f = refl
same_word names v w x y h g true false e f =
    let one : find names v ≡ find names w = ap (find names) (bytes_eq-true v w e) in
    let same : x ≡ y = cc in
    let yes : (x == y) ≡ true = eq-eqb x y same in
    absurd cc
same_word names v w x y h g false true e f =
    let one : v ≡ w = sym (find-sound names v x h).1 ∙ ap (nth [] names) (eqb-true x y f) ∙ (find-sound names w y g).1 in
    let yes : bytes_eq v w ≡ true = ap (bytes_eq v) (sym one) ∙ bytes_eq-same v in
    absurd cc

among_same : (names ws : List (List ℕ)) (xs : List ℕ) (w : List ℕ) (x : ℕ) → SameNames names ws xs → find names w ≡ Some x → is_among w ws ≡ mentions x xs
unfolding SameNames is_among mentions
among_same names [] [] w x h e = refl
among_same names [] (y ∷ xs) w x h e = absurd h
among_same names (v ∷ ws) [] w x h e = absurd h
among_same names (v ∷ ws) (y ∷ xs) w x h e =
    let first : bytes_eq w v ≡ (x == y) = same_word names w v x y e h.0 (bytes_eq w v) (x == y) refl refl in
    rw (first, among_same names ws xs w x h.1 e) refl

length_same : (names ws : List (List ℕ)) (xs : List ℕ) → SameNames names ws xs → length ws ≡ length xs
unfolding SameNames
length_same names [] [] h = refl
length_same names [] (x ∷ xs) h = absurd h
length_same names (w ∷ ws) [] h = absurd h
length_same names (w ∷ ws) (x ∷ xs) h = ap suc (length_same names ws xs h.1)

same_more : (names ws : List (List ℕ)) (xs : List ℕ) (w : List ℕ) (x : ℕ) → SameNames names ws xs → find names w ≡ Some x → SameNames names (ws ++ w ∷ []) (xs ++ x ∷ [])
unfolding SameNames
same_more names [] [] w x h e = (e, tt)
same_more names [] (y ∷ xs) w x h e = absurd h
same_more names (v ∷ ws) [] w x h e = absurd h
same_more names (v ∷ ws) (y ∷ xs) w x h e = (h.0, same_more names ws xs w x h.1 e)

same_noted : (names ws : List (List ℕ)) (xs : List ℕ) (w : List ℕ) (x : ℕ) → SameNames names ws xs → find names w ≡ Some x → SameNames names (with_name ws w) (mentioned xs x)
unfolding with_name mentioned
same_noted names ws xs w x h e = rw (among_same names ws xs w x h e) (go (mentions x xs))
  where
    go : (b : Bool) → SameNames names (cond b ws (ws ++ w ∷ [])) (cond b xs (xs ++ x ∷ []))
    go true = h
    go false = same_more names ws xs w x h e

-- the finished operations, as words and as they were read
AreRead : List (List ℕ) → List (List (List ℕ)) → List Op → Type 0
AreRead names [] [] = Unit {0}
AreRead names [] (op ∷ before) = ⊥
AreRead names (p ∷ finished) [] = ⊥
AreRead names (p ∷ finished) (op ∷ before) = (find names (second_word p) ≡ Some (object_of op)) × AreRead names finished before

read_more : (names : List (List ℕ)) (finished : List (List (List ℕ))) (before : List Op) (p : List (List ℕ)) (op : Op) → AreRead names finished before → find names (second_word p) ≡ Some (object_of op) → AreRead names (finished ++ p ∷ []) (before ++ op ∷ [])
unfolding AreRead
read_more names [] [] p op h e = (e, tt)
read_more names [] (o ∷ before) p op h e = absurd h
read_more names (q ∷ finished) [] p op h e = absurd h
read_more names (q ∷ finished) (o ∷ before) p op h e = (h.0, read_more names finished before p op h.1 e)

read_length : (names : List (List ℕ)) (finished : List (List (List ℕ))) (before : List Op) → AreRead names finished before → length finished ≡ length before
unfolding AreRead
read_length names [] [] h = refl
read_length names [] (o ∷ before) h = absurd h
read_length names (q ∷ finished) [] h = absurd h
read_length names (q ∷ finished) (o ∷ before) h = ap suc (read_length names finished before h.1)

same_after : (names ws : List (List ℕ)) (xs : List ℕ) (finished : List (List (List ℕ))) (before : List Op) → AreRead names finished before → SameNames names ws xs → SameNames names (noted_after ws finished) (named_after xs before)
unfolding AreRead noted_after named_after
same_after names ws xs [] [] h g = g
same_after names ws xs [] (o ∷ before) h g = absurd h
same_after names ws xs (q ∷ finished) [] h g = absurd h
same_after names ws xs (q ∷ finished) (o ∷ before) h g =
    same_after names (with_name ws (second_word q)) (mentioned xs (object_of o)) finished before h.1 (same_noted names ws xs (second_word q) (object_of o) g h.0)

same_named : (names : List (List ℕ)) (finished : List (List (List ℕ))) (before : List Op) → AreRead names finished before → SameNames names (named_in finished) (named before)
unfolding SameNames named
same_named names finished before h = same_after names [] [] finished before h tt

-- ---- single words

keyword_among : (version : ℕ) (k : OpWord) → HasWord version k → is_among (op_text k) (op_keywords version) ≡ true
unfolding op_keywords op_text is_among HasWord
keyword_among version words.Get h = refl
keyword_among version words.Put h = refl
keyword_among version words.Add h = refl
keyword_among version words.Need h = refl
keyword_among version words.Same h = rw (eq-eqb version 2 h) refl

not_among_of : (w : List ℕ) (a b c d e v : Bool) → bytes_eq w (codes "same") ≡ e → cond a (Some words.Get) (cond b (Some words.Put) (cond c (Some words.Add) (cond d (Some words.Need) (cond (e && v) (Some words.Same) None)))) ≡ None
    → (a || (b || (c || (d || is_among w (cond v (codes "same" ∷ []) []))))) ≡ false
unfolding is_among
not_among_of w true b c d e v is h = absurd cc
not_among_of w false true c d e v is h = absurd cc
not_among_of w false false true d e v is h = absurd cc
not_among_of w false false false true e v is h = absurd cc
not_among_of w false false false false true true is h = absurd cc
not_among_of w false false false false true false is h = refl
not_among_of w false false false false false true is h = rw is refl
not_among_of w false false false false false false is h = refl

not_among : (version : ℕ) (w : List ℕ) → op_word_of version w ≡ None → is_among w (op_keywords version) ≡ false
unfolding op_word_of op_keywords is_among
not_among version w h =
    not_among_of w (bytes_eq w (codes "get")) (bytes_eq w (codes "put")) (bytes_eq w (codes "add")) (bytes_eq w (codes "need")) (bytes_eq w (codes "same")) (version == 2) refl h

-- a name, a number and a value are no semicolon
no_semicolon_of : (w : List ℕ) (b : Bool) → bytes_eq w (codes ";") ≡ b → (w ≡ codes ";" → ⊥) → b ≡ false
no_semicolon_of w true e h = absurd (h (bytes_eq-true w (codes ";") e))
no_semicolon_of w false e h = refl

no_semicolon : (w : List ℕ) → (w ≡ codes ";" → ⊥) → bytes_eq w (codes ";") ≡ false
no_semicolon w h = no_semicolon_of w (bytes_eq w (codes ";")) refl h

name_apart : (w : List ℕ) → is_name w ≡ true → bytes_eq w (codes ";") ≡ false
unfolding is_name
name_apart w h = no_semicolon w (λ e. let no : is_name w ≡ false = ap is_name e in cc)

number_apart : (w : List ℕ) (n : ℕ) → or_fault (number_of w) kinds.Number ≡ Ok n → bytes_eq w (codes ";") ≡ false
unfolding number_of digits_from
number_apart w n h = no_semicolon w (λ e. let no : or_fault (number_of w) kinds.Number ≡ Err kinds.Number = ap (λ (v : List ℕ). or_fault (number_of v) kinds.Number) e in cc)

semicolon_value : (two : Bool) → cond (two && false) (text_of []) (or_fault (number_of (codes ";")) kinds.Number >>= λ n. Ok (values.Num n)) ≡ Err kinds.Number
unfolding number_of digits_from
semicolon_value true = refl
semicolon_value false = refl

value_apart : (version : ℕ) (w : List ℕ) (v : Value) → value_of version w ≡ Ok v → bytes_eq w (codes ";") ≡ false
unfolding value_of
value_apart version w v h = no_semicolon w (λ e. let no : value_of version w ≡ Err kinds.Number = ap (value_of version) e ∙ semicolon_value (version == 2) in cc)

-- ---- the declared object of a word

long_choice : (m b c : Bool) (x : ℕ) → c ≡ not b → or_else (where_true (not m && c) kinds.Long) None ≡ row_of {A = ℕ} (cond (m || b) (Ok x) (Err kinds.Long))
unfolding or_else where_true
long_choice true b c x e = refl
long_choice false true c x e = rw e refl
long_choice false false c x e = rw e refl

eight : (n : ℕ) → nat_le 8 n ≡ not (nat_lt n 8)
eight n = grind (arith, nat_tests)

module _ (d : Said) (finished : List (List (List ℕ))) (before : List Op) (are : AreRead d.names finished before) where
  declared_row_of : (w : List ℕ) (b : Bool) (o : Option ℕ) → is_name w ≡ b → find d.names w ≡ o → row_met (must (Declared d.names (named_in finished))) (Some w) ≡ row_of (object_of_word d.names before w)
  unfolding table object_of_word name_of_word takes_object
  declared_row_of w false o e f = rw e refl
  declared_row_of w true None e f = rw (e, f, among_none d.names w f) refl
  declared_row_of w true (Some x) e f =
      let same = same_named d.names finished before are in
      rw (e, f, among_some d.names w x f, among_same d.names (named_in finished) (named before) w x same f, length_same d.names (named_in finished) (named before) same)
      (long_choice (mentions x (named before)) (nat_lt (length (named before)) 8) (nat_le 8 (length (named before))) x (eight (length (named before))))

  declared_row : (w : List ℕ) → row_met (must (Declared d.names (named_in finished))) (Some w) ≡ row_of (object_of_word d.names before w)
  declared_row w = declared_row_of w (is_name w) (find d.names w) refl refl

object_found : (names : List (List ℕ)) (before : List Op) (w : List ℕ) → IfRead (object_of_word names before w) (λ x. (is_name w ≡ true) × (find names w ≡ Some x))
unfolding object_of_word name_of_word
object_found names before w =
    read_bind _ _ _ (read_cond (is_name w) _ _ (λ name. (is_name w ≡ true) × (name ≡ w)) (λ t. read_ok _ _ (t, refl)) (λ f. read_err _ _)) (λ name p.
    read_bind _ _ _ (read_or _ _ _ (λ x e. e)) (λ x e.
    read_cond (takes_object before x) _ _ _ (λ t. read_ok _ _ (p.0, ap (find names) (sym p.1) ∙ e)) (λ g. read_err _ _)))

-- ---- one operation

abbrev parts_of : List (List (List ℕ)) → List (List ℕ) → OpParts
parts_of finished last = record { finished = finished; last = last }

abbrev pub ops_rows : Said → List (List (List ℕ)) → List (List ℕ) → Rows
ops_rows d finished last = λ pre w. row_met (ops_place d (parts_of finished last) pre) w

-- a word that is no semicolon belongs to the last operation, and a semicolon ends it
word_joins : (finished : List (List (List ℕ))) (last : List (List ℕ)) (w : List ℕ) → bytes_eq w (codes ";") ≡ false → with_word (parts_of finished last) w ≡ parts_of finished (last ++ w ∷ [])
unfolding with_word
word_joins finished last w e = rw e refl

word_ends : (finished : List (List (List ℕ))) (last : List (List ℕ)) (w : List ℕ) → bytes_eq w (codes ";") ≡ true → with_word (parts_of finished last) w ≡ parts_of (finished ++ last ∷ []) []
unfolding with_word
word_ends finished last w e = rw e refl

ops_next : (d : Said) (finished : List (List (List ℕ))) (last : List (List ℕ)) (T : Option Kind) (w : List ℕ) (ws : List (List ℕ)) → bytes_eq w (codes ";") ≡ false → first_fault (next (ops_rows d finished last) w) ws ≡ T → first_fault (ops_rows d finished (last ++ w ∷ [])) ws ≡ T
unfolding ops_place with_words
ops_next d finished last T w ws e so = first_fault-same (ops_rows d finished (last ++ w ∷ [])) (next (ops_rows d finished last) w) ws (λ pre v. ap (λ (p : OpParts). row_met (ops_place d p pre) v) (sym (word_joins finished last w e))) ∙ so

-- an operation was read behind finished ones
record OpTold (d : Said) (T : Option Kind) (finished : List (List (List ℕ))) (before : List Op) (x : Op × List (List ℕ)) : Type 0 where
  last : List (List ℕ)
  so : first_fault (ops_rows d finished last) x.1 ≡ T
  object : find d.names (second_word last) ≡ Some (object_of x.0)
  then : (w : Option (List ℕ)) → row_met (op_place d finished last) w ≡ row_met (separator []) w
  room : (length before == 16) ≡ false

module _ (d : Said) (T : Option Kind) (finished : List (List (List ℕ))) (before : List Op) (are : AreRead d.names finished before) (room : (length before == 16) ≡ false) where
  operand_told : (k : OpWord) (v : List ℕ) (x : ℕ) (rest : List (List ℕ)) → find d.names v ≡ Some x → first_fault (ops_rows d finished (op_text k ∷ v ∷ [])) rest ≡ T → Tells T (operand_at d.version k x rest) (OpTold d T finished before)
  unfolding operand_at op_text object_of nth ops_place with_words op_place op_forms under behind
  operand_told words.Get v x rest is so = tells_ok T _ _ (record { last = codes "get" ∷ v ∷ []; so = so; object = is; then = λ w. refl; room = room })
  operand_told words.Put v x rest is so =
      tells_bind T _ _ _ (value_told (ops_rows d finished (codes "put" ∷ v ∷ [])) T rest so d.version (λ w. refl)) (λ u q.
      tells_ok T _ _ (record { last = codes "put" ∷ v ∷ q.word ∷ []; so = ops_next d finished (codes "put" ∷ v ∷ []) T q.word u.1 (value_apart d.version q.word u.0 q.is) q.so; object = is; then = λ w. refl; room = room }))
  operand_told words.Add v x rest is so =
      tells_bind T _ _ _ (number_told (ops_rows d finished (codes "add" ∷ v ∷ [])) T rest so (λ w. refl)) (λ u q.
      tells_ok T _ _ (record { last = codes "add" ∷ v ∷ q.word ∷ []; so = ops_next d finished (codes "add" ∷ v ∷ []) T q.word u.1 (number_apart q.word u.0 q.is) q.so; object = is; then = λ w. refl; room = room }))
  operand_told words.Need v x rest is so =
      tells_bind T _ _ _ (number_told (ops_rows d finished (codes "need" ∷ v ∷ [])) T rest so (λ w. refl)) (λ u q.
      tells_ok T _ _ (record { last = codes "need" ∷ v ∷ q.word ∷ []; so = ops_next d finished (codes "need" ∷ v ∷ []) T q.word u.1 (number_apart q.word u.0 q.is) q.so; object = is; then = λ w. refl; room = room }))
  operand_told words.Same v x rest is so =
      tells_bind T _ _ _ (value_told (ops_rows d finished (codes "same" ∷ v ∷ [])) T rest so d.version (λ w. refl)) (λ u q.
      tells_ok T _ _ (record { last = codes "same" ∷ v ∷ q.word ∷ []; so = ops_next d finished (codes "same" ∷ v ∷ []) T q.word u.1 (value_apart d.version q.word u.0 q.is) q.so; object = is; then = λ w. refl; room = room }))

  -- behind its word, the object of an operation
  object_place : (k : OpWord) → ops_place d (parts_of finished (op_text k ∷ [])) [] ≡ must (Declared d.names (named_in finished))
  unfolding op_text ops_place with_words op_place op_forms under behind
  object_place words.Get = refl
  object_place words.Put = refl
  object_place words.Add = refl
  object_place words.Need = refl
  object_place words.Same = refl

  op_rest_told : (k : OpWord) (rest : List (List ℕ)) → first_fault (ops_rows d finished (op_text k ∷ [])) rest ≡ T → Tells T (op_rest_at d.version d.names before k rest) (OpTold d T finished before)
  unfolding op_rest_at table
  op_rest_told k rest so =
      let R = ops_rows d finished (op_text k ∷ []) in
      tells_bind T _ _ _ (word_first R T rest so (ap (λ (p : WordPlace). row_met p None) (object_place k))) (λ w p.
      tells_bind T _ _ _ (reads R T w.0 w.1 p (object_of_word d.names before w.0) (ap (λ (p : WordPlace). row_met p (Some w.0)) (object_place k) ∙ declared_row d finished before are w.0)) (λ x q.
      let there = read_is _ x _ q.0 (object_found d.names before w.0) in
      operand_told k w.0 x w.1 there.1 (ops_next d finished (op_text k ∷ []) T w.0 w.1 (name_apart w.0 there.0) q.1)))

keyword_apart : (k : OpWord) → bytes_eq (op_text k) (codes ";") ≡ false
unfolding op_text
keyword_apart words.Get = refl
keyword_apart words.Put = refl
keyword_apart words.Add = refl
keyword_apart words.Need = refl
keyword_apart words.Same = refl

module _ (d : Said) (T : Option Kind) (finished : List (List (List ℕ))) (before : List Op) (are : AreRead d.names finished before) where
  op_word_told : (w : List ℕ) (rest : List (List ℕ)) (o : Option OpWord) (full : Bool) → op_word_of d.version w ≡ o → (length before == 16) ≡ full → first_fault (ops_rows d finished []) (w ∷ rest) ≡ T
      → Tells T (or_fault o kinds.Word >>= λ k. cond full (Err kinds.Long) (op_rest_at d.version d.names before k rest)) (OpTold d T finished before)
  unfolding table ops_place with_words op_place
  op_word_told w rest None full e f so =
      tells_err T kinds.Word _ (stops (ops_rows d finished []) T w rest so kinds.Word (rw (not_among d.version w e) refl))
  op_word_told w rest (Some k) true e f so =
      let is = op_word_of-sound d.version w k e in
      let among : is_among w (op_keywords d.version) ≡ true = ap (λ (v : List ℕ). is_among v (op_keywords d.version)) is.0 ∙ keyword_among d.version k is.1 in
      let many : (length finished == 16) ≡ true = ap (λ (n : ℕ). n == 16) (read_length d.names finished before are) ∙ f in
      tells_err T kinds.Long _ (stops (ops_rows d finished []) T w rest so kinds.Long (rw (among, many) refl))
  op_word_told w rest (Some k) false e f so =
      let is = op_word_of-sound d.version w k e in
      let among : is_among w (op_keywords d.version) ≡ true = ap (λ (v : List ℕ). is_among v (op_keywords d.version)) is.0 ∙ keyword_among d.version k is.1 in
      let many : (length finished == 16) ≡ false = ap (λ (n : ℕ). n == 16) (read_length d.names finished before are) ∙ f in
      let behind : first_fault (next (ops_rows d finished []) w) rest ≡ T = passes (ops_rows d finished []) T w rest so (rw (among, many) refl) in
      let apart : bytes_eq w (codes ";") ≡ false = ap (λ (v : List ℕ). bytes_eq v (codes ";")) is.0 ∙ keyword_apart k in
      let there : first_fault (ops_rows d finished (w ∷ [])) rest ≡ T = ops_next d finished [] T w rest apart behind in
      op_rest_told d T finished before are f k rest (rw is.0 at there)

  op_told : (ws : List (List ℕ)) → first_fault (ops_rows d finished []) ws ≡ T → Tells T (op_at d.version d.names before ws) (OpTold d T finished before)
  unfolding op_at table ops_place with_words op_place
  op_told ws so =
      tells_bind T _ _ _ (word_first (ops_rows d finished []) T ws so refl) (λ w p.
      op_word_told w.0 w.1 (op_word_of d.version w.0) (length before == 16) refl refl p)

-- ---- operations, with semicolons between

module _ (d : Said) (T : Option Kind) where
  abbrev Ready : List (List (List ℕ)) → List (List ℕ) → Type 0
  Ready finished last = (w : Option (List ℕ)) → row_met (op_place d finished last) w ≡ row_met (separator []) w

  -- no semicolon where one has to be
  no_more : (finished : List (List (List ℕ))) (last : List (List ℕ)) (w : List ℕ) (ws : List (List ℕ)) → Ready finished last → first_fault (ops_rows d finished last) (w ∷ ws) ≡ T → bytes_eq w (codes ";") ≡ false → T ≡ Some kinds.Word
  unfolding table ops_place with_words is_among
  no_more finished last w ws ready so e = stops (ops_rows d finished last) T w ws so kinds.Word (ready (Some w) ∙ rw e refl)

  -- behind a semicolon
  one_more : (finished : List (List (List ℕ))) (last : List (List ℕ)) (w : List ℕ) (ws : List (List ℕ)) → Ready finished last → first_fault (ops_rows d finished last) (w ∷ ws) ≡ T → bytes_eq w (codes ";") ≡ true → first_fault (ops_rows d (finished ++ last ∷ []) []) ws ≡ T
  unfolding table ops_place with_words is_among
  one_more finished last w ws ready so e =
      let behind = passes (ops_rows d finished last) T w ws so (ready (Some w) ∙ rw e refl) in
      first_fault-same (ops_rows d (finished ++ last ∷ []) []) (next (ops_rows d finished last) w) ws (λ pre v. ap (λ (p : OpParts). row_met (ops_place d p pre) v) (sym (word_ends finished last w e))) ∙ behind

  more_told : (room : ℕ) (finished : List (List (List ℕ))) (last : List (List ℕ)) (before : List Op) (ws : List (List ℕ)) → length before + room ≡ 16 → AreRead d.names (finished ++ last ∷ []) before → Ready finished last
      → first_fault (ops_rows d finished last) ws ≡ T → Tells T (ops_after d.version d.names room before ws) (λ _. Unit {0})
  unfolding ops_after
  more_told zero finished last before [] left are ready so = tells_ok T before _ tt
  more_told (suc room) finished last before [] left are ready so = tells_ok T before _ tt
  more_told zero finished last before (w ∷ ws) left are ready so = go (bytes_eq w (codes ";")) refl
    where
      go : (b : Bool) → bytes_eq w (codes ";") ≡ b → Tells {A = List Op} T (cond b (op_at d.version d.names before ws >>= λ o. Err kinds.Long) (Err kinds.Word)) (λ _. Unit {0})
      go false e = tells_err T kinds.Word _ (no_more finished last w ws ready so e)
      go true e =
          tells_bind T _ _ _ (op_told d T (finished ++ last ∷ []) before are ws (one_more finished last w ws ready so e)) (λ o p.
          let full : (length before == 16) ≡ true = eq-eqb (length before) 16 (omega (arith, left)) in
          let not = p.room in
          absurd cc)
  more_told (suc room) finished last before (w ∷ ws) left are ready so = go (bytes_eq w (codes ";")) refl (λ done after ops rest. more_told room done after ops rest)
    where
      go : (b : Bool) → bytes_eq w (codes ";") ≡ b
          → ((done : List (List (List ℕ))) (after : List (List ℕ)) (ops : List Op) (rest : List (List ℕ)) → length ops + room ≡ 16 → AreRead d.names (done ++ after ∷ []) ops → Ready done after → first_fault (ops_rows d done after) rest ≡ T → Tells T (ops_after d.version d.names room ops rest) (λ _. Unit {0}))
          → Tells {A = List Op} T (cond b (op_at d.version d.names before ws >>= λ o. ops_after d.version d.names room (before ++ o.0 ∷ []) o.1) (Err kinds.Word)) (λ _. Unit {0})
      go false e more = tells_err T kinds.Word _ (no_more finished last w ws ready so e)
      go true e more =
          tells_bind T _ _ _ (op_told d T (finished ++ last ∷ []) before are ws (one_more finished last w ws ready so e)) (λ o p.
          more (finished ++ last ∷ []) p.last (before ++ o.0 ∷ []) o.1 (rw length-append (omega (arith, left))) (read_more d.names (finished ++ last ∷ []) before p.last o.0 are p.object) p.then p.so)

  pub ops_told : (ws : List (List ℕ)) → first_fault (ops_rows d [] []) ws ≡ T → Tells T (ops_at d.version d.names ws) (λ _. Unit {0})
  unfolding ops_at AreRead
  ops_told ws so =
      tells_bind T _ _ _ (op_told d T [] [] tt ws so) (λ o p.
      more_told 15 [] p.last (o.0 ∷ []) o.1 (omega arith) (p.object, tt) p.then p.so)
