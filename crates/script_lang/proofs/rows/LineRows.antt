-- The rows that the words of each line meet, and what reading says of the line.
use Rattle.std.proofs.Common.{◌≡◌, ℕ, ◌+◌, ◌≤◌, ◌^◌, Bool, true, false, cond, List, [], ◌∷◌, length, Option, Some, None, Ok, Err, refl, sym, ap, ◌∙◌, arith, subst}
use Rattle.std.specs.Prelude.{codes, ◌||◌, ◌==◌, not}
use Rattle.std.specs.Str.{bytes_eq}
use Rattle.std.proofs.lemmas.Bool.{ne_eqb}
use Rattle.zeus_model.specs.Faults.{row_met}
use Rattle.zeus_model.specs.Places.{Opening, Said, Keyword, must, versions, Form, under, forms, behind, some_words, directory_place, tail_place, no_form, form_place, ops_place, with_words, op_place, tx_place, place}
use Rattle.zeus_model.specs.Tables.{nth, or_else, where_true}
use Rattle.zeus_model.specs.Words.{is_among}
use Rattle.zeus_model.specs.declared.fault.Kind.{Kind}
use Rattle.zeus_model.specs.declared.fault.Kind.TheVariants as kinds
use Rattle.script_lang.specs.declared.keywords.StepWord.{StepWord}
use Rattle.script_lang.specs.declared.keywords.StepWord.TheVariants as steps
use Rattle.script_lang.specs.Drafts.{State, version_of, version_taken, nodes_taken, slots_taken, some_nodes, directory_taken}
use Rattle.script_lang.specs.Live.{opening}
use Rattle.script_lang.specs.Objects.{new_name_of, object_at}
use Rattle.script_lang.specs.Reads.{keyword_at, word_if}
use Rattle.script_lang.specs.Steps.{step_at}
use Rattle.script_lang.specs.Transactions.{number_if, after_at, tx_at}
use Rattle.script_lang.proofs.laws.FindLaws.{bytes_eq-true}
use Rattle.script_lang.proofs.faults.FirstWord.{Rows, next, first_fault, first_fault-same, Tells, tells_bind, tells_ok, tells_err, row_of, reads, word_first, stops, passes}
use Rattle.script_lang.proofs.rows.NodeRows.{range_number_in, member_rows, members_told, counted_rows, counted_told}
use Rattle.script_lang.proofs.rows.OpRows.{ops_rows, ops_told}
use Rattle.script_lang.proofs.rows.RowLaws.{table, range_told, value_told, new_name_row, ended_told}
use Rattle.script_lang.proofs.laws.StepLaws.{step_text, none_below}

-- opens the forms
unfoldable pub all_forms : ℕ
unfolding table place form_place forms under behind tail_place is_among
all_forms = 0

abbrev pub line_rows : Opening → Said → Rows
line_rows o d = λ pre w. row_met (place o d pre) w

-- nothing more is said of what was read
abbrev pub Any : {A : Type 0} → A → Type 0
Any x = Unit {0}

-- ---- the first lines

keyword_choice : (R : Rows) (T : Option Kind) (keyword w : List ℕ) (ws : List (List ℕ)) → first_fault R (w ∷ ws) ≡ T → ((v : List ℕ) → bytes_eq v keyword ≡ false → R [] (Some v) ≡ Some kinds.Word) → R [] (Some keyword) ≡ None
    → (b : Bool) → bytes_eq w keyword ≡ b → Tells {A = Unit {0} × List (List ℕ)} T (cond b (Ok (tt, ws)) (Err kinds.Word)) (λ x. first_fault (next R keyword) x.1 ≡ T)
keyword_choice R T keyword w ws so other same true e =
    let is : w ≡ keyword = bytes_eq-true w keyword e in
    tells_ok T (tt, ws) _ (passes R T keyword ws (ap (λ (v : List ℕ). first_fault R (v ∷ ws)) (sym is) ∙ so) same)
keyword_choice R T keyword w ws so other same false e = tells_err T kinds.Word _ (stops R T w ws so kinds.Word (other w e))

-- if only the keyword fits first, then reading it fails with the first fault, or leaves that fault to the words behind it
pub keyword_told : (R : Rows) (T : Option Kind) (keyword : List ℕ) (ws : List (List ℕ)) → first_fault R ws ≡ T → R [] None ≡ Some kinds.Word → ((v : List ℕ) → bytes_eq v keyword ≡ false → R [] (Some v) ≡ Some kinds.Word) → R [] (Some keyword) ≡ None
    → Tells T (keyword_at keyword ws) (λ x. first_fault (next R keyword) x.1 ≡ T)
unfolding keyword_at
keyword_told R T keyword ws so none other same =
    tells_bind T _ _ _ (word_first R T ws so none) (λ w p. keyword_choice R T keyword w.0 w.1 p other same (bytes_eq w.0 keyword) refl)

or_none : (o : Option Kind) → or_else o None ≡ o
unfolding or_else
or_none None = refl
or_none (Some k) = refl

version_choice : (a b : Bool) → where_true (not (a || (b || false))) kinds.Word ≡ row_of {A = ℕ} (cond a (Ok 1) (cond b (Ok 2) (Err kinds.Word)))
unfolding where_true
version_choice true b = refl
version_choice false true = refl
version_choice false false = refl

version_row : (live : Bool) (w : List ℕ) → row_met (must (Keyword (versions (opening live)))) (Some w) ≡ row_of (version_of w)
unfolding table version_of is_among
version_row live w = or_none _ ∙ version_choice (bytes_eq w (codes "1")) (bytes_eq w (codes "2"))

-- if no node is listed and the line ends, then a word is at fault
pub none_listed : (nodes : ℕ) → 1 ≤ nodes → first_fault (counted_rows nodes 0 0 false) [] ≡ Some kinds.Word
unfolding first_fault table some_words
none_listed nodes some =
    let other : (0 == nodes) ≡ false = ne_eqb 0 nodes (λ e. omega (arith, some, e)) in
    rw other refl

module _ (live : Bool) (d : Said) (s : State) (ws : List (List ℕ)) (T : Option Kind) (so : first_fault (line_rows (opening live) d) ws ≡ T) where
  pub version_told : d.next ≡ codes "zeus" ∷ [] → Tells T (version_taken s ws) Any
  unfolding version_taken all_forms
  version_told words =
      let R = line_rows (opening live) d in
      tells_bind T _ _ _ (keyword_told R T (codes "zeus") ws so refl (λ v e. rw (words, e) refl) (rw words refl)) (λ a p.
      tells_bind T _ _ _ (word_first (next R (codes "zeus")) T a.1 p refl) (λ w q.
      tells_bind T _ _ _ (reads (next R (codes "zeus")) T w.0 w.1 q (version_of w.0) (version_row live w.0)) (λ v r.
      tells_bind T _ _ _ (ended_told (next (next R (codes "zeus")) w.0) T w.1 r.1 (λ u. refl)) (λ e t.
      tells_ok T _ _ tt))))

  pub nodes_told : d.next ≡ codes "nodes" ∷ [] → Tells T (nodes_taken s ws) Any
  unfolding nodes_taken all_forms
  nodes_told words =
      let R = line_rows (opening live) d in
      tells_bind T _ _ _ (keyword_told R T (codes "nodes") ws so refl (λ v e. rw (words, e) refl) (rw words refl)) (λ a p.
      tells_bind T _ _ _ (range_told (next R (codes "nodes")) T a.1 p 1 9 (λ u. refl)) (λ n q.
      tells_bind T _ _ _ (ended_told (next (next R (codes "nodes")) q.word) T n.1 q.so (λ u. refl)) (λ e t.
      tells_ok T _ _ tt)))

  pub slots_told : d.next ≡ codes "slots" ∷ [] → Tells T (slots_taken s ws) Any
  unfolding slots_taken all_forms
  slots_told words =
      let R = line_rows (opening live) d in
      tells_bind T _ _ _ (keyword_told R T (codes "slots") ws so refl (λ v e. rw (words, e) refl) (rw words refl)) (λ a p.
      tells_bind T _ _ _ (range_told (next R (codes "slots")) T a.1 p 1 9 (λ u. refl)) (λ n q.
      tells_bind T _ _ _ (ended_told (next (next R (codes "slots")) q.word) T n.1 q.so (λ u. refl)) (λ e t.
      tells_ok T _ _ tt)))

  pub directory_told : d.next ≡ codes "directory" ∷ [] → d.nodes ≡ s.head.nodes → 1 ≤ s.head.nodes → Tells T (directory_taken s ws) Any
  unfolding directory_taken all_forms directory_place
  directory_told words nodes some =
      let R = line_rows (opening live) d in
      tells_bind T _ _ _ (keyword_told R T (codes "directory") ws so refl (λ v e. rw (words, e) refl) (rw words refl)) (λ a p.
      let counts : first_fault (counted_rows d.nodes 0 0 false) a.1 ≡ T = first_fault-same (counted_rows d.nodes 0 0 false) (next R (codes "directory")) a.1 (λ pre u. let none : 0 + length pre ≡ length pre = omega arith in rw none refl) ∙ p in
      let rows : first_fault (counted_rows s.head.nodes 0 0 false) a.1 ≡ T = subst (λ (n : ℕ). first_fault (counted_rows n 0 0 false) a.1 ≡ T) nodes counts in
      tells_bind T _ _ _ (counted_told T s.head.nodes 0 [] 0 false a.1 refl (none_below 0) (λ e. none_listed s.head.nodes some) rows) (λ ns q.
      tells_bind T _ _ _ (some_told ns q) (λ e t.
      tells_ok T _ _ tt)))
    where
      some_told : (ns : List ℕ) → (ns ≡ [] → T ≡ Some kinds.Word) → Tells T (some_nodes ns) Any
      some_told [] h = tells_err T kinds.Word _ (h refl)
      some_told (n ∷ ns) h = tells_ok T (n ∷ ns) _ tt

-- ---- the lines behind the first ones

-- what the lines so far say, where these words may come next
abbrev pub said_of : List (List ℕ) → State → Said
said_of words s = record {
  next = words;
  version = s.head.version;
  nodes = s.head.nodes;
  slots = s.head.slots;
  names = s.names;
  txs = length s.txs;
  steps = length s.steps;
}

-- the rows behind a keyword
abbrev pub form_rows : Said → Form → Rows
form_rows d f = λ pre w. row_met (form_place d f pre) w

abbrev pub form_of : Opening → Said → List ℕ → Form
form_of o d keyword = under no_form keyword (forms o d)

module _ (o : Opening) (words : List (List ℕ)) (s : State) (T : Option Kind) where
  abbrev pub rows_behind : List ℕ → Rows
  rows_behind keyword = form_rows (said_of words s) (form_of o (said_of words s) keyword)

  pub object_told : (ws : List (List ℕ)) → first_fault (rows_behind (codes "object")) ws ≡ T → Tells T (object_at s.head.version s.head.nodes s.names ws) Any
  unfolding object_at all_forms nth
  object_told ws so =
      let R = rows_behind (codes "object") in
      tells_bind T _ _ _ (word_first R T ws so refl) (λ w p.
      tells_bind T _ _ _ (reads R T w.0 w.1 p (new_name_of s.names w.0) (new_name_row s.names w.0)) (λ name q.
      tells_bind T _ _ _ (value_told (next R w.0) T w.1 q.1 s.head.version (λ u. refl)) (λ value r.
      tells_bind T _ _ _ (range_told (next (next R w.0) r.word) T value.1 r.so 0 s.head.nodes (λ u. refl)) (λ owner t.
      let rows = subst (λ (n : ℕ). first_fault (member_rows s.head.nodes (Some n) 0) owner.1 ≡ T) (range_number_in 0 s.head.nodes t.word owner.0 t.is) t.so in
      tells_bind T _ _ _ (members_told T s.head.nodes (Some owner.0) [] 0 owner.1 rows) (λ others u.
      tells_ok T _ _ tt)))))

  abbrev tx_rows : Rows
  tx_rows = λ pre w. row_met (tx_place (said_of words s) pre) w

  -- a word that is not `after` begins the first operation
  first_operation : (w : List ℕ) (ws : List (List ℕ)) → bytes_eq w (codes "after") ≡ false → first_fault tx_rows (w ∷ ws) ≡ first_fault (ops_rows (said_of words s) [] []) (w ∷ ws)
  unfolding first_fault table tx_place is_among ops_place with_words op_place
  first_operation w ws e =
      rw (e, first_fault-same (next tx_rows w) (next (ops_rows (said_of words s) [] []) w) ws (λ pre v. rw e refl)) refl

  after_choice : (w : List ℕ) (ws : List (List ℕ)) (b : Bool) → bytes_eq w (codes "after") ≡ b → first_fault tx_rows (w ∷ ws) ≡ T
      → Tells T (number_if (length s.txs) (cond b (true, ws) (false, w ∷ ws))) (λ x. first_fault (ops_rows (said_of words s) [] []) x.1 ≡ T)
  unfolding number_if table tx_place is_among behind
  after_choice w ws true e so =
      let is : w ≡ codes "after" = bytes_eq-true w (codes "after") e in
      let behind = passes tx_rows T (codes "after") ws (ap (λ (v : List ℕ). first_fault tx_rows (v ∷ ws)) (sym is) ∙ so) refl in
      tells_bind T _ _ _ (range_told (next tx_rows (codes "after")) T ws behind 0 (length s.txs) (λ u. refl)) (λ j p.
      tells_ok T _ _ p.so)
  after_choice w ws false e so = tells_ok T _ _ (sym (first_operation w ws e) ∙ so)

  after_told : (ws : List (List ℕ)) → first_fault tx_rows ws ≡ T → Tells T (after_at (length s.txs) ws) (λ x. first_fault (ops_rows (said_of words s) [] []) x.1 ≡ T)
  unfolding after_at word_if number_if first_fault table tx_place ops_place with_words op_place
  after_told [] so = tells_ok T _ _ so
  after_told (w ∷ ws) so = after_choice w ws (bytes_eq w (codes "after")) refl so

  pub tx_told : (ws : List (List ℕ)) → first_fault (rows_behind (codes "tx")) ws ≡ T → Tells T (tx_at s.head.version s.head.nodes s.head.slots s.names (length s.txs) ws) Any
  unfolding tx_at all_forms
  tx_told ws so =
      let R = rows_behind (codes "tx") in
      tells_bind T _ _ _ (range_told R T ws so 0 s.head.nodes (λ u. refl)) (λ node p.
      tells_bind T _ _ _ (range_told (next R p.word) T node.1 p.so 0 s.head.slots (λ u. refl)) (λ slot q.
      tells_bind T _ _ _ (after_told slot.1 q.so) (λ after r.
      tells_bind T _ _ _ (ops_told (said_of words s) T after.1 r) (λ tx t.
      tells_ok T _ _ tt))))

  pub step_told : (k : StepWord) (ws : List (List ℕ)) → first_fault (rows_behind (step_text k)) ws ≡ T → Tells T (step_at s.head.nodes s.head.slots (length s.txs) k ws) Any
  unfolding step_at step_text all_forms
  step_told steps.Begin ws so =
      let R = rows_behind (codes "begin") in
      tells_bind T _ _ _ (range_told R T ws so 0 (length s.txs) (λ u. refl)) (λ k p.
      tells_bind T _ _ _ (ended_told (next R p.word) T k.1 p.so (λ u. refl)) (λ e t. tells_ok T _ _ tt))
  step_told steps.Try ws so =
      let R = rows_behind (codes "try") in
      tells_bind T _ _ _ (range_told R T ws so 0 s.head.nodes (λ u. refl)) (λ n p.
      tells_bind T _ _ _ (range_told (next R p.word) T n.1 p.so 0 s.head.slots (λ u. refl)) (λ m q.
      tells_bind T _ _ _ (ended_told (next (next R p.word) q.word) T m.1 q.so (λ u. refl)) (λ e t. tells_ok T _ _ tt)))
  step_told steps.Deliver ws so =
      let R = rows_behind (codes "deliver") in
      tells_bind T _ _ _ (range_told R T ws so 0 s.head.nodes (λ u. refl)) (λ n p.
      tells_bind T _ _ _ (range_told (next R p.word) T n.1 p.so 0 s.head.nodes (λ u. refl)) (λ m q.
      tells_bind T _ _ _ (range_told (next (next R p.word) q.word) T m.1 q.so 0 (2 ^ 32) (λ u. refl)) (λ i r.
      tells_bind T _ _ _ (ended_told (next (next (next R p.word) q.word) r.word) T i.1 r.so (λ u. refl)) (λ e t. tells_ok T _ _ tt))))
  step_told steps.Tick ws so =
      let R = rows_behind (codes "tick") in
      tells_bind T _ _ _ (range_told R T ws so 0 s.head.nodes (λ u. refl)) (λ n p.
      tells_bind T _ _ _ (ended_told (next R p.word) T n.1 p.so (λ u. refl)) (λ e t. tells_ok T _ _ tt))
  step_told steps.Stop ws so =
      let R = rows_behind (codes "stop") in
      tells_bind T _ _ _ (range_told R T ws so 0 s.head.nodes (λ u. refl)) (λ n p.
      tells_bind T _ _ _ (ended_told (next R p.word) T n.1 p.so (λ u. refl)) (λ e t. tells_ok T _ _ tt))
  step_told steps.View ws so =
      tells_bind T _ _ _ (members_told T s.head.nodes None [] 0 ws so) (λ ns p. tells_ok T _ _ tt)
  step_told steps.Install ws so =
      let R = rows_behind (codes "install") in
      tells_bind T _ _ _ (range_told R T ws so 0 s.head.nodes (λ u. refl)) (λ n p.
      tells_bind T _ _ _ (range_told (next R p.word) T n.1 p.so 1 (2 ^ 32) (λ u. refl)) (λ i q.
      tells_bind T _ _ _ (ended_told (next (next R p.word) q.word) T i.1 q.so (λ u. refl)) (λ e t. tells_ok T _ _ tt)))
