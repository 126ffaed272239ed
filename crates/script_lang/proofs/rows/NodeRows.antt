-- The rows that words of a list of nodes meet, and what reading says of the list.
use Rattle.std.proofs.Common.{◌≡◌, ℕ, suc, ◌+◌, ◌≤◌, Bool, true, false, cond, List, [], ◌∷◌, length, Option, Some, None, Result, Ok, Err, refl, sym, ap, ◌∙◌, arith, length-append, subst}
use Rattle.std.specs.Prelude.{◌&&◌, ◌||◌, ◌==◌, not, nat_lt, nat_le}
use Rattle.std.proofs.lemmas.Bool.{ltb-false}
use Rattle.std.proofs.lemmas.Bool.Decides.{nat_tests}
use Rattle.zeus_base.specs.Nodes.{with_node}
use Rattle.zeus_base.specs.NodeLaws.{IsBelow, IsBelow-with_node}
use Rattle.zeus_model.specs.Faults.{is_owner, row_met}
use Rattle.zeus_model.specs.Places.{Node, WordPlace, ends, above, some_words}
use Rattle.zeus_model.specs.Tables.{or_else, where_true}
use Rattle.zeus_model.specs.Words.{number_in}
use Rattle.zeus_model.specs.declared.fault.Kind.{Kind}
use Rattle.zeus_model.specs.declared.fault.Kind.TheVariants as kinds
use Rattle.script_lang.specs.NodeLists.{is_full, listed_of, nodes_after}
use Rattle.script_lang.specs.Numbers.{number_of, range_of}
use Rattle.script_lang.specs.Reads.{◌>>=◌}
use Rattle.script_lang.proofs.faults.FirstWord.{Rows, next, first_fault, first_fault-same, Tells, tells_bind, tells_ok, row_of, reads}
use Rattle.script_lang.proofs.laws.NodeLaws.{with_node-last, IsBelow-more, or_false}
use Rattle.script_lang.proofs.rows.RowLaws.{table, number_said, none_said}
use Rattle.script_lang.proofs.Sound.{IfRead, read_bind, read_ok, read_err, read_cond, read_or, read_is}

abbrev a_node : ℕ → ℕ → Option ℕ → Bool → WordPlace
a_node nodes lowest owner may_end = record { want = Node nodes lowest owner; may_end = may_end }

-- in the range or not, and then listed before or not
range_choice : (n : ℕ) (b : Bool) (f : ℕ → Result ℕ Kind) (rest : Option Kind) → rest ≡ row_of (f n) → or_else (where_true (not b) kinds.Range) rest ≡ row_of (cond b (Ok n) (Err kinds.Range) >>= f)
unfolding or_else where_true
range_choice n true f rest h = h
range_choice n false f rest h = refl

twice_choice : (n : ℕ) (b : Bool) → where_true b kinds.Twice ≡ row_of {A = ℕ} (cond b (Err kinds.Twice) (Ok n))
unfolding where_true
twice_choice n true = refl
twice_choice n false = refl

or_none : (o : Option Kind) → or_else o None ≡ o
unfolding or_else
or_none None = refl
or_none (Some k) = refl

node_row_of : (nodes lowest : ℕ) (most owner : Option ℕ) (listed : List ℕ) (may_end : Bool) (w : List ℕ) → is_full most (length listed) ≡ false → (o : Option ℕ) → number_of w ≡ o
    → row_met (a_node nodes lowest owner may_end) (Some w) ≡ row_of (listed_of nodes most owner listed lowest w)
unfolding table listed_of range_of
node_row_of nodes lowest most owner listed may_end w room None e = rw (room, e, none_said w e) refl
node_row_of nodes lowest most owner listed may_end w room (Some n) e =
    let low : nat_le 0 n ≡ true = grind (arith, nat_tests) in
    rw (room, e, (number_said w n e).0, (number_said w n e).1, low)
    (range_choice n (nat_lt n nodes) _ _ (or_none _ ∙ twice_choice n (nat_lt n lowest || is_owner owner n)))

-- if the list is not full, then the row that a word of a list of nodes meets is the fault of reading it
pub node_row : (nodes lowest : ℕ) (most owner : Option ℕ) (listed : List ℕ) (may_end : Bool) (w : List ℕ) → is_full most (length listed) ≡ false → row_met (a_node nodes lowest owner may_end) (Some w) ≡ row_of (listed_of nodes most owner listed lowest w)
node_row nodes lowest most owner listed may_end w room = node_row_of nodes lowest most owner listed may_end w room (number_of w) refl

range_number : (lowest limit : ℕ) (w : List ℕ) → IfRead (range_of lowest limit w) (λ n. number_of w ≡ Some n)
unfolding range_of
range_number lowest limit w =
    read_bind _ _ _ (read_or _ _ _ (λ n e. e)) (λ n p. read_cond (nat_le lowest n && nat_lt n limit) _ _ _ (λ t. read_ok _ _ p) (λ f. read_err _ _))

-- the number of a word that was read
pub range_number_in : (lowest limit : ℕ) (w : List ℕ) (n : ℕ) → range_of lowest limit w ≡ Ok n → number_in w ≡ n
range_number_in lowest limit w n h = (number_said w n (read_is _ n _ h (range_number lowest limit w))).1

listed_number : (nodes : ℕ) (most owner : Option ℕ) (listed : List ℕ) (lowest : ℕ) (w : List ℕ) → IfRead (listed_of nodes most owner listed lowest w) (λ n. (number_of w ≡ Some n) × (lowest ≤ n))
unfolding listed_of
listed_number nodes most owner listed lowest w =
    read_cond (is_full most (length listed)) _ _ _ (λ t. read_err _ _)
    (λ f. read_bind _ _ _ (range_number 0 nodes w)
    (λ n p. read_cond (nat_lt n lowest || is_owner owner n) _ _ _ (λ t. read_err _ _)
    (λ g. read_ok _ _ (p, ltb-false n lowest (or_false (nat_lt n lowest) (is_owner owner n) g).0))))

listed_number_in : (nodes : ℕ) (most owner : Option ℕ) (listed : List ℕ) (lowest : ℕ) (w : List ℕ) (n : ℕ) → listed_of nodes most owner listed lowest w ≡ Ok n → (number_in w ≡ n) × (lowest ≤ n)
listed_number_in nodes most owner listed lowest w n h =
    let both = read_is _ n _ h (listed_number nodes most owner listed lowest w) in
    ((number_said w n both.0).1, both.1)

-- ---- lists without a count

abbrev pub member_rows : ℕ → Option ℕ → ℕ → Rows
member_rows nodes owner lowest = λ pre w. row_met (a_node nodes (above lowest pre) owner true) w

-- if reading a list of members fails, then its fault is the first row that a word meets
pub members_told : (T : Option Kind) (nodes : ℕ) (owner : Option ℕ) (listed : List ℕ) (lowest : ℕ) (ws : List (List ℕ)) → first_fault (member_rows nodes owner lowest) ws ≡ T → Tells T (nodes_after nodes None owner listed lowest ws) (λ _. Unit {0})
unfolding nodes_after above is_full
members_told T nodes owner listed lowest [] so = tells_ok T listed _ tt
members_told T nodes owner listed lowest (w ∷ ws) so =
    tells_bind T _ _ _ (reads (member_rows nodes owner lowest) T w ws so (listed_of nodes None owner listed lowest w) (node_row nodes lowest None owner listed true w refl)) (λ n q.
    members_told T nodes owner (with_node n listed) (suc n) ws (subst (λ (k : ℕ). first_fault (member_rows nodes owner (suc k)) ws ≡ T) (listed_number_in nodes None owner listed lowest w n q.0).0 q.1))

-- ---- the directory

abbrev pub counted : ℕ → ℕ → ℕ → Bool → List (List ℕ) → WordPlace
counted nodes count lowest some ws =
    cond ((count + length ws) == nodes) ends record { want = Node nodes (above lowest ws) None; may_end = some || some_words ws }

abbrev pub counted_rows : ℕ → ℕ → ℕ → Bool → Rows
counted_rows nodes count lowest some = λ pre w. row_met (counted nodes count lowest some pre) w

counted_row : (nodes lowest : ℕ) (listed : List ℕ) (some : Bool) (w : List ℕ) (b : Bool) → (length listed == nodes) ≡ b → row_met (cond b ends (a_node nodes lowest None some)) (Some w) ≡ row_of (listed_of nodes (Some nodes) None listed lowest w)
unfolding table listed_of is_full
counted_row nodes lowest listed some w true e = rw e refl
counted_row nodes lowest listed some w false e = node_row nodes lowest (Some nodes) None listed some w e

with_some : (n : ℕ) (ns : List ℕ) → with_node n ns ≡ [] → ⊥
unfolding with_node
with_some n [] h = cc
with_some n (m ∷ ms) h = go (nat_lt n m) (n == m) h
  where
    go : (a b : Bool) → cond a (n ∷ m ∷ ms) (cond b (m ∷ ms) (m ∷ with_node n ms)) ≡ [] → ⊥
    go true b e = cc
    go false true e = cc
    go false false e = cc

or_true : (b : Bool) → (b || true) ≡ true
or_true true = refl
or_true false = refl

counted_next : (T : Option Kind) (nodes count lowest n : ℕ) (some : Bool) (w : List ℕ) (ws : List (List ℕ)) → number_in w ≡ n → first_fault (next (counted_rows nodes count lowest some) w) ws ≡ T → first_fault (counted_rows nodes (suc count) (suc n) true) ws ≡ T
unfolding above some_words
counted_next T nodes count lowest n some w ws is so =
    first_fault-same _ _ ws (λ pre v. let more : suc count + length pre ≡ count + suc (length pre) = omega arith in rw (more, or_true some, is) refl) ∙ so

one_more : (lowest n : ℕ) (listed : List ℕ) → IsBelow lowest listed → lowest ≤ n → suc (length listed) ≡ length (with_node n listed)
one_more lowest n listed low le = rw (with_node-last n lowest listed low le, length-append) (omega arith)

-- if reading a list with a greatest count fails, or lists no node, then its fault is the first row that a word meets
pub counted_told : (T : Option Kind) (nodes count : ℕ) (listed : List ℕ) (lowest : ℕ) (some : Bool) (ws : List (List ℕ)) → count ≡ length listed → IsBelow lowest listed
    → (listed ≡ [] → first_fault (counted_rows nodes count lowest some) [] ≡ Some kinds.Word) → first_fault (counted_rows nodes count lowest some) ws ≡ T
    → Tells T (nodes_after nodes (Some nodes) None listed lowest ws) (λ ns. ns ≡ [] → T ≡ Some kinds.Word)
unfolding nodes_after above some_words
counted_told T nodes count listed lowest some [] is low none so = tells_ok T listed _ (λ e. sym so ∙ none e)
counted_told T nodes count listed lowest some (w ∷ ws) is low none so =
    let full : ((count + 0) == nodes) ≡ (length listed == nodes) = ap (λ (k : ℕ). k == nodes) (omega (arith, is)) in
    let row : row_met (counted nodes count lowest some []) (Some w) ≡ row_of (listed_of nodes (Some nodes) None listed lowest w) = rw full (counted_row nodes lowest listed (some || false) w (length listed == nodes) refl) in
    tells_bind T _ _ _ (reads (counted_rows nodes count lowest some) T w ws so (listed_of nodes (Some nodes) None listed lowest w) row) (λ n q.
    let number = listed_number_in nodes (Some nodes) None listed lowest w n q.0 in
    let more : suc count ≡ length (with_node n listed) = ap suc is ∙ one_more lowest n listed low number.1 in
    let below : IsBelow (suc n) (with_node n listed) = IsBelow-with_node (suc n) n listed (omega arith) (IsBelow-more lowest (suc n) listed (omega (arith, number.1)) low) in
    counted_told T nodes (suc count) (with_node n listed) (suc n) true ws more below (λ e. absurd (with_some n listed e)) (counted_next T nodes count lowest n some w ws number.0 q.1))
