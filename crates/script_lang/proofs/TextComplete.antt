-- Lines and words that have no separator in them are what the cut gives back; and a script's are such.
use Rattle.std.proofs.Common.{◌≡◌, ℕ, ◌<◌, ◌≤◌, ◌^◌, Bool, true, false, List, [], ◌∷◌, ◌++◌, length, get_or, All, Option, Some, None, refl, ap, ◌∙◌, arith, append_assoc, append-nil, inl, inr}
use Rattle.std.specs.Prelude.{◌&&◌, codes, decimal, map, nat_le, IfSome}
use Rattle.std.specs.List.{AllByRecursion}
use Rattle.std.specs.Str.{all_ascii_digits}
use Rattle.std.specs.Char.{is_ascii_digit}
use Rattle.std.proofs.lemmas.Bool.Decides.{nat_tests}
use Rattle.std.proofs.lemmas.Fmt.{digits_decimal}
use Rattle.std.proofs.lemmas.List.Elements.{recursion_from_All}
use Rattle.zeus_base.specs.Limits.{KeepsDeclaration}
use Rattle.zeus_base.specs.Nodes.{without}
use Rattle.zeus_base.specs.NodeLaws.{IsBelow, has-head, has-tail, has-without}
use Rattle.zeus_base.specs.declared.config.Config.{Config}
use Rattle.zeus_base.specs.declared.config.ObjectDecl.{ObjectDecl}
use Rattle.zeus_base.specs.declared.step.Step.{Step}
use Rattle.zeus_base.specs.declared.step.Step.TheVariants as steps
use Rattle.zeus_base.specs.declared.value.Value.{Value}
use Rattle.zeus_base.specs.declared.value.Value.TheVariants.{Num, Text}
use Rattle.zeus_base.specs.TableLaws.{nth-get_or}
use Rattle.zeus_txn.specs.Ops.{object_of}
use Rattle.zeus_txn.specs.declared.ops.Op.{Op}
use Rattle.zeus_txn.specs.declared.ops.Op.TheVariants as ops
use Rattle.zeus_txn.specs.declared.tx.TxDecl.{TxDecl}
use Rattle.zeus_model.specs.Names.{IsName, IsNameByte}
use Rattle.zeus_model.specs.Scripts.{FitsValue, FitsVersion, FitsOp, FitsTx, FitsStep}
use Rattle.zeus_model.specs.Spelling.{spaced, words_text, lines_text, value_text, name_of, op_words, more_op_words, tx_op_words, after_words, tx_words, object_words, step_words}
use Rattle.script_lang.specs.Cut.{cut}
use Rattle.script_lang.proofs.Cutting.{Lacks, Lacks-append, cut_free, cut_front}
use Rattle.script_lang.proofs.laws.NumberLaws.{own}

-- ---- words of printed bytes

-- each byte is above a space
abbrev pub IsPrinted : List ℕ → Type 0
IsPrinted w = AllByRecursion (λ b. 33 ≤ b) w

-- a line has a word, and its words are printed
unfoldable pub IsLine : List (List ℕ) → Type 0
IsLine [] = ⊥
IsLine (w ∷ ws) = IsPrinted w × AllByRecursion IsPrinted ws

Lacks-printed : (d : ℕ) (w : List ℕ) → d ≤ 32 → IsPrinted w → Lacks d w
unfolding Lacks
Lacks-printed d [] le h = tt
Lacks-printed d (b ∷ bs) le h = (λ e. omega (arith, h.0), Lacks-printed d bs le h.1)

Lacks-space : (d : ℕ) (w : List ℕ) → d < 32 → IsPrinted w → Lacks d (32 ∷ w)
unfolding Lacks
Lacks-space d w lt h = (λ e. omega arith, Lacks-printed d w (omega arith) h)

Lacks-spaced : (ws : List (List ℕ)) → AllByRecursion IsPrinted ws → Lacks 10 (spaced ws)
unfolding spaced Lacks
Lacks-spaced [] h = tt
Lacks-spaced (w ∷ ws) h = Lacks-append 10 (32 ∷ w) (spaced ws) (Lacks-space 10 w (omega arith) h.0) (Lacks-spaced ws h.1)

Lacks-line : (ws : List (List ℕ)) → IsLine ws → Lacks 10 (words_text ws)
unfolding IsLine words_text
Lacks-line [] h = absurd h
Lacks-line (w ∷ ws) h = Lacks-append 10 w (spaced ws) (Lacks-printed 10 w (omega arith) h.0) (Lacks-spaced ws h.1)

cut-spaced : (w : List ℕ) (ws : List (List ℕ)) → IsPrinted w → AllByRecursion IsPrinted ws → cut 32 (w ++ spaced ws) ≡ w ∷ ws
unfolding spaced
cut-spaced w [] p h = ap (cut 32) (append-nil w) ∙ cut_free 32 w (Lacks-printed 32 w (omega arith) p)
cut-spaced w (v ∷ vs) p h = cut_front 32 w (v ++ spaced vs) (Lacks-printed 32 w (omega arith) p) ∙ ap (λ (us : List (List ℕ)). w ∷ us) (cut-spaced v vs h.0 h.1)

-- the words of a line are what its text is cut into
pub cut-words_text : (ws : List (List ℕ)) → IsLine ws → cut 32 (words_text ws) ≡ ws
unfolding IsLine words_text
cut-words_text [] h = absurd h
cut-words_text (w ∷ ws) h = cut-spaced w ws h.0 h.1

-- the lines of a text are what it is cut into
pub cut-lines_text : (ls : List (List (List ℕ))) → AllByRecursion IsLine ls → cut 10 (lines_text ls) ≡ map words_text ls ++ [] ∷ []
unfolding lines_text cut
cut-lines_text [] h = refl
cut-lines_text (l ∷ ls) h =
    ap (cut 10) (append_assoc (words_text l) (10 ∷ []) (lines_text ls)) ∙ cut_front 10 (words_text l) (lines_text ls) (Lacks-line l h.0) ∙ ap (λ (ps : List (List ℕ)). words_text l ∷ ps) (cut-lines_text ls h.1)

-- ---- the words of a script are printed

-- whether each byte is above a space
abbrev pub printed : List ℕ → Bool
printed [] = true
printed (b ∷ bs) = nat_le 33 b && printed bs

-- if the test finds a word printed, then it is
pub from_test : (w : List ℕ) → printed w ≡ true → IsPrinted w
from_test [] h = tt
from_test (b ∷ bs) h = go (nat_le 33 b) (printed bs) refl refl h (from_test bs)
  where
    go : (t u : Bool) → nat_le 33 b ≡ t → printed bs ≡ u → (t && u) ≡ true → (printed bs ≡ true → IsPrinted bs) → (33 ≤ b) × IsPrinted bs
    go true true e f g rest = (grind (arith, nat_tests), rest f)
    go true false e f g rest = absurd cc
    go false u e f g rest = absurd cc

digits_printed : (w : List ℕ) → all_ascii_digits w ≡ true → IsPrinted w
digits_printed [] h = tt
digits_printed (b ∷ bs) h = go (is_ascii_digit b) (all_ascii_digits bs) refl refl h (digits_printed bs)
  where
    go : (t u : Bool) → is_ascii_digit b ≡ t → all_ascii_digits bs ≡ u → (t && u) ≡ true → (all_ascii_digits bs ≡ true → IsPrinted bs) → (33 ≤ b) × IsPrinted bs
    go true true e f g rest = (grind (arith, nat_tests), rest f)
    go true false e f g rest = absurd cc
    go false u e f g rest = absurd cc

-- the word of a number below 2^64 is printed
pub decimal_printed : (n : ℕ) → n < 2 ^ 64 → IsPrinted (decimal n)
decimal_printed n lt = digits_printed (decimal n) (digits_decimal own n lt)

weaken : {A : Type 0} (P Q : A → Type 0) → ((x : A) → P x → Q x) → (xs : List A) → AllByRecursion P xs → AllByRecursion Q xs
weaken P Q f [] h = tt
weaken P Q f (x ∷ xs) h = (f x h.0, weaken P Q f xs h.1)

name_byte_printed : (b : ℕ) → IsNameByte b → 33 ≤ b
name_byte_printed b (inl h) = omega (arith, h.0)
name_byte_printed b (inr (inl h)) = omega (arith, h.0)
name_byte_printed b (inr (inr (inl h))) = omega (arith, h.0)
name_byte_printed b (inr (inr (inr h))) = omega arith

name_printed : (w : List ℕ) → IsName w → IsPrinted w
name_printed w h = weaken IsNameByte (λ b. 33 ≤ b) name_byte_printed w (recursion_from_All IsNameByte w h.3)

value_printed : (version : ℕ) (v : Value) → FitsValue version v → IsPrinted (value_text v)
unfolding FitsValue value_text
value_printed version (Num n) h = decimal_printed n h
value_printed version (Text bytes) h = (omega arith, weaken (λ b. (33 ≤ b) × (b ≤ 126)) (λ b. 33 ≤ b) (λ b p. p.0) bytes (recursion_from_All (λ b. (33 ≤ b) × (b ≤ 126)) bytes h.1.2))

-- the words of nodes below a bound of at most 8 are printed
pub nodes_printed : (b : ℕ) (ns : List ℕ) → b ≤ 8 → IsBelow b ns → AllByRecursion IsPrinted (map decimal ns)
nodes_printed b [] le h = tt
nodes_printed b (n ∷ ns) le h =
    let lt : n < b = h n (has-head n ns) in
    (decimal_printed n (omega arith), nodes_printed b ns le (λ k g. h k (has-tail k n ns g)))

names_printed : (names : List (List ℕ)) (x : ℕ) → All IsName names → x < length names → IsPrinted (name_of names x)
names_printed names x each lt = rw nth-get_or (name_printed (get_or names x []) (each x [] lt))

-- words one behind another
both : (xs ys : List (List ℕ)) → AllByRecursion IsPrinted xs → AllByRecursion IsPrinted ys → AllByRecursion IsPrinted (xs ++ ys)
both [] ys h g = g
both (x ∷ xs) ys h g = (h.0, both xs ys h.1 g)

op_printed : (config : Config) (names : List (List ℕ)) (op : Op) → All IsName names → length names ≡ length config.objects → FitsOp config op → AllByRecursion IsPrinted (op_words names op)
unfolding op_words object_of FitsVersion
op_printed config names (ops.Get x) each same h = (from_test (codes "get") refl, (names_printed names x each (omega (arith, h.object)), tt))
op_printed config names (ops.Put x v) each same h = (from_test (codes "put") refl, (names_printed names x each (omega (arith, h.object)), (value_printed config.version v h.version, tt)))
op_printed config names (ops.Add x n) each same h = (from_test (codes "add") refl, (names_printed names x each (omega (arith, h.object)), (decimal_printed n h.version, tt)))
op_printed config names (ops.Need x n) each same h = (from_test (codes "need") refl, (names_printed names x each (omega (arith, h.object)), (decimal_printed n h.version, tt)))
op_printed config names (ops.Same x v) each same h = (from_test (codes "same") refl, (names_printed names x each (omega (arith, h.object)), (value_printed config.version v h.version.1, tt)))

more_ops_printed : (config : Config) (names : List (List ℕ)) (all : List Op) → All IsName names → length names ≡ length config.objects → AllByRecursion (FitsOp config) all → AllByRecursion IsPrinted (more_op_words names all)
unfolding more_op_words
more_ops_printed config names [] each same h = tt
more_ops_printed config names (op ∷ all) each same h = (from_test (codes ";") refl, both (op_words names op) (more_op_words names all) (op_printed config names op each same h.0) (more_ops_printed config names all each same h.1))

tx_ops_printed : (config : Config) (names : List (List ℕ)) (all : List Op) → All IsName names → length names ≡ length config.objects → AllByRecursion (FitsOp config) all → AllByRecursion IsPrinted (tx_op_words names all)
unfolding tx_op_words
tx_ops_printed config names [] each same h = tt
tx_ops_printed config names (op ∷ all) each same h = both (op_words names op) (more_op_words names all) (op_printed config names op each same h.0) (more_ops_printed config names all each same h.1)

after_printed : (after : Option ℕ) (k : ℕ) → k ≤ 2 ^ 64 → IfSome after (λ j. j < k) → AllByRecursion IsPrinted (after_words after)
unfolding after_words
after_printed None k le h = tt
after_printed (Some j) k le h = (from_test (codes "after") refl, (decimal_printed j (omega arith), tt))

-- ---- the lines of a script are lines

-- if a transaction fits, then its words make a line
pub tx_line : (config : Config) (names : List (List ℕ)) (k : ℕ) (t : TxDecl) → config.nodes ≤ 8 → config.slots ≤ 8 → k ≤ 2 ^ 64 → All IsName names → length names ≡ length config.objects → FitsTx config k t → IsLine (tx_words names t)
unfolding IsLine tx_words
tx_line config names k t nodes slots le each same h =
    (from_test (codes "tx") refl, (decimal_printed t.node (omega (arith, h.node)), (decimal_printed t.slot (omega (arith, h.slot)), both (after_words t.after) (tx_op_words names t.tx) (after_printed t.after k le h.after) (tx_ops_printed config names t.tx each same (recursion_from_All (FitsOp config) t.tx h.ops)))))

below_without : (b owner : ℕ) (ns : List ℕ) → IsBelow b ns → IsBelow b (without owner ns)
below_without b owner ns h k g = h k (grind (arith, has-without k owner ns, g))

-- if an object and its name fit, then their words make a line
pub object_line : (version nodes : ℕ) (name : List ℕ) (o : ObjectDecl) → nodes ≤ 8 → IsName name → FitsValue version o.value → KeepsDeclaration version nodes o → IsLine (object_words name o)
unfolding IsLine object_words
object_line version nodes name o few is fits keeps =
    (from_test (codes "object") refl, (name_printed name is, (value_printed version o.value fits, (decimal_printed o.owner (omega (arith, keeps.owner)), nodes_printed nodes (without o.owner o.replicas) few (below_without nodes o.owner o.replicas keeps.replicas)))))

-- if a step fits, then its words make a line
pub step_line : (config : Config) (txs : ℕ) (step : Step) → config.nodes ≤ 8 → config.slots ≤ 8 → txs ≤ 2 ^ 64 → FitsStep config txs step → IsLine (step_words step)
unfolding IsLine step_words FitsStep
step_line config txs (steps.Begin k) nodes slots le h = (from_test (codes "begin") refl, (decimal_printed k (omega arith), tt))
step_line config txs (steps.Try n s) nodes slots le h = (from_test (codes "try") refl, (decimal_printed n (omega (arith, h.0)), (decimal_printed s (omega (arith, h.1)), tt)))
step_line config txs (steps.Deliver n m i) nodes slots le h = (from_test (codes "deliver") refl, (decimal_printed n (omega (arith, h.0)), (decimal_printed m (omega (arith, h.1)), (decimal_printed i (omega (arith, h.2)), tt))))
step_line config txs (steps.Tick n) nodes slots le h = (from_test (codes "tick") refl, (decimal_printed n (omega arith), tt))
step_line config txs (steps.Stop n) nodes slots le h = (from_test (codes "stop") refl, (decimal_printed n (omega arith), tt))
step_line config txs (steps.View ns) nodes slots le h = (from_test (codes "view") refl, nodes_printed config.nodes ns nodes h.1)
step_line config txs (steps.Install n e) nodes slots le h = (from_test (codes "install") refl, (decimal_printed n (omega (arith, h.0)), (decimal_printed e (omega (arith, h.2)), tt)))

-- `run` makes a line
pub run_line : IsLine (codes "run" ∷ [])
unfolding IsLine
run_line = (from_test (codes "run") refl, tt)

-- `end` makes a line
pub end_line : IsLine (codes "end" ∷ [])
unfolding IsLine
end_line = (from_test (codes "end") refl, tt)

-- `zeus` and a number below 2^64 make a line
pub zeus_line : (v : ℕ) → v < 2 ^ 64 → IsLine (codes "zeus" ∷ decimal v ∷ [])
unfolding IsLine
zeus_line v lt = (from_test (codes "zeus") refl, (decimal_printed v lt, tt))

-- `nodes` and a number below 2^64 make a line
pub nodes_line : (n : ℕ) → n < 2 ^ 64 → IsLine (codes "nodes" ∷ decimal n ∷ [])
unfolding IsLine
nodes_line n lt = (from_test (codes "nodes") refl, (decimal_printed n lt, tt))

-- `slots` and a number below 2^64 make a line
pub slots_line : (n : ℕ) → n < 2 ^ 64 → IsLine (codes "slots" ∷ decimal n ∷ [])
unfolding IsLine
slots_line n lt = (from_test (codes "slots") refl, (decimal_printed n lt, tt))

-- `degree` and a number below 2^64 make a line
pub degree_line : (n : ℕ) → n < 2 ^ 64 → IsLine (codes "degree" ∷ decimal n ∷ [])
unfolding IsLine
degree_line n lt = (from_test (codes "degree") refl, (decimal_printed n lt, tt))

-- `directory` and nodes below a bound of at most 8 make a line
pub directory_line : (b : ℕ) (ns : List ℕ) → b ≤ 8 → IsBelow b ns → IsLine (codes "directory" ∷ map decimal ns)
unfolding IsLine
directory_line b ns le h = (from_test (codes "directory") refl, nodes_printed b ns le h)
