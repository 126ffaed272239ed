-- What the lines that a script so far was read from say: what it has.
use Rattle.std.proofs.Common.{◌≡◌, ℕ, suc, ◌<◌, ◌^◌, Bool, true, false, cond, List, [], ◌∷◌, ◌++◌, length, Option, Some, None, refl, ap, ◌∙◌, arith, append-nil}
use Rattle.std.specs.Prelude.{codes, map}
use Rattle.zeus_base.specs.declared.config.Config.{Config}
use Rattle.zeus_base.specs.declared.config.ObjectDecl.{ObjectDecl}
use Rattle.zeus_base.specs.declared.step.Step.{Step}
use Rattle.zeus_base.specs.declared.step.Step.TheVariants.{Begin, Try, Deliver, Tick, Stop, View, Install}
use Rattle.zeus_txn.specs.declared.tx.TxDecl.{TxDecl}
use Rattle.zeus_model.specs.Places.{first_word, second_word, beginning, last_line, step_keywords, said}
use Rattle.zeus_model.specs.Spelling.{head_lines, degree_lines, object_words, object_lines, tx_words, step_words}
use Rattle.zeus_model.specs.Tables.{nth}
use Rattle.zeus_model.specs.Words.{is_among}
use Rattle.script_lang.specs.Drafts.{State}
use Rattle.script_lang.specs.Live.{opening}
use Rattle.script_lang.specs.Reading.{config_of}
use Rattle.script_lang.proofs.DraftFits.{declared_lines}
use Rattle.script_lang.proofs.faults.LineOrder.{words_behind}
use Rattle.script_lang.proofs.rows.LineRows.{said_of}
use Rattle.script_lang.proofs.rows.RowLaws.{number_in-decimal}

-- ---- the lines of one kind

beginning-append : (words : List (List ℕ)) (xs ys : List (List (List ℕ))) → beginning words (xs ++ ys) ≡ beginning words xs ++ beginning words ys
unfolding beginning
beginning-append words [] ys = refl
beginning-append words (x ∷ xs) ys = rw (beginning-append words xs ys) (go (is_among (first_word x) words))
  where
    go : (b : Bool) → cond b (x ∷ beginning words xs ++ beginning words ys) (beginning words xs ++ beginning words ys) ≡ cond b (x ∷ beginning words xs) (beginning words xs) ++ beginning words ys
    go true = refl
    go false = refl

-- if the line of each element begins with one of the words, then all these lines are picked
pub beginning-all : {A : Type 0} (words : List (List ℕ)) (f : A → List (List ℕ)) (xs : List A) → ((x : A) → is_among (first_word (f x)) words ≡ true) → beginning words (map f xs) ≡ map f xs
unfolding beginning
beginning-all words f [] h = refl
beginning-all words f (x ∷ xs) h = rw (h x, beginning-all words f xs h) refl

-- if the line of no element begins with one of the words, then none of these lines is picked
pub beginning-none : {A : Type 0} (words : List (List ℕ)) (f : A → List (List ℕ)) (xs : List A) → ((x : A) → is_among (first_word (f x)) words ≡ false) → beginning words (map f xs) ≡ []
unfolding beginning
beginning-none words f [] h = refl
beginning-none words f (x ∷ xs) h = rw (h x) (beginning-none words f xs h)

objects-all : (words : List (List ℕ)) (names : List (List ℕ)) (objects : List ObjectDecl) → is_among (codes "object") words ≡ true → beginning words (object_lines names objects) ≡ object_lines names objects
unfolding beginning object_lines object_words nth
objects-all words [] os h = refl
objects-all words (n ∷ ns) [] h = refl
objects-all words (n ∷ ns) (o ∷ os) h = rw (h, objects-all words ns os h) refl

objects-none : (words : List (List ℕ)) (names : List (List ℕ)) (objects : List ObjectDecl) → is_among (codes "object") words ≡ false → beginning words (object_lines names objects) ≡ []
unfolding beginning object_lines object_words nth
objects-none words [] os h = refl
objects-none words (n ∷ ns) [] h = refl
objects-none words (n ∷ ns) (o ∷ os) h = rw h (objects-none words ns os h)

-- the second words of the objects' lines are their names
names_said : (names : List (List ℕ)) (objects : List ObjectDecl) → length names ≡ length objects → map second_word (object_lines names objects) ≡ names
unfolding object_lines object_words nth
names_said [] os same = refl
names_said (n ∷ ns) [] same = absurd (omega (arith, same))
names_said (n ∷ ns) (o ∷ os) same = ap (λ (ms : List (List ℕ)). n ∷ ms) (names_said ns os (omega (arith, same)))

-- a list has as many elements after a map as before
pub length-map : {A B : Type 0} (f : A → B) (xs : List A) → length (map f xs) ≡ length xs
length-map f [] = refl
length-map f (x ∷ xs) = ap suc (length-map f xs)

-- the words of the first lines
abbrev object_keyword : List (List ℕ)
object_keyword = codes "object" ∷ []

abbrev tx_keyword : List (List ℕ)
tx_keyword = codes "tx" ∷ []

head-objects_of : (c : Config) (d : Option ℕ) → c.degree ≡ d → beginning object_keyword (head_lines c) ≡ []
unfolding beginning is_among head_lines degree_lines nth
head-objects_of c None e = rw e refl
head-objects_of c (Some d) e = rw e refl

head-txs_of : (c : Config) (d : Option ℕ) → c.degree ≡ d → beginning tx_keyword (head_lines c) ≡ []
unfolding beginning is_among head_lines degree_lines nth
head-txs_of c None e = rw e refl
head-txs_of c (Some d) e = rw e refl

head-steps_of : (c : Config) (d : Option ℕ) → c.degree ≡ d → beginning step_keywords (head_lines c) ≡ []
unfolding beginning is_among head_lines degree_lines nth
head-steps_of c None e = rw e refl
head-steps_of c (Some d) e = rw e refl

tx_first : (names : List (List ℕ)) (words : List (List ℕ)) (b : Bool) → is_among (codes "tx") words ≡ b → (t : TxDecl) → is_among (first_word (tx_words names t)) words ≡ b
unfolding tx_words nth
tx_first names words b h t = h

-- the line of a step does not begin with `object`
pub no_object_step : (st : Step) → is_among (first_word (step_words st)) (codes "object" ∷ []) ≡ false
unfolding step_words is_among nth
no_object_step (Begin k) = refl
no_object_step (Try n s) = refl
no_object_step (Deliver f t i) = refl
no_object_step (Tick n) = refl
no_object_step (Stop n) = refl
no_object_step (View ns) = refl
no_object_step (Install n e) = refl

-- the line of a step does not begin with `tx`
pub no_tx_step : (st : Step) → is_among (first_word (step_words st)) (codes "tx" ∷ []) ≡ false
unfolding step_words is_among nth
no_tx_step (Begin k) = refl
no_tx_step (Try n s) = refl
no_tx_step (Deliver f t i) = refl
no_tx_step (Tick n) = refl
no_tx_step (Stop n) = refl
no_tx_step (View ns) = refl
no_tx_step (Install n e) = refl

-- the line of a step begins with one of the words of steps
pub a_step : (st : Step) → is_among (first_word (step_words st)) step_keywords ≡ true
unfolding step_words is_among nth
a_step (Begin k) = refl
a_step (Try n s) = refl
a_step (Deliver f t i) = refl
a_step (Tick n) = refl
a_step (Stop n) = refl
a_step (View ns) = refl
a_step (Install n e) = refl

-- ---- the lines before `run`

module _ (s : State) where
  declared-objects : beginning object_keyword (declared_lines s) ≡ object_lines s.names s.objects
  unfolding is_among
  declared-objects =
      let c = config_of s in
      let txs : beginning object_keyword (map (tx_words s.names) s.txs) ≡ [] = beginning-none object_keyword (tx_words s.names) s.txs (tx_first s.names object_keyword false refl) in
      beginning-append object_keyword (head_lines c ++ object_lines s.names s.objects) (map (tx_words s.names) s.txs)
      ∙ rw (beginning-append, head-objects_of c s.head.degree refl, objects-all object_keyword s.names s.objects refl, txs) (append-nil (object_lines s.names s.objects))

  declared-txs : beginning tx_keyword (declared_lines s) ≡ map (tx_words s.names) s.txs
  unfolding is_among
  declared-txs =
      let c = config_of s in
      beginning-append tx_keyword (head_lines c ++ object_lines s.names s.objects) (map (tx_words s.names) s.txs)
      ∙ rw (beginning-append, head-txs_of c s.head.degree refl, objects-none tx_keyword s.names s.objects refl) (beginning-all tx_keyword (tx_words s.names) s.txs (tx_first s.names tx_keyword true refl))

  declared-steps : beginning step_keywords (declared_lines s) ≡ []
  unfolding is_among
  declared-steps =
      let c = config_of s in
      beginning-append step_keywords (head_lines c ++ object_lines s.names s.objects) (map (tx_words s.names) s.txs)
      ∙ rw (beginning-append, head-steps_of c s.head.degree refl, objects-none step_keywords s.names s.objects refl) (beginning-none step_keywords (tx_words s.names) s.txs (tx_first s.names step_keywords false refl))

  -- what these lines and others behind them say
  pub declared_said : (live : Bool) (words : List (List ℕ)) (tail : List (List (List ℕ))) → words_behind live (first_word (last_line (declared_lines s ++ tail))) ≡ words
      → s.head.version < 2 ^ 64 → s.head.nodes < 2 ^ 64 → s.head.slots < 2 ^ 64 → length s.names ≡ length s.objects
      → beginning (codes "object" ∷ []) tail ≡ [] → beginning (codes "tx" ∷ []) tail ≡ [] → length (beginning step_keywords tail) ≡ length s.steps
      → said (opening live) (declared_lines s ++ tail) ≡ said_of words s
  unfolding said head_lines nth
  declared_said live words tail next version nodes slots count no_objects no_txs steps =
      let names : map second_word (beginning object_keyword (declared_lines s ++ tail)) ≡ s.names = rw (beginning-append object_keyword (declared_lines s) tail, no_objects, declared-objects, append-nil) (names_said s.names s.objects count) in
      let txs : length (beginning tx_keyword (declared_lines s ++ tail)) ≡ length s.txs = rw (beginning-append tx_keyword (declared_lines s) tail, no_txs, declared-txs, append-nil) (length-map (tx_words s.names) s.txs) in
      let so_many : length (beginning step_keywords (declared_lines s ++ tail)) ≡ length s.steps = rw (beginning-append step_keywords (declared_lines s) tail, declared-steps) steps in
      rw (next, number_in-decimal s.head.version version, number_in-decimal s.head.nodes nodes, number_in-decimal s.head.slots slots, names, txs, so_many) refl
