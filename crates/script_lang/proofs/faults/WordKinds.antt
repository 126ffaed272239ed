-- What is wrong with a line that is ended and wanted is wrong with one of its words.
use Rattle.std.proofs.Common.{ℕ, zero, suc, Bool, true, false, cond, List, [], ◌∷◌, ◌++◌, length, Option, Some, None, Result, Ok, Err}
use Rattle.std.specs.Prelude.{codes, ◌^◌, ◌&&◌, ◌==◌}
use Rattle.std.specs.Str.{bytes_eq}
use Rattle.zeus_base.specs.Nodes.{with_node}
use Rattle.zeus_txn.specs.declared.ops.Op.{Op}
use Rattle.zeus_model.specs.Faults.{IsOfWord}
use Rattle.zeus_model.specs.declared.fault.Kind.{Kind}
use Rattle.zeus_model.specs.declared.fault.Kind.TheVariants as kinds
use Rattle.script_lang.specs.declared.keywords.OpWord.{OpWord}
use Rattle.script_lang.specs.declared.keywords.OpWord.TheVariants as op_words
use Rattle.script_lang.specs.declared.keywords.StepWord.{StepWord}
use Rattle.script_lang.specs.declared.keywords.StepWord.TheVariants as step_words
use Rattle.script_lang.specs.declared.stage.Stage.{Stage}
use Rattle.script_lang.specs.declared.stage.Stage.TheVariants as stages
use Rattle.script_lang.specs.Drafts.{State, version_of, version_taken, nodes_taken, slots_taken, some_nodes, directory_taken, degree_taken, object_taken, tx_taken, run_taken, step_taken, tx_line_taken, object_line_taken, degree_line_taken, more, step_line_taken, body_taken, line_taken}
use Rattle.script_lang.specs.Names.{find, name_of_word}
use Rattle.script_lang.specs.NodeLists.{listed_of, nodes_after}
use Rattle.script_lang.specs.Numbers.{number_of, range_of, number_at, range_at}
use Rattle.script_lang.specs.Objects.{vacant, new_name_of, object_at}
use Rattle.script_lang.specs.Operations.{op_word_of, object_of_word, operand_at, op_rest_at, op_at, ops_after, ops_at}
use Rattle.script_lang.specs.Reads.{◌>>=◌, or_fault, word_at, keyword_at, word_if, ended}
use Rattle.script_lang.specs.Steps.{step_word_of, step_at}
use Rattle.script_lang.specs.Transactions.{number_if, after_at, tx_at}
use Rattle.script_lang.specs.Values.{text_of, value_of, value_at}

abbrev pub Blames : {A : Type 0} → Result A Kind → Type 0
Blames (Ok x) = Unit {0}
Blames (Err k) = IsOfWord k

-- a word is to blame, if reading failed
pub record BlamesWord {A : Type 0} (r : Result A Kind) : Type 0 where
  pub holds : Blames r

-- if a word is to blame for a first result and for each next one, then for both in sequence
pub then : {A B : Type 0} (r : Result A Kind) (f : A → Result B Kind) → BlamesWord r → ((x : A) → BlamesWord (f x)) → BlamesWord (r >>= f)
then (Ok x) f h g = g x
then (Err k) f h g = record { holds = h.holds }

-- nothing is to blame where reading succeeds
pub ok : {A : Type 0} (x : A) → BlamesWord (Ok x)
ok x = record { holds = tt }

-- a word is to blame for an error whose kind is one of a word
pub err : {A : Type 0} (k : Kind) → IsOfWord k → BlamesWord {A = A} (Err k)
err k h = record { holds = h }

-- if a word is to blame for either result, then for the one that a test chooses
pub either : {A : Type 0} (b : Bool) (x y : Result A Kind) → BlamesWord x → BlamesWord y → BlamesWord (cond b x y)
either true x y h g = h
either false x y h g = g

-- if a kind is one of a word, then a word is to blame where there is nothing to read
pub some : {A : Type 0} (o : Option A) (k : Kind) → IsOfWord k → BlamesWord (or_fault o k)
some None k h = record { holds = h }
some (Some x) k h = record { holds = tt }

-- ---- words and numbers

-- if no word can be read, then a word is to blame
pub word_blames : (ws : List (List ℕ)) → BlamesWord (word_at ws)
unfolding word_at IsOfWord
word_blames [] = err _ tt
word_blames (w ∷ ws) = ok _

-- if a keyword cannot be read, then a word is to blame
pub keyword_blames : (k : List ℕ) (ws : List (List ℕ)) → BlamesWord (keyword_at k ws)
unfolding keyword_at IsOfWord
keyword_blames k ws = then _ _ (word_blames ws) (λ w. either _ _ _ (ok _) (err _ tt))

-- if a line does not end, then a word is to blame
pub ended_blames : (ws : List (List ℕ)) → BlamesWord (ended ws)
unfolding ended IsOfWord
ended_blames [] = ok _
ended_blames (w ∷ ws) = err _ tt

range_of_blames : (lowest limit : ℕ) (w : List ℕ) → BlamesWord (range_of lowest limit w)
unfolding range_of IsOfWord
range_of_blames lowest limit w = then _ _ (some (number_of w) kinds.Number tt) (λ n. either _ _ _ (ok _) (err _ tt))

-- if a number of a range cannot be read, then a word is to blame
pub range_blames : (lowest limit : ℕ) (ws : List (List ℕ)) → BlamesWord (range_at lowest limit ws)
unfolding range_at
range_blames lowest limit ws = then _ _ (word_blames ws) (λ w. then _ _ (range_of_blames lowest limit w.0) (λ n. ok _))

number_blames : (ws : List (List ℕ)) → BlamesWord (number_at ws)
unfolding number_at IsOfWord
number_blames ws = then _ _ (word_blames ws) (λ w. then _ _ (some (number_of w.0) kinds.Number tt) (λ n. ok _))

listed_blames : (nodes : ℕ) (most owner : Option ℕ) (listed : List ℕ) (lowest : ℕ) (w : List ℕ) → BlamesWord (listed_of nodes most owner listed lowest w)
unfolding listed_of IsOfWord
listed_blames nodes most owner listed lowest w = either _ _ _ (err _ tt) (then _ _ (range_of_blames 0 nodes w) (λ n. either _ _ _ (err _ tt) (ok _)))

-- if a list of nodes cannot be read, then a word is to blame
pub nodes_blame : (nodes : ℕ) (most owner : Option ℕ) (listed : List ℕ) (lowest : ℕ) (ws : List (List ℕ)) → BlamesWord (nodes_after nodes most owner listed lowest ws)
unfolding nodes_after
nodes_blame nodes most owner listed lowest [] = ok _
nodes_blame nodes most owner listed lowest (w ∷ ws) = then _ _ (listed_blames nodes most owner listed lowest w) (λ n. nodes_blame nodes most owner (with_node n listed) (suc n) ws)

name_blames : (w : List ℕ) → BlamesWord (name_of_word w)
unfolding name_of_word IsOfWord
name_blames w = either _ _ _ (ok _) (err _ tt)

vacant_blames : (o : Option ℕ) → BlamesWord (vacant o)
unfolding IsOfWord
vacant_blames None = ok _
vacant_blames (Some k) = err _ tt

text_blames : (bytes : List ℕ) → BlamesWord (text_of bytes)
unfolding text_of IsOfWord
text_blames bytes = either _ _ _ (ok _) (err _ tt)

value_of_blames : (version : ℕ) (w : List ℕ) → BlamesWord (value_of version w)
unfolding value_of IsOfWord
value_of_blames version w = either _ _ _ (text_blames _) (then _ _ (some (number_of w) kinds.Number tt) (λ n. ok _))

value_blames : (version : ℕ) (ws : List (List ℕ)) → BlamesWord (value_at version ws)
unfolding value_at
value_blames version ws = then _ _ (word_blames ws) (λ w. then _ _ (value_of_blames version w.0) (λ v. ok _))

-- ---- objects and transactions

new_name_blames : (names : List (List ℕ)) (w : List ℕ) → BlamesWord (new_name_of names w)
unfolding new_name_of
new_name_blames names w = then _ _ (name_blames w) (λ name. then _ _ (vacant_blames (find names name)) (λ new. ok _))

object_blames : (version nodes : ℕ) (names ws : List (List ℕ)) → BlamesWord (object_at version nodes names ws)
unfolding object_at
object_blames version nodes names ws =
    then _ _ (word_blames ws) (λ w. then _ _ (new_name_blames names w.0) (λ name. then _ _ (value_blames version w.1) (λ value. then _ _ (range_blames 0 nodes value.1) (λ owner. then _ _ (nodes_blame nodes None (Some owner.0) [] 0 owner.1) (λ others. ok _)))))

operand_blames : (version : ℕ) (k : OpWord) (x : ℕ) (ws : List (List ℕ)) → BlamesWord (operand_at version k x ws)
unfolding operand_at
operand_blames version op_words.Get x ws = ok _
operand_blames version op_words.Put x ws = then _ _ (value_blames version ws) (λ v. ok _)
operand_blames version op_words.Add x ws = then _ _ (number_blames ws) (λ v. ok _)
operand_blames version op_words.Need x ws = then _ _ (number_blames ws) (λ v. ok _)
operand_blames version op_words.Same x ws = then _ _ (value_blames version ws) (λ v. ok _)

object_word_blames : (names : List (List ℕ)) (before : List Op) (w : List ℕ) → BlamesWord (object_of_word names before w)
unfolding object_of_word IsOfWord
object_word_blames names before w = then _ _ (name_blames w) (λ name. then _ _ (some (find names name) kinds.Unknown tt) (λ x. either _ _ _ (ok _) (err _ tt)))

op_rest_blames : (version : ℕ) (names : List (List ℕ)) (before : List Op) (k : OpWord) (ws : List (List ℕ)) → BlamesWord (op_rest_at version names before k ws)
unfolding op_rest_at
op_rest_blames version names before k ws = then _ _ (word_blames ws) (λ v. then _ _ (object_word_blames names before v.0) (λ x. operand_blames version k x v.1))

op_blames : (version : ℕ) (names : List (List ℕ)) (before : List Op) (ws : List (List ℕ)) → BlamesWord (op_at version names before ws)
unfolding op_at IsOfWord
op_blames version names before ws =
    then _ _ (word_blames ws) (λ w. then _ _ (some (op_word_of version w.0) kinds.Word tt) (λ k. either _ _ _ (err _ tt) (op_rest_blames version names before k w.1)))

ops_blame : (version : ℕ) (names : List (List ℕ)) (room : ℕ) (before : List Op) (ws : List (List ℕ)) → BlamesWord (ops_after version names room before ws)
unfolding ops_after IsOfWord
ops_blame version names room before [] = ok _
ops_blame version names zero before (w ∷ ws) = either _ _ _ (then _ _ (op_blames version names before ws) (λ o. err _ tt)) (err _ tt)
ops_blame version names (suc room) before (w ∷ ws) = either _ _ _ (then _ _ (op_blames version names before ws) (λ o. ops_blame version names room (before ++ o.0 ∷ []) o.1)) (err _ tt)

after_blames : (k : ℕ) (x : Bool × List (List ℕ)) → BlamesWord (number_if k x)
unfolding number_if
after_blames k (true, ws) = then _ _ (range_blames 0 k ws) (λ j. ok _)
after_blames k (false, ws) = ok _

ops_at_blames : (version : ℕ) (names ws : List (List ℕ)) → BlamesWord (ops_at version names ws)
unfolding ops_at
ops_at_blames version names ws = then _ _ (op_blames version names [] ws) (λ o. ops_blame version names 15 (o.0 ∷ []) o.1)

tx_blames : (version nodes slots : ℕ) (names : List (List ℕ)) (k : ℕ) (ws : List (List ℕ)) → BlamesWord (tx_at version nodes slots names k ws)
unfolding tx_at after_at
tx_blames version nodes slots names k ws =
    then _ _ (range_blames 0 nodes ws) (λ node. then _ _ (range_blames 0 slots node.1) (λ slot. then _ _ (after_blames k (word_if (codes "after") slot.1)) (λ after.
    then _ _ (ops_at_blames version names after.1) (λ tx. ok _))))

step_blames : (nodes slots txs : ℕ) (k : StepWord) (ws : List (List ℕ)) → BlamesWord (step_at nodes slots txs k ws)
unfolding step_at
step_blames nodes slots txs step_words.Begin ws = then _ _ (range_blames 0 txs ws) (λ k. then _ _ (ended_blames k.1) (λ e. ok _))
step_blames nodes slots txs step_words.Try ws = then _ _ (range_blames 0 nodes ws) (λ n. then _ _ (range_blames 0 slots n.1) (λ s. then _ _ (ended_blames s.1) (λ e. ok _)))
step_blames nodes slots txs step_words.Deliver ws = then _ _ (range_blames 0 nodes ws) (λ n. then _ _ (range_blames 0 nodes n.1) (λ m. then _ _ (range_blames 0 (2 ^ 32) m.1) (λ i. then _ _ (ended_blames i.1) (λ e. ok _))))
step_blames nodes slots txs step_words.Tick ws = then _ _ (range_blames 0 nodes ws) (λ k. then _ _ (ended_blames k.1) (λ e. ok _))
step_blames nodes slots txs step_words.Stop ws = then _ _ (range_blames 0 nodes ws) (λ k. then _ _ (ended_blames k.1) (λ e. ok _))
step_blames nodes slots txs step_words.View ws = then _ _ (nodes_blame nodes None None [] 0 ws) (λ ns. ok _)
step_blames nodes slots txs step_words.Install ws = then _ _ (range_blames 0 nodes ws) (λ n. then _ _ (range_blames 1 (2 ^ 32) n.1) (λ i. then _ _ (ended_blames i.1) (λ e. ok _)))

-- ---- lines

version_of_blames : (w : List ℕ) → BlamesWord (version_of w)
unfolding version_of IsOfWord
version_of_blames w = either (bytes_eq w (codes "1")) _ _ (ok _) (either (bytes_eq w (codes "2")) _ _ (ok _) (err kinds.Word tt))

version_blames : (s : State) (ws : List (List ℕ)) → BlamesWord (version_taken s ws)
unfolding version_taken
version_blames s ws =
    then _ _ (keyword_blames _ ws) (λ a. then _ _ (word_blames a.1) (λ w. then _ _ (version_of_blames w.0) (λ v. then _ _ (ended_blames w.1) (λ e. ok _))))

count_blames : (s : State) (ws : List (List ℕ)) → BlamesWord (nodes_taken s ws)
unfolding nodes_taken
count_blames s ws = then _ _ (keyword_blames _ ws) (λ a. then _ _ (range_blames 1 9 a.1) (λ n. then _ _ (ended_blames n.1) (λ e. ok _)))

slots_blame : (s : State) (ws : List (List ℕ)) → BlamesWord (slots_taken s ws)
unfolding slots_taken
slots_blame s ws = then _ _ (keyword_blames _ ws) (λ a. then _ _ (range_blames 1 9 a.1) (λ n. then _ _ (ended_blames n.1) (λ e. ok _)))

some_nodes_blame : (ns : List ℕ) → BlamesWord (some_nodes ns)
unfolding IsOfWord
some_nodes_blame [] = err _ tt
some_nodes_blame (n ∷ ns) = ok _

directory_blames : (s : State) (ws : List (List ℕ)) → BlamesWord (directory_taken s ws)
unfolding directory_taken
directory_blames s ws =
    then _ _ (keyword_blames _ ws) (λ a. then _ _ (nodes_blame s.head.nodes (Some s.head.nodes) None [] 0 a.1) (λ ns. then _ _ (some_nodes_blame ns) (λ some. ok _)))

degree_blames : (s : State) (ws : List (List ℕ)) → BlamesWord (degree_taken s ws)
unfolding degree_taken
degree_blames s ws = then _ _ (range_blames 1 9 ws) (λ n. then _ _ (ended_blames n.1) (λ e. ok _))

tx_taken_blames : (live : Bool) (s : State) (ws : List (List ℕ)) → BlamesWord (tx_taken live s ws)
unfolding tx_taken IsOfWord
tx_taken_blames live s ws =
    either (live && (length s.txs == 1000)) _ _ (err kinds.Live tt) (either (length s.txs == 10000) _ _ (err kinds.Long tt)
    (then _ _ (tx_blames s.head.version s.head.nodes s.head.slots s.names (length s.txs) ws) (λ t. ok _)))

run_blames : (s : State) (ws : List (List ℕ)) → BlamesWord (run_taken s ws)
unfolding run_taken
run_blames s ws = then _ _ (ended_blames ws) (λ e. ok _)

tx_line_blames : (live : Bool) (s : State) (w : List ℕ) (ws : List (List ℕ)) → BlamesWord (tx_line_taken live s w ws)
unfolding tx_line_taken IsOfWord
tx_line_blames live s w ws =
    either (bytes_eq w (codes "tx")) _ _ (tx_taken_blames live s ws) (either (bytes_eq w (codes "run")) _ _ (run_blames s ws) (err kinds.Word tt))

object_taken_blames : (s : State) (ws : List (List ℕ)) → BlamesWord (object_taken s ws)
unfolding object_taken IsOfWord
object_taken_blames s ws = either (length s.names == 256) _ _ (err kinds.Long tt) (then _ _ (object_blames s.head.version s.head.nodes s.names ws) (λ o. ok _))

object_line_blames : (live : Bool) (s : State) (w : List ℕ) (ws : List (List ℕ)) → BlamesWord (object_line_taken live s w ws)
unfolding object_line_taken IsOfWord
object_line_blames live s w ws =
    either (bytes_eq w (codes "object")) _ _ (object_taken_blames s ws) (either (length s.objects == 0) _ _ (err kinds.Word tt) (tx_line_blames live s w ws))

degree_line_blames : (live : Bool) (s : State) (w : List ℕ) (ws : List (List ℕ)) → BlamesWord (degree_line_taken live s w ws)
unfolding degree_line_taken
degree_line_blames live s w ws = either (bytes_eq w (codes "degree")) (degree_taken s ws) (object_line_taken live s w ws) (degree_blames s ws) (object_line_blames live s w ws)

more_blames : (r : Result State Kind) → BlamesWord r → BlamesWord (more r)
unfolding more
more_blames (Ok s) h = ok _
more_blames (Err k) h = record { holds = h.holds }

step_taken_blames : (live : Bool) (s : State) (k : StepWord) (ws : List (List ℕ)) → BlamesWord (step_taken live s k ws)
unfolding step_taken IsOfWord
step_taken_blames live s k ws =
    either live _ _ (err kinds.Live tt) (either (length s.steps == 50000) _ _ (err kinds.Long tt) (then _ _ (step_blames s.head.nodes s.head.slots (length s.txs) k ws) (λ t. ok _)))

step_line_blames : (live : Bool) (s : State) (w : List ℕ) (ws : List (List ℕ)) → BlamesWord (step_line_taken live s w ws)
unfolding step_line_taken IsOfWord
step_line_blames live s w ws =
    either (bytes_eq w (codes "end")) _ _ (then _ _ (ended_blames ws) (λ e. ok _)) (then _ _ (some (step_word_of w) kinds.Word tt) (λ k. more_blames _ (step_taken_blames live s k ws)))

body_blames : (live : Bool) (s : State) (stage : Stage) (w : List ℕ) (ws : List (List ℕ)) → BlamesWord (body_taken live s stage w ws)
unfolding body_taken
body_blames live s stages.Degree w ws = more_blames _ (degree_line_blames live s w ws)
body_blames live s stages.Objects w ws = more_blames _ (object_line_blames live s w ws)
body_blames live s stages.Txs w ws = more_blames _ (tx_line_blames live s w ws)
body_blames live s stages.Version w ws = step_line_blames live s w ws
body_blames live s stages.Nodes w ws = step_line_blames live s w ws
body_blames live s stages.Slots w ws = step_line_blames live s w ws
body_blames live s stages.Directory w ws = step_line_blames live s w ws
body_blames live s stages.Steps w ws = step_line_blames live s w ws

-- a line that is not taken has a word to blame
pub line_blames : (live : Bool) (s : State) (stage : Stage) (ws : List (List ℕ)) → BlamesWord (line_taken live s stage ws)
unfolding line_taken
line_blames live s stages.Version ws = more_blames _ (version_blames s ws)
line_blames live s stages.Nodes ws = more_blames _ (count_blames s ws)
line_blames live s stages.Slots ws = more_blames _ (slots_blame s ws)
line_blames live s stages.Directory ws = more_blames _ (directory_blames s ws)
line_blames live s stages.Degree ws = then _ _ (word_blames ws) (λ w. body_blames live s stages.Degree w.0 w.1)
line_blames live s stages.Objects ws = then _ _ (word_blames ws) (λ w. body_blames live s stages.Objects w.0 w.1)
line_blames live s stages.Txs ws = then _ _ (word_blames ws) (λ w. body_blames live s stages.Txs w.0 w.1)
line_blames live s stages.Steps ws = then _ _ (word_blames ws) (λ w. body_blames live s stages.Steps w.0 w.1)
