-- The operations of a transaction as words: what is read is spelled so, and what is spelled so is read.
use Rattle.std.proofs.Common.{◌≡◌, ◌≢◌, ℕ, zero, suc, ◌+◌, ◌<◌, ◌≤◌, Bool, true, false, List, [], ◌∷◌, ◌++◌, length, All, Ok, refl, sym, ap, ◌∙◌, arith, append_assoc, append-nil, length-append}
use Rattle.std.specs.Prelude.{codes, decimal, ◌||◌, nat_lt, AllPairs}
use Rattle.std.specs.List.{AllByRecursion}
use Rattle.std.specs.Str.{bytes_eq}
use Rattle.std.proofs.lemmas.Bool.{ne_eqb, lt-ltb}
use Rattle.zeus_base.specs.Tables.{nth}
use Rattle.zeus_base.specs.TableLaws.{nth-get_or}
use Rattle.zeus_txn.specs.declared.ops.Op.{Op}
use Rattle.zeus_txn.specs.declared.ops.Op.TheVariants as ops
use Rattle.script_lang.specs.Gathered.{takes_object}
use Rattle.zeus_txn.specs.Ops.{object_of, mentions, mentioned, named, named_after}
use Rattle.zeus_txn.specs.Tx.{IsTx}
use Rattle.script_lang.proofs.Gathering.{named-push, length-taken}
use Rattle.zeus_txn.specs.OpLaws.{length-named_after, mentioned-new}
use Rattle.zeus_model.specs.Names.{IsName}
use Rattle.zeus_model.specs.Scripts.{FitsVersion}
use Rattle.zeus_model.specs.Spelling.{op_words, more_op_words, tx_op_words, value_text}
use Rattle.script_lang.specs.declared.keywords.OpWord.{OpWord}
use Rattle.script_lang.specs.declared.keywords.OpWord.TheVariants as words
use Rattle.script_lang.specs.Operations.{object_of_word, operand_at, op_rest_at, op_at, ops_after, ops_at}
use Rattle.script_lang.specs.Reads.{word_at}
use Rattle.script_lang.proofs.laws.FindLaws.{bytes_eq-true, find-nth}
use Rattle.script_lang.proofs.laws.NumberLaws.{number_at-decimal}
use Rattle.script_lang.proofs.laws.ValueLaws.{name_of_word-name, value_at-text}
use Rattle.script_lang.proofs.laws.OpLaws.{op_text, HasWord, op_word_of-text, IsOp, op_at-sound}
use Rattle.script_lang.proofs.Sound.{IfRead, read_bind, read_ok, read_err, read_cond, read_weaken}

-- an operation names a declared object, and fits the version
pub record FitsAt (version : ℕ) (names : List (List ℕ)) (op : Op) : Type 0 where
  pub object : object_of op < length names
  pub fits : FitsVersion version op

-- operations that were read behind others
pub record AreOps (version : ℕ) (names : List (List ℕ)) (before : List Op) (ws : List (List ℕ)) (all : List Op) : Type 0 where
  pub new : List Op
  pub whole : all ≡ before ++ new
  pub spelled : ws ≡ more_op_words names new
  pub fits : AllByRecursion (FitsAt version names) new
  pub few : length all ≤ 16
  pub objects : length (named all) ≤ 8

ops_none : (version : ℕ) (names : List (List ℕ)) (before : List Op) → length before ≤ 16 → length (named before) ≤ 8 → AreOps version names before [] before
unfolding more_op_words
ops_none version names before few objects = record { new = []; whole = sym (append-nil before); spelled = refl; fits = tt; few = few; objects = objects }

-- one more operation leaves the limits kept
pub few_more : (version : ℕ) (names : List (List ℕ)) (before : List Op) (ws : List (List ℕ)) (x : Op × List (List ℕ)) → length before ≤ 16 → IsOp version names before ws x → length (before ++ x.0 ∷ []) ≤ 16
few_more version names before ws x few op = let room = op.room in rw length-append (omega arith)

-- if operations name at most 8 objects and one more is read behind them, then they name at most 8 with it
pub objects_more : (version : ℕ) (names : List (List ℕ)) (before : List Op) (ws : List (List ℕ)) (x : Op × List (List ℕ)) → length (named before) ≤ 8 → IsOp version names before ws x → length (named (before ++ x.0 ∷ [])) ≤ 8
objects_more version names before ws x objects op = rw named-push (length-taken before (object_of x.0) op.takes objects)

ops_more : (version : ℕ) (names : List (List ℕ)) (before : List Op) (w : List ℕ) (ws : List (List ℕ)) (x : Op × List (List ℕ)) (all : List Op) → bytes_eq w (codes ";") ≡ true → IsOp version names before ws x
    → AreOps version names (before ++ x.0 ∷ []) x.1 all → AreOps version names before (w ∷ ws) all
unfolding more_op_words
ops_more version names before w ws x all semi op rest = record {
  new = x.0 ∷ rest.new;
  whole = rest.whole ∙ append_assoc before (x.0 ∷ []) rest.new;
  spelled = rw (bytes_eq-true w (codes ";") semi, op.spelled, rest.spelled) refl;
  fits = (record { object = op.object; fits = op.fits }, rest.fits);
  few = rest.few;
  objects = rest.objects;
}

-- if operations are read behind others, then the words spell the further ones, and all have room
pub ops_after-sound : (version : ℕ) (names : List (List ℕ)) (room : ℕ) (before : List Op) (ws : List (List ℕ)) → length before ≤ 16 → length (named before) ≤ 8 → IfRead (ops_after version names room before ws) (AreOps version names before ws)
unfolding ops_after
ops_after-sound version names zero before [] few objects = read_ok _ _ (ops_none version names before few objects)
ops_after-sound version names (suc room) before [] few objects = read_ok _ _ (ops_none version names before few objects)
ops_after-sound version names zero before (w ∷ ws) few objects =
    read_cond (bytes_eq w (codes ";")) _ _ _ (λ t. read_bind _ _ _ (op_at-sound version names before ws) (λ x p. read_err _ _)) (λ f. read_err _ _)
ops_after-sound version names (suc room) before (w ∷ ws) few objects =
    read_cond (bytes_eq w (codes ";")) _ _ _
    (λ t. read_bind _ _ _ (op_at-sound version names before ws) (λ x p.
    read_weaken _ _ (λ all rest. ops_more version names before w ws x all t p rest)
    (ops_after-sound version names room (before ++ x.0 ∷ []) x.1 (few_more version names before ws x few p) (objects_more version names before ws x objects p))))
    (λ f. read_err _ _)

-- the operations of a transaction
pub record AreTxOps (version : ℕ) (names ws : List (List ℕ)) (all : List Op) : Type 0 where
  pub spelled : ws ≡ tx_op_words names all
  pub fits : AllByRecursion (FitsAt version names) all
  pub tx : IsTx all

tx_ops : (version : ℕ) (names ws : List (List ℕ)) (x : Op × List (List ℕ)) (all : List Op) → IsOp version names [] ws x → AreOps version names (x.0 ∷ []) x.1 all → AreTxOps version names ws all
unfolding tx_op_words
tx_ops version names ws x all op rest =
    let whole : all ≡ x.0 ∷ rest.new = rest.whole in
    record {
      spelled = rw (whole, op.spelled, rest.spelled) refl;
      fits = rw whole (record { object = op.object; fits = op.fits }, rest.fits);
      tx = record { some = rw whole (omega arith); few = rest.few; objects = rest.objects };
    }

-- if the operations of a transaction are read, then the words spell them
pub ops_at-sound : (version : ℕ) (names ws : List (List ℕ)) → IfRead (ops_at version names ws) (AreTxOps version names ws)
unfolding ops_at named named_after
ops_at-sound version names ws =
    read_bind _ _ _ (op_at-sound version names [] ws) (λ x p.
    read_weaken _ _ (λ all rest. tx_ops version names ws x all p rest)
    (ops_after-sound version names 15 (x.0 ∷ []) x.1 (omega arith) (objects_more version names [] ws x (omega arith) p)))

-- ---- what operations name together

named_after-append : (seen : List ℕ) (before more : List Op) → named_after seen (before ++ more) ≡ named_after (named_after seen before) more
unfolding named_after
named_after-append seen [] more = refl
named_after-append seen (o ∷ before) more = named_after-append (mentioned seen (object_of o)) before more

named_next : (before more : List Op) (op : Op) → named_after (mentioned (named before) (object_of op)) more ≡ named (before ++ op ∷ more)
unfolding named named_after
named_next before more op = sym (named_after-append [] before (op ∷ more))

-- ---- what is spelled is read

pub record AreNames (names : List (List ℕ)) : Type 0 where
  pub each : All IsName names
  pub distinct : AllPairs (λ a b. a ≢ b) names

is_name_at : (names : List (List ℕ)) (i : ℕ) → AreNames names → i < length names → IsName (nth [] names i)
is_name_at names i are lt = rw nth-get_or (are.each i [] lt)

object_of_word-name : (names : List (List ℕ)) (before : List Op) (o : ℕ) → AreNames names → o < length names → takes_object before o ≡ true → object_of_word names before (nth [] names o) ≡ Ok o
unfolding object_of_word
object_of_word-name names before o are lt takes = rw (name_of_word-name (nth [] names o) (is_name_at names o are lt), find-nth names o are.distinct lt, takes) refl

op_rest_at-words : (version : ℕ) (names : List (List ℕ)) (before : List Op) (k : OpWord) (o : ℕ) (ws : List (List ℕ)) → AreNames names → o < length names → takes_object before o ≡ true → op_rest_at version names before k (nth [] names o ∷ ws) ≡ operand_at version k o ws
unfolding op_rest_at word_at
op_rest_at-words version names before k o ws are lt takes = rw (object_of_word-name names before o are lt takes) refl

op_at-words : (version : ℕ) (names : List (List ℕ)) (before : List Op) (k : OpWord) (o : ℕ) (ws : List (List ℕ)) → AreNames names → length before < 16 → HasWord version k → o < length names → takes_object before o ≡ true → op_at version names before (op_text k ∷ nth [] names o ∷ ws) ≡ operand_at version k o ws
unfolding op_at word_at
op_at-words version names before k o ws are room has lt takes =
    rw (op_word_of-text version k has, ne_eqb (length before) 16 (λ e. omega arith), op_rest_at-words version names before k o ws are lt takes) refl

-- if an operation fits and has room behind others, then reading its words gives it, and the rest is left
pub op_at-op : (version : ℕ) (names : List (List ℕ)) (before : List Op) (op : Op) (rest : List (List ℕ)) → AreNames names → length before < 16 → FitsAt version names op → takes_object before (object_of op) ≡ true → op_at version names before (op_words names op ++ rest) ≡ Ok (op, rest)
unfolding op_words object_of FitsVersion op_text HasWord operand_at
op_at-op version names before (ops.Get x) rest are room fits takes = op_at-words version names before words.Get x rest are room tt fits.object takes
op_at-op version names before (ops.Put x v) rest are room fits takes = op_at-words version names before words.Put x (value_text v ∷ rest) are room tt fits.object takes ∙ rw (value_at-text version v rest fits.fits) refl
op_at-op version names before (ops.Add x n) rest are room fits takes = op_at-words version names before words.Add x (decimal n ∷ rest) are room tt fits.object takes ∙ rw (number_at-decimal n rest fits.fits) refl
op_at-op version names before (ops.Need x n) rest are room fits takes = op_at-words version names before words.Need x (decimal n ∷ rest) are room tt fits.object takes ∙ rw (number_at-decimal n rest fits.fits) refl
op_at-op version names before (ops.Same x v) rest are room fits takes = op_at-words version names before words.Same x (value_text v ∷ rest) are room fits.fits.0 fits.object takes ∙ rw (value_at-text version v rest fits.fits.1) refl

-- where all name at most 8 objects, each operation may follow those before it
takes_next : (before more : List Op) (op : Op) → length (named (before ++ op ∷ more)) ≤ 8 → takes_object before (object_of op) ≡ true
unfolding takes_object
takes_next before more op few = go (mentions (object_of op) (named before)) refl
  where
    go : (t : Bool) → mentions (object_of op) (named before) ≡ t → (t || nat_lt (length (named before)) 8) ≡ true
    go true e = refl
    go false e =
        let new : length (mentioned (named before) (object_of op)) ≡ suc (length (named before)) = rw (mentioned-new (object_of op) (named before) e, length-append) (omega arith) in
        let longer = length-named_after (mentioned (named before) (object_of op)) more in
        let all : named_after (mentioned (named before) (object_of op)) more ≡ named (before ++ op ∷ more) = named_next before more op in
        lt-ltb _ _ (omega (arith, rw all at longer))

-- if further operations fit and all name at most 8 objects, then reading their words gives all of them
pub ops_after-words : (version : ℕ) (names : List (List ℕ)) (room : ℕ) (before more : List Op) → AreNames names → length more ≤ room → length before + room ≤ 16 → AllByRecursion (FitsAt version names) more → length (named (before ++ more)) ≤ 8
    → ops_after version names room before (more_op_words names more) ≡ Ok (before ++ more)
unfolding ops_after more_op_words
ops_after-words version names zero before [] are len few fits objects = ap Ok (sym (append-nil before))
ops_after-words version names (suc room) before [] are len few fits objects = ap Ok (sym (append-nil before))
ops_after-words version names zero before (op ∷ more) are len few fits objects = absurd (omega arith)
ops_after-words version names (suc room) before (op ∷ more) are len few fits objects =
    let takes = takes_next before more op objects in
    let here = op_at-op version names before op (more_op_words names more) are (omega arith) fits.0 takes in
    let together : (before ++ op ∷ []) ++ more ≡ before ++ op ∷ more = append_assoc before (op ∷ []) more in
    let shorter : length (before ++ op ∷ []) + room ≤ 16 = rw length-append (omega arith) in
    let rest = ops_after-words version names room (before ++ op ∷ []) more are (omega arith) shorter fits.1 (rw together objects) in
    rw here (rest ∙ ap Ok together)

-- if operations fit and make a transaction, then reading their words gives them
pub ops_at-words : (version : ℕ) (names : List (List ℕ)) (all : List Op) → AreNames names → AllByRecursion (FitsAt version names) all → IsTx all → ops_at version names (tx_op_words names all) ≡ Ok all
unfolding ops_at tx_op_words
ops_at-words version names [] are fits tx = absurd (omega (arith, tx.some))
ops_at-words version names (op ∷ more) are fits tx =
    let here = op_at-op version names [] op (more_op_words names more) are (omega arith) fits.0 (takes_next [] more op tx.objects) in
    let few : length more ≤ 15 = omega (arith, tx.few) in
    let rest = ops_after-words version names 15 (op ∷ []) more are few (omega arith) fits.1 tx.objects in
    rw here rest
