-- Transactions as words: what is read is spelled so, and what is spelled so is read.
use Rattle.std.proofs.Common.{◌≡◌, ℕ, ◌<◌, ◌≤◌, ◌^◌, Bool, true, false, cond, List, [], ◌∷◌, ◌++◌, length, Option, Some, None, Ok, refl, ap, ◌∙◌, arith}
use Rattle.std.specs.Prelude.{codes, decimal, IfSome}
use Rattle.std.specs.List.{AllByRecursion}
use Rattle.std.specs.Str.{bytes_eq}
use Rattle.std.proofs.lemmas.List.Elements.{All-from_recursion, recursion_from_All}
use Rattle.zeus_base.specs.declared.config.Config.{Config}
use Rattle.zeus_txn.specs.declared.ops.Op.{Op}
use Rattle.zeus_txn.specs.declared.ops.Op.TheVariants as ops
use Rattle.zeus_txn.specs.declared.tx.TxDecl.{TxDecl}
use Rattle.zeus_model.specs.Scripts.{FitsOp, FitsTx}
use Rattle.zeus_model.specs.Spelling.{op_words, tx_op_words, after_words}
use Rattle.script_lang.specs.Reads.{word_if}
use Rattle.script_lang.specs.Transactions.{number_if, after_at, tx_at}
use Rattle.script_lang.proofs.laws.FindLaws.{bytes_eq-true}
use Rattle.script_lang.proofs.laws.NumberLaws.{range_at-sound, range_at-decimal}
use Rattle.script_lang.proofs.laws.OpsLaws.{FitsAt, AreNames, ops_at-sound, ops_at-words}
use Rattle.script_lang.proofs.Sound.{IfRead, read_bind, read_ok}

-- the words behind `tx`
abbrev pub tx_rest : List (List ℕ) → TxDecl → List (List ℕ)
tx_rest names t = decimal t.node ∷ decimal t.slot ∷ after_words t.after ++ tx_op_words names t.tx

-- a transaction that was read
pub record IsTxLine (config : Config) (names : List (List ℕ)) (k : ℕ) (ws : List (List ℕ)) (t : TxDecl) : Type 0 where
  pub spelled : ws ≡ tx_rest names t
  pub fits : FitsTx config k t

word_if-choice : (w : List ℕ) (ws : List (List ℕ)) (b : Bool) → bytes_eq w (codes "after") ≡ b → word_if (codes "after") (w ∷ ws) ≡ cond b (true, ws) (false, w ∷ ws)
unfolding word_if
word_if-choice w ws b e = rw e refl

after_at-sound : (k : ℕ) (ws : List (List ℕ)) → IfRead (after_at k ws) (λ x. (ws ≡ after_words x.0 ++ x.1) × IfSome x.0 (λ j. j < k))
unfolding after_at after_words number_if word_if
after_at-sound k [] = read_ok _ _ (refl, tt)
after_at-sound k (w ∷ ws) = go (bytes_eq w (codes "after")) refl
  where
    go : (b : Bool) → bytes_eq w (codes "after") ≡ b → IfRead (number_if k (cond b (true, ws) (false, w ∷ ws))) (λ x. (w ∷ ws ≡ after_words x.0 ++ x.1) × IfSome x.0 (λ j. j < k))
    go true e = read_bind _ _ _ (range_at-sound 0 k ws) (λ j p. read_ok _ _ (rw (bytes_eq-true w (codes "after") e, p.0) refl, p.3))
    go false e = read_ok _ _ (refl, tt)

fits_ops : (config : Config) (names : List (List ℕ)) (all : List Op) → length names ≡ length config.objects → AllByRecursion (FitsAt config.version names) all → AllByRecursion (FitsOp config) all
fits_ops config names [] same h = tt
fits_ops config names (op ∷ all) same h = (record { object = rw (← same) h.0.object; version = h.0.fits }, fits_ops config names all same h.1)

-- if a transaction is read, then the words spell one that fits
pub tx_at-sound : (config : Config) (names : List (List ℕ)) (k : ℕ) (ws : List (List ℕ)) → length names ≡ length config.objects → IfRead (tx_at config.version config.nodes config.slots names k ws) (IsTxLine config names k ws)
unfolding tx_at
tx_at-sound config names k ws same =
    read_bind _ _ _ (range_at-sound 0 config.nodes ws) (λ node n.
    read_bind _ _ _ (range_at-sound 0 config.slots node.1) (λ slot s.
    read_bind _ _ _ (after_at-sound k slot.1) (λ after a.
    read_bind _ _ _ (ops_at-sound config.version names after.1) (λ tx o.
    read_ok _ _ record {
      spelled = n.0 ∙ ap (λ behind. decimal node.0 ∷ behind) (s.0 ∙ ap (λ behind. decimal slot.0 ∷ behind) (a.0 ∙ ap (λ behind. after_words after.0 ++ behind) o.spelled));
      fits = record { node = n.3; slot = s.3; after = a.1; tx = o.tx; ops = All-from_recursion (FitsOp config) tx (fits_ops config names tx same o.fits) };
    }))))

-- ---- what is spelled is read

ops_fit : (config : Config) (names : List (List ℕ)) (all : List Op) → length names ≡ length config.objects → AllByRecursion (FitsOp config) all → AllByRecursion (FitsAt config.version names) all
ops_fit config names [] same h = tt
ops_fit config names (op ∷ all) same h = (record { object = rw same h.0.object; fits = h.0.version }, ops_fit config names all same h.1)

-- no operation begins with `after`
no_after : (names : List (List ℕ)) (op : Op) (ws : List (List ℕ)) → word_if (codes "after") (op_words names op ++ ws) ≡ (false, op_words names op ++ ws)
unfolding word_if op_words
no_after names (ops.Get x) ws = refl
no_after names (ops.Put x v) ws = refl
no_after names (ops.Add x n) ws = refl
no_after names (ops.Need x n) ws = refl
no_after names (ops.Same x v) ws = refl

after_at-words : (names : List (List ℕ)) (k : ℕ) (after : Option ℕ) (all : List Op) → k ≤ 2 ^ 64 → IfSome after (λ j. j < k) → 1 ≤ length all → after_at k (after_words after ++ tx_op_words names all) ≡ Ok (after, tx_op_words names all)
unfolding after_at after_words number_if tx_op_words
after_at-words names k after [] small a some = absurd (omega arith)
after_at-words names k None (op ∷ all) small a some = rw no_after refl
after_at-words names k (Some j) (op ∷ all) small a some = ap (number_if k) (behind names op all j) ∙ rw (range_at-decimal 0 k j (tx_op_words names (op ∷ all)) (omega arith) (omega arith) a) refl
  where
    behind : (names : List (List ℕ)) (op : Op) (all : List Op) (j : ℕ) → word_if (codes "after") (codes "after" ∷ decimal j ∷ tx_op_words names (op ∷ all)) ≡ (true, decimal j ∷ tx_op_words names (op ∷ all))
    behind names op all j = word_if-choice (codes "after") (decimal j ∷ tx_op_words names (op ∷ all)) true refl

-- if a transaction fits, then reading its words gives it
pub tx_at-words : (config : Config) (names : List (List ℕ)) (k : ℕ) (t : TxDecl) → config.nodes ≤ 8 → config.slots ≤ 8 → k ≤ 2 ^ 64 → length names ≡ length config.objects → AreNames names → FitsTx config k t → tx_at config.version config.nodes config.slots names k (tx_rest names t) ≡ Ok t
unfolding tx_at
tx_at-words config names k t few slots small same are fits =
    let fit = ops_fit config names t.tx same (recursion_from_All (FitsOp config) t.tx fits.ops) in
    rw (
      range_at-decimal 0 config.nodes t.node (decimal t.slot ∷ after_words t.after ++ tx_op_words names t.tx) (omega (arith, fits.node)) (omega arith) fits.node,
      range_at-decimal 0 config.slots t.slot (after_words t.after ++ tx_op_words names t.tx) (omega (arith, fits.slot)) (omega arith) fits.slot,
      after_at-words names k t.after t.tx small fits.after fits.tx.some,
      ops_at-words config.version names t.tx are fit fits.tx,
    ) refl
