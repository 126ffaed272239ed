-- The transactions that are drawn for a storm fit its configuration.
use Rattle.std.proofs.Common.{ℕ, zero, suc, true, ◌≡◌, ◌+◌, ◌-◌, ◌%◌, ◌<◌, ◌≤◌, ◌^◌, List, [], ◌∷◌, ◌++◌, length, refl, ap, arith, append_assoc}
use Rattle.std.specs.Prelude.{All, ◌==◌}
use Rattle.std.proofs.lemmas.Bool.{cond_both}
use Rattle.std.proofs.lemmas.List.Elements.{All-nil, All-cons}
use Rattle.std.proofs.lemmas.Nat.{mod_below}
use Rattle.zeus_txn.specs.Ops.{object_of}
use Rattle.zeus_txn.specs.Tx.{IsTx}
use Rattle.zeus_txn.specs.declared.ops.Op.{Op}
use Rattle.zeus_txn.specs.declared.ops.Op.TheVariants.{Get, Put, Add, Need}
use Rattle.zeus_txn.specs.declared.tx.TxDecl.{TxDecl}
use Rattle.zeus_base.specs.declared.value.Value.TheVariants.{Num}
use Rattle.zeus_model.specs.Scripts.{FitTxs, FitsOp, FitsTx, FitsTxs, FitsValue, FitsVersion}
use Rattle.rand_pcg.specs.Lcg.{Lcg}
use Rattle.random_schedule.specs.Words.{next_word, pick}
use Rattle.storm.specs.Numbers.{AreInRange}
use Rattle.storm.specs.Script.{Drawn, drawn_body, drawn_move, drawn_ops, drawn_tx, drawn_txs, storm_config}
use Rattle.storm.specs.declared.numbers.StormNumbers.{StormNumbers}
use Rattle.storm.proofs.Making.{few-tx}
use Rattle.storm.proofs.Objects.{count-objects}

-- operations fit: there are some and not many, and each fits the configuration
record FitOps (n : StormNumbers) (ops : List Op) : Type 0 where
  tx : IsTx ops
  each : All (FitsOp (storm_config n)) ops

fits_get : (n : StormNumbers) (x : ℕ) → x < n.objects → FitsOp (storm_config n) (Get x)
unfolding object_of FitsVersion
fits_get n x h = let count = count-objects n.nodes n.objects in record { object = omega arith; version = tt }

fits_add : (n : StormNumbers) (x d : ℕ) → x < n.objects → d < 2 ^ 64 → FitsOp (storm_config n) (Add x d)
unfolding object_of FitsVersion
fits_add n x d h few = let count = count-objects n.nodes n.objects in record { object = omega arith; version = few }

fits_need : (n : StormNumbers) (x d : ℕ) → x < n.objects → d < 2 ^ 64 → FitsOp (storm_config n) (Need x d)
unfolding object_of FitsVersion
fits_need n x d h few = let count = count-objects n.nodes n.objects in record { object = omega arith; version = few }

fits_put : (n : StormNumbers) (x v : ℕ) → x < n.objects → v < 2 ^ 64 → FitsOp (storm_config n) (Put x (Num v))
unfolding object_of FitsVersion FitsValue
fits_put n x v h few = let count = count-objects n.nodes n.objects in record { object = omega arith; version = few }

fit_one : (n : StormNumbers) (a : Op) → FitsOp (storm_config n) a → FitOps n (a ∷ [])
fit_one n a h = record { tx = few-tx (a ∷ []) (omega arith) (omega arith); each = All-cons (FitsOp (storm_config n)) a [] h (All-nil (FitsOp (storm_config n))) }

fit_two : (n : StormNumbers) (a b : Op) → FitsOp (storm_config n) a → FitsOp (storm_config n) b → FitOps n (a ∷ b ∷ [])
fit_two n a b h g =
    record { tx = few-tx (a ∷ b ∷ []) (omega arith) (omega arith); each = All-cons (FitsOp (storm_config n)) a (b ∷ []) h (fit_one n b g).each }

fit_three : (n : StormNumbers) (a b c : Op) → FitsOp (storm_config n) a → FitsOp (storm_config n) b → FitsOp (storm_config n) c → FitOps n (a ∷ b ∷ c ∷ [])
fit_three n a b c h g k =
    record { tx = few-tx (a ∷ b ∷ c ∷ []) (omega arith) (omega arith); each = All-cons (FitsOp (storm_config n)) a (b ∷ c ∷ []) h (fit_two n b c g k).each }

move-fit : (n : StormNumbers) (a b : ℕ) (words : Lcg) → a < n.objects → b < n.objects → FitOps n (drawn_move a b words).0
move-fit n a b words h g =
    let value : (next_word words).0 % 1000 < 1000 = mod_below (next_word words).0 1000 (omega arith) in
    fit_three n _ _ _ (fits_need n a 1 h (omega arith)) (fits_put n a (1 + (next_word words).0 % 1000) h (omega arith)) (fits_add n b 1 g (omega arith))

ops-fit : (n : StormNumbers) (kind a b : ℕ) (words : Lcg) → a < n.objects → b < n.objects → FitOps n (drawn_ops kind a b words).0
unfolding drawn_ops
ops-fit n kind a b words h g =
    let P : Drawn (List Op) → Type 0 = λ d. FitOps n d.0 in
    cond_both (kind == 0) _ _ P (λ _. fit_two n _ _ (fits_get n a h) (fits_get n b g))
    (λ _. cond_both (kind == 1) _ _ P (λ _. fit_one n _ (fits_add n a 1 h (omega arith)))
    (λ _. cond_both (kind == 2) _ _ P (λ _. fit_two n _ _ (fits_get n a h) (fits_add n b 2 g (omega arith)))
    (λ _. move-fit n a b words h g)))

body-fit : (n : StormNumbers) (words : Lcg) → AreInRange n → FitOps n (drawn_body n.objects words).0
unfolding drawn_body
body-fit n words r =
    let objects = r.objects in
    ops-fit n _ _ _ _ (mod_below _ n.objects (omega arith)) (mod_below _ n.objects (omega arith))

tx-fits : (n : StormNumbers) (k : ℕ) (words : Lcg) → AreInRange n → FitsTx (storm_config n) k (drawn_tx n words).0
unfolding drawn_tx
tx-fits n k words r =
    let nodes = r.nodes in
    let slots = r.slots in
    let body = body-fit n _ r in
    record { node = mod_below _ n.nodes (omega arith); slot = mod_below _ n.slots (omega arith); after = tt; tx = body.tx; ops = body.each }

txs-fit : (n : StormNumbers) (k count : ℕ) (words : Lcg) → AreInRange n → FitTxs (storm_config n) k (drawn_txs n count words).0
unfolding drawn_txs FitTxs
txs-fit n k zero words r = tt
txs-fit n k (suc count) words r = (tx-fits n k words r, txs-fit n (suc k) count (drawn_tx n words).1 r)

-- as many transactions as are drawn
pub count-drawn : (n : StormNumbers) (count : ℕ) (words : Lcg) → length (drawn_txs n count words).0 ≡ count
unfolding drawn_txs
count-drawn n zero words = refl
count-drawn n (suc count) words = ap suc (count-drawn n count (drawn_tx n words).1)

-- the transactions fit the configuration
pub drawn-fit : (n : StormNumbers) (words : Lcg) → AreInRange n → FitsTxs (storm_config n) (drawn_txs n n.txs words).0
drawn-fit n words r =
    let count = count-drawn n n.txs words in
    let few = r.txs in
    record { few = omega arith; each = txs-fit n 0 n.txs words r }

-- the next of the transactions that are left
pub drawn_next : (n : StormNumbers) (i count : ℕ) (words : Lcg) → i < count
    → drawn_txs n (count - i) words ≡ ((drawn_tx n words).0 ∷ (drawn_txs n (count - (i + 1)) (drawn_tx n words).1).0, (drawn_txs n (count - (i + 1)) (drawn_tx n words).1).1)
unfolding drawn_txs
drawn_next n i count words h = let e : count - i ≡ suc (count - (i + 1)) = omega arith in rw e refl

-- no transaction is left
pub drawn_none : (n : StormNumbers) (i count : ℕ) (words : Lcg) → count ≤ i → drawn_txs n (count - i) words ≡ ([], words)
unfolding drawn_txs
drawn_none n i count words h = let e : count - i ≡ 0 = omega arith in rw e refl

-- if a drawn transaction is added, then with those that the words behind it give the whole is as before
pub drawn_more : (n : StormNumbers) (i count : ℕ) (txs after : List TxDecl) (t : TxDecl) (words rest : Lcg) (whole : Drawn (List TxDecl)) → i < count → (t, rest) ≡ drawn_tx n words → after ≡ txs ++ t ∷ []
    → (txs ++ (drawn_txs n (count - i) words).0, (drawn_txs n (count - i) words).1) ≡ whole
    → (after ++ (drawn_txs n (count - (i + 1)) rest).0, (drawn_txs n (count - (i + 1)) rest).1) ≡ whole
drawn_more n i count txs after t words rest whole h drawn added kept =
    let next = rw (← drawn) at (drawn_next n i count words h) in
    let here = rw next at kept in
    rw (added, append_assoc txs (t ∷ []) (drawn_txs n (count - (i + 1)) rest).0) here

-- before the first
pub drawn_start : (n : StormNumbers) (count : ℕ) (words : Lcg) (txs : List TxDecl) → txs ≡ []
    → (txs ++ (drawn_txs n (count - 0) words).0, (drawn_txs n (count - 0) words).1) ≡ drawn_txs n count words
drawn_start n count words txs none = let e : count - 0 ≡ count = omega arith in rw (none, e) refl
