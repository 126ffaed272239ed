-- A history of the bank's transactions leaves their balances.
use Rattle.std.proofs.Common.{ℕ, suc, ◌≡◌, ◌+◌, ◌*◌, ◌^◌, ◌<◌, ◌≤◌, true, false, List, [], ◌∷◌, Option, length, refl, sym, ap, subst, ◌∙◌, arith}
use Rattle.std.specs.List.{AllByRecursion, IsDistinct, list_any}
use Rattle.std.specs.Prelude.{◌==◌, if◌then◌else◌}
use Rattle.std.proofs.Math.Dec.{eqb}
use Rattle.std.proofs.lemmas.Bool.Decides.{nat_tests}
use Rattle.std.proofs.lemmas.Map.Steps.{length-le_from_distinct_below}
use Rattle.zeus_txn.specs.Map.{applied_map, run_at}
use Rattle.zeus_txn.specs.declared.map.Versioned.{Versioned}
use Rattle.zeus_txn.specs.declared.ops.Op.{Op}
use Rattle.zeus_txn.specs.declared.reply.Reply.{Reply}
use Rattle.zeus_model.specs.Book.{Point}
use Rattle.zeus_model.specs.Serial.{serial_map, serial_replies}
use Rattle.zeus_model.specs.Sound.{history_txs, replies_of, times}
use Rattle.zeus_model.specs.World.{World, tx_decl}
use Rattle.soundness.specs.Telling.{ids_of}
use Rattle.bank_ledger.specs.declared.bank_tx.BankTx.{BankTx}
use Rattle.bank_ledger.specs.Operations.{FitsBank, operations}
use Rattle.bank_ledger.specs.Balances.{balances, lacks, posted}
use Rattle.bank_ledger.specs.Money.{bank_tx, brings, history_of, paid_in, paid_out, takes_out, unless_failed}
use Rattle.bank_ledger.proofs.Posting.{IsLow, failed_at, posts}
use Rattle.bank_ledger.proofs.Tables.{Shows, nth-le_total, total}
use Rattle.bank_ledger.proofs.Totals.{posted_even}

-- the transaction of this number is the bank's
pub record IsIts (accounts : ℕ) (txs : List BankTx) (w : World) (id : ℕ) : Type 0 where
  pub operations : (tx_decl w id).tx ≡ operations (bank_tx txs id)
  pub fits : FitsBank accounts (bank_tx txs id)

-- so is each of the history
unfoldable pub AreIts : ℕ → List BankTx → World → List Point → Type 0
AreIts accounts txs w [] = Unit {0}
AreIts accounts txs w (p ∷ ps) = IsIts accounts txs w p.id × AreIts accounts txs w ps

-- what points leave of a map that shows these balances
pub record Leaves (txs : List BankTx) (w : World) (ps : List Point) (m : List Versioned) (bs : List ℕ) : Type 0 where
  pub shown : Shows (serial_map m (history_txs w ps)) (balances bs (history_of txs ps))
  pub even : total (balances bs (history_of txs ps)) + paid_out txs ps ≡ total bs + paid_in txs ps
  pub few : total (balances bs (history_of txs ps)) ≤ total bs + 100 * length ps
  pub paid : paid_in txs ps ≤ 100 * length ps
  pub size : length (balances bs (history_of txs ps)) ≡ length bs

record AreSame (r : Reply) (rs : List Reply) (q : Reply) (qs : List Reply) : Type 0 where
  head : r ≡ q
  tail : rs ≡ qs

are_same : (r : Reply) (rs : List Reply) (q : Reply) (qs : List Reply) → r ∷ rs ≡ q ∷ qs → AreSame r rs q qs
are_same r rs q qs e = record { head = cc; tail = cc }

-- if all points are the bank's, and their replies those of a serial run, then they leave the balances, and the money adds up
pub leaves : (accounts : ℕ) (txs : List BankTx) (w : World) (ps : List Point) (m : List Versioned) (bs : List ℕ) → AreIts accounts txs w ps → Shows m bs
    → length bs ≡ 2 * accounts → total bs + 100 * length ps < 2 ^ 64 → replies_of ps ≡ serial_replies m (history_txs w ps) → Leaves txs w ps m bs
unfolding AreIts serial_map serial_replies history_txs history_of replies_of balances paid_in paid_out
leaves accounts txs w [] m bs its s size low replies = record { shown = s; even = refl; few = omega arith; paid = omega arith; size = refl }
leaves accounts txs w (p ∷ ps) m bs its s size low replies =
    let t = bank_tx txs p.id in
    let ops = its.0.operations in
    let small : IsLow bs = record { low = λ x. let le = nth-le_total bs x in omega arith } in
    let post = posts accounts m bs t its.0.fits s small in
    let step = posted_even accounts bs t its.0.fits size in
    let shown : Shows (applied_map m (tx_decl w p.id).tx) (posted bs t) = subst (λ (o : List Op). Shows (applied_map m o) (posted bs t)) (sym ops) post.shown in
    let two = are_same p.reply (replies_of ps) (run_at m (tx_decl w p.id).tx).reply (serial_replies (applied_map m (tx_decl w p.id).tx) (history_txs w ps)) replies in
    let failed : p.reply.failed ≡ failed_at (lacks bs t) = ap (λ (r : Reply). r.failed) two.head ∙ ap (λ (o : List Op). (run_at m o).reply.failed) ops ∙ post.failed in
    let out : unless_failed p.reply.failed (takes_out t) ≡ unless_failed (failed_at (lacks bs t)) (takes_out t) = ap (λ (f : Option ℕ). unless_failed f (takes_out t)) failed in
    let into : unless_failed p.reply.failed (brings t) ≡ unless_failed (failed_at (lacks bs t)) (brings t) = ap (λ (f : Option ℕ). unless_failed f (brings t)) failed in
    let even = step.even in
    let few = step.few in
    let rest = leaves accounts txs w ps (applied_map m (tx_decl w p.id).tx) (posted bs t) its.1 shown (step.size ∙ size) (omega arith) two.tail in
    let even_then = rest.even in
    let few_then = rest.few in
    let paid_then = rest.paid in
    record { shown = rest.shown; even = omega arith; few = omega arith; paid = omega arith; size = rest.size ∙ step.size }

-- ---- how many points there are

apart : (id : ℕ) (ps : List Point) → times id ps ≡ 0 → AllByRecursion (λ y. eqb id y ≡ false) (ids_of ps)
unfolding times ids_of
apart id [] h = tt
apart id (p ∷ ps) h =
    elim (p.id == id) as (λ b. (p.id == id) ≡ b → (if b then suc (times id ps) else times id ps) ≡ 0 → (eqb id p.id ≡ false) × AllByRecursion (λ y. eqb id y ≡ false) (ids_of ps)) [
      | true ↦ λ is none. absurd (omega arith)
      | false ↦ λ is none. (grind (arith, nat_tests), apart id ps none)
    ] refl h

times-head : (p : Point) (ps : List Point) → times p.id (p ∷ ps) ≡ suc (times p.id ps)
unfolding times
times-head p ps = grind (arith, nat_tests)

times-tail : (id : ℕ) (p : Point) (ps : List Point) → times id ps ≤ times id (p ∷ ps)
unfolding times
times-tail id p ps = grind arith

distinct : (ps : List Point) → ((id : ℕ) → times id ps ≤ 1) → IsDistinct eqb (ids_of ps)
unfolding ids_of IsDistinct
distinct [] once = tt
distinct (p ∷ ps) once =
    (apart p.id ps (omega (arith, once p.id, times-head p ps)), distinct ps (λ id. omega (arith, once id, times-tail id p ps)))

times-ids : (id : ℕ) (ps : List Point) → list_any (eqb id) (ids_of ps) ≡ true → 1 ≤ times id ps
unfolding times ids_of
times-ids id [] h = absurd cc
times-ids id (p ∷ ps) h = let rest = times-ids id ps in grind (arith, nat_tests)

length-ids : (ps : List Point) → length (ids_of ps) ≡ length ps
unfolding ids_of
length-ids [] = refl
length-ids (p ∷ ps) = ap suc (length-ids ps)

-- there are no more points than numbers that they can have, if none has one twice
pub few_points : (ps : List Point) (n : ℕ) → ((id : ℕ) → times id ps ≤ 1) → ((id : ℕ) → 1 ≤ times id ps → id < n) → length ps ≤ n
few_points ps n once there =
    let few = length-le_from_distinct_below (ids_of ps) n (distinct ps once) (λ id h. there id (times-ids id ps h)) in
    omega (arith, length-ids ps)

-- each transaction of the history is the bank's, since each of the world is
pub are_its : (accounts : ℕ) (txs : List BankTx) (w : World) (n : ℕ) → ((id : ℕ) → id < n → IsIts accounts txs w id) → (ps : List Point)
    → ((id : ℕ) → 1 ≤ times id ps → id < n) → AreIts accounts txs w ps
unfolding AreIts
are_its accounts txs w n each [] there = tt
are_its accounts txs w n each (p ∷ ps) there =
    (each p.id (there p.id (omega (arith, times-head p ps))), are_its accounts txs w n each ps (λ id h. there id (omega (arith, times-tail id p ps))))
