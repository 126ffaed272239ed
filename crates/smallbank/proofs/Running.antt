-- The run of a bank.
use Rattle.std.proofs.Common.{ℕ, ◌≡◌, ◌≤◌, List, [], ◌∷◌, ◌++◌, length, map, take, refl, sym, ap, subst, ◌∙◌, arith}
use Rattle.std.specs.Prelude.{All, IfOk, Result, Ok, Err}
use Rattle.std.proofs.lemmas.List.{length-map}
use Rattle.std.proofs.lemmas.List.Elements.{All-nil, All-head, All-tail, All-push}
use Rattle.zeus_base.specs.Limits.{KeepsLimits}
use Rattle.zeus_base.specs.declared.config.Config.{Config}
use Rattle.zeus_base.specs.declared.step.Step.{Step}
use Rattle.zeus_txn.specs.declared.tx.TxDecl.{TxDecl}
use Rattle.zeus_model.specs.Scripts.{FitsStep, FitsTxs}
use Rattle.zeus_model.specs.World.{World, run, start, stepped}
use Rattle.rand_pcg.specs.Lcg.{Lcg}
use Rattle.soundness.specs.Promise.{KeepsPromise}
use Rattle.reached_worlds.specs.Reached.{IsReached}
use Rattle.reached_worlds.proofs.Reaching.{reached_same}
use Rattle.random_schedule.specs.Schedule.{schedule}
use Rattle.random_schedule.specs.Words.{words_from}
use Rattle.bank_ledger.specs.declared.bank_tx.BankTx.{BankTx}
use Rattle.bank_ledger.specs.Bank.{IsBank, KeepsMoney, bank_config}
use Rattle.bank_ledger.proofs.Configuration.{bank_limits}
use Rattle.bank_report.specs.Numbers.{FitsNumbers}
use Rattle.bank_report.specs.declared.numbers.BankNumbers.{BankNumbers}
use Rattle.smallbank.specs.Orders.{FitsOrder, declared_tx, picked_orders, tx_of}
use Rattle.smallbank.specs.Run.{IsGood, bank_declared, bank_orders, bank_schedule, bank_text, bank_txs, bank_world, told}
use Rattle.smallbank.specs.declared.orders.Order.{Order}
use Rattle.smallbank.proofs.Fitting.{is_bank, txs_fit}
use Rattle.smallbank.proofs.Picking.{all_picked-fit, length-picked}

-- ---- a run keeps its transactions

run_push : (w : World) (ss : List Step) (s : Step) → run w (ss ++ s ∷ []) ≡ stepped (run w ss) s
unfolding run
run_push w [] s = refl
run_push w (t ∷ ts) s = run_push (stepped w t) ts s

on : (c : Config) (txs : List TxDecl) (done rest : List Step) (w : World) → KeepsLimits c → FitsTxs c txs → All (FitsStep c (length txs)) done
    → All (FitsStep c (length txs)) rest → w ≡ run (start c txs) done → w.config ≡ c → w.txs ≡ txs → (run w rest).txs ≡ txs
unfolding run
on c txs done [] w limits fit before after leads config same = same
on c txs done (s ∷ ss) w limits fit before after leads config same =
    let P = FitsStep c (length txs) in
    let head : P s = All-head P s ss after in
    let reached : IsReached w =
    record {
      config = c;
      txs = txs;
      steps = done;
      limits = limits;
      fit_txs = fit;
      fit_steps = before;
      leads = leads;
      same_config = config;
      same_txs = same;
    } in
    let kept = reached_same w s reached (rw (config, same) head) in
    let next : stepped w s ≡ run (start c txs) (done ++ s ∷ []) = ap (λ (v : World). stepped v s) leads ∙ sym (run_push (start c txs) done s) in
    on c txs (done ++ s ∷ []) ss (stepped w s) limits fit (All-push P done s before head) (All-tail P s ss after) next (kept.config ∙ config) (kept.txs ∙ same)

-- a run of steps that fit leaves the declared transactions
pub run-txs : (c : Config) (txs : List TxDecl) (steps : List Step) → KeepsLimits c → FitsTxs c txs → All (FitsStep c (length txs)) steps
    → (run (start c txs) steps).txs ≡ txs
unfolding start run
run-txs c txs steps limits fit fits = on c txs [] steps (start c txs) limits fit (All-nil (FitsStep c (length txs))) fits refl refl refl

-- ---- the run of a bank's script

-- the script of these orders, which were picked
pub record IsScriptOf (n : BankNumbers) (os : List Order) (words : Lcg) (c : Config) (txs : List TxDecl) : Type 0 where
  pub picked : (os, words) ≡ picked_orders n.accounts n.txs (words_from n.start)
  pub config_is : c ≡ bank_config n.accounts
  pub txs_are : txs ≡ map declared_tx os

-- these steps and this world are those of the schedule of the script
pub record IsRunOf (n : BankNumbers) (words : Lcg) (c : Config) (txs : List TxDecl) (steps : List Step) (w : World) : Type 0 where
  pub steps_are : steps ≡ (schedule c txs n.steps record { loss = n.loss; stops = n.stops } words).steps
  pub world_is : w ≡ (schedule c txs n.steps record { loss = n.loss; stops = n.stops } words).world
  pub leads : w ≡ run (start c txs) steps
  pub fits : All (FitsStep c (length txs)) steps
  pub promise : (k : ℕ) → KeepsPromise (start c txs) (take k steps)

-- no run of a bank loses money
abbrev pub Law : Type 0
Law =
    (accounts : ℕ) (txs : List BankTx) (declared : List TxDecl) (steps : List Step) → IsBank accounts txs declared → FitsTxs (bank_config accounts) declared
    → All (FitsStep (bank_config accounts) (length declared)) steps → KeepsMoney accounts txs (run (start (bank_config accounts) declared) steps)

-- a bank's script has at most 10,000 orders
pub few_orders : (n : BankNumbers) (os : List Order) (words : Lcg) (c : Config) (txs : List TxDecl) → FitsNumbers n → IsScriptOf n os words c txs → length os ≤ 10000
few_orders n os words c txs f s =
    let count : length os ≡ n.txs = ap (λ (q : List Order × Lcg). length q.0) s.picked ∙ length-picked n.accounts n.txs (words_from n.start) in
    let few = f.txs in
    omega arith

-- the orders fit so many accounts
pub orders_fit : (n : BankNumbers) (os : List Order) (words : Lcg) (c : Config) (txs : List TxDecl) → FitsNumbers n → IsScriptOf n os words c txs
    → All (FitsOrder n.accounts) os
orders_fit n os words c txs f s =
    subst (λ (x : List Order). All (FitsOrder n.accounts) x) (sym (ap (λ (q : List Order × Lcg). q.0) s.picked))
    (all_picked-fit n.accounts n.txs (words_from n.start) f.some_accounts)

-- the configuration of a bank's script keeps its limits
pub script_limits : (n : BankNumbers) (os : List Order) (words : Lcg) (c : Config) (txs : List TxDecl) → FitsNumbers n → IsScriptOf n os words c txs → KeepsLimits c
script_limits n os words c txs f s = subst KeepsLimits (sym s.config_is) (bank_limits n.accounts f.some_accounts f.few_accounts)

-- the transactions of a bank's script fit its configuration
pub script_fits : (n : BankNumbers) (os : List Order) (words : Lcg) (c : Config) (txs : List TxDecl) → FitsNumbers n → IsScriptOf n os words c txs → FitsTxs c txs
script_fits n os words c txs f s =
    subst (λ (x : Config). FitsTxs x txs) (sym s.config_is)
    (subst (λ (x : List TxDecl). FitsTxs (bank_config n.accounts) x) (sym s.txs_are)
    (txs_fit n.accounts os (few_orders n os words c txs f s) (orders_fit n os words c txs f s)))

-- the run is that of the numbers
pub run_of_numbers : (n : BankNumbers) (os : List Order) (words : Lcg) (c : Config) (txs : List TxDecl) (steps : List Step) (w : World) → IsScriptOf n os words c txs
    → IsRunOf n words c txs steps w → IsRunOf n (picked_orders n.accounts n.txs (words_from n.start)).1 (bank_config n.accounts) (bank_declared n) steps w
run_of_numbers n os words c txs steps w s r =
    let orders : os ≡ bank_orders n = ap (λ (q : List Order × Lcg). q.0) s.picked in
    let left : words ≡ (picked_orders n.accounts n.txs (words_from n.start)).1 = ap (λ (q : List Order × Lcg). q.1) s.picked in
    let same : txs ≡ bank_declared n = s.txs_are ∙ ap (map declared_tx) orders in
    subst (λ (x : Lcg). IsRunOf n x (bank_config n.accounts) (bank_declared n) steps w) left
    (subst (λ (x : List TxDecl). IsRunOf n words (bank_config n.accounts) x steps w) same
    (subst (λ (x : Config). IsRunOf n words x txs steps w) s.config_is r))

-- ---- what holds of it

-- what is told of the run
pub record IsToldOf (n : BankNumbers) (os : List Order) (steps : List Step) (w : World) : Type 0 where
  pub orders_are : os ≡ bank_orders n
  pub steps_are : steps ≡ (bank_schedule n).steps
  pub world_is : w ≡ bank_world n
  pub few : length w.txs ≤ 10000
  pub money : KeepsMoney n.accounts (map tx_of os) w
  pub good : IsGood n

good_run : (n : BankNumbers) (steps : List Step) (w : World) → Law → FitsNumbers n
    → IsRunOf n (picked_orders n.accounts n.txs (words_from n.start)).1 (bank_config n.accounts) (bank_declared n) steps w → IsGood n
good_run n steps w law f r =
    let c = bank_config n.accounts in
    let fits = all_picked-fit n.accounts n.txs (words_from n.start) f.some_accounts in
    let few : length (bank_orders n) ≤ 10000 = let count = length-picked n.accounts n.txs (words_from n.start) in let most = f.txs in omega arith in
    let leads : bank_world n ≡ run (start c (bank_declared n)) (bank_schedule n).steps =
    sym r.world_is ∙ (r.leads ∙ ap (λ (ss : List Step). run (start c (bank_declared n)) ss) r.steps_are) in
    let all = subst (λ (ss : List Step). All (FitsStep c (length (bank_declared n))) ss) r.steps_are r.fits in
    record {
      leads = leads;
      money =
          subst (λ (v : World). KeepsMoney n.accounts (bank_txs n) v) (sym leads)
          (law n.accounts (bank_txs n) (bank_declared n) (bank_schedule n).steps (is_bank n.accounts (bank_orders n) f.some_accounts f.few_accounts fits)
          (txs_fit n.accounts (bank_orders n) few fits) all);
      promise = λ k. subst (λ (ss : List Step). KeepsPromise (start c (bank_declared n)) (take k ss)) r.steps_are (r.promise k);
    }

-- if the law of the bank's money holds, then what is told of a run of its script is true
pub told_run : (n : BankNumbers) (os : List Order) (words : Lcg) (c : Config) (txs : List TxDecl) (steps : List Step) (w : World) → Law → FitsNumbers n
    → IsScriptOf n os words c txs → IsRunOf n words c txs steps w → IsToldOf n os steps w
told_run n os words c txs steps w law f s r =
    let orders : os ≡ bank_orders n = ap (λ (q : List Order × Lcg). q.0) s.picked in
    let own = run_of_numbers n os words c txs steps w s r in
    let good = good_run n steps w law f own in
    let same = run-txs c txs steps (script_limits n os words c txs f s) (script_fits n os words c txs f s) r.fits in
    let count : length w.txs ≡ length os = ap (λ (v : World). length v.txs) r.leads ∙ ap length same ∙ ap length s.txs_are ∙ length-map os declared_tx in
    let few = few_orders n os words c txs f s in
    record {
      orders_are = orders;
      steps_are = own.steps_are;
      world_is = own.world_is;
      few = omega arith;
      money =
          subst (λ (v : World). KeepsMoney n.accounts (map tx_of os) v) (sym own.world_is)
          (subst (λ (x : List Order). KeepsMoney n.accounts (map tx_of x) (bank_world n)) (sym orders) good.money);
      good = good;
    }

-- the text is that of the numbers
pub told_text : (n : BankNumbers) (os : List Order) (steps : List Step) (w : World) (count : ℕ) (txs : List BankTx) → IsToldOf n os steps w → count ≡ length steps
    → txs ≡ map tx_of os → told n count txs w ≡ bank_text n
told_text n os steps w count txs t is same =
    ap (λ k. told n k txs w) (is ∙ ap length t.steps_are)
    ∙ (ap (λ (x : List BankTx). told n (length (bank_schedule n).steps) x w) (same ∙ ap (map tx_of) t.orders_are)
    ∙ ap (λ (v : World). told n (length (bank_schedule n).steps) (bank_txs n) v) t.world_is)

-- what holds whatever the value is
pub if_ok : {A E : Type 0} (r : Result A E) (G : Type 0) → G → IfOk r (λ _. G)
if_ok (Ok a) G g = g
if_ok (Err e) G g = tt
