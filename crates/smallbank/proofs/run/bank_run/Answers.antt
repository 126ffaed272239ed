use Rattle.std.proofs.Common.{List, map, ap, sym, subst, ◌∙◌}
use Rattle.std.specs.Prelude.{All}
use Rattle.rand_pcg.specs.Lcg.{Lcg}
use Rattle.random_schedule.specs.Words.{words_from}
use Rattle.bank_ledger.specs.declared.bank_tx.BankTx.{BankTx}
use Rattle.bank_ledger.specs.Bank.{KeepsMoney}
use Rattle.smallbank.specs.Orders.{FitsOrder, declared_tx, picked_orders, tx_of}
use Rattle.smallbank.specs.Run.{IsGood}
use Rattle.smallbank.specs.declared.orders.Order.{Order}
use Rattle.smallbank.proofs.Fitting.{orders_wider}
use Rattle.smallbank.proofs.Picking.{all_picked-fit}
use Rattle.smallbank.proofs.Running.{IsRunOf, IsScriptOf, if_ok, script_fits, script_limits, told_run}
use Rattle.smallbank.proofs.run.bank_run.Goals as goal

pub bank_script-requires-clause-orders : goal.bank_script-requires-clause-orders
bank_script-requires-clause-orders c =
    let n = c.args.numbers.now in
    let picked = c.in_ok-orders.ensures ∙ ap (picked_orders n.accounts n.txs) c.new-words.ensures in
    let fits = all_picked-fit n.accounts n.txs (words_from n.start) c.requires.some_accounts in
    let wide = orders_wider n.accounts 128 (picked_orders n.accounts n.txs (words_from n.start)).0 c.requires.few_accounts fits in
    subst (λ (x : List Order). All (FitsOrder 128) x) (sym (c.deref-2.ensures.value ∙ ap (λ (q : List Order × Lcg). q.0) picked)) wide

pub schedule_run-requires-clause-limits : goal.schedule_run-requires-clause-limits
schedule_run-requires-clause-limits c =
    let n = c.args.numbers.now in
    let script = c.in_ok-script.script in
    let s : IsScriptOf n c.in_ok-orders.orders.items c.pick_orders.new.words script.config script.txs =
    record {
      picked = c.in_ok-orders.ensures ∙ ap (picked_orders n.accounts n.txs) c.new-words.ensures;
      config_is = c.in_ok-script.ensures.config;
      txs_are = c.in_ok-script.ensures.txs ∙ ap (map declared_tx) c.deref-2.ensures.value;
    } in
    script_limits n c.in_ok-orders.orders.items c.pick_orders.new.words script.config script.txs c.requires s

pub schedule_run-requires-clause-txs : goal.schedule_run-requires-clause-txs
schedule_run-requires-clause-txs c =
    let n = c.args.numbers.now in
    let script = c.in_ok-script.script in
    let s : IsScriptOf n c.in_ok-orders.orders.items c.pick_orders.new.words script.config script.txs =
    record {
      picked = c.in_ok-orders.ensures ∙ ap (picked_orders n.accounts n.txs) c.new-words.ensures;
      config_is = c.in_ok-script.ensures.config;
      txs_are = c.in_ok-script.ensures.txs ∙ ap (map declared_tx) c.deref-2.ensures.value;
    } in
    script_fits n c.in_ok-orders.orders.items c.pick_orders.new.words script.config script.txs c.requires s

pub tell-requires-clause-money : goal.tell-requires-clause-money
tell-requires-clause-money c =
    let n = c.args.numbers.now in
    let os = c.in_ok-orders.orders.items in
    let script = c.in_ok-script.script in
    let s : IsScriptOf n os c.pick_orders.new.words script.config script.txs =
    record {
      picked = c.in_ok-orders.ensures ∙ ap (picked_orders n.accounts n.txs) c.new-words.ensures;
      config_is = c.in_ok-script.ensures.config;
      txs_are = c.in_ok-script.ensures.txs ∙ ap (map declared_tx) c.deref-2.ensures.value;
    } in
    let done = c.in_ok-steps.ensures in
    let r : IsRunOf n c.pick_orders.new.words script.config script.txs c.in_ok-steps.steps c.in_ok-steps.world =
    record { steps_are = done.steps; world_is = done.world; leads = done.run; fits = done.fits; promise = done.promise } in
    let t =
    told_run n os c.pick_orders.new.words script.config script.txs c.in_ok-steps.steps c.in_ok-steps.world c.no_run_loses_money.ensures c.requires s r in
    let txs = c.deref-3.ensures.value ∙ (c.in_ok-txs.ensures ∙ ap (map tx_of) c.deref.ensures.value) in
    subst (λ (x : List BankTx). KeepsMoney n.accounts x c.in_ok-steps.world) (sym txs) t.money

pub returns-clause-good : goal.returns-clause-good
returns-clause-good c =
    let n = c.args.numbers.now in
    let os = c.in_ok-orders.orders.items in
    let script = c.in_ok-script.script in
    let s : IsScriptOf n os c.pick_orders.new.words script.config script.txs =
    record {
      picked = c.in_ok-orders.ensures ∙ ap (picked_orders n.accounts n.txs) c.new-words.ensures;
      config_is = c.in_ok-script.ensures.config;
      txs_are = c.in_ok-script.ensures.txs ∙ ap (map declared_tx) c.deref-2.ensures.value;
    } in
    let done = c.in_ok-steps.ensures in
    let r : IsRunOf n c.pick_orders.new.words script.config script.txs c.in_ok-steps.steps c.in_ok-steps.world =
    record { steps_are = done.steps; world_is = done.world; leads = done.run; fits = done.fits; promise = done.promise } in
    let t =
    told_run n os c.pick_orders.new.words script.config script.txs c.in_ok-steps.steps c.in_ok-steps.world c.no_run_loses_money.ensures c.requires s r in
    if_ok c.tell.result (IsGood n) t.good
