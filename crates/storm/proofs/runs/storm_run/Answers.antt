use Rattle.std.proofs.Common.{ℕ, ◌≡◌, ◌∙◌, List, length, ap, subst}
use Rattle.std.specs.Prelude.{IfOk, take}
use Rattle.zeus_base.specs.declared.config.Config.{Config}
use Rattle.zeus_base.specs.declared.step.Step.{Step}
use Rattle.zeus_txn.specs.declared.tx.TxDecl.{TxDecl}
use Rattle.zeus_model.specs.World.{World, start}
use Rattle.soundness.specs.Promise.{KeepsPromise}
use Rattle.random_schedule.specs.Schedule.{Schedule}
use Rattle.storm.specs.Script.{Drawn, storm_config, storm_txs}
use Rattle.storm.specs.Storm.{end_of, storm_steps, storm_world}
use Rattle.storm.proofs.Running.{few-objects, few-txs, if_ok, storm-schedule}
use Rattle.storm.proofs.runs.storm_run.Goals as goal

pub end_of-requires-clause-txs : goal.end_of-requires-clause-txs
end_of-requires-clause-txs c =
    let drawn = rw c.new-words.ensures at c.in_ok-script.ensures.drawn in
    few-txs c.args.numbers.now c.in_ok-steps.world c.in_ok-script.script.config c.in_ok-script.script.txs _ c.in_ok-steps.steps c.requires drawn c.in_ok-steps.ensures.run

pub end_of-requires-clause-objects : goal.end_of-requires-clause-objects
end_of-requires-clause-objects c =
    few-objects c.args.numbers.now c.in_ok-steps.world c.in_ok-script.script.config c.in_ok-script.script.txs c.in_ok-steps.steps c.requires c.in_ok-script.ensures.config c.in_ok-steps.ensures.run

pub returns-clause-end : goal.returns-clause-end
returns-clause-end c =
    let n = c.args.numbers.now in
    let drawn = rw c.new-words.ensures at c.in_ok-script.ensures.drawn in
    let same = storm-schedule n c.in_ok-script.script.config c.in_ok-script.script.txs _ c.in_ok-script.ensures.config drawn in
    let world : c.in_ok-steps.world ≡ storm_world n = c.in_ok-steps.ensures.world ∙ ap (λ (s : Schedule). s.world) same in
    let taken : c.len.result ≡ length (storm_steps n) = c.len.ensures ∙ ap length (c.in_ok-steps.ensures.steps ∙ ap (λ (s : Schedule). s.steps) same) in
    let Tells : World → ℕ → Type 0 = λ w k. IfOk c.end_of.result (λ end. end ≡ end_of n w k) in
    subst (λ (k : ℕ). Tells (storm_world n) k) taken (subst (λ (w : World). Tells w c.len.result) world c.end_of.ensures)

pub returns-clause-promise : goal.returns-clause-promise
returns-clause-promise c =
    let n = c.args.numbers.now in
    let drawn = rw c.new-words.ensures at c.in_ok-script.ensures.drawn in
    let config = c.in_ok-script.script.config in
    let declared = c.in_ok-script.script.txs in
    let same = storm-schedule n config declared _ c.in_ok-script.ensures.config drawn in
    let txs : declared ≡ storm_txs n = ap (λ (d : Drawn (List TxDecl)). d.0) drawn in
    let steps : c.in_ok-steps.steps ≡ storm_steps n = c.in_ok-steps.ensures.steps ∙ ap (λ (s : Schedule). s.steps) same in
    let Keeps : Config → List TxDecl → List Step → Type 0 = λ cf ts ss. (k : ℕ) → KeepsPromise (start cf ts) (take k ss) in
    if_ok c.end_of.result
    (subst (λ (cf : Config). Keeps cf (storm_txs n) (storm_steps n)) c.in_ok-script.ensures.config
    (subst (λ (ts : List TxDecl). Keeps config ts (storm_steps n)) txs
    (subst (λ (ss : List Step). Keeps config declared ss) steps c.in_ok-steps.ensures.promise)))
