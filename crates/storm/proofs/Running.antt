-- The schedule that a storm runs.
use Rattle.std.proofs.Common.{ℕ, ◌≡◌, ◌≤◌, ◌∙◌, List, length, refl, ap, arith}
use Rattle.std.specs.Prelude.{IfOk, Result, Ok, Err}
use Rattle.zeus_base.specs.declared.config.Config.{Config}
use Rattle.zeus_base.specs.declared.step.Step.{Step}
use Rattle.zeus_txn.specs.declared.tx.TxDecl.{TxDecl}
use Rattle.zeus_model.specs.World.{World, run, start}
use Rattle.rand_pcg.specs.Lcg.{Lcg}
use Rattle.random_schedule.specs.Schedule.{schedule}
use Rattle.random_schedule.specs.Words.{words_from}
use Rattle.data_safety.proofs.steps.StepRuns.{start-txs}
use Rattle.machine_moves.proofs.Start.{start-config}
use Rattle.zeus_report.proofs.RunSteps.{run-config, run-txs}
use Rattle.storm.specs.Numbers.{AreInRange}
use Rattle.storm.specs.Script.{Drawn, drawn_txs, schedule_words, storm_config, storm_txs}
use Rattle.storm.specs.Storm.{storm}
use Rattle.storm.specs.declared.numbers.StormNumbers.{StormNumbers}
use Rattle.storm.proofs.Drawing.{count-drawn}
use Rattle.storm.proofs.Objects.{count-objects}

-- the schedule of the script that is drawn, by the words behind, is that of the storm
pub storm-schedule : (n : StormNumbers) (config : Config) (txs : List TxDecl) (words : Lcg) → config ≡ storm_config n → (txs, words) ≡ drawn_txs n n.txs (words_from n.start)
    → schedule config txs n.steps record { loss = n.loss; stops = n.stops } words ≡ storm n
unfolding storm
storm-schedule n config txs words same drawn =
    let ts : txs ≡ storm_txs n = ap (λ (d : Drawn (List TxDecl)). d.0) drawn in
    let ws : words ≡ schedule_words n = ap (λ (d : Drawn (List TxDecl)). d.1) drawn in
    rw (same, ts, ws) refl

-- a run has the transactions and objects that were declared: no more than a storm may have
pub few-txs : (n : StormNumbers) (w : World) (config : Config) (txs : List TxDecl) (words : Lcg) (steps : List Step) → AreInRange n → (txs, words) ≡ drawn_txs n n.txs (words_from n.start)
    → w ≡ run (start config txs) steps → length w.txs ≤ 10000
few-txs n w config txs words steps r drawn leads =
    let ts : txs ≡ storm_txs n = ap (λ (d : Drawn (List TxDecl)). d.0) drawn in
    let all : w.txs ≡ txs = ap (λ (v : World). v.txs) leads ∙ (run-txs (start config txs) steps ∙ start-txs config txs) in
    let count = count-drawn n n.txs (words_from n.start) in
    let few = r.txs in
    omega (arith, ap length all, ap length ts, count)

-- if a storm's numbers are in range, then the world of its run has at most 256 objects
pub few-objects : (n : StormNumbers) (w : World) (config : Config) (txs : List TxDecl) (steps : List Step) → AreInRange n → config ≡ storm_config n
    → w ≡ run (start config txs) steps → length w.config.objects ≤ 256
few-objects n w config txs steps r same leads =
    let all : w.config ≡ config = ap (λ (v : World). v.config) leads ∙ (run-config (start config txs) steps ∙ start-config config txs) in
    let count = count-objects n.nodes n.objects in
    let objects = r.objects in
    omega (arith, ap (λ (c : Config). length c.objects) (all ∙ same), count)

-- what holds holds also if a result is fine
pub if_ok : {T E P : Type 0} (r : Result T E) → P → IfOk r (λ _. P)
if_ok (Ok v) p = p
if_ok (Err e) p = tt
