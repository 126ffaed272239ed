use Rattle.std.proofs.Common.{◌≡◌, ◌≤◌, List, All, length, sym, subst, ap, ◌∙◌}
use Rattle.zeus_base.specs.declared.step.Step.{Step}
use Rattle.zeus_model.specs.Scripts.{FitsStep}
use Rattle.zeus_model.specs.World.{run, start}
use Rattle.random_schedule.specs.Keeping.{schedule_of}
use Rattle.random_schedule.proofs.Turning.{few_of, fits_of, run_of}
use Rattle.random_schedule.proofs.runs.schedule_run.Goals as goal

pub returns-clause-run : goal.returns-clause-run
returns-clause-run c =
    let s = c.args.script.now in
    let begun = c.in_ok-scheduler.ensures in
    let done = c.in_ok-take_turns.ensures in
    run_of c.in_ok-scheduler.scheduler c.take_turns.new.self s.config s.txs begun.start done.of done.under_way
    ∙ ap (λ (l : List Step). run (start s.config s.txs) l) (sym c.from_vec.ensures)

pub returns-clause-fits : goal.returns-clause-fits
returns-clause-fits c =
    let s = c.args.script.now in
    let begun = c.in_ok-scheduler.ensures in
    let done = c.in_ok-take_turns.ensures in
    let P : List Step → Type 0 = λ l. All (FitsStep s.config (length s.txs)) l in
    subst P (sym c.from_vec.ensures)
    (fits_of c.in_ok-scheduler.scheduler c.take_turns.new.self s.config s.txs begun.start done.of done.under_way)

pub returns-clause-few : goal.returns-clause-few
returns-clause-few c =
    let s = c.args.script.now in
    let begun = c.in_ok-scheduler.ensures in
    let done = c.in_ok-take_turns.ensures in
    let P : List Step → Type 0 = λ l. length l ≤ c.args.steps in
    subst P (sym c.from_vec.ensures)
    (few_of record { loss = c.args.loss; stops = c.args.stops } c.args.steps (schedule_of c.in_ok-scheduler.scheduler) (schedule_of c.take_turns.new.self)
    c.args.words.now c.take_turns.new.words s.config s.txs begun.start done.end)

pub returns-clause-promise : goal.returns-clause-promise
returns-clause-promise c = λ k.
    let s = c.args.script.now in
    let begun = c.in_ok-scheduler.ensures in
    let done = c.in_ok-take_turns.ensures in
    let P : List Step → Type 0 = λ l. All (FitsStep s.config (length s.txs)) l in
    let fits = subst P (sym c.from_vec.ensures)
    (fits_of c.in_ok-scheduler.scheduler c.take_turns.new.self s.config s.txs begun.start done.of done.under_way) in
    c.every_run_keeps_its_promise.ensures s.config s.txs c.from_vec.result c.requires.limits c.requires.txs fits k
