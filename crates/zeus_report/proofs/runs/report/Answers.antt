use Rattle.zeus_report.proofs.runs.report.Goals as goal

pub returns-in_err-world-clause-promise : goal.returns-in_err-world-clause-promise
returns-in_err-world-clause-promise c = λ k.
    let s = c.args.script.now in
    c.every_run_keeps_its_promise.ensures s.config s.txs s.steps c.requires.config c.requires.txs c.requires.steps k

pub returns-in_err-text-clause-promise : goal.returns-in_err-text-clause-promise
returns-in_err-text-clause-promise c = λ k.
    let s = c.args.script.now in
    c.every_run_keeps_its_promise.ensures s.config s.txs s.steps c.requires.config c.requires.txs c.requires.steps k

pub returns-clause-promise : goal.returns-clause-promise
returns-clause-promise c = λ k.
    let s = c.args.script.now in
    c.every_run_keeps_its_promise.ensures s.config s.txs s.steps c.requires.config c.requires.txs c.requires.steps k
