-- Each clause is part of what a drive keeps.
use Rattle.live_replay.proofs.Costs.{drive-few, drive-bound}
use Rattle.live_replay.proofs.Driving.{drive-going}
use Rattle.live_replay.proofs.MergedLive.{merged-live}
use Rattle.live_replay.proofs.drives_go_on_live_runs.Goals as goal

pub returns-clause-merged : goal.returns-clause-merged
returns-clause-merged c = merged-live

pub returns-clause-driven : goal.returns-clause-driven
returns-clause-driven c = λ p before rounds limits txs live. let g = drive-going p before rounds record { limits = limits; txs = txs.each } live in g.live

pub returns-clause-world : goal.returns-clause-world
returns-clause-world c = λ p before rounds limits txs live. let g = drive-going p before rounds record { limits = limits; txs = txs.each } live in g.world

pub returns-clause-ended : goal.returns-clause-ended
returns-clause-ended c = λ p before rounds limits txs live. let g = drive-going p before rounds record { limits = limits; txs = txs.each } live in g.ended

pub returns-clause-few : goal.returns-clause-few
returns-clause-few c = λ p before rounds limits txs live. drive-few p before rounds record { limits = limits; txs = txs.each } live

pub returns-clause-bound : goal.returns-clause-bound
returns-clause-bound c = λ p before rounds limits txs live few many long. drive-bound p before rounds record { limits = limits; txs = txs.each } live few many long
