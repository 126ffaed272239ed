-- What is written and the lines of the steps that are left stay the lines of all, and so do the world and the steps.
use Rattle.std.proofs.Common.{◌≡◌, ◌++◌, drop}
use Rattle.zeus_model.specs.ReportText.{steps_text}
use Rattle.zeus_model.specs.World.{run}
use Rattle.zeus_report.proofs.runs.write_events.Given as goal

abbrev pub invariant-loop-place : goal.invariant-loop-place
invariant-loop-place l =
    record {
      text : l.out.items ++ steps_text l.names l.world l.place (drop l.place l.steps) ≡ l.fn.out.items ++ steps_text l.names l.fn.world 0 l.steps;
      world : run l.world (drop l.place l.steps) ≡ run l.fn.world l.steps;
      config : l.world.config ≡ l.fn.world.config;
      txs : l.world.txs ≡ l.fn.world.txs;
    }
