use Rattle.std.proofs.Common.{length, take}
use Rattle.zeus_model.specs.Scripts.{FitsStep}
use Rattle.soundness.proofs.Moments.{never-refused}
use Rattle.soundness.proofs.Runs.{All-take, run-sound}
use Rattle.soundness.proofs.RunsTold.{run-in_order, run-once, run-placed, run-told, run-told_replies}
use Rattle.soundness.proofs.every_run_keeps_its_promise.Goals as goal

pub returns : goal.returns
returns c = λ config txs steps keeps fit fits k.
    let first = take k steps in
    let those = All-take (FitsStep config (length txs)) k steps fits in
    record {
      sound = run-sound config txs first keeps fit those;
      in_order = run-in_order config txs first keeps fit those;
      placed = run-placed config txs first keeps fit those;
      told = run-told config txs first keeps fit those;
      told_replies = run-told_replies config txs first keeps fit those;
      once = run-once config txs first keeps fit those;
      never = never-refused config txs first keeps those;
    }
