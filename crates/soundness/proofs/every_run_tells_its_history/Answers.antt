use Rattle.soundness.proofs.RunsTold.{run-told, run-told_replies, run-once}
use Rattle.soundness.proofs.every_run_tells_its_history.Goals as goal

pub returns-clause-counted : goal.returns-clause-counted
returns-clause-counted c = λ config txs steps keeps fit fits. (run-told config txs steps keeps fit fits).counted

pub returns-clause-begun : goal.returns-clause-begun
returns-clause-begun c = λ config txs steps keeps fit fits. (run-told config txs steps keeps fit fits).begun

pub returns-clause-points : goal.returns-clause-points
returns-clause-points c = λ config txs steps keeps fit fits. (run-told config txs steps keeps fit fits).points

pub returns-clause-point_steps : goal.returns-clause-point_steps
returns-clause-point_steps c = λ config txs steps keeps fit fits. (run-told config txs steps keeps fit fits).point

pub returns-clause-ack_steps : goal.returns-clause-ack_steps
returns-clause-ack_steps c = λ config txs steps keeps fit fits. (run-told config txs steps keeps fit fits).acked

pub returns-clause-acked_once : goal.returns-clause-acked_once
returns-clause-acked_once c = λ config txs steps keeps fit fits. (run-told config txs steps keeps fit fits).acked_once

pub returns-clause-entries : goal.returns-clause-entries
returns-clause-entries c = λ config txs steps keeps fit fits. (run-told config txs steps keeps fit fits).entry

pub returns-clause-replies : goal.returns-clause-replies
returns-clause-replies c = λ config txs steps keeps fit fits. (run-told config txs steps keeps fit fits).reply

pub returns-clause-once_committed : goal.returns-clause-once_committed
returns-clause-once_committed c = λ config txs steps keeps fit fits. (run-once config txs steps keeps fit fits).answered

pub returns-clause-own_entry : goal.returns-clause-own_entry
returns-clause-own_entry c = λ config txs steps keeps fit fits. (run-once config txs steps keeps fit fits).entries

pub returns-clause-told_replies : goal.returns-clause-told_replies
returns-clause-told_replies c = λ config txs steps keeps fit fits. run-told_replies config txs steps keeps fit fits
