-- The transactions in front are begun, so the first that is not is among the rest.
use Rattle.random_schedule.specs.Ready.{AreBegun}
use Rattle.random_schedule.proofs.queues.first_new.Given as goal

abbrev pub invariant-loop-place : goal.invariant-loop-place
invariant-loop-place l = AreBegun l.book.book l.txs l.place
