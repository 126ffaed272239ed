-- What follows at one moment: a live node lacks no entry that lives below one that it keeps, what passed is not stored again, and once all members have reported no entry of a non-member's stream lives.
use Rattle.replication_safety.proofs.Consequences.{own-alive, kept-committed, stored-down, no-restore, replay-over, open-reported}
use Rattle.replication_safety.proofs.entries_at_one_moment.Goals as goal

pub returns-clause-own_alive : goal.returns-clause-own_alive
returns-clause-own_alive c = own-alive

pub returns-clause-committed : goal.returns-clause-committed
returns-clause-committed c = kept-committed

pub returns-clause-stored_down : goal.returns-clause-stored_down
returns-clause-stored_down c = stored-down

pub returns-clause-no_restore : goal.returns-clause-no_restore
returns-clause-no_restore c = no-restore

pub returns-clause-replay_over : goal.returns-clause-replay_over
returns-clause-replay_over c = replay-over

pub returns-clause-open_reported : goal.returns-clause-open_reported
returns-clause-open_reported c = open-reported
