-- A committed entry gets the next number; what a node stores is what the stream's own node committed, and has not passed.
use Rattle.replication_safety.proofs.Entries.{commits-entry, stores-unpassed, stores-entry, tells-repeats}
use Rattle.replication_safety.proofs.what_moves_add.Goals as goal

pub returns-clause-commits : goal.returns-clause-commits
returns-clause-commits c = commits-entry

pub returns-clause-stores_unpassed : goal.returns-clause-stores_unpassed
returns-clause-stores_unpassed c = stores-unpassed

pub returns-clause-stores_entry : goal.returns-clause-stores_entry
returns-clause-stores_entry c = stores-entry

pub returns-clause-repeats : goal.returns-clause-repeats
returns-clause-repeats c = tells-repeats
