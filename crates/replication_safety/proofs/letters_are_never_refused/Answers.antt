-- No letter goes to a node that would refuse it for the stream being its own or its window being full, and what a letter says to have passed has passed.
use Rattle.replication_safety.proofs.Received.{stores-foreign, passes-foreign, stores-room, stores-known, passes-known}
use Rattle.replication_safety.proofs.letters_are_never_refused.Goals as goal

pub returns-clause-entry_foreign : goal.returns-clause-entry_foreign
returns-clause-entry_foreign c = stores-foreign

pub returns-clause-done_foreign : goal.returns-clause-done_foreign
returns-clause-done_foreign c = passes-foreign

pub returns-clause-room : goal.returns-clause-room
returns-clause-room c = stores-room

pub returns-clause-entry_known : goal.returns-clause-entry_known
returns-clause-entry_known c = stores-known

pub returns-clause-done_known : goal.returns-clause-done_known
returns-clause-done_known c = passes-known
