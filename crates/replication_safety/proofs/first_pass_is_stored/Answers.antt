-- An entry that passes for the first time is kept by each of its live followers, whoever passes it; an unpassed entry is the same wherever it is kept; and while the stream's own node lives, no other passes.
use Rattle.replication_safety.proofs.Passing.{first_pass-stored, passes-own}
use Rattle.replication_safety.proofs.Consequences.{content-agrees}
use Rattle.replication_safety.proofs.first_pass_is_stored.Goals as goal

pub returns-clause-stored : goal.returns-clause-stored
returns-clause-stored c = first_pass-stored

pub returns-clause-content : goal.returns-clause-content
returns-clause-content c = content-agrees

pub returns-clause-own : goal.returns-clause-own
returns-clause-own c = passes-own
