use Rattle.std.proofs.Common.{rules}
use Rattle.owner_entry.proofs.Entries.{owns_known}
use Rattle.owner_entry.proofs.entry.EntryOwnerEntry.owns.Goals as goal

pub returns-then-eq : goal.returns-then-eq
returns-then-eq c = λ n x here mine. rw (owns_known n x _ _ here mine) (search rules)

pub returns-else-eq : goal.returns-else-eq
returns-else-eq c = λ n x here mine. rw (owns_known n x _ _ here mine) (search rules)
