use Rattle.owner_entry.proofs.Entries.{holding_known}
use Rattle.owner_entry.proofs.entry.EntryOwnerEntry.hold.Goals as goal

pub returns-clause-after : goal.returns-clause-after
returns-clause-after c = λ n x here. holding_known n x _ c.args.p.now here
