-- An entry that lives after a move lived before it, or was committed by it.
use Rattle.replication_safety.proofs.Alive.{alive_NewView, alive_Stops, alive_Installs, alive_ReportsItself, alive_Hears, alive_Tells, alive_Commits, alive_StoresNext, alive_Raises, alive_NotesAck, alive_PassesFirst}
use Rattle.replication_safety.proofs.what_lives_lived_before.Goals as goal

pub returns-clause-new_view : goal.returns-clause-new_view
returns-clause-new_view c = alive_NewView

pub returns-clause-stops : goal.returns-clause-stops
returns-clause-stops c = alive_Stops

pub returns-clause-installs : goal.returns-clause-installs
returns-clause-installs c = alive_Installs

pub returns-clause-reports : goal.returns-clause-reports
returns-clause-reports c = alive_ReportsItself

pub returns-clause-hears : goal.returns-clause-hears
returns-clause-hears c = alive_Hears

pub returns-clause-tells : goal.returns-clause-tells
returns-clause-tells c = alive_Tells

pub returns-clause-commits : goal.returns-clause-commits
returns-clause-commits c = alive_Commits

pub returns-clause-stores : goal.returns-clause-stores
returns-clause-stores c = alive_StoresNext

pub returns-clause-raises : goal.returns-clause-raises
returns-clause-raises c = alive_Raises

pub returns-clause-notes : goal.returns-clause-notes
returns-clause-notes c = alive_NotesAck

pub returns-clause-passes : goal.returns-clause-passes
returns-clause-passes c = alive_PassesFirst
