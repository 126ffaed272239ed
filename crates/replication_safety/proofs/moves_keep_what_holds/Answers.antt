-- What holds of a stream holds after each move; only the first pass of an entry raises the count of those that have passed.
use Rattle.replication_safety.proofs.Views.{keeps_NewView, keeps_Stops, keeps_Installs}
use Rattle.replication_safety.proofs.Reports.{keeps_ReportsItself, keeps_Hears}
use Rattle.replication_safety.proofs.Letters.{keeps_Tells}
use Rattle.replication_safety.proofs.Appends.{keeps_Commits, keeps_StoresNext}
use Rattle.replication_safety.proofs.Drops.{keeps_Raises}
use Rattle.replication_safety.proofs.Acks.{keeps_NotesAck}
use Rattle.replication_safety.proofs.Passing.{keeps_PassesFirst_again, keeps_PassesFirst_first}
use Rattle.replication_safety.proofs.moves_keep_what_holds.Goals as goal

pub returns-clause-new_view : goal.returns-clause-new_view
returns-clause-new_view c = keeps_NewView

pub returns-clause-stops : goal.returns-clause-stops
returns-clause-stops c = keeps_Stops

pub returns-clause-installs : goal.returns-clause-installs
returns-clause-installs c = keeps_Installs

pub returns-clause-reports : goal.returns-clause-reports
returns-clause-reports c = keeps_ReportsItself

pub returns-clause-hears : goal.returns-clause-hears
returns-clause-hears c = keeps_Hears

pub returns-clause-tells : goal.returns-clause-tells
returns-clause-tells c = keeps_Tells

pub returns-clause-commits : goal.returns-clause-commits
returns-clause-commits c = keeps_Commits

pub returns-clause-stores : goal.returns-clause-stores
returns-clause-stores c = keeps_StoresNext

pub returns-clause-raises : goal.returns-clause-raises
returns-clause-raises c = keeps_Raises

pub returns-clause-notes : goal.returns-clause-notes
returns-clause-notes c = keeps_NotesAck

pub returns-clause-passes_again : goal.returns-clause-passes_again
returns-clause-passes_again c = keeps_PassesFirst_again

pub returns-clause-passes_first : goal.returns-clause-passes_first
returns-clause-passes_first c = keeps_PassesFirst_first
