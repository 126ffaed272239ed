-- No move takes anything back: stops, epochs, what is known to have passed, and entries stay.
use Rattle.replication_safety.proofs.Views.{grows_NewView, grows_Stops, grows_Installs}
use Rattle.replication_safety.proofs.Reports.{grows_ReportsItself, grows_Hears}
use Rattle.replication_safety.proofs.Letters.{grows_Tells}
use Rattle.replication_safety.proofs.Appends.{grows_Commits, grows_StoresNext}
use Rattle.replication_safety.proofs.Drops.{grows_Raises}
use Rattle.replication_safety.proofs.Acks.{grows_NotesAck}
use Rattle.replication_safety.proofs.Passing.{grows_PassesFirst}
use Rattle.replication_safety.proofs.Start.{grows-rises}
use Rattle.replication_safety.proofs.moves_take_nothing_back.Goals as goal

pub returns-clause-new_view : goal.returns-clause-new_view
returns-clause-new_view c = λ old new set s. grows-rises old new (grows_NewView old new set s)

pub returns-clause-stops : goal.returns-clause-stops
returns-clause-stops c = λ old new n s. grows-rises old new (grows_Stops old new n s)

pub returns-clause-installs : goal.returns-clause-installs
returns-clause-installs c = λ old new n e s. grows-rises old new (grows_Installs old new n e s)

pub returns-clause-reports : goal.returns-clause-reports
returns-clause-reports c = λ old new n s. grows-rises old new (grows_ReportsItself old new n s)

pub returns-clause-hears : goal.returns-clause-hears
returns-clause-hears c = λ old new n a s. grows-rises old new (grows_Hears old new n a s)

pub returns-clause-tells : goal.returns-clause-tells
returns-clause-tells c = λ old new n s. grows-rises old new (grows_Tells old new n s)

pub returns-clause-commits : goal.returns-clause-commits
returns-clause-commits c = λ old new x s. grows-rises old new (grows_Commits old new x s)

pub returns-clause-stores : goal.returns-clause-stores
returns-clause-stores c = λ old new n x s. grows-rises old new (grows_StoresNext old new n x s)

pub returns-clause-raises : goal.returns-clause-raises
returns-clause-raises c = λ old new passed n d s. grows-rises old new (grows_Raises old new passed n d s)

pub returns-clause-notes : goal.returns-clause-notes
returns-clause-notes c = λ old new n k a s. grows-rises old new (grows_NotesAck old new n k a s)

pub returns-clause-passes : goal.returns-clause-passes
returns-clause-passes c = λ old new n s. grows-rises old new (grows_PassesFirst old new n s)
