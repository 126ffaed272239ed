use Rattle.ownership_safety.proofs.KeepsViews.{keeps_NewView, keeps_Stops, keeps_Installs}
use Rattle.ownership_safety.proofs.KeepsSpeech.{keeps_Drives, keeps_Accepts, keeps_Redrives}
use Rattle.ownership_safety.proofs.KeepsGathers.{keeps_Notes, keeps_Tells}
use Rattle.ownership_safety.proofs.KeepsSettled.{keeps_Settles, keeps_Decides}
use Rattle.ownership_safety.proofs.Start.{start-ownership}
use Rattle.ownership_safety.proofs.Reached.{run-ownership}
use Rattle.ownership_safety.proofs.order_kept.Goals as goal

pub returns-clause-start : goal.returns-clause-start
returns-clause-start c = λ o start. start-ownership o start

pub returns-clause-new_view : goal.returns-clause-new_view
returns-clause-new_view c = λ old new chain set ownership move. keeps_NewView old new set move chain ownership

pub returns-clause-stops : goal.returns-clause-stops
returns-clause-stops c = λ old new chain n ownership move. keeps_Stops old new n move chain ownership

pub returns-clause-installs : goal.returns-clause-installs
returns-clause-installs c = λ old new chain n e ownership move. keeps_Installs old new n e move chain ownership

pub returns-clause-settles : goal.returns-clause-settles
returns-clause-settles c = λ old new chain n u ownership move. keeps_Settles old new chain ownership n u move

pub returns-clause-drives : goal.returns-clause-drives
returns-clause-drives c = λ old new chain n p ownership move. keeps_Drives old new n p move chain ownership

pub returns-clause-accepts : goal.returns-clause-accepts
returns-clause-accepts c = λ old new chain n p ownership move. keeps_Accepts old new n p move chain ownership

pub returns-clause-redrives : goal.returns-clause-redrives
returns-clause-redrives c = λ old new chain n p ownership move. keeps_Redrives old new n p move chain ownership

pub returns-clause-notes : goal.returns-clause-notes
returns-clause-notes c = λ old new chain n a p d ownership move. keeps_Notes old new n p a d move chain ownership

pub returns-clause-decides : goal.returns-clause-decides
returns-clause-decides c = λ old new chain n g ownership move. keeps_Decides old new chain ownership n g move

pub returns-clause-tells : goal.returns-clause-tells
returns-clause-tells c = λ old new chain n ownership move. keeps_Tells old new n move chain ownership

pub returns-clause-run : goal.returns-clause-run
returns-clause-run c = λ old new chain longer ownership run. run-ownership old chain new longer ownership run
