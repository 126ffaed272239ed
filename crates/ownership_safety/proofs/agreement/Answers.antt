use Rattle.ownership_safety.proofs.Choice.{chosen-unique}
use Rattle.ownership_safety.proofs.Reached.{reached-ownership}
use Rattle.ownership_safety.proofs.agreement.Goals as goal

pub returns : goal.returns
returns c = λ o chain p q e f reached one two ver. chosen-unique o chain (reached-ownership o chain reached) p q e f one two ver
