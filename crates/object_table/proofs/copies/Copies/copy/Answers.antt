use Rattle.std.proofs.Common.{None}
use Rattle.object_table.proofs.Changing.{nth_found, nth_past}
use Rattle.object_table.proofs.copies.Copies.copy.Goals as goal

pub returns-in-Some : goal.returns-in-Some
returns-in-Some c = nth_found None _ _ _ (rw c.object_place.ensures at c.in-Some.ensures)

pub returns-in-None : goal.returns-in-None
returns-in-None c = nth_past None _ _ (rw c.object_place.ensures at c.in-None.ensures)
