use Rattle.std.proofs.Common.{None, sym}
use Rattle.zeus_base.specs.TableLaws.{nth_found, nth_none}
use Rattle.arbitration.proofs.gathers.Gathers.gather.Goals as goal

pub returns-in-Some : goal.returns-in-Some
returns-in-Some c = sym (nth_found None _ _ _ (rw c.place.ensures at c.in-Some.ensures))

pub returns-in-None : goal.returns-in-None
returns-in-None c = sym (nth_none None _ _ (rw c.place.ensures at c.in-None.ensures))
