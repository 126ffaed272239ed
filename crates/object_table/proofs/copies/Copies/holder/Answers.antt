use Rattle.std.proofs.Common.{None, ap, ◌∙◌, sym}
use Rattle.zeus_base.specs.TableLaws.{nth_found, nth_none}
use Rattle.object_table.specs.Table.{hold_slot}
use Rattle.object_table.proofs.copies.Copies.holder.Goals as goal

pub returns-in-Some : goal.returns-in-Some
returns-in-Some c =
    c.hold_slot.ensures ∙ ap hold_slot (sym (nth_found None _ _ _ (rw c.place.ensures at c.in-Some.ensures)))

pub returns-in-None : goal.returns-in-None
unfolding hold_slot
returns-in-None c = ap hold_slot (sym (nth_none None _ _ (rw c.place.ensures at c.in-None.ensures)))
