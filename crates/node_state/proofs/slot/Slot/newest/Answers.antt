use Rattle.std.proofs.Common.{refl}
use Rattle.node_state.specs.SlotTries.{entry_letter}
use Rattle.node_state.proofs.slot.Slot.newest.Goals as goal

pub returns-in_err-entry : goal.returns-in_err-entry
unfolding entry_letter
returns-in_err-entry c =
    let found = rw (c.saturating_sub-place.ensures, c.len.ensures.count) at c.in_err-entry.ensures in
    rw (c.from_residual.ensures, ← c.self.view_is, ← found) refl

pub returns : goal.returns
unfolding entry_letter
returns c =
    let found = rw (c.saturating_sub-place.ensures, c.len.ensures.count) at c.in_ok-entry.ensures in
    rw (c.done.ensures, c.done-2.ensures, c.duplicate.ensures, c.saturating_sub-place.ensures, c.len.ensures.count, ← c.self.view_is, ← found) refl
