use Rattle.std.proofs.Common.{◌∙◌, refl, sym}
use Rattle.crash_replay.proofs.Searching.{from_slot-found, from_slot-none, from_slot-passed}
use Rattle.crash_replay.proofs.replay.next_of.Goals as goal

pub returns-then-is_next : goal.returns-then-is_next
returns-then-is_next c =
    sym (from_slot-found c.args.log.now c.args.after.now c.args.node c.args.slots c.loop-slot.slot _ c.loop-slot-test.true refl (sym c.is_next.ensures ∙ c.if-is_next.true))
    ∙ c.loop-slot.invariant

pub loop-slot-preserved : goal.loop-slot-preserved
loop-slot-preserved c =
    from_slot-passed c.args.log.now c.args.after.now c.args.node c.args.slots c.loop-slot.slot _ c.loop-slot-test.true refl (sym c.is_next.ensures ∙ c.if-is_next.false)
    ∙ c.loop-slot.invariant

pub returns : goal.returns
returns c =
    sym (from_slot-none c.args.log.now c.args.after.now c.args.node c.args.slots c.loop-slot.slot c.loop-slot-test.false)
    ∙ c.loop-slot.invariant

pub is_next-requires : goal.is_next-requires
is_next-requires c = c.requires.streams _ c.loop-slot-test.true
