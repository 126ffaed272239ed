use Rattle.std.proofs.Common.{length, sym, arith}
use Rattle.zeus_base.specs.Tables.{below}
use Rattle.zeus_model.specs.Membership.{repeat_kept}
use Rattle.tick_rules.proofs.Saying.{each-end, each-skip, each-start, each-step, letters-outside, of_stranger, of_stranger-member, of_stranger-other}
use Rattle.tick_rules.proofs.entries.repeat_stored.Goals.{then-not-has, else-not-has}
use Rattle.tick_rules.proofs.entries.repeat_stored.Goals as goal

pub loop-other-init : goal.loop-other-init
loop-other-init c =
    let n = c.args.node.now in
    let slots = below (length n.slots) in
    each-start (of_stranger (repeat_kept n) n.members slots) (length n.logs) _ _ (letters-outside (repeat_kept n) n.members slots (below (length n.logs))) c.requires

pub loop-other-preserved : goal.loop-other-preserved
loop-other-preserved c =
    let n = c.args.node.now in
    let slots = below (length n.slots) in
    elim c.if-not-has.branch [
      | then-not-has w ↦
          rw w.out-is
          (each-step (of_stranger (repeat_kept n) n.members slots) (length n.logs) _ c.loop-other.other _ _ _ (omega arith) c.loop-other.invariant
          (rw (of_stranger-other (repeat_kept n) n.members slots c.loop-other.other (rw c.members.ensures at (sym w.if-not-has.ensures))) w.repeat_streams.ensures))
      | else-not-has w ↦
          rw w.out-is
          (each-skip (of_stranger (repeat_kept n) n.members slots) (length n.logs) _ c.loop-other.other _ _ (omega arith)
          (of_stranger-member (repeat_kept n) n.members slots c.loop-other.other (rw c.members.ensures at (sym w.if-not-has.ensures))) c.loop-other.invariant)
    ]

pub returns : goal.returns
returns c =
    let n = c.args.node.now in
    each-end (of_stranger (repeat_kept n) n.members (below (length n.slots))) (length n.logs) _ c.loop-other.other _ _ (omega arith) c.loop-other.invariant
