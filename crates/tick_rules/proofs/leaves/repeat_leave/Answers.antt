use Rattle.std.proofs.Common.{sym}
use Rattle.node_state.specs.EffectLaws.{adds_nothing}
use Rattle.tick_rules.proofs.Leaving.{leave-asked, leave-none}
use Rattle.tick_rules.proofs.Saying.{adds_full}
use Rattle.tick_rules.proofs.leaves.repeat_leave.Goals.{else-not-is_full-via-then-not-is_full+else-leaves, else-not-is_full-via-else-not-is_full}
use Rattle.tick_rules.proofs.leaves.repeat_leave.Goals as goal

pub returns-then-leaves : goal.returns-then-leaves
returns-then-leaves c = rw (leave-asked c.args.node.now c.args.obj (sym c.if-leaves.ensures)) c.request.ensures

pub returns-else-not-is_full : goal.returns-else-not-is_full
returns-else-not-is_full c =
    elim c.else-not-is_full.branch [
      | else-not-is_full-via-then-not-is_full+else-leaves w ↦ rw (leave-none c.args.node.now c.args.obj (sym w.if-leaves.ensures)) (adds_nothing _ c.is_full.ensures.most)
      | else-not-is_full-via-else-not-is_full w ↦ adds_full _ _ w.if-not-is_full.ensures.full c.is_full.ensures.most
    ]
