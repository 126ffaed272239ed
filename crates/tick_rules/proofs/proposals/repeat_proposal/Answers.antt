use Rattle.std.proofs.Common.{sym}
use Rattle.node_state.specs.EffectLaws.{adds_nothing, adds_room, adds-append}
use Rattle.tick_rules.proofs.Driving.{proposal-driven, proposal-lost, proposal-none}
use Rattle.tick_rules.proofs.Saying.{adds_full}
use Rattle.tick_rules.proofs.proposals.repeat_proposal.Goals as goal

pub returns-in_default : goal.returns-in_default
returns-in_default c = rw (proposal-none c.args.node.now c.args.obj c.args.held.now c.in_default.is) (adds_nothing _ c.requires)

pub returns-then-is_full : goal.returns-then-is_full
returns-then-is_full c = adds_full _ _ c.if-is_full.ensures.full c.is_full.ensures.most

pub acknowledge_own-requires : goal.acknowledge_own-requires
acknowledge_own-requires c = adds_room _ _ _ _ c.send_invalidations.ensures

pub returns-then-is_some : goal.returns-then-is_some
returns-then-is_some c =
    let n = c.args.node.now in
    rw (proposal-driven n c.args.obj c.args.held.now c.in-Some.p c.in-Some.is (rw (c.source.ensures, c.members.ensures) at (sym c.if-is_some.ensures)))
    (adds-append _ _ _ _ _ _ _ c.send_invalidations.ensures c.acknowledge_own.ensures)

pub returns-else-is_some : goal.returns-else-is_some
returns-else-is_some c =
    let n = c.args.node.now in
    rw (proposal-lost n c.args.obj c.args.held.now c.in-Some.p c.in-Some.is (rw (c.source.ensures, c.members.ensures) at (sym c.if-is_some.ensures)))
    (adds_nothing _ c.is_full.ensures.most)
