use Rattle.zeus_model.specs.Membership.{repeats}
use Rattle.node_state.specs.EffectLaws.{adds_room, adds-append}
use Rattle.tick_rules.proofs.timer.repeat.Goals as goal

pub repeat_own-requires : goal.repeat_own-requires
repeat_own-requires c = adds_room _ _ _ _ c.repeat_report.ensures

pub repeat_stored-requires : goal.repeat_stored-requires
repeat_stored-requires c = adds_room _ _ _ _ c.repeat_own.ensures

pub repeat_requests-requires : goal.repeat_requests-requires
repeat_requests-requires c = adds_room _ _ _ _ c.repeat_stored.ensures

pub repeat_proposals-requires : goal.repeat_proposals-requires
repeat_proposals-requires c = adds_room _ _ _ _ c.repeat_requests.ensures

pub repeat_done-requires : goal.repeat_done-requires
repeat_done-requires c = adds_room _ _ _ _ c.repeat_proposals.ensures

pub repeat_leaves-requires : goal.repeat_leaves-requires
repeat_leaves-requires c = adds_room _ _ _ _ c.repeat_done.ensures

pub returns : goal.returns
unfolding repeats
returns c =
    let two = adds-append _ _ _ _ _ _ _ c.repeat_report.ensures c.repeat_own.ensures in
    let three = adds-append _ _ _ _ _ _ _ two c.repeat_stored.ensures in
    let four = adds-append _ _ _ _ _ _ _ three c.repeat_requests.ensures in
    let five = adds-append _ _ _ _ _ _ _ four c.repeat_proposals.ensures in
    let six = adds-append _ _ _ _ _ _ _ five c.repeat_done.ensures in
    adds-append _ _ _ _ _ _ _ six c.repeat_leaves.ensures
