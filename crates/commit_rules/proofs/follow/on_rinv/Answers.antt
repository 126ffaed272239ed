use Rattle.reliable_commit.specs.Following.{rinv_acks, rinv_outcome}
use Rattle.commit_rules.proofs.Answering.{on_rinv-acknowledged, on_rinv-unstored}
use Rattle.commit_rules.proofs.follow.on_rinv.Goals as goal

pub returns-in-Taken : goal.returns-in-Taken
unfolding rinv_outcome rinv_acks
returns-in-Taken c =
    on_rinv-acknowledged c.args.node.now _ c.args.from c.args.r.now _ (c.in-Taken.ensures.answer c.args.from) (c.on_rinv.ensures.after c.args.from) _ _ (c.in-Taken.ensures.sent c.args.from) c.acknowledge.ensures

pub returns-in-Again : goal.returns-in-Again
unfolding rinv_outcome rinv_acks
returns-in-Again c =
    on_rinv-acknowledged c.args.node.now _ c.args.from c.args.r.now _ (c.in-Again.ensures.answer c.args.from) (c.on_rinv.ensures.after c.args.from) _ _ (c.in-Again.ensures.sent c.args.from) c.acknowledge-in-Again.ensures

pub returns-in-Gap : goal.returns-in-Gap
unfolding rinv_outcome rinv_acks
returns-in-Gap c =
    on_rinv-unstored c.args.node.now _ c.args.from c.args.r.now _ (c.in-Gap.ensures.answer c.args.from) (c.on_rinv.ensures.after c.args.from) _ (c.in-Gap.ensures.sent c.args.from) c.requires.room

pub returns-in-No : goal.returns-in-No
unfolding rinv_outcome rinv_acks
returns-in-No c =
    on_rinv-unstored c.args.node.now _ c.args.from c.args.r.now _ (c.in-No.ensures.answer c.args.from) (c.on_rinv.ensures.after c.args.from) _ (c.in-No.ensures.sent c.args.from) c.requires.room
