use Rattle.commit_rules.proofs.Answering.{on_rack-quiet}
use Rattle.commit_rules.proofs.follow.on_rack.Goals as goal

pub returns-then-on_rack : goal.returns-then-on_rack
returns-then-on_rack c =
    on_rack-quiet c.args.node.now _ c.args.from c.args.s c.args.number _ c.if-on_rack.ensures.answer c.on_rack.ensures.after

pub returns-else-on_rack : goal.returns-else-on_rack
returns-else-on_rack c =
    on_rack-quiet c.args.node.now _ c.args.from c.args.s c.args.number _ c.if-on_rack.ensures.answer c.on_rack.ensures.after
