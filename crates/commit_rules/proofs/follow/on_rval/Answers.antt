use Rattle.reliable_commit.specs.Following.{rval_outcome}
use Rattle.commit_rules.proofs.Answering.{on_rval-quiet}
use Rattle.commit_rules.proofs.follow.on_rval.Goals as goal

pub returns-in-Taken : goal.returns-in-Taken
unfolding rval_outcome
returns-in-Taken c = on_rval-quiet c.args.node.now _ c.args.s c.args.done _ c.in-Taken.ensures.answer c.on_rval.ensures.after

pub returns-in-Again : goal.returns-in-Again
unfolding rval_outcome
returns-in-Again c = on_rval-quiet c.args.node.now _ c.args.s c.args.done _ c.in-Again.ensures.answer c.on_rval.ensures.after

pub returns-in-No : goal.returns-in-No
unfolding rval_outcome
returns-in-No c = on_rval-quiet c.args.node.now _ c.args.s c.args.done _ c.in-No.ensures.answer c.on_rval.ensures.after
