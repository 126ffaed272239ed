use Rattle.std.proofs.Common.{ap}
use Rattle.zeus_model.specs.State.{Node}
use Rattle.node_state.proofs.Passing.{passes-own}
use Rattle.node_state.proofs.state.NodeState.pass_own.Goals as goal

pub returns-clause-acted : goal.returns-clause-acted
returns-clause-acted c =
    let made = c.advance_own-advance.ensures in
    passes-own c.args.self.now _ c.args.slot _ _ _ c.requires.slot made.after made.letters made.passed
    (rw (ap (λ (n : Node). n.me) c.self.view_is) at c.tell.ensures)
