use Rattle.std.proofs.Common.{sym}
use Rattle.node_state.proofs.Passing.{passes-kept, passes-none}
use Rattle.node_state.proofs.state.NodeState.pass_kept.Goals as goal

pub returns-in_default-clause-acted : goal.returns-in_default-clause-acted
returns-in_default-clause-acted c = passes-none c.args.self.now c.args.stream.now c.args.out.now (sym c.in_default.ensures) c.requires.sent

pub returns-clause-acted : goal.returns-clause-acted
returns-clause-acted c =
    let made = c.advance_kept-advance.ensures in
    passes-kept c.args.self.now _ c.args.stream.now _ _ _ made.after made.letters made.passed c.tell.ensures
