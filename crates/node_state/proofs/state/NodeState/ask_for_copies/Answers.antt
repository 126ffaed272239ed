use Rattle.std.proofs.Common.{sym}
use Rattle.node_state.specs.EffectLaws.{adds_nothing}
use Rattle.node_state.proofs.Requesting.{for_copies-none, for_copies-some}
use Rattle.node_state.proofs.state.NodeState.ask_for_copies.Goals as goal

pub returns-in-Some : goal.returns-in-Some
returns-in-Some c = rw (for_copies-some c.args.self.now _ c.in-Some.current.now (sym c.in-Some.ensures)) (rw c.named.ensures at c.request_uncopied-in-Some.ensures)

pub returns-in_default : goal.returns-in_default
returns-in_default c = rw (for_copies-none c.args.self.now _ (sym c.in_default.ensures)) (adds_nothing c.args.out.now c.requires.room)
