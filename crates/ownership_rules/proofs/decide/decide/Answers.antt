use Rattle.zeus_model.specs.State.{gather}
use Rattle.node_state.specs.EffectLaws.{adds_nothing}
use Rattle.std.proofs.Common.{refl}
use Rattle.ownership_rules.proofs.Gathers.{decide-none, decide-some, decided-fits}
use Rattle.ownership_rules.proofs.decide.decide.Goals as goal

pub carry_out-requires-clause-proposal : goal.carry_out-requires-clause-proposal
carry_out-requires-clause-proposal c =
    decided-fits c.args.node.now (gather c.args.node.now c.args.obj) c.in-Some.decision c.in-Some.ensures.decision (c.decided.ensures.ranges.gathers c.args.obj)

pub returns-in-Some : goal.returns-in-Some
returns-in-Some c = rw (decide-some c.args.node.now c.args.obj c.in-Some.decision c.in-Some.ensures.decision) c.carry_out.ensures

pub returns-in_default : goal.returns-in_default
returns-in_default c =
    rw (decide-none c.args.node.now c.args.obj c.in_default.ensures.decision) (record { becomes = refl; adds = adds_nothing c.args.out.now c.requires.room })
