use Rattle.std.proofs.Common.{sym}
use Rattle.node_state.specs.EffectLaws.{adds_nothing}
use Rattle.tick_rules.proofs.Driving.{own-beside, own-ready, own-silent}
use Rattle.tick_rules.proofs.proposals.acknowledge_own.Goals.{else-is_source-via-then-is_source+else-is_some, else-is_source-via-else-is_source}
use Rattle.tick_rules.proofs.proposals.acknowledge_own.Goals as goal

pub returns-then-is_some : goal.returns-then-is_some
returns-then-is_some c =
    rw (own-silent c.args.node.now c.args.obj c.args.p.now (sym c.if-is_source.ensures) (rw c.unready_cause.ensures at (sym c.if-is_some.ensures))) (adds_nothing _ c.requires)

pub returns : goal.returns
returns c =
    let told = rw (c.collector.ensures, c.me.ensures.number) at c.acknowledge.ensures in
    elim c.else-is_source.branch [
      | else-is_source-via-then-is_source+else-is_some w ↦
          rw (own-ready c.args.node.now c.args.obj c.args.p.now (sym w.if-is_source.ensures) (rw w.unready_cause.ensures at (sym w.if-is_some.ensures))) told
      | else-is_source-via-else-is_source w ↦ rw (own-beside c.args.node.now c.args.obj c.args.p.now (sym w.if-is_source.ensures)) told
    ]
