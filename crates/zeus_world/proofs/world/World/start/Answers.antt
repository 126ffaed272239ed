use Rattle.std.proofs.Common.{ap, refl, sym, arith}
use Rattle.zeus_base.specs.declared.config.Config.{Config}
use Rattle.zeus_model.specs.World.{start}
use Rattle.zeus_world.proofs.Keeping.{kept_start, promised_sound, reached_promised, reached_start}
use Rattle.zeus_world.proofs.Starting.{started}
use Rattle.zeus_world.proofs.world.World.start.Goals as goal

pub invariant_of-result : goal.invariant_of-result
invariant_of-result c =
    let few = c.requires.txs.few in
    let same = started c.args.config.now c.args.txs.now _ _ _ c.in_ok-new-3.field-0 c.in_ok-start_nodes.ensures c.in_ok-new.ensures c.in_ok-new-2.ensures (rw c.len.ensures at c.in_ok-new-3.ensures) in
    kept_start c.args.config.now c.args.txs.now _ c.in_ok-new-3.field-0 c.requires.limits c.requires.txs same _ c.in_ok-new-3.ensures

pub returns-clause-start : goal.returns-clause-start
returns-clause-start c =
    started c.args.config.now c.args.txs.now _ _ _ c.in_ok-new-3.field-0 c.in_ok-start_nodes.ensures c.in_ok-new.ensures c.in_ok-new-2.ensures (rw c.len.ensures at c.in_ok-new-3.ensures)

pub returns-clause-sound : goal.returns-clause-sound
returns-clause-sound c =
    rw (started c.args.config.now c.args.txs.now _ _ _ c.in_ok-new-3.field-0 c.in_ok-start_nodes.ensures c.in_ok-new.ensures c.in_ok-new-2.ensures (rw c.len.ensures at c.in_ok-new-3.ensures))
    (promised_sound _ (reached_promised _ (reached_start c.args.config.now c.args.txs.now c.requires.limits c.requires.txs) c.every_run_keeps_its_promise.ensures))

pub returns-clause-promise : goal.returns-clause-promise
returns-clause-promise c =
    rw (started c.args.config.now c.args.txs.now _ _ _ c.in_ok-new-3.field-0 c.in_ok-start_nodes.ensures c.in_ok-new.ensures c.in_ok-new-2.ensures (rw c.len.ensures at c.in_ok-new-3.ensures))
    (reached_promised _ (reached_start c.args.config.now c.args.txs.now c.requires.limits c.requires.txs) c.every_run_keeps_its_promise.ensures)
