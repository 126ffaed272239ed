use Rattle.std.proofs.Common.{◌≤◌, ◌∷◌, [], length, refl, arith}
use Rattle.zeus_txn.specs.Ops.{named, written, written_after}
use Rattle.zeus_txn.specs.RunLaws.{HasRoom-none, HasRoom-few}
use Rattle.zeus_txn.proofs.WrittenLemmas.{written_after-step, written_after-room, written-whole}
use Rattle.zeus_txn.proofs.tx.Tx.written.Goals as goal

pub loop-op-init : goal.loop-op-init
unfolding written
loop-op-init c =
    record { walked = rw c.new-all.ensures refl; room = rw c.new-all.ensures (HasRoom-none (named c.ops-ops.result.now)) }

pub add_written-requires : goal.add_written-requires
add_written-requires c =
    let ops = c.ops-ops.result.now in
    let room = written_after-room ops c.loop-op.all c.loop-op.op-index c.op-item.result c.loop-op-test.true c.op-item.is c.loop-op.invariant.room in
    let few : length (named ops) ≤ 8 = rw c.ops-ops.ensures.list c.ops-ops.ensures.limits.objects in
    omega (arith, HasRoom-few (written_after c.loop-op.all (c.op-item.result ∷ [])) (named ops) room)

pub loop-op-preserved : goal.loop-op-preserved
loop-op-preserved c =
    let ops = c.ops-ops.result.now in
    let next = written_after-step ops c.loop-op.all c.loop-op.op-index c.op-item.result c.loop-op-test.true c.op-item.is c.loop-op.invariant.walked in
    let room = written_after-room ops c.loop-op.all c.loop-op.op-index c.op-item.result c.loop-op-test.true c.op-item.is c.loop-op.invariant.room in
    record { walked = rw c.add_written.ensures next; room = rw c.add_written.ensures room }

pub returns : goal.returns
returns c =
    rw (← c.ops-ops.ensures.list) (written-whole c.ops-ops.result.now c.loop-op.all c.loop-op.op-index (omega arith) c.loop-op.invariant.walked)
