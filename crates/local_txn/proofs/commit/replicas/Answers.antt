use Rattle.std.proofs.Common.{◌≡◌, ◌<◌, ◌+◌, ◌-◌, ℕ, suc, [], length, refl, sym, ap, ◌∙◌, arith}
use Rattle.zeus_base.specs.Nodes.{join}
use Rattle.zeus_model.specs.State.{entry}
use Rattle.local_txn.specs.Tries.{node_of}
use Rattle.local_txn.proofs.Committing.{replicas_none, replicas_step, within_at}
use Rattle.local_txn.proofs.commit.replicas.Goals as goal

pub loop-turn-init : goal.loop-turn-init
loop-turn-init c =
    let all : c.len-count.result - 0 ≡ c.len-count.result = omega arith in
    rw all (c.empty-all.ensures ∙ replicas_none (node_of 0 c.args.dir.now.entries []) c.args.writes.now _ (omega arith))

pub entry-requires : goal.entry-requires
entry-requires c =
    let place = c.len-count.result - 1 - c.loop-turn.turn in
    let here : place < length c.args.writes.now = omega arith in
    let is = rw c.as_slice.ensures at c.index-as_slice-count.is in
    rw is (within_at _ c.args.writes.now place c.index-as_slice-count.result c.requires here)

pub loop-turn-preserved : goal.loop-turn-preserved
loop-turn-preserved c =
    let n = node_of 0 c.args.dir.now.entries [] in
    let place : ℕ = c.len-count.result - (c.loop-turn.turn + 1) in
    let there : c.len-count.result - 1 - c.loop-turn.turn ≡ place = omega arith in
    let next : suc place ≡ c.len-count.result - c.loop-turn.turn = omega arith in
    let here : place < length c.args.writes.now = omega arith in
    let is = rw (there, c.as_slice.ensures) at c.index-as_slice-count.is in
    c.join-all.ensures ∙ rw c.entry.ensures (ap (join (entry n c.index-as_slice-count.result.obj).place.replicas) (c.loop-turn.invariant ∙ rw next refl))
    ∙ sym (replicas_step n c.args.writes.now place c.index-as_slice-count.result here is)

pub returns : goal.returns
returns c =
    let none : c.len-count.result - c.loop-turn.turn ≡ 0 = omega arith in
    rw none at c.loop-turn.invariant
