use Rattle.std.proofs.Common.{◌<◌, ◌^◌, get_or, length, refl, ◌∙◌, arith}
use Rattle.zeus_lease.specs.Machine.{no_node}
use Rattle.zeus_lease.proofs.Clocks.{front_on, front_on-all}
use Rattle.zeus_lease.proofs.Rows.{front_read, front_more}
use Rattle.zeus_lease.proofs.state.go_on.Goals as goal

pub loop-place-init : goal.loop-place-init
unfolding front_on
loop-place-init c = refl

pub overflow_add-nodes : goal.overflow_add-nodes
overflow_add-nodes c =
    let same = front_read c.loop-place.place c.args.nodes.now c.loop-place.nodes c.args.ticks.now c.loop-place.invariant in
    let clock : (get_or c.loop-place.nodes c.loop-place.place no_node).clock < 2 ^ 63 = rw same (c.requires.clocks c.loop-place.place) in
    let few : c.loop-place.place < length c.args.ticks.now = omega (arith, c.loop-place-test.true, c.requires.few) in
    let tick : get_or c.args.ticks.now c.loop-place.place 0 < 2 ^ 32 = c.requires.ticks c.loop-place.place 0 few in
    omega (arith, clock, tick)

pub loop-place-preserved : goal.loop-place-preserved
loop-place-preserved c =
    let few : c.loop-place.place < length c.args.ticks.now = omega (arith, c.loop-place-test.true, c.requires.few) in
    front_more c.loop-place.place c.args.nodes.now c.loop-place.nodes c.args.ticks.now c.loop-place.invariant c.loop-place-test.true few

pub returns : goal.returns
returns c = c.loop-place.invariant ∙ front_on-all c.loop-place.place c.args.nodes.now c.args.ticks.now c.loop-place-test.false
