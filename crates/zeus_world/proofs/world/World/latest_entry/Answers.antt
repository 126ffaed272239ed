use Rattle.std.proofs.Common.{◌≤◌, ◌+◌, drop, length, sym, ap, ◌∙◌, arith}
use Rattle.zeus_model.specs.declared.state.Entry.{Entry}
use Rattle.zeus_model.specs.Sound.{newest}
use Rattle.zeus_model.specs.World.{World}
use Rattle.zeus_world.proofs.Keeping.{known}
use Rattle.zeus_world.proofs.Standing.{newest_whole, newest_newer, newest_older, newest_past}
use Rattle.zeus_world.proofs.world.World.latest_entry.Goals.{then-is_below, else-is_below}
use Rattle.zeus_world.proofs.world.World.latest_entry.Goals as goal

pub loop-node-init : goal.loop-node-init
loop-node-init c =
    let list = ap (λ (w : World). w.nodes) c.self.view_is in
    let ranged = (known _ _ c.self.invariant).ranged in
    let count = ranged.count in
    let one = ranged.limits.nodes.0 in
    let some : 1 ≤ length c.self.inside.nodes.items = omega arith in
    newest_whole c.args.self.now c.args.obj c.index.result.now _ (rw (← list) some) (rw list at c.index.ensures) c.known_entry-latest.ensures

pub loop-node-preserved : goal.loop-node-preserved
loop-node-preserved c =
    let list = c.deref-node-items.ensures.value ∙ ap (λ (w : World). w.nodes) c.self.view_is in
    let here = rw list at c.loop-node-test.true in
    let is = rw list at c.node-item.is in
    elim c.if-is_below.branch [
      | then-is_below w ↦
          ap (λ (k : Entry). newest c.args.obj k (drop (c.loop-node.node-index + 1) c.args.self.now.nodes)) w.latest-is
          ∙ sym
          (newest_newer c.args.obj c.loop-node.node-index c.loop-node.latest _ _ _ here is c.known_entry-entry.ensures (sym c.is_below.ensures ∙ w.if-is_below.true))
          ∙ c.loop-node.invariant
      | else-is_below w ↦
          ap (λ (k : Entry). newest c.args.obj k (drop (c.loop-node.node-index + 1) c.args.self.now.nodes)) w.latest-is
          ∙ sym
          (newest_older c.args.obj c.loop-node.node-index c.loop-node.latest _ _ _ here is c.known_entry-entry.ensures (sym c.is_below.ensures ∙ w.if-is_below.false))
          ∙ c.loop-node.invariant
    ]

pub returns : goal.returns
returns c =
    let list = c.deref-node-items.ensures.value ∙ ap (λ (w : World). w.nodes) c.self.view_is in
    let past = rw list at c.loop-node-test.false in
    sym (newest_past c.args.obj c.loop-node.node-index c.loop-node.latest _ past) ∙ c.loop-node.invariant

pub index-requires : goal.index-requires
index-requires c =
    let ranged = (known _ _ c.self.invariant).ranged in
    let count = ranged.count in
    let one = ranged.limits.nodes.0 in
    omega arith
