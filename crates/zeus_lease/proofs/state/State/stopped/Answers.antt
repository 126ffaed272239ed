use Rattle.std.proofs.Common.{rules, ◌≡◌, ◌<◌, ℕ, length, arith, ap}
use Rattle.std.proofs.lemmas.Bool.Decides.{nat_tests}
use Rattle.zeus_base.specs.Nodes.{has}
use Rattle.zeus_base.specs.TableLaws.{nth_read}
use Rattle.zeus_lease.specs.Kept.{shown}
use Rattle.zeus_lease.specs.Machine.{no_node, node}
use Rattle.zeus_lease.specs.declared.state.Node.{Node}
use Rattle.zeus_lease.proofs.Rows.{stopped_then, stopped_else}
use Rattle.zeus_lease.proofs.state.State.stopped.Goals as goal
use Rattle.zeus_lease.proofs.state.State.stopped.Goals.{then-index-self, else-index-self}

pub loop-place-init : goal.loop-place-init
unfolding has
loop-place-init c = λ n. rw c.empty-stopped.ensures (grind (arith, nat_tests))

pub loop-place-preserved : goal.loop-place-preserved
loop-place-preserved c =
    let m = shown c.args.self.now in
    let f = λ (n : ℕ). (node m n).expiry in
    let there : c.loop-place.place < length c.args.self.now.nodes.items = search rules in
    let here : node m c.loop-place.place ≡ c.index.result.now = nth_read no_node c.args.self.now.nodes.items c.loop-place.place c.index.result.now there c.index.ensures in
    let expiry : f c.loop-place.place ≡ c.index.result.now.expiry = ap (λ (x : Node). x.expiry) here in
    elim c.if-index-self.branch [
      | then-index-self w ↦ rw (w.stopped-is, w.insert-stopped.ensures) (stopped_then f c.args.self.now.service c.loop-place.place c.loop-place.stopped c.loop-place.invariant (rw expiry w.if-index-self.true))
      | else-index-self w ↦ rw w.stopped-is (stopped_else f c.args.self.now.service c.loop-place.place c.loop-place.stopped c.loop-place.invariant (rw expiry w.if-index-self.false))
    ]
