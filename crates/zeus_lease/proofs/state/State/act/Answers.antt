use Rattle.std.proofs.Common.{◌≡◌, ◌∙◌, sym, ap}
use Rattle.zeus_base.specs.TableLaws.{nth_read}
use Rattle.zeus_lease.specs.Kept.{shown}
use Rattle.zeus_lease.specs.Machine.{no_node, node}
use Rattle.zeus_lease.specs.declared.state.Node.{Node}
use Rattle.zeus_lease.proofs.Rows.{no_lease_row, acted_row, ends_row}
use Rattle.zeus_lease.proofs.state.State.act.Goals as goal

pub returns-in_default : goal.returns-in_default
returns-in_default c =
    let here : node (shown c.args.self.now) c.args.node ≡ c.index.result.now = nth_read no_node c.args.self.now.nodes.items c.args.node c.index.result.now c.requires.node (rw c.place-place.ensures at c.index.ensures) in
    no_lease_row (shown c.args.self.now) c.args.node c.index.result.now (sym c.has.ensures ∙ c.if-has.false) here c.in_default.is

pub returns-then-index-end : goal.returns-then-index-end
returns-then-index-end c =
    let first : node (shown c.args.self.now) c.args.node ≡ c.index.result.now = nth_read no_node c.args.self.now.nodes.items c.args.node c.index.result.now c.requires.node (rw c.place-place.ensures at c.index.ensures) in
    let here : node (shown c.args.self.now) c.args.node ≡ c.index-2.result.now = nth_read no_node c.args.self.now.nodes.items c.args.node c.index-2.result.now c.requires.node (rw c.place-place.ensures at c.index-2.ensures) in
    let some = ap (λ (x : Node). x.end) (sym here ∙ first) ∙ c.in-Some.is in
    acted_row (shown c.args.self.now) c.args.node c.index-2.result.now (sym c.has.ensures ∙ c.if-has.false) here c.in-Some.end some c.if-index-end.true

pub returns : goal.returns
returns c =
    let first : node (shown c.args.self.now) c.args.node ≡ c.index.result.now = nth_read no_node c.args.self.now.nodes.items c.args.node c.index.result.now c.requires.node (rw c.place-place.ensures at c.index.ensures) in
    let here : node (shown c.args.self.now) c.args.node ≡ c.index-2.result.now = nth_read no_node c.args.self.now.nodes.items c.args.node c.index-2.result.now c.requires.node (rw c.place-place.ensures at c.index-2.ensures) in
    let some = ap (λ (x : Node). x.end) (sym here ∙ first) ∙ c.in-Some.is in
    ends_row (shown c.args.self.now) c.args.node c.index-2.result.now (sym c.has.ensures ∙ c.if-has.false) here c.in-Some.end c.insert-self.result some c.if-index-end.false c.insert-self.ensures
