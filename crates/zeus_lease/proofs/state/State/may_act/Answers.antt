use Rattle.std.proofs.Common.{◌≡◌, ◌∙◌, sym}
use Rattle.zeus_base.specs.TableLaws.{nth_read}
use Rattle.zeus_lease.specs.Kept.{shown}
use Rattle.zeus_lease.specs.Machine.{no_node, node}
use Rattle.zeus_lease.proofs.Rows.{may_row}
use Rattle.zeus_lease.proofs.state.State.may_act.Goals as goal

pub returns-then-not-has : goal.returns-then-not-has
returns-then-not-has c =
    let here : node (shown c.args.self.now) c.args.node ≡ c.index.result.now = nth_read no_node c.args.self.now.nodes.items c.args.node c.index.result.now c.requires.node (rw c.place.ensures at c.index.ensures) in
    may_row (shown c.args.self.now) c.args.node c.index.result.now (sym c.has.ensures ∙ c.if-not-has.true) here c.is_below_end.result c.is_below_end.ensures
