use Rattle.std.proofs.Common.{rules, ◌≡◌, ◌∷◌, ◌++◌, ◌∙◌, [], length, sym, ap}
use Rattle.zeus_base.specs.TableLaws.{nth_read}
use Rattle.zeus_lease.specs.Kept.{shown}
use Rattle.zeus_lease.specs.Machine.{no_node, node}
use Rattle.zeus_lease.specs.declared.state.Node.{Node}
use Rattle.zeus_lease.proofs.Rows.{asked_row}
use Rattle.zeus_lease.proofs.state.State.ask.Goals as goal

pub returns-clause-did : goal.returns-clause-did
returns-clause-did c =
    let here : node (shown c.args.self.now) c.args.node ≡ c.index.result.now = nth_read no_node c.args.self.now.nodes.items c.args.node c.index.result.now c.requires.node (rw c.place.ensures at c.index.ensures) in
    let grown : c.push.new.self.items ≡ c.args.self.now.asks.items ++ record { node = c.args.node; clock = c.index.result.now.clock } ∷ [] = search rules in
    let size : c.len-number.result ≡ length c.args.self.now.asks.items = search rules in
    asked_row (shown c.args.self.now) c.args.node c.index.result.now.clock c.len-number.result c.push.new.self.items (sym c.has.ensures ∙ c.if-has.false) grown (ap (λ (x : Node). x.clock) (sym here)) size
