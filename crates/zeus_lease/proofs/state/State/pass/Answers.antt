use Rattle.std.proofs.Common.{rules, ◌≡◌, ◌∙◌, None, length, sym, ap}
use Rattle.std.specs.Vec.{with_items}
use Rattle.std.proofs.lemmas.List.{with_items_is}
use Rattle.zeus_lease.specs.Kept.{shown}
use Rattle.zeus_lease.proofs.Clocks.{length-went_on}
use Rattle.zeus_lease.specs.Machine.{skew, went_on}
use Rattle.zeus_lease.proofs.Rows.{passed_row}
use Rattle.zeus_lease.proofs.state.State.pass.Goals as goal

pub returns : goal.returns
returns c =
    let ticks = c.args.ticks.now in
    let none : skew c.args.self.now.percent ticks (length ticks) ≡ None = sym c.skew.ensures ∙ c.in_default.is in
    let nodes : c.go_on.new.nodes ≡ went_on c.args.self.now.nodes.items ticks = c.go_on.ensures ∙ ap (λ ns. went_on ns ticks) c.as_mut_slice.ensures.value in
    let size : c.len.result ≡ length c.args.self.now.nodes.items = search rules in
    let count : length c.go_on.new.nodes ≡ c.args.self.now.nodes.len = ap length nodes ∙ length-went_on c.args.self.now.nodes.items ticks ∙ sym c.args.self.now.nodes.ok.0 in
    passed_row (shown c.args.self.now) ticks (with_items c.args.self.now.nodes c.go_on.new.nodes).items c.len.result c.requires.count none (with_items_is c.args.self.now.nodes c.go_on.new.nodes count ∙ nodes) size
