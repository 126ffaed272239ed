use Rattle.std.proofs.Common.{rules, ◌≡◌, ◌<◌, ◌≤◌, ◌*◌, ◌^◌, ◌∙◌, length, sym, ap, subst, Some, ℕ, arith}
use Rattle.std.proofs.Math.ListN.{set}
use Rattle.zeus_base.specs.TableLaws.{nth_read}
use Rattle.zeus_lease.specs.Kept.{shown, ask_of}
use Rattle.zeus_lease.specs.Machine.{no_ask, no_node, node}
use Rattle.zeus_lease.specs.declared.state.Ask.{Ask}
use Rattle.zeus_lease.proofs.Rows.{grant_there, ended_row, held_row, taken_row}
use Rattle.zeus_lease.proofs.state.State.take.Goals as goal

pub index-ask-requires : goal.index-ask-requires
index-ask-requires c =
    let there : c.in-Some.asked < length c.args.self.now.asks.items = grant_there (shown c.args.self.now) c.args.number c.in-Some.asked c.requires.kept (sym c.grant_at.ensures ∙ c.in-Some.is) in
    search rules

pub returns-then-has : goal.returns-then-has
returns-then-has c =
    let m = shown c.args.self.now in
    let found = sym c.grant_at.ensures ∙ c.in-Some.is in
    let there = grant_there m c.args.number c.in-Some.asked c.requires.kept found in
    let ask : ask_of m c.in-Some.asked ≡ c.index-ask.result.now = nth_read no_ask c.args.self.now.asks.items c.in-Some.asked c.index-ask.result.now there c.index-ask.ensures in
    ended_row m c.in-Some.asked c.index-ask.result.now _ found ask (sym c.has.ensures ∙ c.if-has.true)

pub overflow_add-end : goal.overflow_add-end
overflow_add-end c =
    let m = shown c.args.self.now in
    let found = sym c.grant_at.ensures ∙ c.in-Some.is in
    let there = grant_there m c.args.number c.in-Some.asked c.requires.kept found in
    let ask : ask_of m c.in-Some.asked ≡ c.index-ask.result.now = nth_read no_ask c.args.self.now.asks.items c.in-Some.asked c.index-ask.result.now there c.index-ask.ensures in
    let clock : c.index-ask.result.now.clock ≤ c.args.self.now.steps * 2 ^ 32 = subst (λ (a : Ask). a.clock ≤ c.args.self.now.steps * 2 ^ 32) ask (c.requires.kept.ranges.asks c.in-Some.asked there).1 in
    omega (arith, clock, c.requires.few, c.requires.kept.ranges.numbers.long.1)

pub index_mut-node-requires : goal.index_mut-node-requires
index_mut-node-requires c =
    let m = shown c.args.self.now in
    let found = sym c.grant_at.ensures ∙ c.in-Some.is in
    let there = grant_there m c.args.number c.in-Some.asked c.requires.kept found in
    let ask : ask_of m c.in-Some.asked ≡ c.index-ask.result.now = nth_read no_ask c.args.self.now.asks.items c.in-Some.asked c.index-ask.result.now there c.index-ask.ensures in
    let low : c.index-ask.result.now.node < length c.args.self.now.nodes.items = subst (λ (a : Ask). a.node < length c.args.self.now.nodes.items) ask (c.requires.kept.ranges.asks c.in-Some.asked there).0 in
    let same = c.place.ensures in
    search rules

pub returns : goal.returns
returns c =
    let m = shown c.args.self.now in
    let found = sym c.grant_at.ensures ∙ c.in-Some.is in
    let there = grant_there m c.args.number c.in-Some.asked c.requires.kept found in
    let ask : ask_of m c.in-Some.asked ≡ c.index-ask.result.now = nth_read no_ask c.args.self.now.asks.items c.in-Some.asked c.index-ask.result.now there c.index-ask.ensures in
    let low : c.index-ask.result.now.node < length c.args.self.now.nodes.items = subst (λ (a : Ask). a.node < length c.args.self.now.nodes.items) ask (c.requires.kept.ranges.asks c.in-Some.asked there).0 in
    let was : node m c.index-ask.result.now.node ≡ c.index_mut-node.result.now = nth_read no_node c.args.self.now.nodes.items c.index-ask.result.now.node c.index_mut-node.result.now low (rw c.place.ensures at c.index_mut-node.ensures.value) in
    let nodes = ap (λ (k : ℕ). set c.args.self.now.nodes.items k (record c.index_mut-node.result.now { end = Some c.later-end.result })) c.place.ensures in
    let held = held_row m c.index-ask.result.now _ c.index_mut-node.result.now c.later-end.result (sym c.has.ensures ∙ c.if-has.false) record { there = low; read = was; written = nodes } c.later-end.ensures in
    held ∙ taken_row m c.in-Some.asked c.index-ask.result.now _ found ask
