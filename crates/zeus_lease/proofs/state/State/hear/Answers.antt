use Rattle.std.proofs.Common.{rules, true, ◌≡◌, ◌<◌, ◌+◌, ◌∷◌, ◌++◌, ◌∙◌, [], length, max, sym, ap, ℕ}
use Rattle.std.proofs.Math.ListN.{set}
use Rattle.zeus_base.specs.Nodes.{has}
use Rattle.zeus_base.specs.TableLaws.{nth_read}
use Rattle.zeus_model.specs.World.{last_view}
use Rattle.zeus_lease.specs.Kept.{shown}
use Rattle.zeus_lease.specs.Machine.{no_node, node, wait}
use Rattle.zeus_lease.proofs.Rows.{granted_row, heard_row, found_ask}
use Rattle.zeus_lease.proofs.state.State.hear.Goals as goal

pub returns-clause-did : goal.returns-clause-did
returns-clause-did c =
    let m = shown c.args.self.now in
    let a = c.in-Some.ask in
    let found = sym c.ask_at.ensures ∙ c.in-Some.is in
    let member : has a.node (last_view c.args.self.now.views) ≡ true = sym c.is_member.ensures ∙ c.if-not-is_member.false in
    let there : a.node < length c.args.self.now.nodes.items = found_ask m c.args.number a c.requires.kept found in
    let was : node m a.node ≡ c.index_mut-node.result.now = nth_read no_node c.args.self.now.nodes.items a.node c.index_mut-node.result.now there (rw c.place.ensures at c.index_mut-node.ensures.value) in
    let expiry : c.max-node.result ≡ max c.index_mut-node.result.now.expiry (c.args.self.now.service + wait m) = c.max-node.ensures ∙ ap (λ (w : ℕ). max c.index_mut-node.result.now.expiry (c.args.self.now.service + w)) c.wait.ensures in
    let nodes = ap (λ (k : ℕ). set c.args.self.now.nodes.items k (record c.index_mut-node.result.now { expiry = c.max-node.result })) c.place.ensures
    ∙ ap (λ (w : ℕ). set c.args.self.now.nodes.items a.node (record c.index_mut-node.result.now { expiry = w })) expiry in
    let grown : c.push.new.self.items ≡ c.args.self.now.grants.items ++ c.args.number ∷ [] = search rules in
    let size : c.len-grant.result ≡ length c.args.self.now.grants.items = search rules in
    let granted = granted_row m c.args.number a.node _ c.push.new.self.items c.len-grant.result c.index_mut-node.result.now record { there = there; read = was; written = nodes } grown size in
    granted ∙ heard_row m c.args.number a _ found member
