use Rattle.std.proofs.Common.{ℕ, ◌-◌, ◌∙◌, [], ap}
use Rattle.zeus_base.specs.Nodes.{has}
use Rattle.zeus_model.specs.Tables.{nth}
use Rattle.zeus_packet.specs.declared.place.View.{View}
use Rattle.zeus_lease.proofs.Rows.{last_read}
use Rattle.zeus_lease.proofs.state.State.is_member.Goals as goal

pub returns-in-Some : goal.returns-in-Some
returns-in-Some c =
    let views = c.args.self.now.views in
    c.has.ensures ∙ ap (has c.args.node) (ap (λ (v : View). v.members) c.in-Some.ensures.view ∙ ap (λ (n : ℕ). nth [] views (n - 1)) c.count.ensures.views ∙ last_read views)
