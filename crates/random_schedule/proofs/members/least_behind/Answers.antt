use Rattle.std.proofs.Common.{ℕ, ◌≡◌, ◌≤◌, ◌∷◌, List, length, arith, subst, sym, ap, ◌∙◌}
use Rattle.zeus_base.specs.NodeLaws.{IsBelow}
use Rattle.zeus_model.specs.State.{Node}
use Rattle.zeus_model.specs.Tables.{first_of}
use Rattle.zeus_model.specs.World.{node}
use Rattle.random_schedule.specs.Schedule.{if_behind}
use Rattle.random_schedule.proofs.LastView.{not_behind, rest_below}
use Rattle.random_schedule.proofs.members.least_behind.Goals as goal

pub loop-at-preserved : goal.loop-at-preserved
loop-at-preserved c =
    let w = c.args.world.now in
    let at = c.in-Some.at in
    let rest = c.next.new.self in
    let next : c.loop-at.at-iterator ≡ at ∷ rest = c.in-Some.ensures.steps in
    let kept = c.loop-at.invariant in
    let epoch : c.epoch.result ≡ (node w at).epoch = c.epoch.ensures ∙ ap (λ (m : Node). m.epoch) c.node.ensures in
    let count : c.count-epoch.result ≡ length w.views = c.count-epoch.ensures.views ∙ ap length c.views.ensures in
    let behind : length w.views ≤ (node w at).epoch = omega (arith, c.if-epoch.false, epoch, count) in
    let P : List ℕ → Type 0 = λ l. IsBelow w.config.nodes l in
    record {
      least = not_behind w at rest behind ∙ (sym (ap (first_of (if_behind w)) next) ∙ kept.least);
      below = rest_below w.config.nodes at rest (subst P next kept.below);
    }
