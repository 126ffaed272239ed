use Rattle.std.proofs.Common.{◌≡◌, ◌≤◌, length, sym, ap, arith}
use Rattle.zeus_base.specs.TableLaws.{nth_read}
use Rattle.zeus_model.specs.Membership.{repeat_proposal}
use Rattle.zeus_model.specs.State.{entry, no_entry}
use Rattle.node_state.specs.EffectLaws.{adds_nothing}
use Rattle.tick_rules.proofs.Driving.{proposals-closed, proposals-open}
use Rattle.tick_rules.proofs.Saying.{each-end, each-start, each-step}
use Rattle.tick_rules.proofs.proposals.repeat_proposals.Goals as goal

pub returns-then-not-is_open : goal.returns-then-not-is_open
returns-then-not-is_open c = rw (proposals-closed c.args.node.now (sym c.if-not-is_open.ensures)) (adds_nothing _ c.requires)

pub loop-place-init : goal.loop-place-init
loop-place-init c = each-start (λ x. repeat_proposal c.args.node.now x (entry c.args.node.now x).proposal) (length c.args.node.now.entries) _ _ (proposals-open c.args.node.now (sym c.if-not-is_open.ensures)) c.requires

pub loop-place-preserved : goal.loop-place-preserved
loop-place-preserved c =
    let n = c.args.node.now in
    let i = c.loop-place.place in
    let item = c.entry-item.result in
    let here : entry n i ≡ item = nth_read no_entry n.entries i item (rw c.entries-entry-items.ensures.entries at c.loop-place-test.true) (rw c.entries-entry-items.ensures.entries at c.entry-item.is) in
    each-step (λ x. repeat_proposal n x (entry n x).proposal) (length n.entries) _ i _ _ _ (rw c.entries-entry-items.ensures.entries at c.loop-place-test.true) c.loop-place.invariant (rw here c.repeat_proposal.ensures)

pub returns : goal.returns
returns c =
    let done : length c.args.node.now.entries ≤ c.loop-place.place = omega (arith, ap length c.entries-entry-items.ensures.entries) in
    each-end (λ x. repeat_proposal c.args.node.now x (entry c.args.node.now x).proposal) (length c.args.node.now.entries) _ c.loop-place.place _ _ done c.loop-place.invariant
