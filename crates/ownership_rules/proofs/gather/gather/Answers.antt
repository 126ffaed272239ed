use Rattle.std.proofs.Common.{refl, sym, ◌∙◌}
use Rattle.zeus_model.specs.Ownership.{gather_for, greater_gather}
use Rattle.zeus_model.specs.State.{gather as gather_of}
use Rattle.arbitration.specs.Gathering.{outcome_of}
use Rattle.arbitration.specs.GatheringLaws.{gather_or_older-gathered, gather_or_older-greater}
use Rattle.node_state.specs.EffectLaws.{adds_nothing}
use Rattle.ownership_rules.proofs.Gathers.{again-none, gathered-older, new-none, older-greater}
use Rattle.ownership_rules.proofs.gather.gather.Goals as goal

pub returns-in-Older : goal.returns-in-Older
unfolding outcome_of
returns-in-Older c =
    let n = c.args.node.now in
    let p = c.args.p.now in
    let g = gather_of n c.args.obj in
    let told = sym c.in-Older.is ∙ c.take_ack.ensures.answer in
    let greater = older-greater (gather_for p g) c.args.from c.args.content.now (greater_gather p.stamp g) c.in-Older.stamp told in
    rw (gather_or_older-greater n c.args.from c.args.obj p c.args.content.now c.in-Older.stamp greater, ← told)
    (record {
      says = refl;
      becomes = c.take_ack.ensures.after ∙ gathered-older n c.args.obj c.args.from p c.args.content.now c.in-Older.stamp (rw c.take_ack.ensures.ranges.sizes.gathers c.requires.object) greater;
      adds = adds_nothing c.args.out.now c.requires.room;
    })

pub returns-in-New : goal.returns-in-New
unfolding outcome_of
returns-in-New c =
    let n = c.args.node.now in
    let p = c.args.p.now in
    let g = gather_of n c.args.obj in
    let told = sym c.in-New.is ∙ c.take_ack.ensures.answer in
    let none = new-none (gather_for p g) c.args.from c.args.content.now (greater_gather p.stamp g) told in
    let acted = rw c.take_ack.ensures.after at c.decide.ensures in
    rw (gather_or_older-gathered n c.args.from c.args.obj p c.args.content.now none, ← told)
    (record { says = refl; becomes = acted.becomes; adds = acted.adds })

pub returns-in-Again : goal.returns-in-Again
unfolding outcome_of
returns-in-Again c =
    let n = c.args.node.now in
    let p = c.args.p.now in
    let g = gather_of n c.args.obj in
    let told = sym c.in-Again.is ∙ c.take_ack.ensures.answer in
    let none = again-none (gather_for p g) c.args.from c.args.content.now (greater_gather p.stamp g) told in
    let acted = rw c.take_ack.ensures.after at c.decide-in-Again.ensures in
    rw (gather_or_older-gathered n c.args.from c.args.obj p c.args.content.now none, ← told)
    (record { says = refl; becomes = acted.becomes; adds = acted.adds })
