use Rattle.std.proofs.Common.{◌≡◌, sym, ap, ◌∙◌, arith}
use Rattle.zeus_model.specs.World.{World}
use Rattle.zeus_world.proofs.Keeping.{known}
use Rattle.zeus_world.proofs.Standing.{owner_whole, owner_there, owner_not_live, owner_not_owned, owner_past}
use Rattle.zeus_world.proofs.world.World.owner.Goals.{else-is_live-via-then-is_live+else-owns, else-is_live-via-else-is_live}
use Rattle.zeus_world.proofs.world.World.owner.Goals as goal

pub loop-number-init : goal.loop-number-init
loop-number-init c = owner_whole c.args.self.now c.args.obj

pub returns-then-owns : goal.returns-then-owns
returns-then-owns c =
    let count : c.self.inside.config.now.nodes ≡ c.args.self.now.config.nodes = ap (λ (w : World). w.config.nodes) c.self.view_is in
    let here = rw count at c.loop-number-test.true in
    sym
    (owner_there c.args.self.now c.args.obj c.loop-number.number here (sym c.is_live.ensures ∙ c.if-is_live.true) (sym c.owns.ensures ∙ c.if-owns.true))
    ∙ c.loop-number.invariant

pub loop-number-preserved : goal.loop-number-preserved
loop-number-preserved c =
    let count : c.self.inside.config.now.nodes ≡ c.args.self.now.config.nodes = ap (λ (w : World). w.config.nodes) c.self.view_is in
    let here = rw count at c.loop-number-test.true in
    elim c.else-is_live.branch [
      | else-is_live-via-then-is_live+else-owns w ↦
          sym
          (owner_not_owned c.args.self.now c.args.obj c.loop-number.number here (sym c.is_live.ensures ∙ w.if-is_live.true) (sym w.owns.ensures ∙ w.if-owns.false))
          ∙ c.loop-number.invariant
      | else-is_live-via-else-is_live w ↦
          sym (owner_not_live c.args.self.now c.args.obj c.loop-number.number here (sym c.is_live.ensures ∙ w.if-is_live.false)) ∙ c.loop-number.invariant
    ]

pub returns : goal.returns
returns c =
    let count : c.self.inside.config.now.nodes ≡ c.args.self.now.config.nodes = ap (λ (w : World). w.config.nodes) c.self.view_is in
    let past = rw count at c.loop-number-test.false in
    sym (owner_past c.args.self.now c.args.obj c.loop-number.number past) ∙ c.loop-number.invariant

pub owns-requires : goal.owns-requires
owns-requires c =
    let ranged = (known _ _ c.self.invariant).ranged in
    let count = ranged.count in
    rw (← c.self.view_is) (omega arith)
