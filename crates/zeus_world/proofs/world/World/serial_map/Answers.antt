use Rattle.std.proofs.Common.{refl, sym, ap, ◌∙◌, ◌≡◌, drop, arith}
use Rattle.std.proofs.lemmas.List.{drop_all}
use Rattle.zeus_model.specs.Serial.{serial_map}
use Rattle.zeus_model.specs.Sound.{history_txs}
use Rattle.zeus_world.specs.Serial.{HasVersions}
use Rattle.zeus_world.specs.Shown.{shown}
use Rattle.zeus_world.proofs.Counting.{history_step, none_left, versions_start}
use Rattle.zeus_world.proofs.world.World.serial_map.Goals as goal

pub loop-place-init : goal.loop-place-init
loop-place-init c =
    let w = shown c.self.inside in
    rw (← c.self.view_is, c.in_ok-map.ensures)
    record {
      versions = versions_start w.config;
      left = refl;
    }

pub loop-place-preserved : goal.loop-place-preserved
loop-place-preserved c =
    let w = shown c.self.inside in
    let less = c.loop-place-test.true in
    let all = c.len-place-end.ensures in
    let left = rw (← c.self.view_is) at c.loop-place.invariant.left in
    let map = rw (← c.self.view_is) at c.apply_point.ensures.map in
    rw (← c.self.view_is)
    record {
      versions = rw (← c.self.view_is) at c.apply_point.ensures.versions;
      left = rw map (history_step w c.loop-place.map c.loop-place.place (omega arith)) ∙ left;
    }

pub returns : goal.returns
returns c =
    let all = c.len-place-end.ensures in
    let end = c.loop-place-test.false in
    let left = rw (← c.self.view_is) at c.loop-place.invariant.left in
    rw (← c.self.view_is) (sym (none_left (shown c.self.inside) c.loop-place.map c.loop-place.place (omega arith)) ∙ left)
