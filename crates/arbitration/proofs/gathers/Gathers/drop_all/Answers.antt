use Rattle.std.proofs.Common.{rules, ◌≡◌, ◌<◌, ◌≤◌, length, refl, arith}
use Rattle.arbitration.proofs.Noting.{emptied-end, emptied-next, emptied-zero}
use Rattle.arbitration.proofs.gathers.Gathers.drop_all.Goals as goal

pub loop-place-init : goal.loop-place-init
loop-place-init c = emptied-zero _

pub loop-place-preserved : goal.loop-place-preserved
loop-place-preserved c =
    let size : c.len-place-end.result ≡ length c.self.inside.gathers.items = search rules in
    let here : c.loop-place.place < length c.self.inside.gathers.items = omega arith in
    emptied-next c.loop-place.place _ _ _ c.loop-place.invariant here refl

pub returns-clause-after : goal.returns-clause-after
returns-clause-after c =
    let size : c.len-place-end.result ≡ length c.self.inside.gathers.items = search rules in
    let past : length c.self.inside.gathers.items ≤ c.loop-place.place = omega arith in
    rw (← c.self.view_is) (emptied-end c.loop-place.place _ _ c.loop-place.invariant past)
