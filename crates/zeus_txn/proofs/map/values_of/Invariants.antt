use Rattle.std.proofs.Common.{◌≡◌, map, take}
use Rattle.zeus_txn.specs.Map.{content}
use Rattle.zeus_txn.proofs.map.values_of.Given as goal

abbrev pub invariant-loop-obj : goal.invariant-loop-obj
invariant-loop-obj l = l.values ≡ map (λ x. (content l.items x).value) (take l.obj-index l.objects)
