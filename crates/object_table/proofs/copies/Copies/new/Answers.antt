use Rattle.std.proofs.Common.{refl}
use Rattle.zeus_model.specs.World.{start_copy}
use Rattle.object_table.proofs.Changing.{IsTable-start}
use Rattle.object_table.proofs.copies.Copies.new.Goals as goal

pub invariant_of-result : goal.invariant_of-result
invariant_of-result c =
    IsTable-start (start_copy c.args.me) c.as_slice-objects.result.now _ _ _ c.in_ok-copies.ensures c.in_ok-holds.ensures refl
