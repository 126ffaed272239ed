use Rattle.std.proofs.Common.{ℕ, ◌≡◌, List, sym, ap, ◌∙◌}
use Rattle.std.specs.Prelude.{Some, slice_get}
use Rattle.zeus_txn.specs.declared.tx.TxDecl.{TxDecl}
use Rattle.zeus_txn.specs.Map.{applied_map}
use Rattle.zeus_world.specs.Shown.{shown}
use Rattle.zeus_world.proofs.Counting.{applied_none, names_few, names_objects, ops_none, ops_there, versions_after}
use Rattle.zeus_world.proofs.Keeping.{known}
use Rattle.zeus_world.proofs.world.World.apply_point.Goals as goal

pub apply-requires-clause-objects : goal.apply-requires-clause-objects
apply-requires-clause-objects c =
    let w = shown c.self.inside in
    let size = rw (← c.self.view_is) at c.requires.versions.size in
    let found = rw c.place.ensures at c.in-Some-get.ensures in
    names_objects w c.in-Some.point.0 c.in-Some-get.declared.now c.args.map.now (known _ _ c.self.invariant).ranged found size

pub returns-in-Some-get-clause-map : goal.returns-in-Some-get-clause-map
returns-in-Some-get-clause-map c =
    let w = shown c.self.inside in
    let found = rw c.place.ensures at c.in-Some-get.ensures in
    rw (← c.self.view_is) (c.apply.ensures.map ∙ ap (applied_map c.args.map.now) (sym (ops_there (shown c.self.inside) c.args.place _ c.in-Some-get.declared.now c.in-Some.ensures found)))

pub returns-in-Some-get-clause-versions : goal.returns-in-Some-get-clause-versions
returns-in-Some-get-clause-versions c =
    let w = shown c.self.inside in
    let found = rw c.place.ensures at c.in-Some-get.ensures in
    rw c.apply.ensures.map (versions_after _ c.args.place c.args.map.now _ c.requires.versions (names_few (shown c.self.inside) c.in-Some.point.0 c.in-Some-get.declared.now (known _ _ c.self.invariant).ranged found))

pub returns-in_default-get-clause-map : goal.returns-in_default-get-clause-map
returns-in_default-get-clause-map c =
    let found = rw c.place.ensures at c.in_default-get.ensures in
    rw (← c.self.view_is) (sym (applied_none c.args.map.now) ∙ ap (applied_map c.args.map.now) (sym (ops_none (shown c.self.inside) c.args.place _ c.in-Some.ensures found)))
