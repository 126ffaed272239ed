use Rattle.std.proofs.Common.{None}
use Rattle.zeus_model.specs.Commit.{validated}
use Rattle.object_table.proofs.Changing.{set_changed}
use Rattle.object_table.proofs.copies.Copies.validate.Goals as goal

pub returns-clause-copies : goal.returns-clause-copies
returns-clause-copies c = λ value.
    let there = rw c.place.ensures at c.index_mut-copy.ensures.value in
    let here = rw (← c.self.view_is) at c.requires in
    rw (← c.self.view_is, c.place.ensures, c.validated.ensures c.args.obj value)
    (set_changed None (validated record { obj = c.args.obj; ver = c.args.ver; value = value }) _ _ _ here there)
