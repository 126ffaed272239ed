use Rattle.std.proofs.Common.{◌+◌, Option, None}
use Rattle.zeus_base.specs.TableLaws.{nth_read}
use Rattle.zeus_packet.specs.declared.write.Write.{Write}
use Rattle.zeus_model.specs.declared.state.Copy.{Copy}
use Rattle.zeus_model.specs.Local.{rewritten_copy}
use Rattle.zeus_model.specs.State.{version_of}
use Rattle.object_table.proofs.Changing.{set_changed}
use Rattle.object_table.proofs.copies.Copies.write.Goals as goal

pub rewritten-requires : goal.rewritten-requires
rewritten-requires c =
    let there = rw c.place.ensures at c.index_mut-copy.ensures.value in
    let here = rw (← c.self.view_is) at c.requires.place in
    let room = rw (← c.self.view_is) at c.requires.room in
    rw (nth_read None _ _ _ here there) at room

pub returns-clause-copies : goal.returns-clause-copies
returns-clause-copies c =
    let there = rw c.place.ensures at c.index_mut-copy.ensures.value in
    let here = rw (← c.self.view_is) at c.requires.place in
    let next : Option Copy → Option Copy = λ o.
    let w : Write = record { obj = c.args.obj; ver = version_of o + 1; value = c.args.value } in
    rewritten_copy w o
    in
    rw (← c.self.view_is, c.place.ensures, c.rewritten.ensures c.args.obj) (set_changed None next _ _ _ here there)
