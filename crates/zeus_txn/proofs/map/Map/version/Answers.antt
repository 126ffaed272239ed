use Rattle.std.proofs.Common.{◌<◌, length, refl}
use Rattle.zeus_base.specs.TableLaws.{nth_read}
use Rattle.zeus_txn.specs.Map.{no_content}
use Rattle.zeus_txn.proofs.map.Map.version.Goals as goal

pub returns : goal.returns
returns c =
    let inside : c.obj.inside.0 < length c.self.inside.items.items = rw (c.obj.view_is, c.self.view_is) c.requires in
    let here = nth_read no_content c.self.inside.items.items c.obj.inside.0 c.index.result.now inside c.index.ensures in
    rw (← c.self.view_is, ← c.obj.view_is, here) refl
