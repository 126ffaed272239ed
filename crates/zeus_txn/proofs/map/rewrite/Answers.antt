use Rattle.std.proofs.Common.{◌<◌, ◌+◌, length, refl, arith}
use Rattle.zeus_base.specs.Tables.{nth}
use Rattle.zeus_base.specs.TableLaws.{nth_read, put-set}
use Rattle.zeus_txn.specs.Map.{no_content}
use Rattle.zeus_txn.proofs.map.rewrite.Goals as goal

pub returns : goal.returns
returns c =
    let items = c.args.items.now in
    let inside : c.obj.inside.0 < length items = rw c.obj.view_is c.requires.object in
    let here = nth_read no_content items c.obj.inside.0 c.index-items-obj.result inside c.index-items-obj.is in
    rw (← c.obj.view_is, here, ← c.index-items-obj.is, put-set no_content items c.obj.inside.0 (record { ver = c.index-items-obj.result.ver + 1; value = c.args.value }) inside) refl

pub overflow_add-item : goal.overflow_add-item
overflow_add-item c =
    let items = c.args.items.now in
    let inside : c.obj.inside.0 < length items = rw c.obj.view_is c.requires.object in
    let here = nth_read no_content items c.obj.inside.0 c.index-items-obj.result inside c.index-items-obj.is in
    let low : (nth no_content items c.obj.inside.0).ver < 18446744073709551615 = rw c.obj.view_is c.requires.version in
    let lower : c.index-items-obj.result.ver < 18446744073709551615 = rw (← here) low in
    rw (← c.index-items-obj.is) (omega arith)
