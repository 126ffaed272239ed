use Rattle.std.proofs.Common.{ℕ, ◌≡◌, ◌<◌, ◌∙◌, length, get_or, refl, sym}
use Rattle.zeus_base.specs.declared.value.Value.{Value}
use Rattle.zeus_base.specs.TableLaws.{nth_read}
use Rattle.zeus_txn.specs.Map.{no_content, content}
use Rattle.zeus_txn.proofs.ByIndex.{map-front}
use Rattle.zeus_txn.proofs.map.values_of.Goals as goal

pub loop-obj-preserved : goal.loop-obj-preserved
loop-obj-preserved c =
    let items = c.args.items.now in
    let f : ℕ → Value = λ x. (content items x).value in
    let place : c.loop-obj.obj-index < length c.args.named.now = rw (← c.as_slice-objects.ensures.list) c.loop-obj-test.true in
    let item : c.obj-item.result ≡ get_or c.args.named.now c.loop-obj.obj-index c.obj-item.result = rw (← c.as_slice-objects.ensures.list) c.obj-item.is in
    let below : c.obj-item.result < length items = rw item (c.requires c.loop-obj.obj-index c.obj-item.result place) in
    let inside : c.obj.inside.0 < length items = rw c.obj.view_is below in
    let here = nth_read no_content items c.obj.inside.0 c.index-items-obj.result inside c.index-items-obj.is in
    let front = map-front f c.as_slice-objects.result.now c.loop-obj.obj-index c.obj-item.result c.loop-obj-test.true c.obj-item.is in
    let value : (get_or items c.obj.inside.0 c.index-items-obj.result).value ≡ f c.obj-item.result = rw (← c.index-items-obj.is, ← c.obj.view_is, here) refl in
    c.push.ensures ∙ (rw (value, c.loop-obj.invariant) (sym front))
