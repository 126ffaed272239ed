use Rattle.std.proofs.Common.{◌≡◌, ◌<◌, ◌+◌, [], length, refl, sym, ap, ◌∙◌, length-append, arith}
use Rattle.std.proofs.lemmas.List.{take_all}
use Rattle.zeus_model.specs.Local.{new_writes}
use Rattle.local_txn.specs.Tries.{node_of}
use Rattle.local_txn.proofs.Committing.{new_writes_more, new_writes_none, rising_read}
use Rattle.local_txn.proofs.commit.new_writes.Goals as goal

pub loop-place-init : goal.loop-place-init
loop-place-init c = record {
  items = c.new-writes.ensures ∙ new_writes_none (node_of 0 [] c.args.copies.now.copies) c.args.values.now;
  size = rw c.new-writes.ensures refl;
}

pub overflow_add-ver : goal.overflow_add-ver
overflow_add-ver c =
    let here : c.loop-place.place < length c.args.values.now = omega arith in
    let is = rw c.as_slice.ensures.list at c.index-as_slice-place.is in
    let rises = rising_read c.args.copies.now.copies c.args.values.now c.loop-place.place c.index-as_slice-place.result c.requires here is in
    let other : c.version-ver.result ≡ 18446744073709551615 → ⊥ = λ e. rises (sym c.version-ver.ensures ∙ e) in
    omega arith

pub loop-place-preserved : goal.loop-place-preserved
loop-place-preserved c =
    let n = node_of 0 [] c.args.copies.now.copies in
    let here : c.loop-place.place < length c.args.values.now = omega arith in
    let is = rw c.as_slice.ensures.list at c.index-as_slice-place.is in
    let pushed = rw c.version-ver.ensures at c.push.ensures in
    record {
      items =
          pushed
          ∙ rw c.loop-place.invariant.items
          (sym (new_writes_more n c.args.values.now c.loop-place.place c.index-as_slice-place.result here is));
      size = rw pushed (length-append _ _ ∙ ap (λ k. k + 1) c.loop-place.invariant.size);
    }

pub returns : goal.returns
returns c =
    let all = take_all c.loop-place.place c.args.values.now (omega arith) in
    c.loop-place.invariant.items ∙ ap (new_writes (node_of 0 [] c.args.copies.now.copies)) all
