use Rattle.std.proofs.Common.{None, ◌<◌, ◌+◌, length, map, refl, sym, ap, ◌∙◌, length-append, arith}
use Rattle.std.proofs.lemmas.List.{take_all}
use Rattle.zeus_txn.specs.Ops.{named}
use Rattle.zeus_model.specs.State.{value_of}
use Rattle.zeus_model.specs.Tables.{nth}
use Rattle.replica_reads.proofs.Mapped.{map_more}
use Rattle.replica_reads.proofs.run.values.Goals as goal

pub loop-place-init : goal.loop-place-init
loop-place-init c = record { items = c.new-values.ensures; size = rw c.new-values.ensures refl }

pub push-requires : goal.push-requires
push-requires c =
    let size = c.loop-place.invariant.size in
    let few = c.len-count.ensures.few in
    omega arith

pub loop-place-preserved : goal.loop-place-preserved
loop-place-preserved c =
    let list = c.as_slice.ensures.list ∙ c.named-named.ensures in
    let count = c.len-count.ensures.value ∙ ap length c.named-named.ensures in
    let here : c.loop-place.place < length (named c.args.tx.now) = omega arith in
    let is = rw list at c.index-as_slice-place.is in
    record {
      items =
          rw (c.push.ensures, c.value.ensures, c.loop-place.invariant.items)
          (sym (map_more (λ x. value_of (nth None c.args.copies.now.copies x)) (named c.args.tx.now) c.loop-place.place c.index-as_slice-place.result here is));
      size = rw (c.push.ensures) (length-append _ _ ∙ ap (λ k. k + 1) c.loop-place.invariant.size);
    }

pub returns : goal.returns
returns c =
    let count = c.len-count.ensures.value ∙ ap length c.named-named.ensures in
    let all = take_all c.loop-place.place (named c.args.tx.now) (omega arith) in
    c.loop-place.invariant.items ∙ ap (map (λ x. value_of (nth None c.args.copies.now.copies x))) all
