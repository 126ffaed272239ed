use Rattle.std.proofs.Common.{◌≡◌, ◌∙◌, length, refl, sym, ap}
use Rattle.zeus_txn.specs.declared.reply.Ran.{Ran}
use Rattle.zeus_txn.specs.Map.{written_map}
use Rattle.zeus_txn.specs.MapLaws.{run_at-can_write}
use Rattle.zeus_txn.proofs.MapRun.{ran-run_at}
use Rattle.zeus_txn.proofs.WriteLemmas.{refill-whole}
use Rattle.zeus_txn.proofs.map.Map.apply.Goals as goal

pub write_all-requires : goal.write_all-requires
write_all-requires c =
    let items : c.self.inside.items.items ≡ c.args.self.now = c.self.view_is in
    let ran = ran-run_at c.args.self.now c.args.tx.now c.named-named.result c.as_slice.result.now c.values_of-values.result c.as_slice-2.result.now c.run_ops-ran.result c.named-named.ensures (c.as_slice.ensures.value ∙ items) c.values_of-values.ensures c.as_slice-2.ensures.list c.run_ops-ran.ensures in
    let can = run_at-can_write c.args.self.now c.args.tx.now c.requires.objects c.requires.versions in
    rw (c.deref_mut.ensures.value, items, c.as_slice-3.ensures.list, ap (λ (r : Ran). r.writes) ran) can

pub returns-clause-reply : goal.returns-clause-reply
returns-clause-reply c =
    let items : c.self.inside.items.items ≡ c.args.self.now = c.self.view_is in
    let ran = ran-run_at c.args.self.now c.args.tx.now c.named-named.result c.as_slice.result.now c.values_of-values.result c.as_slice-2.result.now c.run_ops-ran.result c.named-named.ensures (c.as_slice.ensures.value ∙ items) c.values_of-values.ensures c.as_slice-2.ensures.list c.run_ops-ran.ensures in
    ap (λ r. r.reply) ran

pub returns-clause-map : goal.returns-clause-map
returns-clause-map c =
    let items : c.self.inside.items.items ≡ c.args.self.now = c.self.view_is in
    let ran = ran-run_at c.args.self.now c.args.tx.now c.named-named.result c.as_slice.result.now c.values_of-values.result c.as_slice-2.result.now c.run_ops-ran.result c.named-named.ensures (c.as_slice.ensures.value ∙ items) c.values_of-values.ensures c.as_slice-2.ensures.list c.run_ops-ran.ensures in
    let long : c.self.inside.items.len ≡ length c.write_all.new.items = sym (c.write_all.auto.items ∙ c.deref_mut.ensures.len) in
    let written : c.write_all.new.items ≡ written_map c.deref_mut.result.now c.as_slice-3.result.now = c.write_all.ensures in
    rw (refill-whole c.self.inside.items.len c.self.inside.items.items c.write_all.new.items long, written, c.deref_mut.ensures.value, items, c.as_slice-3.ensures.list, ap (λ (r : Ran). r.writes) ran) refl
