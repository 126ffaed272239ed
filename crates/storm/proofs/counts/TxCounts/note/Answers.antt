use Rattle.std.proofs.Common.{◌∙◌, ap, arith}
use Rattle.std.specs.Prelude.{Bool, ℕ, if◌then◌else◌, not}
use Rattle.zeus_model.specs.Readers.{is_acked, is_closed}
use Rattle.storm.specs.Counts.{has_failed, is_cut_off, is_refused, is_unfinished}
use Rattle.storm.specs.declared.counts.TxCounts.{TxCounts}
use Rattle.storm.proofs.Counting.{counted-next, one-more-few}
use Rattle.storm.proofs.counts.TxCounts.note.Goals as goal

pub overflow_add-self : goal.overflow_add-self
overflow_add-self c =
    let few = one-more-few (is_acked c.args.world.now) c.args.id c.args.self.now.acked c.one_if.result _ (ap (λ (t : TxCounts). t.acked) c.requires.counted) c.one_if.ensures in
    omega (arith, few, c.requires.few)

pub overflow_add-self-2 : goal.overflow_add-self-2
overflow_add-self-2 c =
    let few = one-more-few (has_failed c.args.world.now) c.args.id c.args.self.now.failed c.one_if-2.result _ (ap (λ (t : TxCounts). t.failed) c.requires.counted) c.one_if-2.ensures in
    omega (arith, few, c.requires.few)

pub overflow_add-self-3 : goal.overflow_add-self-3
overflow_add-self-3 c =
    let few = one-more-few (is_refused c.args.world.now) c.args.id c.args.self.now.refused c.one_if-3.result _ (ap (λ (t : TxCounts). t.refused) c.requires.counted) c.one_if-3.ensures in
    omega (arith, few, c.requires.few)

pub overflow_add-self-4 : goal.overflow_add-self-4
overflow_add-self-4 c =
    let few = one-more-few (is_cut_off c.args.world.now) c.args.id c.args.self.now.stopped c.one_if-4.result _ (ap (λ (t : TxCounts). t.stopped) c.requires.counted) c.one_if-4.ensures in
    omega (arith, few, c.requires.few)

pub overflow_add-self-5 : goal.overflow_add-self-5
overflow_add-self-5 c =
    let few = one-more-few (is_unfinished c.args.world.now) c.args.id c.args.self.now.unfinished c.one_if-5.result _ (ap (λ (t : TxCounts). t.unfinished) c.requires.counted) c.one_if-5.ensures in
    omega (arith, few, c.requires.few)

pub returns : goal.returns
returns c =
    let One : Bool → ℕ = λ b. if b then 1 else 0 in
    counted-next c.args.world.now c.args.id c.args.self.now c.one_if.result c.one_if-2.result c.one_if-3.result c.one_if-4.result c.one_if-5.result c.requires.counted
    (c.one_if.ensures ∙ ap One (rw c.book.ensures at c.is_acked.ensures))
    (c.one_if-2.ensures ∙ ap One c.has_failed.ensures)
    (c.one_if-3.ensures ∙ ap One (rw c.book-2.ensures at c.is_refused.ensures))
    (c.one_if-4.ensures ∙ ap One c.is_cut_off.ensures)
    (c.one_if-5.ensures ∙ ap (λ (b : Bool). One (not b)) c.is_closed.ensures)
