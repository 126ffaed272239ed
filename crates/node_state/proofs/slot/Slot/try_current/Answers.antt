use Rattle.std.proofs.Common.{sym, ap, ◌∙◌}
use Rattle.zeus_model.specs.State.{Slot}
use Rattle.node_state.specs.SlotTries.{current_after}
use Rattle.node_state.proofs.SlotTrying.{current_named, node_of-slot, nothing_tried, read_tried, tables_held, write_tried, write_held}
use Rattle.node_state.proofs.slot.Slot.try_current.Goals as goal

pub returns-in_default : goal.returns-in_default
returns-in_default c =
    record {
      does = λ n at.
          let current = sym (ap (λ (l : Slot). l.current) c.self.view_is) ∙ sym c.in_default.ensures.value in
          record { tried = nothing_tried _ _ _ _ _ n at current; held = tables_held _ _ _ _ _ n at };
    }

pub returns-then-not-is_write : goal.returns-then-not-is_write
returns-then-not-is_write c =
    let current = sym (ap (λ (l : Slot). l.current) c.self.view_is) ∙ sym c.in-Some.ensures.value in
    let reads = sym c.is_write.ensures ∙ c.if-not-is_write.true in
    record {
      does = λ n at.
          record {
            tried = read_tried _ _ _ _ _ n at c.in-Some.current.now.id c.in-Some.current.now.tx _ current reads (c.try_read.ensures n at.copies);
            held = tables_held _ _ _ _ _ n at;
          };
    }

pub try_write-tried-requires-clause-objects : goal.try_write-tried-requires-clause-objects
try_write-tried-requires-clause-objects c =
    current_named _ _ c.in-Some.current.now (sym (ap (λ (l : Slot). l.current) c.self.view_is) ∙ sym c.in-Some.ensures.value) c.requires.objects

pub returns : goal.returns
returns c =
    let view = c.self.view_is in
    let current = sym (ap (λ (l : Slot). l.current) view) ∙ sym c.in-Some.ensures.value in
    let id = c.in-Some.current.now.id in
    let tx = c.in-Some.current.now.tx in
    let tried = c.try_write-tried in
    let does = tried.ensures.does in
    let left = ap (λ (l : Slot). l.current) c.leave.ensures ∙ ap (λ (l : Slot). current_after tried.result l.current) view in
    let done = ap (λ (l : Slot). l.done) c.leave.ensures ∙ does.done ∙ ap (λ (l : Slot). l.done) view in
    record {
      does = λ n at.
          let of = node_of-slot _ _ _ _ _ n at c.self.inside.pipe (ap (λ (l : Slot). l.done) view) (ap (λ (l : Slot). l.pending) view) in
          let acts = does.acts n of in
          let pending = ap (λ (l : Slot). l.pending) c.leave.ensures ∙ acts.pending in
          record {
            tried = write_tried _ _ _ _ _ n at id tx _ _ _ current acts.answer acts.copies left done pending (sym c.is_write.ensures ∙ c.if-not-is_write.false);
            held = write_held _ _ _ _ _ n at id tx _ _ _ current acts.answer acts.copies left done pending _ acts.holds;
          };
    }
