use Rattle.std.proofs.Common.{ℕ, ◌≡◌, ◌<◌, ◌≤◌, ◌+◌, refl, [], ap, ◌∙◌, length, arith, subst, List}
use Rattle.zeus_base.specs.declared.order.Stream.{Stream}
use Rattle.zeus_model.specs.Tables.{nth}
use Rattle.history_book.specs.Ids.{IdsState, no_ids}
use Rattle.history_book.specs.Entries.{HasEntries}
use Rattle.history_book.proofs.Rows.{holds_append, holds_below, no_rows}
use Rattle.history_book.proofs.entries.Entries.new.Goals as goal

pub loop-node-init : goal.loop-node-init
unfolding HasEntries
loop-node-init c = record {
  size = omega (arith, c.in-Ok.ensures.len);
  capacity = omega (arith, c.in-Ok.ensures.capacity);
  streams = record { count = rw c.in-Ok.ensures.items refl; each = λ n h. absurd (omega arith) };
  none = rw c.in-Ok.ensures.items no_rows;
  room = λ s is. let h = is.node in absurd (omega arith);
}

pub loop-node-preserved : goal.loop-node-preserved
unfolding HasEntries
loop-node-preserved c =
    let row : List IdsState = c.in_ok-new.field-0 in
    record {
      size = omega arith;
      capacity = omega arith;
      streams = record {
        count = omega arith;
        each = rw c.push_reserved.ensures.items (λ n h. holds_below (λ (r : List IdsState). length r ≡ c.args.slots) [] c.loop-node.rows.items row (λ i k. c.loop-node.invariant.streams.each i (omega arith)) c.in_ok-new.ensures.size n (omega arith));
      };
      none = rw c.push_reserved.ensures.items (λ s. holds_append (λ (r : List IdsState). (nth no_ids r s.slot).ids ≡ []) [] c.loop-node.rows.items row (λ i. c.loop-node.invariant.none (record { node = i; slot = s.slot })) (c.in_ok-new.ensures.none s.slot) s.node);
      room = rw c.push_reserved.ensures.items (λ s is. let node = is.node in holds_below (λ (r : List IdsState). c.args.count ≤ (nth no_ids r s.slot).room) [] c.loop-node.rows.items row (λ i k. c.loop-node.invariant.room (record { node = i; slot = s.slot }) (record { node = omega arith; slot = is.slot })) (c.in_ok-new.ensures.room s.slot is.slot) s.node (omega arith));
    }
