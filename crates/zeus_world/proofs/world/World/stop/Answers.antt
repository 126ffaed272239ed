use Rattle.std.proofs.Common.{ap, refl, arith}
use Rattle.history_book.specs.Books.{BookState}
use Rattle.zeus_model.specs.Book.{Book}
use Rattle.lossy_fabric.specs.Links.{letters}
use Rattle.zeus_world.specs.Shown.{shown}
use Rattle.zeus_world.proofs.Keeping.{kept_after, known}
use Rattle.zeus_world.proofs.Stepping.{fits_stop, node_at, place_there, stop_taken}
use Rattle.zeus_world.proofs.world.World.stop.Goals as goal

pub index_mut-node-requires : goal.index_mut-node-requires
index_mut-node-requires c =
    let ranged = (known _ _ c.self.invariant).ranged in
    let here = rw (← c.self.view_is) at c.requires.node in
    let place = place_there (shown c.self.inside) c.args.at ranged here in
    omega arith

pub invariant_of-self : goal.invariant_of-self
invariant_of-self c =
    let w = shown c.self.inside in
    let here = rw (← c.self.view_is) at c.requires.node in
    let k = rw c.place.ensures at c.index_mut-node.ensures.value in
    let at = node_at w c.args.at _ (known _ _ c.self.invariant).ranged here k in
    let taken = stop_taken w c.args.at _ c.stop-stopped.new.self c.stop-stopped.result at c.stop-stopped.ensures.answer c.stop-stopped.ensures.after (record {
      links = letters c.self.inside.links;
      book = c.answer_alone.new.book.book;
      event = c.answer_alone.new.event;
      linked = refl;
      counts = ap (λ (b : BookState). b.book) c.answer_alone.ensures.book;
      alone = c.answer_alone.ensures.event;
    }) in
    rw c.place.ensures
    (kept_after w _ _ c.self.inside.book c.answer_alone.new.book c.self.invariant (fits_stop _ _ c.args.at here) taken.becomes (ap (λ (b : BookState). b.nodes) c.answer_alone.ensures.book) (ap (λ (b : BookState). b.slots) c.answer_alone.ensures.book))

pub returns : goal.returns
returns c =
    let w = shown c.self.inside in
    let here = rw (← c.self.view_is) at c.requires.node in
    let k = rw c.place.ensures at c.index_mut-node.ensures.value in
    let at = node_at w c.args.at _ (known _ _ c.self.invariant).ranged here k in
    rw (← c.self.view_is, c.place.ensures)
    (stop_taken w c.args.at _ c.stop-stopped.new.self c.stop-stopped.result at c.stop-stopped.ensures.answer c.stop-stopped.ensures.after (record {
      links = letters c.self.inside.links;
      book = c.answer_alone.new.book.book;
      event = c.answer_alone.new.event;
      linked = refl;
      counts = ap (λ (b : BookState). b.book) c.answer_alone.ensures.book;
      alone = c.answer_alone.ensures.event;
    }))
