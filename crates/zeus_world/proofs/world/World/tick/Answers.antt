use Rattle.std.proofs.Common.{ap, refl, arith}
use Rattle.history_book.specs.Books.{BookState}
use Rattle.zeus_model.specs.Act.{Did}
use Rattle.node_ranges.specs.TickRules.{tick-keeps}
use Rattle.reached_worlds.proofs.Signed.{tick-by}
use Rattle.lossy_fabric.specs.Links.{letters}
use Rattle.zeus_world.specs.Shown.{shown}
use Rattle.zeus_world.proofs.Keeping.{kept_after, known}
use Rattle.zeus_world.proofs.Settling.{has_lists, sender_there}
use Rattle.zeus_world.proofs.Stepping.{tick_fits, tick_taken, can_settle, node_at, place_there}
use Rattle.zeus_world.proofs.world.World.tick.Goals as goal

pub reserve-requires-2 : goal.reserve-requires-2
reserve-requires-2 c =
    let w = shown c.self.inside in
    let fits = rw (← c.self.view_is) at c.requires.fits in
    let here = tick_fits _ _ c.args.at fits in
    sender_there w c.args.at c.self.inside.links (known _ _ c.self.invariant).ranged here refl

pub index_mut-node-requires : goal.index_mut-node-requires
index_mut-node-requires c =
    let w = shown c.self.inside in
    let fits = rw (← c.self.view_is) at c.requires.fits in
    let here = tick_fits _ _ c.args.at fits in
    let place = place_there w c.args.at (known _ _ c.self.invariant).ranged here in
    omega arith

pub settle-requires : goal.settle-requires
settle-requires c =
    let w = shown c.self.inside in
    let fits = rw (← c.self.view_is) at c.requires.fits in
    let here = tick_fits _ _ c.args.at fits in
    let k = rw c.place.ensures at c.index_mut-node.ensures.value in
    let at = node_at w c.args.at _ (known _ _ c.self.invariant).ranged here k in
    let counted = rw (← c.self.view_is) at c.requires.counted in
    let keeps = tick-keeps _ _ at.keeps in
    let by = tick-by c.args.at _ at.number in
    let space = c.in_ok-reserve.ensures.space in
    let points = c.clear.ensures.points_room in
    let acked = c.clear.ensures.acked_room in
    can_settle w c.args.at _ c.tick.new.out.sent c.self.inside.book c.reserve-2.new.self _ c.tick.ensures.sent
    (record { ranged = (known _ _ c.self.invariant).ranged; there = here; links = c.reserve-2.ensures.letters; by = by.by; fit = keeps.sent; room = c.in_ok-reserve-2.ensures.room }) counted
    (has_lists c.self.inside.book.book c.txs.result c.clear.new.self.points c.clear.new.self.acked c.txs.ensures (omega arith) (omega arith))

pub invariant_of-self-2 : goal.invariant_of-self-2
invariant_of-self-2 c =
    let w = shown c.self.inside in
    let fits = rw (← c.self.view_is) at c.requires.fits in
    let here = tick_fits _ _ c.args.at fits in
    let k = rw c.place.ensures at c.index_mut-node.ensures.value in
    let at = node_at w c.args.at _ (known _ _ c.self.invariant).ranged here k in
    let taken =
    tick_taken w c.args.at _ at (record {
      answer = c.tick.result;
      after = c.tick.new.self;
      said = c.tick.new.out.sent;
      passed = c.tick.new.out.passed;
      book = c.self.inside.book;
      book_after = c.settle.new.book;
      links = c.reserve-2.new.self;
      links_after = c.settle.new.links;
      event = _;
      event_after = c.settle.new.event;
      settled = c.settle.ensures;
      did = record { says = c.tick.ensures.answer; becomes = c.tick.ensures.after; sends = c.tick.ensures.sent; passes = c.tick.ensures.passed };
      noted = record { book = refl; points = c.clear.ensures.points; acks = c.clear.ensures.acked };
      linked = c.reserve-2.ensures.letters;
      says = refl;
    }) in
    rw c.place.ensures
    (kept_after w _ _ c.self.inside.book c.settle.new.book c.self.invariant fits taken.becomes (ap (λ (b : BookState). b.nodes) c.settle.ensures.book) (ap (λ (b : BookState). b.slots) c.settle.ensures.book))

pub returns-clause-ok : goal.returns-clause-ok
returns-clause-ok c =
    let w = shown c.self.inside in
    let fits = rw (← c.self.view_is) at c.requires.fits in
    let here = tick_fits _ _ c.args.at fits in
    let k = rw c.place.ensures at c.index_mut-node.ensures.value in
    let at = node_at w c.args.at _ (known _ _ c.self.invariant).ranged here k in
    rw (← c.self.view_is, c.place.ensures)
    (tick_taken w c.args.at _ at (record {
      answer = c.tick.result;
      after = c.tick.new.self;
      said = c.tick.new.out.sent;
      passed = c.tick.new.out.passed;
      book = c.self.inside.book;
      book_after = c.settle.new.book;
      links = c.reserve-2.new.self;
      links_after = c.settle.new.links;
      event = _;
      event_after = c.settle.new.event;
      settled = c.settle.ensures;
      did = record { says = c.tick.ensures.answer; becomes = c.tick.ensures.after; sends = c.tick.ensures.sent; passes = c.tick.ensures.passed };
      noted = record { book = refl; points = c.clear.ensures.points; acks = c.clear.ensures.acked };
      linked = c.reserve-2.ensures.letters;
      says = refl;
    }))
