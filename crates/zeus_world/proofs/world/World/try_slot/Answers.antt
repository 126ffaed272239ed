use Rattle.std.proofs.Common.{ap, refl, arith, sym, ◌∙◌, List}
use Rattle.history_book.specs.Books.{BookState}
use Rattle.node_ranges.specs.LocalRules.{try_slot-keeps}
use Rattle.reached_worlds.proofs.Signed.{try_slot-by}
use Rattle.zeus_model.specs.Book.{book_tried}
use Rattle.lossy_fabric.specs.Links.{letters}
use Rattle.zeus_world.specs.Shown.{shown}
use Rattle.zeus_world.proofs.Keeping.{kept_after, known}
use Rattle.zeus_world.proofs.Settling.{has_lists, sender_there, made_first}
use Rattle.zeus_world.proofs.Stepping.{try_fits, try_taken, can_settle, node_at, place_there, can_try, tried_counted}
use Rattle.zeus_world.proofs.world.World.try_slot.Goals as goal

pub reserve-requires-2 : goal.reserve-requires-2
reserve-requires-2 c =
    let w = shown c.self.inside in
    let fits = rw (← c.self.view_is) at c.requires.fits in
    let places = try_fits _ _ c.args.at c.args.slot fits in
    let here = places.node in
    sender_there w c.args.at c.self.inside.links (known _ _ c.self.invariant).ranged here refl

pub index_mut-node-requires : goal.index_mut-node-requires
index_mut-node-requires c =
    let w = shown c.self.inside in
    let fits = rw (← c.self.view_is) at c.requires.fits in
    let places = try_fits _ _ c.args.at c.args.slot fits in
    let here = places.node in
    let place = place_there w c.args.at (known _ _ c.self.invariant).ranged here in
    omega arith

pub try_slot-tried-requires-clause-slot : goal.try_slot-tried-requires-clause-slot
try_slot-tried-requires-clause-slot c =
    let w = shown c.self.inside in
    let fits = rw (← c.self.view_is) at c.requires.fits in
    let places = try_fits _ _ c.args.at c.args.slot fits in
    let here = places.node in
    let k = rw c.place.ensures at c.index_mut-node.ensures.value in
    let at = node_at w c.args.at _ (known _ _ c.self.invariant).ranged here k in
    rw at.keeps.sizes.slots places.slot

pub note_tried-requires-clause-tried : goal.note_tried-requires-clause-tried
note_tried-requires-clause-tried c =
    let w = shown c.self.inside in
    let fits = rw (← c.self.view_is) at c.requires.fits in
    let places = try_fits _ _ c.args.at c.args.slot fits in
    let here = places.node in
    let k = rw c.place.ensures at c.index_mut-node.ensures.value in
    let at = node_at w c.args.at _ (known _ _ c.self.invariant).ranged here k in
    can_try w c.args.at c.args.slot _ c.try_slot-tried.result c.self.inside.book c.self.invariant at refl places.slot c.try_slot-tried.ensures.answer

pub note_tried-requires-clause-lists : goal.note_tried-requires-clause-lists
note_tried-requires-clause-lists c =
    let space = c.in_ok-reserve.ensures.space in
    let points = c.clear.ensures.points_room in
    let acked = c.clear.ensures.acked_room in
    has_lists c.self.inside.book.book c.txs.result c.clear.new.self.points c.clear.new.self.acked c.txs.ensures (omega arith) (omega arith)

pub settle-requires : goal.settle-requires
settle-requires c =
    let w = shown c.self.inside in
    let fits = rw (← c.self.view_is) at c.requires.fits in
    let places = try_fits _ _ c.args.at c.args.slot fits in
    let here = places.node in
    let k = rw c.place.ensures at c.index_mut-node.ensures.value in
    let at = node_at w c.args.at _ (known _ _ c.self.invariant).ranged here k in
    let made = made_first c.self.inside.book c.note_tried.new.self c.clear.new.self.points c.clear.new.self.acked c.note_tried.new.points c.note_tried.new.acked (λ b. book_tried b record { node = c.args.at; slot = c.args.slot } c.self.inside.config.now.degree c.try_slot-tried.result) c.clear.ensures.points c.clear.ensures.acked c.note_tried.ensures.change in
    let counted = rw (← c.self.view_is) at c.requires.counted in
    let keeps = try_slot-keeps _ _ c.args.slot places.slot at.keeps in
    let by = try_slot-by c.args.at c.args.slot _ at.number in
    let space = c.in_ok-reserve.ensures.space in
    let points = c.clear.ensures.points_room in
    let acked = c.clear.ensures.acked_room in
    can_settle w c.args.at _ c.try_slot-tried.new.out.sent c.note_tried.new.self c.reserve-2.new.self _ c.try_slot-tried.ensures.sent
    (record { ranged = (known _ _ c.self.invariant).ranged; there = here; links = c.reserve-2.ensures.letters; by = by.by; fit = keeps.sent; room = c.in_ok-reserve-2.ensures.room })
    (tried_counted w c.args.at c.args.slot _ c.try_slot-tried.result c.note_tried.new.self.book (known _ _ c.self.invariant) at c.try_slot-tried.ensures.answer made.book counted) c.note_tried.ensures.lists

pub invariant_of-self-2 : goal.invariant_of-self-2
invariant_of-self-2 c =
    let w = shown c.self.inside in
    let fits = rw (← c.self.view_is) at c.requires.fits in
    let places = try_fits _ _ c.args.at c.args.slot fits in
    let here = places.node in
    let k = rw c.place.ensures at c.index_mut-node.ensures.value in
    let at = node_at w c.args.at _ (known _ _ c.self.invariant).ranged here k in
    let made = made_first c.self.inside.book c.note_tried.new.self c.clear.new.self.points c.clear.new.self.acked c.note_tried.new.points c.note_tried.new.acked (λ b. book_tried b record { node = c.args.at; slot = c.args.slot } c.self.inside.config.now.degree c.try_slot-tried.result) c.clear.ensures.points c.clear.ensures.acked c.note_tried.ensures.change in
    let taken =
    try_taken w c.args.at c.args.slot _ at (record {
      answer = c.try_slot-tried.result;
      after = c.try_slot-tried.new.self;
      said = c.try_slot-tried.new.out.sent;
      passed = c.try_slot-tried.new.out.passed;
      book = c.note_tried.new.self;
      book_after = c.settle.new.book;
      links = c.reserve-2.new.self;
      links_after = c.settle.new.links;
      event = _;
      event_after = c.settle.new.event;
      settled = c.settle.ensures;
      did = record { says = c.try_slot-tried.ensures.answer; becomes = c.try_slot-tried.ensures.after; sends = c.try_slot-tried.ensures.sent; passes = c.try_slot-tried.ensures.passed };
      noted = made;
      linked = c.reserve-2.ensures.letters;
      says = refl;
    }) in
    rw c.place.ensures
    (kept_after w _ _ c.self.inside.book c.settle.new.book c.self.invariant fits taken.becomes (ap (λ (b : BookState). b.nodes) c.settle.ensures.book ∙ ap (λ (b : BookState). b.nodes) c.note_tried.ensures.shape) (ap (λ (b : BookState). b.slots) c.settle.ensures.book ∙ ap (λ (b : BookState). b.slots) c.note_tried.ensures.shape))

pub returns-clause-ok : goal.returns-clause-ok
returns-clause-ok c =
    let w = shown c.self.inside in
    let fits = rw (← c.self.view_is) at c.requires.fits in
    let places = try_fits _ _ c.args.at c.args.slot fits in
    let here = places.node in
    let k = rw c.place.ensures at c.index_mut-node.ensures.value in
    let at = node_at w c.args.at _ (known _ _ c.self.invariant).ranged here k in
    let made = made_first c.self.inside.book c.note_tried.new.self c.clear.new.self.points c.clear.new.self.acked c.note_tried.new.points c.note_tried.new.acked (λ b. book_tried b record { node = c.args.at; slot = c.args.slot } c.self.inside.config.now.degree c.try_slot-tried.result) c.clear.ensures.points c.clear.ensures.acked c.note_tried.ensures.change in
    rw (← c.self.view_is, c.place.ensures)
    (try_taken w c.args.at c.args.slot _ at (record {
      answer = c.try_slot-tried.result;
      after = c.try_slot-tried.new.self;
      said = c.try_slot-tried.new.out.sent;
      passed = c.try_slot-tried.new.out.passed;
      book = c.note_tried.new.self;
      book_after = c.settle.new.book;
      links = c.reserve-2.new.self;
      links_after = c.settle.new.links;
      event = _;
      event_after = c.settle.new.event;
      settled = c.settle.ensures;
      did = record { says = c.try_slot-tried.ensures.answer; becomes = c.try_slot-tried.ensures.after; sends = c.try_slot-tried.ensures.sent; passes = c.try_slot-tried.ensures.passed };
      noted = made;
      linked = c.reserve-2.ensures.letters;
      says = refl;
    }))
