use Rattle.std.proofs.Common.{ap, refl, arith, sym, ◌∙◌, List}
use Rattle.history_book.specs.Books.{BookState}
use Rattle.node_ranges.specs.ReceiveRules.{receive-keeps}
use Rattle.reached_worlds.proofs.Signed.{receive-by}
use Rattle.std.specs.Prelude.{length}
use Rattle.zeus_packet.specs.declared.letter.Letter.{Letter}
use Rattle.zeus_model.specs.World.{link, nth_letter, refuse_step}
use Rattle.zeus_model.specs.declared.answer.Answer.TheVariants.{NoPacket}
use Rattle.node_ranges.specs.Derived.{fits-shown}
use Rattle.reached_worlds.proofs.Ranging.{letter_fits}
use Rattle.lossy_fabric.specs.Links.{letters}
use Rattle.zeus_world.specs.Shown.{shown}
use Rattle.zeus_world.proofs.Batches.{found_letter, no_letter}
use Rattle.zeus_world.proofs.Keeping.{kept_after, known}
use Rattle.zeus_world.proofs.Settling.{has_lists, sender_there, alone_as, link_there}
use Rattle.zeus_world.proofs.Stepping.{deliver_fits, deliver_taken, can_settle, node_at, place_there, deliver_none}
use Rattle.zeus_world.proofs.world.World.deliver.Goals as goal

pub reserve-requires-2 : goal.reserve-requires-2
reserve-requires-2 c =
    let w = shown c.self.inside in
    let fits = rw (← c.self.view_is) at c.requires.fits in
    let places = deliver_fits _ _ c.args.from c.args.to c.args.number fits in
    let here = places.receiver in
    sender_there w c.args.to c.self.inside.links (known _ _ c.self.invariant).ranged here refl

pub index_mut-node-requires : goal.index_mut-node-requires
index_mut-node-requires c =
    let w = shown c.self.inside in
    let fits = rw (← c.self.view_is) at c.requires.fits in
    let places = deliver_fits _ _ c.args.from c.args.to c.args.number fits in
    let here = places.receiver in
    let place = place_there w c.args.to (known _ _ c.self.invariant).ranged here in
    omega arith

pub get-requires : goal.get-requires
get-requires c =
    let w = shown c.self.inside in
    let fits = rw (← c.self.view_is) at c.requires.fits in
    let places = deliver_fits _ _ c.args.from c.args.to c.args.number fits in
    let here = places.receiver in
    link_there w c.args.from c.args.to c.reserve-2.new.self (known _ _ c.self.invariant).ranged places.sender here c.reserve-2.ensures.letters

pub count-count-requires : goal.count-count-requires
count-count-requires c =
    let w = shown c.self.inside in
    let fits = rw (← c.self.view_is) at c.requires.fits in
    let places = deliver_fits _ _ c.args.from c.args.to c.args.number fits in
    let here = places.receiver in
    link_there w c.args.from c.args.to c.reserve-2.new.self (known _ _ c.self.invariant).ranged places.sender here c.reserve-2.ensures.letters

pub invariant_of-self-in_default : goal.invariant_of-self-in_default
invariant_of-self-in_default c =
    let w = shown c.self.inside in
    let fits = rw (← c.self.view_is) at c.requires.fits in
    let places = deliver_fits _ _ c.args.from c.args.to c.args.number fits in
    let here = places.receiver in
    let none = sym (ap (λ (L : List (List (List Letter))). nth_letter (link L c.args.from c.args.to) c.args.number) c.reserve-2.ensures.letters) ∙ no_letter c.args.number _ c.in_default.ensures in
    let count = c.count-count.ensures ∙ ap (λ (L : List (List (List Letter))). length (link L c.args.from c.args.to)) c.reserve-2.ensures.letters in
    let happens = deliver_none w c.args.from c.args.to c.args.number none ∙ ap (λ n. refuse_step w (NoPacket n)) (sym count) in
    let taken = alone_as w _ _ happens (record {
      links = letters c.reserve-2.new.self;
      book = c.answer_alone.new.book.book;
      event = c.answer_alone.new.event;
      linked = c.reserve-2.ensures.letters;
      counts = ap (λ (b : BookState). b.book) c.answer_alone.ensures.book;
      alone = c.answer_alone.ensures.event;
    }) in
    kept_after w _ _ c.self.inside.book c.answer_alone.new.book c.self.invariant fits taken.becomes (ap (λ (b : BookState). b.nodes) c.answer_alone.ensures.book) (ap (λ (b : BookState). b.slots) c.answer_alone.ensures.book)

pub returns-in_default-clause-ok : goal.returns-in_default-clause-ok
returns-in_default-clause-ok c =
    let w = shown c.self.inside in
    let fits = rw (← c.self.view_is) at c.requires.fits in
    let places = deliver_fits _ _ c.args.from c.args.to c.args.number fits in
    let here = places.receiver in
    let none = sym (ap (λ (L : List (List (List Letter))). nth_letter (link L c.args.from c.args.to) c.args.number) c.reserve-2.ensures.letters) ∙ no_letter c.args.number _ c.in_default.ensures in
    let count = c.count-count.ensures ∙ ap (λ (L : List (List (List Letter))). length (link L c.args.from c.args.to)) c.reserve-2.ensures.letters in
    let happens = deliver_none w c.args.from c.args.to c.args.number none ∙ ap (λ n. refuse_step w (NoPacket n)) (sym count) in
    rw (← c.self.view_is) (alone_as w _ _ happens (record {
      links = letters c.reserve-2.new.self;
      book = c.answer_alone.new.book.book;
      event = c.answer_alone.new.event;
      linked = c.reserve-2.ensures.letters;
      counts = ap (λ (b : BookState). b.book) c.answer_alone.ensures.book;
      alone = c.answer_alone.ensures.event;
    }))

pub receive-requires-clause-fits : goal.receive-requires-clause-fits
receive-requires-clause-fits c =
    let w = shown c.self.inside in
    let fits = rw (← c.self.view_is) at c.requires.fits in
    let places = deliver_fits _ _ c.args.from c.args.to c.args.number fits in
    let here = places.receiver in
    let k = rw c.place.ensures at c.index_mut-node.ensures.value in
    let at = node_at w c.args.to _ (known _ _ c.self.invariant).ranged here k in
    let found = sym (ap (λ (L : List (List (List Letter))). nth_letter (link L c.args.from c.args.to) c.args.number) c.reserve-2.ensures.letters) ∙ found_letter c.args.number _ _ c.in-Some.ensures in
    let fit = letter_fits w c.args.from c.args.to c.args.number _ (known _ _ c.self.invariant).ranged found in
    fits-shown _ _ c.in-Some.packet.letter at.keeps fit

pub settle-requires : goal.settle-requires
settle-requires c =
    let w = shown c.self.inside in
    let fits = rw (← c.self.view_is) at c.requires.fits in
    let places = deliver_fits _ _ c.args.from c.args.to c.args.number fits in
    let here = places.receiver in
    let k = rw c.place.ensures at c.index_mut-node.ensures.value in
    let at = node_at w c.args.to _ (known _ _ c.self.invariant).ranged here k in
    let found = sym (ap (λ (L : List (List (List Letter))). nth_letter (link L c.args.from c.args.to) c.args.number) c.reserve-2.ensures.letters) ∙ found_letter c.args.number _ _ c.in-Some.ensures in
    let fit = letter_fits w c.args.from c.args.to c.args.number _ (known _ _ c.self.invariant).ranged found in
    let counted = rw (← c.self.view_is) at c.requires.counted in
    let keeps = receive-keeps _ _ c.in-Some.packet.letter fit at.keeps in
    let by = receive-by c.args.to c.in-Some.packet.letter _ at.number in
    let space = c.in_ok-reserve.ensures.space in
    let points = c.clear.ensures.points_room in
    let acked = c.clear.ensures.acked_room in
    can_settle w c.args.to _ c.receive.new.out.sent c.self.inside.book c.reserve-2.new.self _ c.receive.ensures.sent
    (record { ranged = (known _ _ c.self.invariant).ranged; there = here; links = c.reserve-2.ensures.letters; by = by.by; fit = keeps.sent; room = c.in_ok-reserve-2.ensures.room }) counted
    (has_lists c.self.inside.book.book c.txs.result c.clear.new.self.points c.clear.new.self.acked c.txs.ensures (omega arith) (omega arith))

pub invariant_of-self-2 : goal.invariant_of-self-2
invariant_of-self-2 c =
    let w = shown c.self.inside in
    let fits = rw (← c.self.view_is) at c.requires.fits in
    let places = deliver_fits _ _ c.args.from c.args.to c.args.number fits in
    let here = places.receiver in
    let k = rw c.place.ensures at c.index_mut-node.ensures.value in
    let at = node_at w c.args.to _ (known _ _ c.self.invariant).ranged here k in
    let found = sym (ap (λ (L : List (List (List Letter))). nth_letter (link L c.args.from c.args.to) c.args.number) c.reserve-2.ensures.letters) ∙ found_letter c.args.number _ _ c.in-Some.ensures in
    let fit = letter_fits w c.args.from c.args.to c.args.number _ (known _ _ c.self.invariant).ranged found in
    let taken =
    deliver_taken w c.args.from c.args.to c.args.number c.in-Some.packet.letter _ at found (record {
      answer = c.receive.result;
      after = c.receive.new.self;
      said = c.receive.new.out.sent;
      passed = c.receive.new.out.passed;
      book = c.self.inside.book;
      book_after = c.settle.new.book;
      links = c.reserve-2.new.self;
      links_after = c.settle.new.links;
      event = _;
      event_after = c.settle.new.event;
      settled = c.settle.ensures;
      did = record { says = c.receive.ensures.answer; becomes = c.receive.ensures.after; sends = c.receive.ensures.sent; passes = c.receive.ensures.passed };
      noted = record { book = refl; points = c.clear.ensures.points; acks = c.clear.ensures.acked };
      linked = c.reserve-2.ensures.letters;
      says = refl;
    }) in
    rw c.place.ensures
    (kept_after w _ _ c.self.inside.book c.settle.new.book c.self.invariant fits taken.becomes (ap (λ (b : BookState). b.nodes) c.settle.ensures.book) (ap (λ (b : BookState). b.slots) c.settle.ensures.book))

pub returns-clause-ok : goal.returns-clause-ok
returns-clause-ok c =
    let w = shown c.self.inside in
    let fits = rw (← c.self.view_is) at c.requires.fits in
    let places = deliver_fits _ _ c.args.from c.args.to c.args.number fits in
    let here = places.receiver in
    let k = rw c.place.ensures at c.index_mut-node.ensures.value in
    let at = node_at w c.args.to _ (known _ _ c.self.invariant).ranged here k in
    let found = sym (ap (λ (L : List (List (List Letter))). nth_letter (link L c.args.from c.args.to) c.args.number) c.reserve-2.ensures.letters) ∙ found_letter c.args.number _ _ c.in-Some.ensures in
    let fit = letter_fits w c.args.from c.args.to c.args.number _ (known _ _ c.self.invariant).ranged found in
    rw (← c.self.view_is, c.place.ensures)
    (deliver_taken w c.args.from c.args.to c.args.number c.in-Some.packet.letter _ at found (record {
      answer = c.receive.result;
      after = c.receive.new.self;
      said = c.receive.new.out.sent;
      passed = c.receive.new.out.passed;
      book = c.self.inside.book;
      book_after = c.settle.new.book;
      links = c.reserve-2.new.self;
      links_after = c.settle.new.links;
      event = _;
      event_after = c.settle.new.event;
      settled = c.settle.ensures;
      did = record { says = c.receive.ensures.answer; becomes = c.receive.ensures.after; sends = c.receive.ensures.sent; passes = c.receive.ensures.passed };
      noted = record { book = refl; points = c.clear.ensures.points; acks = c.clear.ensures.acked };
      linked = c.reserve-2.ensures.letters;
      says = refl;
    }))
