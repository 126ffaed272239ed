use Rattle.std.proofs.Common.{ap, refl, arith, sym, ◌∙◌, List}
use Rattle.history_book.specs.Books.{BookState}
use Rattle.node_ranges.specs.TickRules.{install-keeps}
use Rattle.reached_worlds.proofs.Signed.{install-by}
use Rattle.std.specs.Prelude.{length, ◌≤◌, ◌≡◌, ◌-◌, true}
use Rattle.zeus_packet.specs.Fits.{nodes_fit}
use Rattle.zeus_packet.specs.declared.place.View.{View}
use Rattle.zeus_base.specs.Limits.{limits_of}
use Rattle.zeus_model.specs.World.{refuse_step}
use Rattle.zeus_model.specs.declared.answer.Answer.TheVariants.{NoView}
use Rattle.lossy_fabric.specs.Links.{letters}
use Rattle.zeus_world.specs.Shown.{shown}
use Rattle.zeus_world.proofs.Keeping.{kept_after, known}
use Rattle.zeus_world.proofs.Settling.{has_lists, sender_there, alone_as}
use Rattle.zeus_world.proofs.Stepping.{install_fits, install_taken, can_settle, node_at, place_there, epoch_past, epoch_there, install_none, members_fit}
use Rattle.zeus_world.proofs.world.World.install.Goals as goal

pub reserve-requires-2 : goal.reserve-requires-2
reserve-requires-2 c =
    let w = shown c.self.inside in
    let fits = rw (← c.self.view_is) at c.requires.fits in
    let places = install_fits _ _ c.args.at c.args.epoch fits in
    let here = places.node in
    sender_there w c.args.at c.self.inside.links (known _ _ c.self.invariant).ranged here refl

pub index_mut-node-requires : goal.index_mut-node-requires
index_mut-node-requires c =
    let w = shown c.self.inside in
    let fits = rw (← c.self.view_is) at c.requires.fits in
    let places = install_fits _ _ c.args.at c.args.epoch fits in
    let here = places.node in
    let place = place_there w c.args.at (known _ _ c.self.invariant).ranged here in
    omega arith

pub invariant_of-self : goal.invariant_of-self
invariant_of-self c =
    let w = shown c.self.inside in
    let fits = rw (← c.self.view_is) at c.requires.fits in
    let places = install_fits _ _ c.args.at c.args.epoch fits in
    let here = places.node in
    let past = epoch_past (length w.views) c.args.epoch (c.in_default.ensures.none.0 refl) places.first in
    let happens = install_none w c.args.at c.args.epoch past ∙ ap (λ n. refuse_step w (NoView n)) (sym c.count-count.ensures.views) in
    let taken = alone_as w _ _ happens (record {
      links = letters c.self.inside.links;
      book = c.answer_alone.new.book.book;
      event = c.answer_alone.new.event;
      linked = refl;
      counts = ap (λ (b : BookState). b.book) c.answer_alone.ensures.book;
      alone = c.answer_alone.ensures.event;
    }) in
    kept_after w _ _ c.self.inside.book c.answer_alone.new.book c.self.invariant fits taken.becomes (ap (λ (b : BookState). b.nodes) c.answer_alone.ensures.book) (ap (λ (b : BookState). b.slots) c.answer_alone.ensures.book)

pub returns-in_default-clause-ok : goal.returns-in_default-clause-ok
returns-in_default-clause-ok c =
    let w = shown c.self.inside in
    let fits = rw (← c.self.view_is) at c.requires.fits in
    let places = install_fits _ _ c.args.at c.args.epoch fits in
    let here = places.node in
    let past = epoch_past (length w.views) c.args.epoch (c.in_default.ensures.none.0 refl) places.first in
    let happens = install_none w c.args.at c.args.epoch past ∙ ap (λ n. refuse_step w (NoView n)) (sym c.count-count.ensures.views) in
    rw (← c.self.view_is) (alone_as w _ _ happens (record {
      links = letters c.self.inside.links;
      book = c.answer_alone.new.book.book;
      event = c.answer_alone.new.event;
      linked = refl;
      counts = ap (λ (b : BookState). b.book) c.answer_alone.ensures.book;
      alone = c.answer_alone.ensures.event;
    }))

pub install-requires-clause-members : goal.install-requires-clause-members
install-requires-clause-members c =
    let w = shown c.self.inside in
    let fits = rw (← c.self.view_is) at c.requires.fits in
    let places = install_fits _ _ c.args.at c.args.epoch fits in
    let here = places.node in
    let k = rw c.place.ensures at c.index_mut-node.ensures.value in
    let at = node_at w c.args.at _ (known _ _ c.self.invariant).ranged here k in
    let less = epoch_there (length w.views) c.args.epoch c.in-Some.ensures.none.1 in
    let ranged = (known _ _ c.self.invariant).ranged in
    let first : 1 ≤ c.in-Some.view.epoch = rw c.in-Some.ensures.view places.first in
    let members : nodes_fit (limits_of c.self.inside.config.now) c.in-Some.view.members ≡ true = rw c.in-Some.ensures.view (ranged.members (c.args.epoch - 1)) in
    members_fit _ _ c.in-Some.view.members at.keeps members

pub settle-requires : goal.settle-requires
settle-requires c =
    let w = shown c.self.inside in
    let fits = rw (← c.self.view_is) at c.requires.fits in
    let places = install_fits _ _ c.args.at c.args.epoch fits in
    let here = places.node in
    let k = rw c.place.ensures at c.index_mut-node.ensures.value in
    let at = node_at w c.args.at _ (known _ _ c.self.invariant).ranged here k in
    let less = epoch_there (length w.views) c.args.epoch c.in-Some.ensures.none.1 in
    let ranged = (known _ _ c.self.invariant).ranged in
    let first : 1 ≤ c.in-Some.view.epoch = rw c.in-Some.ensures.view places.first in
    let members : nodes_fit (limits_of c.self.inside.config.now) c.in-Some.view.members ≡ true = rw c.in-Some.ensures.view (ranged.members (c.args.epoch - 1)) in
    let counted = rw (← c.self.view_is) at c.requires.counted in
    let keeps = install-keeps _ _ c.in-Some.view first members at.keeps in
    let by = install-by c.args.at c.in-Some.view _ at.number in
    let space = c.in_ok-reserve.ensures.space in
    let points = c.clear.ensures.points_room in
    let acked = c.clear.ensures.acked_room in
    can_settle w c.args.at _ c.install.new.out.sent c.self.inside.book c.reserve-2.new.self _ c.install.ensures.sent
    (record { ranged = (known _ _ c.self.invariant).ranged; there = here; links = c.reserve-2.ensures.letters; by = by.by; fit = keeps.sent; room = c.in_ok-reserve-2.ensures.room }) counted
    (has_lists c.self.inside.book.book c.txs.result c.clear.new.self.points c.clear.new.self.acked c.txs.ensures (omega arith) (omega arith))

pub invariant_of-self-2 : goal.invariant_of-self-2
invariant_of-self-2 c =
    let w = shown c.self.inside in
    let fits = rw (← c.self.view_is) at c.requires.fits in
    let places = install_fits _ _ c.args.at c.args.epoch fits in
    let here = places.node in
    let k = rw c.place.ensures at c.index_mut-node.ensures.value in
    let at = node_at w c.args.at _ (known _ _ c.self.invariant).ranged here k in
    let less = epoch_there (length w.views) c.args.epoch c.in-Some.ensures.none.1 in
    let ranged = (known _ _ c.self.invariant).ranged in
    let first : 1 ≤ c.in-Some.view.epoch = rw c.in-Some.ensures.view places.first in
    let members : nodes_fit (limits_of c.self.inside.config.now) c.in-Some.view.members ≡ true = rw c.in-Some.ensures.view (ranged.members (c.args.epoch - 1)) in
    let taken =
    install_taken w c.args.at c.args.epoch c.in-Some.view _ at less c.in-Some.ensures.view (record {
      answer = c.install.result;
      after = c.install.new.self;
      said = c.install.new.out.sent;
      passed = c.install.new.out.passed;
      book = c.self.inside.book;
      book_after = c.settle.new.book;
      links = c.reserve-2.new.self;
      links_after = c.settle.new.links;
      event = _;
      event_after = c.settle.new.event;
      settled = c.settle.ensures;
      did = record { says = c.install.ensures.answer; becomes = c.install.ensures.after; sends = c.install.ensures.sent; passes = c.install.ensures.passed };
      noted = record { book = refl; points = c.clear.ensures.points; acks = c.clear.ensures.acked };
      linked = c.reserve-2.ensures.letters;
      says = refl;
    }) in
    rw c.place.ensures
    (kept_after w _ _ c.self.inside.book c.settle.new.book c.self.invariant fits taken.becomes (ap (λ (b : BookState). b.nodes) c.settle.ensures.book) (ap (λ (b : BookState). b.slots) c.settle.ensures.book))

pub returns-clause-ok : goal.returns-clause-ok
returns-clause-ok c =
    let w = shown c.self.inside in
    let fits = rw (← c.self.view_is) at c.requires.fits in
    let places = install_fits _ _ c.args.at c.args.epoch fits in
    let here = places.node in
    let k = rw c.place.ensures at c.index_mut-node.ensures.value in
    let at = node_at w c.args.at _ (known _ _ c.self.invariant).ranged here k in
    let less = epoch_there (length w.views) c.args.epoch c.in-Some.ensures.none.1 in
    let ranged = (known _ _ c.self.invariant).ranged in
    let first : 1 ≤ c.in-Some.view.epoch = rw c.in-Some.ensures.view places.first in
    let members : nodes_fit (limits_of c.self.inside.config.now) c.in-Some.view.members ≡ true = rw c.in-Some.ensures.view (ranged.members (c.args.epoch - 1)) in
    rw (← c.self.view_is, c.place.ensures)
    (install_taken w c.args.at c.args.epoch c.in-Some.view _ at less c.in-Some.ensures.view (record {
      answer = c.install.result;
      after = c.install.new.self;
      said = c.install.new.out.sent;
      passed = c.install.new.out.passed;
      book = c.self.inside.book;
      book_after = c.settle.new.book;
      links = c.reserve-2.new.self;
      links_after = c.settle.new.links;
      event = _;
      event_after = c.settle.new.event;
      settled = c.settle.ensures;
      did = record { says = c.install.ensures.answer; becomes = c.install.ensures.after; sends = c.install.ensures.sent; passes = c.install.ensures.passed };
      noted = record { book = refl; points = c.clear.ensures.points; acks = c.clear.ensures.acked };
      linked = c.reserve-2.ensures.letters;
      says = refl;
    }))
