use Rattle.std.proofs.Common.{ap, refl, arith, sym, ◌∙◌, ◌≡◌, subst, length, ◌<◌}
use Rattle.history_book.specs.Books.{BookState}
use Rattle.zeus_base.specs.TableLaws.{nth_read}
use Rattle.zeus_txn.specs.declared.tx.TxDecl.{TxDecl}
use Rattle.zeus_model.specs.World.{no_tx, refuse_step, tx_decl}
use Rattle.node_ranges.specs.Transactions.{FitsTx-declared}
use Rattle.reached_worlds.proofs.Ranging.{tx_fits}
use Rattle.lossy_fabric.specs.Links.{letters}
use Rattle.zeus_world.specs.Shown.{shown}
use Rattle.zeus_world.proofs.Keeping.{kept_after, known}
use Rattle.zeus_world.proofs.Settling.{alone_as}
use Rattle.zeus_world.proofs.Stepping.{begin_none, begin_taken, begun_counted, fits_begin, node_at, place_there}
use Rattle.zeus_world.proofs.world.World.begin.Goals as goal

pub invariant_of-self : goal.invariant_of-self
invariant_of-self c =
    let w = shown c.self.inside in
    let there = rw (← c.self.view_is) at c.requires.there in
    let refused = rw (← c.self.view_is) at c.in-Some.ensures in
    let taken = alone_as w c.in-Some.answer _ (begin_none w c.args.id c.in-Some.answer refused) (record {
      links = letters c.self.inside.links;
      book = c.answer_alone.new.book.book;
      event = c.answer_alone.new.event;
      linked = refl;
      counts = ap (λ (b : BookState). b.book) c.answer_alone.ensures.book;
      alone = c.answer_alone.ensures.event;
    }) in
    kept_after w _ _ c.self.inside.book c.answer_alone.new.book c.self.invariant (fits_begin _ _ c.args.id there) taken.becomes (ap (λ (b : BookState). b.nodes) c.answer_alone.ensures.book) (ap (λ (b : BookState). b.slots) c.answer_alone.ensures.book)

pub returns-in-Some : goal.returns-in-Some
returns-in-Some c =
    let w = shown c.self.inside in
    let refused = rw (← c.self.view_is) at c.in-Some.ensures in
    rw (← c.self.view_is)
    (alone_as w c.in-Some.answer _ (begin_none w c.args.id c.in-Some.answer refused) (record {
      links = letters c.self.inside.links;
      book = c.answer_alone.new.book.book;
      event = c.answer_alone.new.event;
      linked = refl;
      counts = ap (λ (b : BookState). b.book) c.answer_alone.ensures.book;
      alone = c.answer_alone.ensures.event;
    }))

pub index_mut-node-requires : goal.index_mut-node-requires
index_mut-node-requires c =
    let w = shown c.self.inside in
    let there = rw (← c.self.view_is) at c.requires.there in
    let is = rw (c.as_slice.ensures, c.place.ensures) at c.index-as_slice-place.is in
    let tx : tx_decl w c.args.id ≡ c.index-as_slice-place.result = nth_read no_tx _ _ _ there is in
    let fit = rw tx at (tx_fits w c.args.id (known _ _ c.self.invariant).ranged there) in
    let place = place_there w c.index-as_slice-place.result.node (known _ _ c.self.invariant).ranged fit.node in
    omega arith

pub begin-begun-requires-clause-slot : goal.begin-begun-requires-clause-slot
begin-begun-requires-clause-slot c =
    let w = shown c.self.inside in
    let there = rw (← c.self.view_is) at c.requires.there in
    let is = rw (c.as_slice.ensures, c.place.ensures) at c.index-as_slice-place.is in
    let tx : tx_decl w c.args.id ≡ c.index-as_slice-place.result = nth_read no_tx _ _ _ there is in
    let fit = rw tx at (tx_fits w c.args.id (known _ _ c.self.invariant).ranged there) in
    let k = rw c.place-2.ensures at c.index_mut-node.ensures.value in
    let at = node_at w c.index-as_slice-place.result.node _ (known _ _ c.self.invariant).ranged fit.node k in
    rw at.keeps.sizes.slots fit.slot

pub begin-begun-requires-clause-objects : goal.begin-begun-requires-clause-objects
begin-begun-requires-clause-objects c =
    let w = shown c.self.inside in
    let there = rw (← c.self.view_is) at c.requires.there in
    let is = rw (c.as_slice.ensures, c.place.ensures) at c.index-as_slice-place.is in
    let tx : tx_decl w c.args.id ≡ c.index-as_slice-place.result = nth_read no_tx _ _ _ there is in
    let fit = rw tx at (tx_fits w c.args.id (known _ _ c.self.invariant).ranged there) in
    let k = rw c.place-2.ensures at c.index_mut-node.ensures.value in
    let at = node_at w c.index-as_slice-place.result.node _ (known _ _ c.self.invariant).ranged fit.node k in
    rw at.keeps.sizes.entries (FitsTx-declared _ c.args.id c.index-as_slice-place.result fit).named

pub begin-begun-requires-clause-made : goal.begin-begun-requires-clause-made
begin-begun-requires-clause-made c =
    let w = shown c.self.inside in
    let there = rw (← c.self.view_is) at c.requires.there in
    let is = rw (c.as_slice.ensures, c.place.ensures) at c.index-as_slice-place.is in
    let tx : tx_decl w c.args.id ≡ c.index-as_slice-place.result = nth_read no_tx _ _ _ there is in
    let fit = rw tx at (tx_fits w c.args.id (known _ _ c.self.invariant).ranged there) in
    fit.tx

pub note_begun-requires : goal.note_begun-requires
note_begun-requires c =
    let there = rw (← c.self.view_is) at c.requires.there in
    rw (known _ _ c.self.invariant).ranged.records there

pub answer_alone-requires-2 : goal.answer_alone-requires-2
answer_alone-requires-2 c =
    let counted = rw (← c.self.view_is) at c.requires.counted in
    begun_counted c.self.inside.book.book c.args.id c.begin-begun.result c.note_begun.new.self.book (ap (λ (b : BookState). b.book) c.note_begun.ensures) counted

pub invariant_of-self-2 : goal.invariant_of-self-2
invariant_of-self-2 c =
    let w = shown c.self.inside in
    let there = rw (← c.self.view_is) at c.requires.there in
    let refused = rw (← c.self.view_is) at c.in_default.ensures in
    let is = rw (c.as_slice.ensures, c.place.ensures) at c.index-as_slice-place.is in
    let tx : tx_decl w c.args.id ≡ c.index-as_slice-place.result = nth_read no_tx _ _ _ there is in
    let fit = tx_fits w c.args.id (known _ _ c.self.invariant).ranged there in
    let k = rw (c.place-2.ensures, ← tx) at c.index_mut-node.ensures.value in
    let at = node_at w (tx_decl w c.args.id).node _ (known _ _ c.self.invariant).ranged fit.node k in
    let taken = begin_taken w c.args.id _ c.begin-begun.new.self c.begin-begun.result at refused (rw (← tx) at c.begin-begun.ensures.answer) (rw (← tx) at c.begin-begun.ensures.after)
    (record {
      links = letters c.self.inside.links;
      book = c.answer_alone-2.new.book.book;
      event = c.answer_alone-2.new.event;
      linked = refl;
      counts = ap (λ (b : BookState). b.book) (rw c.note_begun.ensures at c.answer_alone-2.ensures.book);
      alone = c.answer_alone-2.ensures.event;
    }) in
    rw (c.place-2.ensures, ← tx)
    (kept_after w _ _ c.self.inside.book c.answer_alone-2.new.book c.self.invariant (fits_begin _ _ c.args.id there) taken.becomes
    (ap (λ (b : BookState). b.nodes) c.answer_alone-2.ensures.book ∙ ap (λ (b : BookState). b.nodes) c.note_begun.ensures) (ap (λ (b : BookState). b.slots) c.answer_alone-2.ensures.book ∙ ap (λ (b : BookState). b.slots) c.note_begun.ensures))

pub returns : goal.returns
returns c =
    let w = shown c.self.inside in
    let there = rw (← c.self.view_is) at c.requires.there in
    let refused = rw (← c.self.view_is) at c.in_default.ensures in
    let is = rw (c.as_slice.ensures, c.place.ensures) at c.index-as_slice-place.is in
    let tx : tx_decl w c.args.id ≡ c.index-as_slice-place.result = nth_read no_tx _ _ _ there is in
    let fit = tx_fits w c.args.id (known _ _ c.self.invariant).ranged there in
    let k = rw (c.place-2.ensures, ← tx) at c.index_mut-node.ensures.value in
    let at = node_at w (tx_decl w c.args.id).node _ (known _ _ c.self.invariant).ranged fit.node k in
    rw (← c.self.view_is, c.place-2.ensures, ← tx)
    (begin_taken w c.args.id _ c.begin-begun.new.self c.begin-begun.result at refused (rw (← tx) at c.begin-begun.ensures.answer) (rw (← tx) at c.begin-begun.ensures.after)
    (record {
      links = letters c.self.inside.links;
      book = c.answer_alone-2.new.book.book;
      event = c.answer_alone-2.new.event;
      linked = refl;
      counts = ap (λ (b : BookState). b.book) (rw c.note_begun.ensures at c.answer_alone-2.ensures.book);
      alone = c.answer_alone-2.ensures.event;
    }))
