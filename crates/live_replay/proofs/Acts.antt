-- A step of the world at a node is what the node's cell does, wherever the step finds what the cell found.
use Rattle.std.specs.Prelude.{ℕ, ◌≡◌, ◌≢◌, ◌-◌, false, nat_lt, List, [], length, Option, Some, None}
use Rattle.std.proofs.Common.{refl, sym, ◌∙◌}
use Rattle.zeus_txn.specs.declared.tx.TxDecl.{TxDecl}
use Rattle.zeus_packet.specs.declared.letter.Letter.{Letter}
use Rattle.zeus_model.specs.Tables.{nth}
use Rattle.zeus_model.specs.State.{Node}
use Rattle.zeus_model.specs.Local.{try_slot}
use Rattle.zeus_model.specs.Book.{Book, book_passes, book_tried, in_stream_order}
use Rattle.zeus_model.specs.World.{World, Event, node, link, acted, begin_refused, begin_or_not, step_begin, tried_at, nth_letter, received_at, deliver_or_not, ticked_at, stopped_at, installed_at, step_install, happens}
use Rattle.live_model.specs.Cell.{Deed, Began, Tried, Took, Ticked, Halted, Saw, step_of, does, notes_down, declared}
use Rattle.live_replay.proofs.BookSteps.{Agrees, AgreeAfter, after-then, TriesOwn, book_begun-both, book_begun-other, book_tried-both, book_tried-other, book_passes-both, book_passes-other}
use Rattle.live_replay.proofs.Senders.{AllFrom, IsOwn, from-take, own-receive, own-try_slot, own-tick, own-install, own-begin, own-stop}

-- the world with what a node's cell does in it
abbrev pub acts : World → ℕ → Deed → Event
acts w me deed =
    acted w me (does w.txs (node w me) deed).node (does w.txs (node w me) deed).answer (does w.txs (node w me) deed).sent
    (notes_down me w.config.degree w.txs w.book (node w me) deed)

-- the step finds what the cell found
unfoldable pub Finds : World → ℕ → Deed → Type 0
Finds w me (Began j) = ((declared w.txs j.tx).node ≡ me) × (begin_refused w j.tx ≡ None)
Finds w me (Took sender p) = nth_letter (link w.links sender me) p.number ≡ Some p.letter
Finds w me (Saw v) = (nat_lt (length w.views) v.epoch ≡ false) × (nth [] w.views (v.epoch - 1) ≡ v.members)
Finds w me _ = Unit {0}

begin-acts : (w : World) (me k seen : ℕ) → (declared w.txs k).node ≡ me → begin_refused w k ≡ None → begin_or_not w k (begin_refused w k) ≡ acts w me (Began record { tx = k; seen = seen })
unfolding begin_or_not does notes_down
begin-acts w me k seen own free = rw (free) (rw own refl)

install-acts : (w : World) (me epoch clock : ℕ) (members : List ℕ) → nat_lt (length w.views) epoch ≡ false → nth [] w.views (epoch - 1) ≡ members
    → step_install w me epoch ≡ acts w me (Saw record { clock = clock; epoch = epoch; members = members })
unfolding step_install installed_at does notes_down
install-acts w me epoch clock members made is = rw (made, is) refl

deliver-acts : (w : World) (me sender number clock : ℕ) (l : Letter) → nth_letter (link w.links sender me) number ≡ Some l
    → deliver_or_not w sender me (nth_letter (link w.links sender me) number) ≡ acts w me (Took sender record { clock = clock; number = number; letter = l })
unfolding deliver_or_not received_at does notes_down
deliver-acts w me sender number clock l is = rw is refl

-- if a step finds in the world what the cell found, then it does what the cell did
pub happens-acts : (deed : Deed) (w : World) (me : ℕ) → Finds w me deed → happens w (step_of me deed) ≡ acts w me deed
unfolding happens step_of step_begin tried_at ticked_at stopped_at Finds does notes_down
happens-acts (Began j) w me f = begin-acts w me j.tx j.seen f.0 f.1
happens-acts (Tried s) w me f = refl
happens-acts (Took sender p) w me f = deliver-acts w me sender p.number p.clock p.letter f
happens-acts Ticked w me f = refl
happens-acts Halted w me f = refl
happens-acts (Saw v) w me f = install-acts w me v.epoch v.clock v.members f.0 f.1

-- ---- the book

-- what the deed names for the book is of the node
unfoldable pub NamesOwn : List TxDecl → ℕ → Node → Deed → Type 0
NamesOwn txs me n (Began j) = (declared txs j.tx).node ≡ me
NamesOwn txs me n (Tried s) = TriesOwn txs me (try_slot n s).answer
NamesOwn txs me n _ = Unit {0}

-- if the books of world and cell agree and a deed names the node's own transactions, then they agree after its notes
pub notes_down-both : (deed : Deed) (degree : Option ℕ) (txs : List TxDecl) (me : ℕ) (n : Node) (b q : Book) → Agrees txs me b q → NamesOwn txs me n deed
    → AgreeAfter txs me (notes_down me degree txs b n deed) (notes_down me degree txs q n deed)
unfolding notes_down NamesOwn
notes_down-both (Began j) degree txs me n b q a own = book_begun-both _ txs me j.tx b q a own
notes_down-both (Tried s) degree txs me n b q a own =
    let t = (try_slot n s).answer in
    let ps = in_stream_order (try_slot n s).passed in
    after-then txs me (book_tried b record { node = me; slot = s } degree t) (book_tried q record { node = me; slot = s } degree t) (λ c. book_passes c me ps) (λ c. book_passes c me ps)
    (book_tried-both t txs me s degree b q a own) (λ c d agree. book_passes-both txs me ps c d agree)
notes_down-both (Took sender p) degree txs me n b q a own = book_passes-both txs me _ b q a
notes_down-both Ticked degree txs me n b q a own = record { books = a; acked = refl }
notes_down-both Halted degree txs me n b q a own = record { books = a; acked = refl }
notes_down-both (Saw v) degree txs me n b q a own = book_passes-both txs me _ b q a

-- as the cell of another node sees it
pub notes_down-other : (deed : Deed) (degree : Option ℕ) (txs : List TxDecl) (me other : ℕ) (n : Node) (b q : Book) → Agrees txs other b q → me ≢ other → NamesOwn txs me n deed
    → Agrees txs other (notes_down me degree txs b n deed).book q
unfolding notes_down NamesOwn
notes_down-other (Began j) degree txs me other n b q a ne own = book_begun-other _ txs other j.tx b q a (λ is. ne (sym own ∙ is))
notes_down-other (Tried s) degree txs me other n b q a ne own =
    let t = (try_slot n s).answer in
    book_passes-other txs other me (in_stream_order (try_slot n s).passed) (book_tried b record { node = me; slot = s } degree t).book q
    (book_tried-other t txs other me s degree b q a ne own) ne
notes_down-other (Took sender p) degree txs me other n b q a ne own = book_passes-other txs other me _ b q a ne
notes_down-other Ticked degree txs me other n b q a ne own = a
notes_down-other Halted degree txs me other n b q a ne own = a
notes_down-other (Saw v) degree txs me other n b q a ne own = book_passes-other txs other me _ b q a ne

-- ---- the letters

none_from : (me : ℕ) → AllFrom me []
unfolding AllFrom
none_from me = tt

-- whatever a node does, it keeps its number, and each letter that it sends is from it
pub does-own : (deed : Deed) (txs : List TxDecl) (n : Node) → IsOwn n.me (does txs n deed)
unfolding does
does-own (Began j) txs n = let h = own-begin n (declared txs j.tx).slot j.tx (declared txs j.tx).tx in record { node = h.node; sent = none_from n.me }
does-own (Tried s) txs n = let h = own-try_slot n s in record { node = h.node; sent = from-take n.me 64 _ h.sent }
does-own (Took sender p) txs n = let h = own-receive n p.letter in record { node = h.node; sent = from-take n.me 64 _ h.sent }
does-own Ticked txs n = let h = own-tick n in record { node = h.node; sent = from-take n.me 64 _ h.sent }
does-own Halted txs n = let h = own-stop n in record { node = h.node; sent = none_from n.me }
does-own (Saw v) txs n = let h = own-install n record { epoch = v.epoch; members = v.members } in record { node = h.node; sent = from-take n.me 64 _ h.sent }
