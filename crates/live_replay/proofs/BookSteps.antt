-- What each note of the book does to the agreement of world and cell.
use Rattle.std.specs.Prelude.{ℕ, ◌≡◌, ◌≢◌, ◌-◌, Bool, true, false, ◌==◌, List, [], ◌∷◌, Option, Some, None, is_some, is_none, if◌then◌else◌}
use Rattle.std.proofs.Common.{arith, refl, sym, ap, ◌∙◌, inl, inr, subst, eq-eqb}
use Rattle.std.proofs.lemmas.Bool.{cases_eq, ne_eqb}
use Rattle.zeus_base.specs.declared.order.Stream.{Stream}
use Rattle.zeus_base.specs.declared.step.Passed.{Passed}
use Rattle.zeus_txn.specs.declared.reply.Reply.{Reply}
use Rattle.zeus_txn.specs.declared.tx.TxDecl.{TxDecl}
use Rattle.zeus_model.specs.declared.answer.Begin.{Begin as BeginOutcome}
use Rattle.zeus_model.specs.declared.answer.Begin.TheVariants.{Begun}
use Rattle.zeus_model.specs.declared.answer.Tried.{Tried}
use Rattle.zeus_model.specs.declared.answer.Tried.TheVariants.{NoCopy, Read, Committed}
use Rattle.zeus_model.specs.Tables.{numbers_from}
use Rattle.zeus_model.specs.Book.{Book, BookChange, EntryId, record_of, book_only, change_then, is_entry, tx_of, point_once, ack_once, pass_tx, pass_numbers, book_passes, book_tried, book_point, book_reply, book_read, book_refuse}
use Rattle.zeus_model.specs.World.{book_begun}
use Rattle.live_model.specs.Cell.{declared}
use Rattle.live_replay.proofs.Books.{Agree, both-change, world-change, cell-change, tx_from-same, tx_from-none, tx_from-found, is_entry-node}

-- the books of the world and of the cell of this node agree
abbrev pub Agrees : List TxDecl → ℕ → Book → Book → Type 0
Agrees txs me b q = Agree txs me b.records q.records

-- after two changes they agree, and the same transactions are acknowledged
pub record AgreeAfter (txs : List TxDecl) (me : ℕ) (x y : BookChange) : Type 0 where
  pub books : Agrees txs me x.book y.book
  pub acked : x.acked ≡ y.acked

-- if two books agree after a change and each next change keeps that, then they agree after both changes
pub after-then : (txs : List TxDecl) (me : ℕ) (x y : BookChange) (f g : Book → BookChange) → AgreeAfter txs me x y
    → ((b q : Book) → Agrees txs me b q → AgreeAfter txs me (f b) (g q)) → AgreeAfter txs me (change_then x f) (change_then y g)
after-then txs me x y f g h next =
    let n = next x.book y.book h.books in
    record { books = n.books; acked = rw (h.acked, n.acked) refl }

-- ---- points

point_once-world : (point : Option ℕ) (txs : List TxDecl) (me id : ℕ) (b q : Book) → Agrees txs me b q → Agrees txs me (point_once b id point).book q
unfolding point_once
point_once-world (Some step) txs me id b q a = a
point_once-world None txs me id b q a = world-change txs me b.records q.records id _ a (λ _. record { begun = refl; entry = refl; reply = refl; acked = refl; refused = refl }) (a.entries id)

point_once-cell : (point : Option ℕ) (txs : List TxDecl) (me id : ℕ) (b q : Book) → Agrees txs me b q → Agrees txs me b (point_once q id point).book
unfolding point_once
point_once-cell (Some step) txs me id b q a = a
point_once-cell None txs me id b q a = cell-change txs me b.records q.records id _ a (record { begun = refl; entry = refl; reply = refl; acked = refl; refused = refl })

point_once-acked : (point : Option ℕ) (id : ℕ) (b : Book) → (point_once b id point).acked ≡ []
unfolding point_once
point_once-acked (Some step) id b = refl
point_once-acked None id b = refl

-- ---- acknowledgements

ack_once-both : (o p : Option ℕ) (txs : List TxDecl) (me id : ℕ) (b q : Book) → Agrees txs me b q → (declared txs id).node ≡ me → is_some o ≡ is_some p
    → AgreeAfter txs me (ack_once b id true o) (ack_once q id true p)
unfolding ack_once
ack_once-both (Some i) (Some j) txs me id b q a own same = record { books = a; acked = refl }
ack_once-both (Some i) None txs me id b q a own same = absurd cc
ack_once-both None (Some j) txs me id b q a own same = absurd cc
ack_once-both None None txs me id b q a own same =
    record {
      books = both-change txs me b.records q.records id (λ r. record r { acked = Some b.steps }) (λ r. record r { acked = Some q.steps }) a own
          (λ r s h. record { begun = h.begun; entry = h.entry; reply = h.reply; acked = refl; refused = h.refused }) (λ r h. h);
      acked = refl;
    }

ack_once-foreign : (o : Option ℕ) (id : ℕ) (b : Book) → ack_once b id false o ≡ book_only b
unfolding ack_once
ack_once-foreign (Some i) id b = refl
ack_once-foreign None id b = refl

ack_once-other : (o : Option ℕ) (own : Bool) (txs : List TxDecl) (me id : ℕ) (b q : Book) → Agrees txs me b q → (declared txs id).node ≢ me → Agrees txs me (ack_once b id own o).book q
unfolding ack_once
ack_once-other (Some i) own txs me id b q a other = a
ack_once-other None true txs me id b q a other = world-change txs me b.records q.records id _ a (λ is. absurd (other is)) (a.entries id)
ack_once-other None false txs me id b q a other = a

-- ---- the pass of one entry

-- at its own node, in both books
pass_tx-both : (o : Option ℕ) (txs : List TxDecl) (me : ℕ) (b q : Book) → Agrees txs me b q → ((id : ℕ) → o ≡ Some id → (declared txs id).node ≡ me)
    → AgreeAfter txs me (pass_tx b true o) (pass_tx q true o)
unfolding pass_tx
pass_tx-both None txs me b q a own = record { books = a; acked = refl }
pass_tx-both (Some id) txs me b q a own =
    let p = (record_of b id).point in
    let r = (record_of q id).point in
    let c = (point_once b id p).book in
    let d = (point_once q id r).book in
    let agree : Agrees txs me c d = point_once-cell r txs me id c q (point_once-world p txs me id b q a) in
    let run_state = agree.own id (own id refl) in
    let n = ack_once-both (record_of c id).acked (record_of d id).acked txs me id c d agree (own id refl) run_state.acked in
    record { books = n.books; acked = rw (point_once-acked p id b, point_once-acked r id q) n.acked }

-- an entry of another node's stream, in the world: at most a point
pass_tx-foreign : (o : Option ℕ) (txs : List TxDecl) (me : ℕ) (b q : Book) → Agrees txs me b q → Agrees txs me (pass_tx b false o).book q
unfolding pass_tx
pass_tx-foreign None txs me b q a = a
pass_tx-foreign (Some id) txs me b q a =
    let p = (record_of b id).point in
    let c = (point_once b id p).book in
    rw (ack_once-foreign (record_of c id).acked id c) (point_once-world p txs me id b q a)

pass_tx-silent : (o : Option ℕ) (b : Book) → (pass_tx b false o).acked ≡ []
unfolding pass_tx
pass_tx-silent None b = refl
pass_tx-silent (Some id) b =
    let p = (record_of b id).point in
    let c = (point_once b id p).book in
    rw (point_once-acked p id b, ack_once-foreign (record_of c id).acked id c) refl

-- the pass of a transaction of another node, in the world, as this node's cell sees it
pass_tx-other : (o : Option ℕ) (own : Bool) (txs : List TxDecl) (me : ℕ) (b q : Book) → Agrees txs me b q → ((id : ℕ) → o ≡ Some id → (declared txs id).node ≢ me)
    → Agrees txs me (pass_tx b own o).book q
unfolding pass_tx
pass_tx-other None own txs me b q a other = a
pass_tx-other (Some id) own txs me b q a other =
    let p = (record_of b id).point in
    let c = (point_once b id p).book in
    ack_once-other (record_of c id).acked own txs me id c q (point_once-world p txs me id b q a) (other id refl)

-- ---- the transaction of an entry

entry_none : (s : Stream) (number : ℕ) (e : Option EntryId) → e ≡ None → is_entry s number e ≡ false
unfolding is_entry
entry_none s number e is = rw is refl

entry_other : (s : Stream) (number n : ℕ) (e : Option EntryId) → ((x : EntryId) → e ≡ Some x → x.stream.node ≡ n) → n ≢ s.node → is_entry s number e ≡ false
entry_other s number n e h ne = no_entry_of (is_entry s number e) refl
  where
    no_entry_of : (b : Bool) → is_entry s number e ≡ b → is_entry s number e ≡ false
    no_entry_of true is = let f = is_entry-node s number e is in absurd (ne (sym (h f.0 f.1) ∙ f.2))
    no_entry_of false is = is

tx_of-same : (txs : List TxDecl) (me : ℕ) (b q : Book) (s : Stream) (number : ℕ) → Agrees txs me b q → s.node ≡ me → tx_of b s number ≡ tx_of q s number
tx_of-same txs me b q s number a own =
    tx_from-same s number 0 b.records q.records (λ i. elim (cases_eq (declared txs i).node me) [
      | inl mine ↦ let run_state = a.own i mine in ap (λ (e : Option EntryId). is_entry s number e) run_state.entry
      | inr other ↦ entry_other s number (declared txs i).node _ (a.entries i) (λ is. other (is ∙ own)) ∙ sym (entry_none s number _ (a.others i other))
    ])

tx_of-foreign : (txs : List TxDecl) (me : ℕ) (b q : Book) (s : Stream) (number : ℕ) → Agrees txs me b q → s.node ≢ me → tx_of q s number ≡ None
tx_of-foreign txs me b q s number a foreign =
    tx_from-none s number 0 q.records (λ i. elim (cases_eq (declared txs i).node me) [
      | inl mine ↦ let run_state = a.own i mine in
          entry_other s number me _ (λ x is. a.entries i x (run_state.entry ∙ is) ∙ mine) (λ is. foreign (sym is))
      | inr other ↦ entry_none s number _ (a.others i other)
    ])

-- it is one of the stream's node
pub tx_of-node : (txs : List TxDecl) (me : ℕ) (b q : Book) (s : Stream) (number id : ℕ) → Agrees txs me b q → tx_of b s number ≡ Some id → (declared txs id).node ≡ s.node
tx_of-node txs me b q s number id a is =
    let f = tx_from-found s number 0 b.records id is in
    let at = f.at in
    let place : f.place ≡ id = omega arith in
    let e = is_entry-node s number _ f.is in
    ap (λ (j : ℕ). (declared txs j).node) (sym place) ∙ (sym (a.entries f.place e.0 e.1) ∙ e.2)

-- ---- passes

pass_numbers-both : (txs : List TxDecl) (me : ℕ) (s : Stream) (ks : List ℕ) (b q : Book) → Agrees txs me b q → s.node ≡ me → AgreeAfter txs me (pass_numbers b true s ks) (pass_numbers q true s ks)
unfolding pass_numbers
pass_numbers-both txs me s [] b q a own = record { books = a; acked = refl }
pass_numbers-both txs me s (k ∷ ks) b q a own =
    after-then txs me (pass_tx b true (tx_of b s k)) (pass_tx q true (tx_of q s k)) (λ c. pass_numbers c true s ks) (λ c. pass_numbers c true s ks)
    (subst (λ (o : Option ℕ). AgreeAfter txs me (pass_tx b true (tx_of b s k)) (pass_tx q true o)) (tx_of-same txs me b q s k a own)
    (pass_tx-both (tx_of b s k) txs me b q a (λ id is. tx_of-node txs me b q s k id a is ∙ own)))
    (λ c d agree. pass_numbers-both txs me s ks c d agree own)

pass_tx-none : (own : Bool) (q : Book) → pass_tx q own None ≡ book_only q
unfolding pass_tx
pass_tx-none own q = refl

pass_numbers-foreign : (txs : List TxDecl) (me : ℕ) (s : Stream) (ks : List ℕ) (b q : Book) → Agrees txs me b q → s.node ≢ me → AgreeAfter txs me (pass_numbers b false s ks) (pass_numbers q false s ks)
unfolding pass_numbers
pass_numbers-foreign txs me s [] b q a foreign = record { books = a; acked = refl }
pass_numbers-foreign txs me s (k ∷ ks) b q a foreign =
    after-then txs me (pass_tx b false (tx_of b s k)) (pass_tx q false (tx_of q s k)) (λ c. pass_numbers c false s ks) (λ c. pass_numbers c false s ks)
    (rw (tx_of-foreign txs me b q s k a foreign, pass_tx-none false q)
    (record { books = pass_tx-foreign (tx_of b s k) txs me b q a; acked = pass_tx-silent (tx_of b s k) b }))
    (λ c d agree. pass_numbers-foreign txs me s ks c d agree foreign)

-- the passes of the node, in both books
pub book_passes-both : (txs : List TxDecl) (me : ℕ) (ps : List Passed) (b q : Book) → Agrees txs me b q → AgreeAfter txs me (book_passes b me ps) (book_passes q me ps)
unfolding book_passes
book_passes-both txs me [] b q a = record { books = a; acked = refl }
book_passes-both txs me (p ∷ ps) b q a =
    let ks = numbers_from p.first (p.after - p.first) in
    after-then txs me (pass_numbers b (p.stream.node == me) p.stream ks) (pass_numbers q (p.stream.node == me) p.stream ks) (λ c. book_passes c me ps) (λ c. book_passes c me ps)
    (elim (cases_eq p.stream.node me) [
      | inl own ↦ rw (eq_test p.stream.node me own) (pass_numbers-both txs me p.stream ks b q a own)
      | inr foreign ↦ rw (ne_eqb p.stream.node me foreign) (pass_numbers-foreign txs me p.stream ks b q a foreign)
    ])
    (λ c d agree. book_passes-both txs me ps c d agree)
  where
    eq_test : (m n : ℕ) → m ≡ n → (m == n) ≡ true
    eq_test m n is = eq-eqb m n is

-- the passes of another node n, in the world, as this node's cell sees them
pass_numbers-other : (txs : List TxDecl) (me n : ℕ) (s : Stream) (ks : List ℕ) (b q : Book) → Agrees txs me b q → n ≢ me → Agrees txs me (pass_numbers b (s.node == n) s ks).book q
unfolding pass_numbers
pass_numbers-other txs me n s [] b q a other = a
pass_numbers-other txs me n s (k ∷ ks) b q a other =
    pass_numbers-other txs me n s ks (pass_tx b (s.node == n) (tx_of b s k)).book q
    (elim (cases_eq s.node n) [
      | inl own ↦ pass_tx-other (tx_of b s k) (s.node == n) txs me b q a (λ id is mine. other (sym own ∙ (sym (tx_of-node txs me b q s k id a is) ∙ mine)))
      | inr foreign ↦ rw (ne_eqb s.node n foreign) (pass_tx-foreign (tx_of b s k) txs me b q a)
    ]) other

-- if the books agree, then they agree after the world notes the passes of another node
pub book_passes-other : (txs : List TxDecl) (me n : ℕ) (ps : List Passed) (b q : Book) → Agrees txs me b q → n ≢ me → Agrees txs me (book_passes b n ps).book q
unfolding book_passes
book_passes-other txs me n [] b q a other = a
book_passes-other txs me n (p ∷ ps) b q a other =
    book_passes-other txs me n ps _ q (pass_numbers-other txs me n p.stream (numbers_from p.first (p.after - p.first)) b q a other) other

-- ---- begins

-- if the books agree, then they agree after both note the begin of a transaction of this node
pub book_begun-both : (o : BeginOutcome) (txs : List TxDecl) (me id : ℕ) (b q : Book) → Agrees txs me b q → (declared txs id).node ≡ me → AgreeAfter txs me (book_begun b id o) (book_begun q id o)
unfolding book_begun
book_begun-both Begun txs me id b q a own =
    record {
      books = both-change txs me b.records q.records id (λ r. record r { begun = Some b.steps }) (λ r. record r { begun = Some q.steps }) a own
          (λ r s h. record { begun = refl; entry = h.entry; reply = h.reply; acked = h.acked; refused = h.refused }) (λ r h. h);
      acked = refl;
    }
book_begun-both _ txs me id b q a own = record { books = a; acked = refl }

-- if the books agree, then they agree after the world notes the begin of a transaction of another node
pub book_begun-other : (o : BeginOutcome) (txs : List TxDecl) (me id : ℕ) (b q : Book) → Agrees txs me b q → (declared txs id).node ≢ me → Agrees txs me (book_begun b id o).book q
unfolding book_begun
book_begun-other Begun txs me id b q a other = world-change txs me b.records q.records id _ a (λ is. absurd (other is)) (a.entries id)
book_begun-other _ txs me id b q a other = a

-- ---- tries

-- the transaction that a try's answer names for the book is one of the node
unfoldable pub TriesOwn : List TxDecl → ℕ → Tried → Type 0
TriesOwn txs n (Committed id number reply) = (declared txs id).node ≡ n
TriesOwn txs n (Read id reply) = (declared txs id).node ≡ n
TriesOwn txs n (NoCopy id x) = (declared txs id).node ≡ n
TriesOwn txs n _ = Unit {0}

read-both : (txs : List TxDecl) (me id : ℕ) (reply : Reply) (b q : Book) → Agrees txs me b q → (declared txs id).node ≡ me → AgreeAfter txs me (book_read b id reply) (book_read q id reply)
read-both txs me id reply b q a own =
    let c = book_reply b id reply in
    let d = book_reply q id reply in
    let replied : Agrees txs me c d = both-change txs me b.records q.records id (λ r. record r { reply = Some reply }) (λ r. record r { reply = Some reply }) a own
    (λ r s h. record { begun = h.begun; entry = h.entry; reply = refl; acked = h.acked; refused = h.refused }) (λ r h. h) in
    let pointed : Agrees txs me (book_point c id) (book_point d id) = both-change txs me c.records d.records id (λ r. record r { point = Some b.steps }) (λ r. record r { point = Some q.steps }) replied own
    (λ r s h. record { begun = h.begun; entry = h.entry; reply = h.reply; acked = h.acked; refused = h.refused }) (λ r h. h) in
    record {
      books = both-change txs me (book_point c id).records (book_point d id).records id (λ r. record r { acked = Some b.steps }) (λ r. record r { acked = Some q.steps }) pointed own
          (λ r s h. record { begun = h.begun; entry = h.entry; reply = h.reply; acked = refl; refused = h.refused }) (λ r h. h);
      acked = refl;
    }

refuse-both : (degree : Option ℕ) (txs : List TxDecl) (me id : ℕ) (b q : Book) → Agrees txs me b q → (declared txs id).node ≡ me
    → AgreeAfter txs me (if is_none degree then book_only (book_refuse b id) else book_only b) (if is_none degree then book_only (book_refuse q id) else book_only q)
refuse-both None txs me id b q a own =
    record {
      books = both-change txs me b.records q.records id (λ r. record r { refused = true }) (λ r. record r { refused = true }) a own
          (λ r s h. record { begun = h.begun; entry = h.entry; reply = h.reply; acked = h.acked; refused = refl }) (λ r h. h);
      acked = refl;
    }
refuse-both (Some d) txs me id b q a own = record { books = a; acked = refl }

-- if the books agree, then they agree after both note the answer of a try at this node
pub book_tried-both : (t : Tried) (txs : List TxDecl) (me slot : ℕ) (degree : Option ℕ) (b q : Book) → Agrees txs me b q → TriesOwn txs me t
    → AgreeAfter txs me (book_tried b record { node = me; slot = slot } degree t) (book_tried q record { node = me; slot = slot } degree t)
unfolding book_tried TriesOwn
book_tried-both (Committed id number reply) txs me slot degree b q a own =
    record {
      books = both-change txs me b.records q.records id (λ r. record r { entry = Some record { stream = record { node = me; slot = slot }; number = number }; reply = Some reply })
          (λ r. record r { entry = Some record { stream = record { node = me; slot = slot }; number = number }; reply = Some reply }) a own
          (λ r s h. record { begun = h.begun; entry = refl; reply = refl; acked = h.acked; refused = h.refused })
          (λ r h e is. let same : e ≡ record { stream = record { node = me; slot = slot }; number = number } = cc in rw same refl);
      acked = refl;
    }
book_tried-both (Read id reply) txs me slot degree b q a own = read-both txs me id reply b q a own
book_tried-both (NoCopy id x) txs me slot degree b q a own = refuse-both degree txs me id b q a own
book_tried-both _ txs me slot degree b q a own = record { books = a; acked = refl }

read-other : (txs : List TxDecl) (me id : ℕ) (reply : Reply) (b q : Book) → Agrees txs me b q → (declared txs id).node ≢ me → Agrees txs me (book_read b id reply).book q
read-other txs me id reply b q a other =
    let c = book_reply b id reply in
    let replied : Agrees txs me c q = world-change txs me b.records q.records id _ a (λ is. absurd (other is)) (a.entries id) in
    let pointed : Agrees txs me (book_point c id) q = world-change txs me c.records q.records id _ replied (λ is. absurd (other is)) (replied.entries id) in
    world-change txs me (book_point c id).records q.records id _ pointed (λ is. absurd (other is)) (pointed.entries id)

refuse-other : (degree : Option ℕ) (txs : List TxDecl) (me id : ℕ) (b q : Book) → Agrees txs me b q → (declared txs id).node ≢ me
    → Agrees txs me (if is_none degree then book_only (book_refuse b id) else book_only b).book q
refuse-other None txs me id b q a other = world-change txs me b.records q.records id _ a (λ is. absurd (other is)) (a.entries id)
refuse-other (Some d) txs me id b q a other = a

-- if the books agree, then they agree after the world notes the answer of a try at another node
pub book_tried-other : (t : Tried) (txs : List TxDecl) (me n slot : ℕ) (degree : Option ℕ) (b q : Book) → Agrees txs me b q → n ≢ me → TriesOwn txs n t
    → Agrees txs me (book_tried b record { node = n; slot = slot } degree t).book q
unfolding book_tried TriesOwn
book_tried-other (Committed id number reply) txs me n slot degree b q a other own =
    world-change txs me b.records q.records id _ a (λ is. absurd (other (sym own ∙ is)))
    (λ e is. let same : e ≡ record { stream = record { node = n; slot = slot }; number = number } = cc in rw same (sym own))
book_tried-other (Read id reply) txs me n slot degree b q a other own = read-other txs me id reply b q a (λ is. other (sym own ∙ is))
book_tried-other (NoCopy id x) txs me n slot degree b q a other own = refuse-other degree txs me id b q a (λ is. other (sym own ∙ is))
book_tried-other _ txs me n slot degree b q a other own = a
