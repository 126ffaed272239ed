-- What is acknowledged stays so, and what a note of the book acknowledges is so afterwards.
use Rattle.std.specs.Prelude.{ℕ, ◌≡◌, ◌-◌, ◌==◌, Bool, true, false, List, [], ◌∷◌, Option, Some, None, is_some, is_none, if◌then◌else◌}
use Rattle.std.proofs.Common.{refl, inl, inr, subst}
use Rattle.std.proofs.lemmas.Bool.{cases_eq}
use Rattle.zeus_base.specs.declared.order.Stream.{Stream}
use Rattle.zeus_base.specs.declared.step.Passed.{Passed}
use Rattle.zeus_base.specs.TableLaws.{nth-put_same}
use Rattle.zeus_txn.specs.declared.reply.Reply.{Reply}
use Rattle.zeus_txn.specs.declared.tx.TxDecl.{TxDecl}
use Rattle.zeus_model.specs.declared.answer.Begin.{Begin as BeginOutcome}
use Rattle.zeus_model.specs.declared.answer.Begin.TheVariants.{Begun}
use Rattle.zeus_model.specs.declared.answer.Tried.{Tried}
use Rattle.zeus_model.specs.declared.answer.Tried.TheVariants.{NoCopy, Read, Committed}
use Rattle.zeus_model.specs.In.{In, here, there}
use Rattle.zeus_model.specs.State.{Node}
use Rattle.zeus_model.specs.Tables.{nth, put, numbers_from}
use Rattle.zeus_model.specs.Book.{Book, BookChange, TxRecord, no_record, record_of, book_only, change_then, tx_of, point_once, ack_once, pass_tx, pass_numbers, book_passes, book_tried, book_point, book_ack, book_reply, book_read, book_refuse, in_stream_order}
use Rattle.zeus_model.specs.World.{book_begun}
use Rattle.zeus_model.specs.Local.{try_slot}
use Rattle.zeus_model.specs.InLaws.{In-append}
use Rattle.machine_moves.proofs.Lists.{In-nothing, nth-put_other}
use Rattle.live_model.specs.Cell.{Deed, Began, Tried as TriedDeed, Took, Ticked, Halted, Saw, notes_down}

abbrev pub IsAcked : Book → ℕ → Type 0
IsAcked b k = is_some (record_of b k).acked ≡ true

-- a change of the book keeps acknowledgements, and those that it makes are there
pub record Acknowledges (b : Book) (x : BookChange) : Type 0 where
  pub kept : (k : ℕ) → IsAcked b k → IsAcked x.book k
  pub made : (k : ℕ) → In k x.acked → IsAcked x.book k

acks-book_only : (b : Book) → Acknowledges b (book_only b)
acks-book_only b = record { kept = λ k h. h; made = λ k is. In-nothing k is }

acks-then : (b : Book) (x : BookChange) (f : Book → BookChange) → Acknowledges b x → ((c : Book) → Acknowledges c (f c)) → Acknowledges b (change_then x f)
acks-then b x f h next =
    let n = next x.book in
    record {
      kept = λ k acked. n.kept k (h.kept k acked);
      made = λ k is. elim (In-append k x.acked (f x.book).acked is) [ inl first ↦ n.kept k (h.made k first) | inr second ↦ n.made k second ];
    }

-- one record changes, and stays acknowledged if it was
kept-put : (rs : List TxRecord) (i k : ℕ) (r : TxRecord) → (is_some (nth no_record rs i).acked ≡ true → is_some r.acked ≡ true) → is_some (nth no_record rs k).acked ≡ true
    → is_some (nth no_record (put no_record rs i r) k).acked ≡ true
kept-put rs i k r stays acked =
    elim (cases_eq k i) [
      | inl same ↦ rw (same, nth-put_same no_record rs i r) (stays (subst (λ (j : ℕ). is_some (nth no_record rs j).acked ≡ true) same acked))
      | inr other ↦ rw (nth-put_other no_record rs i k r other) acked
    ]

point_once-acks : (point : Option ℕ) (b : Book) (id : ℕ) → Acknowledges b (point_once b id point)
unfolding point_once
point_once-acks (Some step) b id = acks-book_only b
point_once-acks None b id = record { kept = λ k h. kept-put b.records id k _ (λ g. g) h; made = λ k is. In-nothing k is }

-- the acknowledgement of a transaction
ack-made : (b : Book) (id k : ℕ) → In k (id ∷ []) → IsAcked (book_ack b id) k
ack-made b id k (here _ _ e) = rw (e, nth-put_same no_record b.records id (record (record_of b id) { acked = Some b.steps })) refl
ack-made b id k (there _ _ is) = In-nothing k is

ack-kept : (b : Book) (id k : ℕ) → IsAcked b k → IsAcked (book_ack b id) k
ack-kept b id k h = kept-put b.records id k (record (record_of b id) { acked = Some b.steps }) (λ _. refl) h

ack_once-acks : (o : Option ℕ) (own : Bool) (b : Book) (id : ℕ) → Acknowledges b (ack_once b id own o)
unfolding ack_once
ack_once-acks (Some step) own b id = acks-book_only b
ack_once-acks None true b id = record { kept = ack-kept b id; made = ack-made b id }
ack_once-acks None false b id = acks-book_only b

pass_tx-acks : (o : Option ℕ) (b : Book) (own : Bool) → Acknowledges b (pass_tx b own o)
unfolding pass_tx
pass_tx-acks None b own = acks-book_only b
pass_tx-acks (Some id) b own =
    acks-then b (point_once b id (record_of b id).point) (λ c. ack_once c id own (record_of c id).acked) (point_once-acks (record_of b id).point b id)
    (λ c. ack_once-acks (record_of c id).acked own c id)

pass_numbers-acks : (ks : List ℕ) (b : Book) (own : Bool) (s : Stream) → Acknowledges b (pass_numbers b own s ks)
unfolding pass_numbers
pass_numbers-acks [] b own s = acks-book_only b
pass_numbers-acks (k ∷ ks) b own s =
    acks-then b (pass_tx b own (tx_of b s k)) (λ c. pass_numbers c own s ks) (pass_tx-acks (tx_of b s k) b own) (λ c. pass_numbers-acks ks c own s)

book_passes-acks : (ps : List Passed) (b : Book) (me : ℕ) → Acknowledges b (book_passes b me ps)
unfolding book_passes
book_passes-acks [] b me = acks-book_only b
book_passes-acks (p ∷ ps) b me =
    let ks = numbers_from p.first (p.after - p.first) in
    acks-then b (pass_numbers b (p.stream.node == me) p.stream ks) (λ c. book_passes c me ps) (pass_numbers-acks ks b (p.stream.node == me) p.stream) (λ c. book_passes-acks ps c me)

begun-acks : (o : BeginOutcome) (b : Book) (id : ℕ) → Acknowledges b (book_begun b id o)
unfolding book_begun
begun-acks Begun b id = record { kept = λ k h. kept-put b.records id k _ (λ g. g) h; made = λ k is. In-nothing k is }
begun-acks _ b id = acks-book_only b

read-acks : (b : Book) (id : ℕ) (reply : Reply) → Acknowledges b (book_read b id reply)
read-acks b id reply =
    let c = book_reply b id reply in
    let d = book_point c id in
    record {
      kept = λ k h. ack-kept d id k (kept-put c.records id k (record (record_of c id) { point = Some c.steps }) (λ g. g) (kept-put b.records id k (record (record_of b id) { reply = Some reply }) (λ g. g) h));
      made = ack-made d id;
    }

refuse-acks : (none : Bool) (b : Book) (id : ℕ) → Acknowledges b (if none then book_only (book_refuse b id) else book_only b)
refuse-acks true b id = record { kept = λ k h. kept-put b.records id k (record (record_of b id) { refused = true }) (λ g. g) h; made = λ k is. In-nothing k is }
refuse-acks false b id = acks-book_only b

tried-acks : (t : Tried) (b : Book) (s : Stream) (degree : Option ℕ) → Acknowledges b (book_tried b s degree t)
unfolding book_tried
tried-acks (Committed id number reply) b s degree = record { kept = λ k h. kept-put b.records id k _ (λ g. g) h; made = λ k is. In-nothing k is }
tried-acks (Read id reply) b s degree = read-acks b id reply
tried-acks (NoCopy id x) b s degree = refuse-acks (is_none degree) b id
tried-acks _ b s degree = acks-book_only b

-- what a cell notes in its book keeps the acknowledgements there, and those that it tells are there afterwards
pub notes_down-acks : (deed : Deed) (me : ℕ) (degree : Option ℕ) (txs : List TxDecl) (b : Book) (n : Node) → Acknowledges b (notes_down me degree txs b n deed)
unfolding notes_down
notes_down-acks (Began j) me degree txs b n = begun-acks _ b j.tx
notes_down-acks (TriedDeed s) me degree txs b n =
    acks-then b (book_tried b record { node = me; slot = s } degree (try_slot n s).answer) (λ c. book_passes c me (in_stream_order (try_slot n s).passed))
    (tried-acks (try_slot n s).answer b record { node = me; slot = s } degree) (λ c. book_passes-acks (in_stream_order (try_slot n s).passed) c me)
notes_down-acks (Took sender p) me degree txs b n = book_passes-acks _ b me
notes_down-acks Ticked me degree txs b n = acks-book_only b
notes_down-acks Halted me degree txs b n = acks-book_only b
notes_down-acks (Saw v) me degree txs b n = book_passes-acks _ b me
