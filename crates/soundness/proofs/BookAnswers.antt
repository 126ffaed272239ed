-- What a begin and a try write into the book is what they answer and tell.
use Rattle.std.specs.Prelude.{ℕ, ◌≡◌, ◌≢◌, ◌==◌, Bool, true, false, [], ◌∷◌, Option, Some, None, is_none, if◌then◌else◌}
use Rattle.std.proofs.Common.{arith, refl, ap, sym, ◌∙◌, inl, inr, subst}
use Rattle.std.proofs.lemmas.Bool.{cases_Bool, eq-eqb, ne_eqb, eqb-true}
use Rattle.std.proofs.lemmas.List.{append-nil}
use Rattle.zeus_base.specs.TableLaws.{nth-put_same, nth-put_other}
use Rattle.zeus_base.specs.declared.order.Stream.{Stream}
use Rattle.zeus_base.specs.declared.step.Step.{Step}
use Rattle.zeus_base.specs.declared.step.Step.TheVariants.{Begin, Try}
use Rattle.zeus_txn.specs.declared.reply.Reply.{Reply}
use Rattle.zeus_model.specs.declared.answer.Answer.{Answer}
use Rattle.zeus_model.specs.declared.answer.Answer.TheVariants.{Begin as BeginAnswer, Try as TryAnswer}
use Rattle.zeus_model.specs.declared.answer.Begin.{Begin as BeginOutcome}
use Rattle.zeus_model.specs.declared.answer.Begin.TheVariants.{Begun, Stopped as BeginStopped, Busy}
use Rattle.zeus_model.specs.declared.answer.Tried.{Tried}
use Rattle.zeus_model.specs.declared.answer.Tried.TheVariants.{NoCopy, Read, Committed}
use Rattle.zeus_model.specs.Book.{Book, BookChange, EntryId, TxRecord, no_record, record_of, with_record, book_only, book_point, book_commit, book_reply, book_refuse, book_read, book_tried, point_once, ack_once}
use Rattle.zeus_model.specs.World.{book_begun}
use Rattle.soundness.specs.Telling.{how_often, ids_of}
use Rattle.soundness.proofs.Written.{Writes, leaves, fills}
use Rattle.soundness.proofs.BookChanges.{keeps, Said, nothing_said, IsRewritten, IsChange, IsChange-then, IsChange-book_only}
use Rattle.soundness.proofs.BookPasses.{SaysReplies, records_one, how_often-none, how_often-one, point_once-change, ack_once-change, pointed-here}

-- ---- what an answer says

abbrev pub silence : Said
silence = record { begun = None; entry = None; reply = None }

-- a begun transaction is begun at this step
unfoldable pub said_begin : ℕ → ℕ → BeginOutcome → ℕ → Said
said_begin step k Begun id = if k == id then record { begun = Some step; entry = None; reply = None } else silence
said_begin step k _ id = silence

-- a committed transaction has its entry and its reply, and one that was read has its reply
unfoldable pub said_tried : Stream → Tried → ℕ → Said
said_tried t (Committed i number reply) id =
    if i == id then record { begun = None; entry = Some record { stream = t; number = number }; reply = Some reply } else silence
said_tried t (Read i reply) id = if i == id then record { begun = None; entry = None; reply = Some reply } else silence
said_tried t _ id = silence

-- what the answer to a step says of a transaction
unfoldable pub said : ℕ → Step → Answer → ℕ → Said
said step (Begin k) (BeginAnswer a) id = said_begin step k a id
said step (Try n s) (TryAnswer a) id = said_tried record { node = n; slot = s } a id
said step _ _ id = silence

-- ---- one record is written

-- a change of one record that tells no point and no acknowledgement
one_record : (b : Book) (of : ℕ → Said) (id : ℕ) (r : TxRecord) → IsRewritten b.steps (of id) 0 0 (record_of b id) r → ((j : ℕ) → j ≢ id → of j ≡ silence)
    → IsChange b (book_only (with_record b id r)) of
unfolding ids_of
one_record b of id r at others = record {
  counts = refl;
  added = [];
  points = sym (append-nil b.points);
  told = refl;
  replies = λ p i. elim i [ ];
  records = records_one b (with_record b id r) of id [] []
      (rw (how_often-none id, nth-put_same no_record b.records id r) at)
      (λ j other. (others j other, how_often-none j, how_often-none j, nth-put_other no_record b.records id j r (λ e. other (sym e))));
}

-- ---- begin

-- if a transaction has not begun, then its begin writes into the book just what its answer says
pub begun-change : (b : Book) (k : ℕ) (a : BeginOutcome) → (record_of b k).begun ≡ None → IsChange b (book_begun b k a) (said_begin b.steps k a)
unfolding book_begun said_begin
begun-change b k BeginStopped none = IsChange-book_only b
begun-change b k (Busy j) none = IsChange-book_only b
begun-change b k Begun none =
    let r = record_of b k in
    one_record b (said_begin b.steps k Begun) k (record r { begun = Some b.steps })
    (rw (eq-eqb k k refl) record {
      begun = subst (λ (o : Option ℕ). Writes (Some b.steps) o (Some b.steps)) (sym none) (fills b.steps);
      entry = leaves r.entry;
      reply = leaves r.reply;
      point = keeps r.point;
      acked = keeps r.acked;
    })
    (λ j other. rw (ne_eqb k j (λ e. other (sym e))) refl)

-- ---- try

-- the transaction that an answer ends
unfoldable pub ended_id : Tried → Option ℕ
ended_id (Committed id number reply) = Some id
ended_id (Read id reply) = Some id
ended_id _ = None

-- a record that has neither entry, nor reply, nor point, nor acknowledgement
pub record IsOpen (r : TxRecord) : Type 0 where
  pub entry : r.entry ≡ None
  pub reply : r.reply ≡ None
  pub point : r.point ≡ None
  pub acked : r.acked ≡ None

commit-change : (b : Book) (t : Stream) (id number : ℕ) (reply : Reply) → IsOpen (record_of b id) → IsChange b (book_only (book_commit b t id number reply)) (said_tried t (Committed id number reply))
unfolding said_tried
commit-change b t id number reply new =
    let r = record_of b id in
    let e : EntryId = record { stream = t; number = number } in
    one_record b (said_tried t (Committed id number reply)) id (record r { entry = Some e; reply = Some reply })
    (rw (eq-eqb id id refl) record {
      begun = leaves r.begun;
      entry = subst (λ (o : Option EntryId). Writes (Some e) o (Some e)) (sym new.entry) (fills e);
      reply = subst (λ (o : Option Reply). Writes (Some reply) o (Some reply)) (sym new.reply) (fills reply);
      point = keeps r.point;
      acked = keeps r.acked;
    })
    (λ j other. rw (ne_eqb id j (λ e. other (sym e))) refl)

reply-change : (b : Book) (t : Stream) (id : ℕ) (reply : Reply) → IsOpen (record_of b id) → IsChange b (book_only (book_reply b id reply)) (said_tried t (Read id reply))
unfolding said_tried
reply-change b t id reply new =
    let r = record_of b id in
    one_record b (said_tried t (Read id reply)) id (record r { reply = Some reply })
    (rw (eq-eqb id id refl) record {
      begun = leaves r.begun;
      entry = leaves r.entry;
      reply = subst (λ (o : Option Reply). Writes (Some reply) o (Some reply)) (sym new.reply) (fills reply);
      point = keeps r.point;
      acked = keeps r.acked;
    })
    (λ j other. rw (ne_eqb id j (λ e. other (sym e))) refl)

-- a read is a reply, a point and an acknowledgement
read-change : (b : Book) (t : Stream) (id : ℕ) (reply : Reply) → IsOpen (record_of b id) → IsChange b (book_read b id reply) (said_tried t (Read id reply))
unfolding point_once ack_once
read-change b t id reply new =
    let replied : Book = book_reply b id reply in
    let pointed : Book = book_point replied id in
    let now : record_of replied id ≡ record (record_of b id) { reply = Some reply } = nth-put_same no_record b.records id (record (record_of b id) { reply = Some reply }) in
    let later : record_of pointed id ≡ record (record_of replied id) { point = Some b.steps } = pointed-here replied id in
    IsChange-then b record { book = pointed; points = id ∷ []; acked = [] } (ack_once pointed id true None) (said_tried t (Read id reply))
    (IsChange-then b (book_only replied) (point_once replied id None) (said_tried t (Read id reply)) (reply-change b t id reply new)
    (point_once-change replied id None reply (ap (λ (r : TxRecord). r.point) now ∙ new.point) (ap (λ (r : TxRecord). r.reply) now)))
    (ack_once-change pointed id true None (ap (λ (r : TxRecord). r.acked) later ∙ ap (λ (r : TxRecord). r.acked) now ∙ new.acked))

refuse-change : (b : Book) (t : Stream) (id x : ℕ) (none : Bool) → IsChange b (if none then book_only (book_refuse b id) else book_only b) (said_tried t (NoCopy id x))
unfolding said_tried
refuse-change b t id x false = IsChange-book_only b
refuse-change b t id x true =
    let r = record_of b id in
    one_record b nothing_said id (record r { refused = true })
    record { begun = leaves r.begun; entry = leaves r.entry; reply = leaves r.reply; point = keeps r.point; acked = keeps r.acked }
    (λ j other. refl)

-- if a transaction that a try ends is open, then the try writes into the book just what its answer says
pub tried-change : (b : Book) (t : Stream) (degree : Option ℕ) (a : Tried) → ((id : ℕ) → ended_id a ≡ Some id → IsOpen (record_of b id)) → IsChange b (book_tried b t degree a) (said_tried t a)
unfolding book_tried said_tried ended_id
tried-change b t degree (Committed id number reply) new = commit-change b t id number reply (new id refl)
tried-change b t degree (Read id reply) new = read-change b t id reply (new id refl)
tried-change b t degree (NoCopy id x) new = refuse-change b t id x (is_none degree)
tried-change b t degree _ new = IsChange-book_only b

-- ---- what is said comes with its reply

no_replies : (c : BookChange) → SaysReplies nothing_said c
no_replies c id = (λ none. absurd cc, λ none. absurd cc)

-- what a begin's answer says of entries and replies goes together: it says nothing of either
pub said_begin-replies : (step k : ℕ) (a : BeginOutcome) (c : BookChange) → SaysReplies (said_begin step k a) c
unfolding said_begin
said_begin-replies step k BeginStopped c id = no_replies c id
said_begin-replies step k (Busy j) c id = no_replies c id
said_begin-replies step k Begun c id = elim (cases_Bool (k == id)) [
  | inl same ↦ rw same (λ none. absurd cc, λ none. absurd cc)
  | inr other ↦ rw other (no_replies c id)
]

-- what a try's answer says goes together: an entry comes with its reply, and a reply with an entry or a point
pub said_tried-replies : (b : Book) (t : Stream) (degree : Option ℕ) (a : Tried) → SaysReplies (said_tried t a) (book_tried b t degree a)
unfolding said_tried book_tried
said_tried-replies b t degree (Committed i number reply) id = elim (cases_Bool (i == id)) [
  | inl same ↦ rw same (λ some. refl, λ some. inl refl)
  | inr other ↦ rw other (λ none. absurd cc, λ none. absurd cc)
]
said_tried-replies b t degree (Read i reply) id = elim (cases_Bool (i == id)) [
  | inl same ↦
      let is : i ≡ id = eqb-true i id same in
      let once : how_often id (i ∷ []) ≡ 1 = ap (λ (j : ℕ). how_often id (j ∷ [])) is ∙ how_often-one id in
      rw (same, once) (λ none. absurd cc, λ some. inr (omega arith))
  | inr other ↦ rw other (λ none. absurd cc, λ none. absurd cc)
]
said_tried-replies b t degree (NoCopy i x) id = (λ none. absurd cc, λ none. absurd cc)
said_tried-replies b t degree _ id = (λ none. absurd cc, λ none. absurd cc)
