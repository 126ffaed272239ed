-- What notes of the book leave of its records: what was begun, and what was refused.
use Rattle.std.specs.Prelude.{ℕ, ◌≡◌, ◌-◌, ◌==◌, Bool, true, false, List, [], ◌∷◌, Option, Some, None, is_some, is_none, ◌⊎◌, if◌then◌else◌}
use Rattle.std.proofs.Common.{refl, sym, ap, ◌∙◌, inl, inr}
use Rattle.std.proofs.lemmas.Bool.{cases_eq}
use Rattle.zeus_base.specs.declared.order.Stream.{Stream}
use Rattle.zeus_base.specs.declared.step.Passed.{Passed}
use Rattle.zeus_base.specs.TableLaws.{nth-put_same}
use Rattle.zeus_txn.specs.declared.reply.Reply.{Reply}
use Rattle.zeus_txn.specs.declared.tx.TxDecl.{TxDecl}
use Rattle.zeus_model.specs.declared.answer.Begin.{Begin as BeginOutcome}
use Rattle.zeus_model.specs.declared.answer.Begin.TheVariants.{Begun}
use Rattle.zeus_model.specs.declared.answer.Tried.{Tried}
use Rattle.zeus_model.specs.declared.answer.Tried.TheVariants.{NoCopy, Read, Committed}
use Rattle.zeus_model.specs.In.{In, here, there}
use Rattle.zeus_model.specs.State.{Node}
use Rattle.zeus_model.specs.Tables.{nth, put, numbers_from}
use Rattle.zeus_model.specs.Local.{try_slot}
use Rattle.zeus_model.specs.Book.{Book, TxRecord, no_record, record_of, book_only, tx_of, point_once, ack_once, pass_tx, pass_numbers, book_passes, book_tried, book_point, book_reply, book_read, book_refuse, in_stream_order}
use Rattle.zeus_model.specs.World.{book_begun}
use Rattle.machine_moves.proofs.Lists.{In-nothing, nth-put_other}
use Rattle.live_model.specs.Items.{Job, Note, Refused}
use Rattle.live_model.specs.Cell.{Deed, Began, Tried as TriedDeed, Took, Ticked, Halted, Saw, does, notes_down}
use Rattle.live_model.specs.Ends.{refused_by, refused_at}

-- a part of the records that points and acknowledgements leave as it is
record IsUnpassed {A : Type 0} (f : TxRecord → A) : Type 0 where
  pub point : (r : TxRecord) (o : Option ℕ) → f (record r { point = o }) ≡ f r
  pub acked : (r : TxRecord) (o : Option ℕ) → f (record r { acked = o }) ≡ f r

-- that part of each record is the same in both books
abbrev Keeps : {A : Type 0} → (TxRecord → A) → Book → Book → Type 0
Keeps f b c = (k : ℕ) → f (record_of c k) ≡ f (record_of b k)

keeps-put : {A : Type 0} (f : TxRecord → A) (rs : List TxRecord) (i : ℕ) (r : TxRecord) (k : ℕ) → f r ≡ f (nth no_record rs i)
    → f (nth no_record (put no_record rs i r) k) ≡ f (nth no_record rs k)
keeps-put f rs i r k same =
    elim (cases_eq k i) [
      | inl is ↦ rw (is, nth-put_same no_record rs i r) same
      | inr other ↦ ap f (nth-put_other no_record rs i k r other)
    ]

-- ---- passes

point-keeps : {A : Type 0} (o : Option ℕ) (f : TxRecord → A) (b : Book) (id : ℕ) → IsUnpassed f → Keeps f b (point_once b id o).book
unfolding point_once
point-keeps (Some step) f b id u k = refl
point-keeps None f b id u k = keeps-put f b.records id _ k (u.point (record_of b id) (Some b.steps))

ack-keeps : {A : Type 0} (o : Option ℕ) (own : Bool) (f : TxRecord → A) (b : Book) (id : ℕ) → IsUnpassed f → Keeps f b (ack_once b id own o).book
unfolding ack_once
ack-keeps (Some step) own f b id u k = refl
ack-keeps None true f b id u k = keeps-put f b.records id _ k (u.acked (record_of b id) (Some b.steps))
ack-keeps None false f b id u k = refl

pass_tx-keeps : {A : Type 0} (o : Option ℕ) (f : TxRecord → A) (b : Book) (own : Bool) → IsUnpassed f → Keeps f b (pass_tx b own o).book
unfolding pass_tx
pass_tx-keeps None f b own u k = refl
pass_tx-keeps (Some id) f b own u k =
    let c = (point_once b id (record_of b id).point).book in
    ack-keeps (record_of c id).acked own f c id u k ∙ point-keeps (record_of b id).point f b id u k

numbers-keeps : {A : Type 0} (ks : List ℕ) (f : TxRecord → A) (b : Book) (own : Bool) (s : Stream) → IsUnpassed f → Keeps f b (pass_numbers b own s ks).book
unfolding pass_numbers
numbers-keeps [] f b own s u k = refl
numbers-keeps (j ∷ js) f b own s u k =
    numbers-keeps js f (pass_tx b own (tx_of b s j)).book own s u k ∙ pass_tx-keeps (tx_of b s j) f b own u k

passes-keep : {A : Type 0} (ps : List Passed) (f : TxRecord → A) (b : Book) (me : ℕ) → IsUnpassed f → Keeps f b (book_passes b me ps).book
unfolding book_passes
passes-keep [] f b me u k = refl
passes-keep (p ∷ ps) f b me u k =
    let ks = numbers_from p.first (p.after - p.first) in
    passes-keep ps f (pass_numbers b (p.stream.node == me) p.stream ks).book me u k ∙ numbers-keeps ks f b (p.stream.node == me) p.stream u k

read-keeps : {A : Type 0} (f : TxRecord → A) (b : Book) (id : ℕ) (reply : Reply) → IsUnpassed f → f (record (record_of b id) { reply = Some reply }) ≡ f (record_of b id)
    → Keeps f b (book_read b id reply).book
read-keeps f b id reply u same k =
    let c = book_reply b id reply in
    let d = book_point c id in
    keeps-put f d.records id _ k (u.acked (record_of d id) (Some d.steps))
    ∙ (keeps-put f c.records id _ k (u.point (record_of c id) (Some c.steps)) ∙ keeps-put f b.records id _ k same)

-- ---- what was begun

begun_of : TxRecord → Option ℕ
begun_of r = r.begun

begun-unpassed : IsUnpassed begun_of
unfolding begun_of
begun-unpassed = record { point = λ r o. refl; acked = λ r o. refl }

refuse-begun : (none : Bool) (b : Book) (id : ℕ) → Keeps begun_of b (if none then book_only (book_refuse b id) else book_only b).book
unfolding begun_of
refuse-begun true b id k = keeps-put begun_of b.records id _ k refl
refuse-begun false b id k = refl

tried-begun : (t : Tried) (b : Book) (s : Stream) (degree : Option ℕ) → Keeps begun_of b (book_tried b s degree t).book
unfolding book_tried begun_of
tried-begun (Committed id number reply) b s degree k = keeps-put begun_of b.records id _ k refl
tried-begun (Read id reply) b s degree k = read-keeps begun_of b id reply begun-unpassed refl k
tried-begun (NoCopy id x) b s degree k = refuse-begun (is_none degree) b id k
tried-begun _ b s degree k = refl

abbrev pub IsBegunIn : Book → ℕ → Type 0
IsBegunIn b k = is_some (record_of b k).begun ≡ true

-- a transaction is begun by a begin alone
abbrev BeganBy : Deed → ℕ → Type 0
BeganBy deed k = (j : Job) × (deed ≡ Began j) × (j.tx ≡ k)

still_begun : (f g : Option ℕ) → f ≡ g → is_some f ≡ true → is_some g ≡ true
still_begun f g e h = rw (← e) h

begun-made : (o : BeginOutcome) (b : Book) (j : Job) (k : ℕ) → IsBegunIn (book_begun b j.tx o).book k → IsBegunIn b k ⊎ BeganBy (Began j) k
unfolding book_begun
begun-made Begun b j k h =
    elim (cases_eq k j.tx) [
      | inl same ↦ inr (j, refl, sym same)
      | inr other ↦ inl (rw (nth-put_other no_record b.records j.tx k _ other) at h)
    ]
begun-made _ b j k h = inl h

-- if a transaction is begun after a deed's notes, then it was begun before, or the deed began it
pub begun-by : (deed : Deed) (me : ℕ) (degree : Option ℕ) (txs : List TxDecl) (b : Book) (n : Node) (k : ℕ) → IsBegunIn (notes_down me degree txs b n deed).book k
    → IsBegunIn b k ⊎ BeganBy deed k
unfolding notes_down begun_of
begun-by (Began j) me degree txs b n k h = begun-made _ b j k h
begun-by (TriedDeed s) me degree txs b n k h =
    let t = (try_slot n s).answer in
    let own : Stream = record { node = me; slot = s } in
    let c = (book_tried b own degree t).book in
    inl (still_begun _ _ (passes-keep (in_stream_order (try_slot n s).passed) begun_of c me begun-unpassed k ∙ tried-begun t b own degree k) h)
begun-by (Took sender p) me degree txs b n k h = inl (still_begun _ _ (passes-keep _ begun_of b me begun-unpassed k) h)
begun-by Ticked me degree txs b n k h = inl h
begun-by Halted me degree txs b n k h = inl h
begun-by (Saw v) me degree txs b n k h = inl (still_begun _ _ (passes-keep _ begun_of b me begun-unpassed k) h)

-- ---- what was refused

refused_of : TxRecord → Bool
refused_of r = r.refused

refused-unpassed : IsUnpassed refused_of
unfolding refused_of
refused-unpassed = record { point = λ r o. refl; acked = λ r o. refl }

abbrev pub IsRefusedIn : Book → ℕ → Type 0
IsRefusedIn b k = (record_of b k).refused ≡ true

-- the note of a refusal
abbrev pub refusal : ℕ → ℕ → Note
refusal clock k = record { tx = k; clock = clock; end = Refused }

refuse-kept : (none : Bool) (b : Book) (id k : ℕ) → IsRefusedIn b k → IsRefusedIn (if none then book_only (book_refuse b id) else book_only b).book k
refuse-kept true b id k h =
    elim (cases_eq k id) [
      | inl is ↦ rw (is, nth-put_same no_record b.records id (record (record_of b id) { refused = true })) refl
      | inr other ↦ rw (nth-put_other no_record b.records id k (record (record_of b id) { refused = true }) other) h
    ]
refuse-kept false b id k h = h

refuse-made : (none : Bool) (b : Book) (id clock : ℕ) (n : Note) → In n (if none then refusal clock id ∷ [] else [])
    → IsRefusedIn (if none then book_only (book_refuse b id) else book_only b).book n.tx
refuse-made true b id clock n (here _ _ e) =
    rw (ap (λ (m : Note). m.tx) e, nth-put_same no_record b.records id (record (record_of b id) { refused = true })) refl
refuse-made true b id clock n (there _ _ is) = In-nothing n is
refuse-made false b id clock n is = In-nothing n is

refuse-back : (none : Bool) (b : Book) (id clock k : ℕ) → IsRefusedIn (if none then book_only (book_refuse b id) else book_only b).book k
    → IsRefusedIn b k ⊎ In (refusal clock k) (if none then refusal clock id ∷ [] else [])
refuse-back true b id clock k h =
    elim (cases_eq k id) [
      | inl is ↦ inr (rw is (here (refusal clock id) [] refl))
      | inr other ↦ inl (rw (nth-put_other no_record b.records id k (record (record_of b id) { refused = true }) other) at h)
    ]
refuse-back false b id clock k h = inl h

same_refused : (f g : Bool) → f ≡ g → f ≡ true → g ≡ true
same_refused f g e h = sym e ∙ h

tried-kept : (t : Tried) (b : Book) (s : Stream) (degree : Option ℕ) (k : ℕ) → IsRefusedIn b k → IsRefusedIn (book_tried b s degree t).book k
unfolding book_tried refused_of
tried-kept (Committed id number reply) b s degree k h = keeps-put refused_of b.records id _ k refl ∙ h
tried-kept (Read id reply) b s degree k h = read-keeps refused_of b id reply refused-unpassed refl k ∙ h
tried-kept (NoCopy id x) b s degree k h = refuse-kept (is_none degree) b id k h
tried-kept _ b s degree k h = h

none_refused : (none : Bool) (n : Note) → In n (if none then [] else []) → In n []
none_refused true n is = is
none_refused false n is = is

tried-made : (t : Tried) (b : Book) (s : Stream) (degree : Option ℕ) (clock : ℕ) (n : Note) → In n (if is_none degree then refused_by clock t else [])
    → IsRefusedIn (book_tried b s degree t).book n.tx
unfolding book_tried refused_by
tried-made (NoCopy id x) b s degree clock n is = refuse-made (is_none degree) b id clock n is
tried-made _ b s degree clock n is = In-nothing n (none_refused (is_none degree) n is)

tried-back : (t : Tried) (b : Book) (s : Stream) (degree : Option ℕ) (clock k : ℕ) → IsRefusedIn (book_tried b s degree t).book k
    → IsRefusedIn b k ⊎ In (refusal clock k) (if is_none degree then refused_by clock t else [])
unfolding book_tried refused_by refused_of
tried-back (Committed id number reply) b s degree clock k h = inl (sym (keeps-put refused_of b.records id _ k refl) ∙ h)
tried-back (Read id reply) b s degree clock k h = inl (sym (read-keeps refused_of b id reply refused-unpassed refl k) ∙ h)
tried-back (NoCopy id x) b s degree clock k h = refuse-back (is_none degree) b id clock k h
tried-back _ b s degree clock k h = inl h

begun-refused : (o : BeginOutcome) (b : Book) (id : ℕ) → Keeps refused_of b (book_begun b id o).book
unfolding book_begun refused_of
begun-refused Begun b id k = keeps-put refused_of b.records id _ k refl
begun-refused _ b id k = refl

-- what was refused stays refused
pub refused-kept : (deed : Deed) (me : ℕ) (degree : Option ℕ) (txs : List TxDecl) (b : Book) (n : Node) (k : ℕ) → IsRefusedIn b k → IsRefusedIn (notes_down me degree txs b n deed).book k
unfolding notes_down refused_of
refused-kept (Began j) me degree txs b n k h = begun-refused _ b j.tx k ∙ h
refused-kept (TriedDeed s) me degree txs b n k h =
    let t = (try_slot n s).answer in
    let own : Stream = record { node = me; slot = s } in
    passes-keep (in_stream_order (try_slot n s).passed) refused_of (book_tried b own degree t).book me refused-unpassed k ∙ tried-kept t b own degree k h
refused-kept (Took sender p) me degree txs b n k h = passes-keep _ refused_of b me refused-unpassed k ∙ h
refused-kept Ticked me degree txs b n k h = h
refused-kept Halted me degree txs b n k h = h
refused-kept (Saw v) me degree txs b n k h = passes-keep _ refused_of b me refused-unpassed k ∙ h

-- what an event's answer refuses is refused after it
pub refused-made : (deed : Deed) (me : ℕ) (degree : Option ℕ) (txs : List TxDecl) (b : Book) (n : Node) (clock : ℕ) (m : Note)
    → In m (refused_at degree clock (does txs n deed).answer) → IsRefusedIn (notes_down me degree txs b n deed).book m.tx
unfolding notes_down does refused_at refused_of
refused-made (Began j) me degree txs b n clock m is = In-nothing m is
refused-made (TriedDeed s) me degree txs b n clock m is =
    let t = (try_slot n s).answer in
    let own : Stream = record { node = me; slot = s } in
    passes-keep (in_stream_order (try_slot n s).passed) refused_of (book_tried b own degree t).book me refused-unpassed m.tx ∙ tried-made t b own degree clock m is
refused-made (Took sender p) me degree txs b n clock m is = In-nothing m is
refused-made Ticked me degree txs b n clock m is = In-nothing m is
refused-made Halted me degree txs b n clock m is = In-nothing m is
refused-made (Saw v) me degree txs b n clock m is = In-nothing m is

-- what is refused after an event was so before, or the event's answer refuses it
pub refused-back : (deed : Deed) (me : ℕ) (degree : Option ℕ) (txs : List TxDecl) (b : Book) (n : Node) (clock k : ℕ) → IsRefusedIn (notes_down me degree txs b n deed).book k
    → IsRefusedIn b k ⊎ In (refusal clock k) (refused_at degree clock (does txs n deed).answer)
unfolding notes_down does refused_at refused_of
refused-back (Began j) me degree txs b n clock k h = inl (sym (begun-refused _ b j.tx k) ∙ h)
refused-back (TriedDeed s) me degree txs b n clock k h =
    let t = (try_slot n s).answer in
    let own : Stream = record { node = me; slot = s } in
    tried-back t b own degree clock k (sym (passes-keep (in_stream_order (try_slot n s).passed) refused_of (book_tried b own degree t).book me refused-unpassed k) ∙ h)
refused-back (Took sender p) me degree txs b n clock k h = inl (sym (passes-keep _ refused_of b me refused-unpassed k) ∙ h)
refused-back Ticked me degree txs b n clock k h = inl h
refused-back Halted me degree txs b n clock k h = inl h
refused-back (Saw v) me degree txs b n clock k h = inl (sym (passes-keep _ refused_of b me refused-unpassed k) ∙ h)
