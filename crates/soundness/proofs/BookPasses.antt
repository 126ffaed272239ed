-- The passes of entries write just what they tell, and a history has the replies of its records.
use Rattle.std.specs.Prelude.{ℕ, suc, ◌≡◌, ◌≢◌, ◌≤◌, ◌+◌, ◌-◌, ◌==◌, Bool, true, false, List, [], ◌∷◌, Option, Some, None, is_some, ◌⊎◌}
use Rattle.std.proofs.Common.{arith, refl, ap, sym, ◌∙◌, inl, inr, subst}
use Rattle.std.proofs.lemmas.Bool.{cases_Bool, eq-eqb, ne_eqb}
use Rattle.std.proofs.lemmas.List.{append-nil}
use Rattle.zeus_base.specs.TableLaws.{nth-put_same, nth-put_other}
use Rattle.zeus_base.specs.declared.order.Stream.{Stream}
use Rattle.zeus_base.specs.declared.step.Passed.{Passed}
use Rattle.zeus_txn.specs.declared.reply.Reply.{Reply}
use Rattle.zeus_model.specs.In.{In, here, there}
use Rattle.zeus_model.specs.Tables.{nth, numbers_from}
use Rattle.zeus_model.specs.Book.{Book, BookChange, EntryId, Point, TxRecord, no_record, record_of, reply_or, book_point, book_ack, point_once, ack_once, is_entry, tx_from, tx_of, pass_tx, pass_numbers, book_passes}
use Rattle.zeus_model.specs.InLaws.{In-append}
use Rattle.invariants.proofs.ObjectSeen.{same_or_not}
use Rattle.soundness.specs.Telling.{how_often, ids_of}
use Rattle.soundness.proofs.Written.{Writes, leaves, fills, Writes-some}
use Rattle.soundness.proofs.BookChanges.{Notes, keeps, notes, Said, nothing_said, IsRewritten, IsRewritten-same, IsChange, IsChange-then, IsChange-book_only}

-- ---- a history has the replies of its records

-- each transaction of the history has the reply of its record, each entry has a reply, and who has a reply has an entry or a point
pub record HasReplies (b : Book) : Type 0 where
  pub points : (p : Point) → In p b.points → (record_of b p.id).reply ≡ Some p.reply
  pub entries : (id : ℕ) → is_some (record_of b id).entry ≡ true → is_some (record_of b id).reply ≡ true
  pub ended : (id : ℕ) → is_some (record_of b id).reply ≡ true → (is_some (record_of b id).entry ≡ true) ⊎ (is_some (record_of b id).point ≡ true)

-- what is said of an entry is said with its reply, and a reply is said with an entry or a point
abbrev pub SaysReplies : (ℕ → Said) → BookChange → Type 0
SaysReplies said c = (id : ℕ) → (is_some (said id).entry ≡ true → is_some (said id).reply ≡ true)
    × (is_some (said id).reply ≡ true → (is_some (said id).entry ≡ true) ⊎ (1 ≤ how_often id c.points))

is_some-was : {A : Type 0} (t old new : Option A) → Writes t old new → is_some new ≡ true → (is_some old ≡ true) ⊎ (is_some t ≡ true)
is_some-was t old new (leaves _) h = inl h
is_some-was t old new (fills _) h = inr h

is_some-stays : {A : Type 0} (t old new : Option A) → Writes t old new → is_some old ≡ true → is_some new ≡ true
is_some-stays t old new (leaves _) h = h
is_some-stays t old new (fills _) h = absurd cc

is_some-said : {A : Type 0} (t old new : Option A) → Writes t old new → is_some t ≡ true → is_some new ≡ true
is_some-said t old new (leaves _) h = absurd cc
is_some-said t old new (fills _) h = h

point-stays : (step k : ℕ) (old new : Option ℕ) → Notes step k old new → is_some old ≡ true → is_some new ≡ true
point-stays step k old new (keeps _) h = h
point-stays step k old new notes h = refl

point-told : (step k : ℕ) (old new : Option ℕ) → Notes step k old new → 1 ≤ k → is_some new ≡ true
point-told step k old new (keeps _) h = absurd (omega arith)
point-told step k old new notes h = refl

-- if the book has the replies of its history and a change says what goes together, then it has them after the change
pub HasReplies-after : (b : Book) (c : BookChange) (said : ℕ → Said) → HasReplies b → IsChange b c said → SaysReplies said c → HasReplies c.book
HasReplies-after b c said r h says = record {
  points = λ p i. elim (In-append p b.points h.added (subst (λ (l : List Point). In p l) h.points i)) [
    | inl old ↦ let at = h.records p.id in (Writes-some (said p.id).reply (record_of b p.id).reply (record_of c.book p.id).reply p.reply at.reply (r.points p old)).1
    | inr new ↦ h.replies p new
  ];
  entries = λ id some.
      let at = h.records id in
      elim (is_some-was (said id).entry (record_of b id).entry (record_of c.book id).entry at.entry some) [
        | inl old ↦ is_some-stays (said id).reply (record_of b id).reply (record_of c.book id).reply at.reply (r.entries id old)
        | inr new ↦ is_some-said (said id).reply (record_of b id).reply (record_of c.book id).reply at.reply ((says id).0 new)
      ];
  ended = λ id some.
      let at = h.records id in
      elim (is_some-was (said id).reply (record_of b id).reply (record_of c.book id).reply at.reply some) [
        | inl old ↦ elim (r.ended id old) [
          | inl entry ↦ inl (is_some-stays (said id).entry (record_of b id).entry (record_of c.book id).entry at.entry entry)
          | inr point ↦ inr (point-stays b.steps (how_often id c.points) (record_of b id).point (record_of c.book id).point at.point point)
        ]
        | inr new ↦ elim ((says id).1 new) [
          | inl entry ↦ inl (is_some-said (said id).entry (record_of b id).entry (record_of c.book id).entry at.entry entry)
          | inr told ↦ inr (point-told b.steps (how_often id c.points) (record_of b id).point (record_of c.book id).point at.point told)
        ]
      ];
}

-- where nothing was said
pub HasReplies-passed : (b : Book) (c : BookChange) → HasReplies b → IsChange b c nothing_said → HasReplies c.book
HasReplies-passed b c r h = HasReplies-after b c nothing_said r h (λ id. (λ none. absurd cc, λ none. absurd cc))

-- ---- a point and an acknowledgement

-- a transaction stands in the list of it alone once
pub how_often-one : (id : ℕ) → how_often id (id ∷ []) ≡ 1
unfolding how_often
how_often-one id = rw (eq-eqb id id refl) refl

-- another transaction stands in that list never
pub how_often-other : (id j : ℕ) → j ≢ id → how_often j (id ∷ []) ≡ 0
unfolding how_often
how_often-other id j other = rw (ne_eqb id j (λ e. other (sym e))) refl

-- the point of a transaction goes into its record
pub pointed-here : (b : Book) (id : ℕ) → record_of (book_point b id) id ≡ record (record_of b id) { point = Some b.steps }
pointed-here b id = nth-put_same no_record b.records id (record (record_of b id) { point = Some b.steps })

-- the point of a transaction leaves the record of each other one
pub pointed-other : (b : Book) (id j : ℕ) → j ≢ id → record_of (book_point b id) j ≡ record_of b j
pointed-other b id j other = nth-put_other no_record b.records id j (record (record_of b id) { point = Some b.steps }) (λ e. other (sym e))

-- the acknowledgement of a transaction goes into its record
pub acked-here : (b : Book) (id : ℕ) → record_of (book_ack b id) id ≡ record (record_of b id) { acked = Some b.steps }
acked-here b id = nth-put_same no_record b.records id (record (record_of b id) { acked = Some b.steps })

-- the acknowledgement of a transaction leaves the record of each other one
pub acked-other : (b : Book) (id j : ℕ) → j ≢ id → record_of (book_ack b id) j ≡ record_of b j
acked-other b id j other = nth-put_other no_record b.records id j (record (record_of b id) { acked = Some b.steps }) (λ e. other (sym e))

-- only one transaction is told of
pub records_one : (b after : Book) (said : ℕ → Said) (id : ℕ) (pointed acks : List ℕ)
    → IsRewritten b.steps (said id) (how_often id pointed) (how_often id acks) (record_of b id) (record_of after id)
    → ((j : ℕ) → j ≢ id → (said j ≡ nothing_said j) × (how_often j pointed ≡ 0) × (how_often j acks ≡ 0) × (record_of after j ≡ record_of b j))
    → (j : ℕ) → IsRewritten b.steps (said j) (how_often j pointed) (how_often j acks) (record_of b j) (record_of after j)
records_one b after said id pointed acks at others j = elim (same_or_not j id) [
  | inl same ↦ subst (λ (k : ℕ). IsRewritten b.steps (said k) (how_often k pointed) (how_often k acks) (record_of b k) (record_of after k)) (sym same) at
  | inr other ↦ let o = others j other in rw (o.0, o.1, o.2, o.3) (IsRewritten-same b.steps (record_of b j))
]

In-one : {A : Type 0} (a b : A) → In a (b ∷ []) → a ≡ b
In-one a b (here _ _ e) = e
In-one a b (there _ _ i) = elim i [ ]

-- no transaction stands in the empty list
pub how_often-none : (id : ℕ) → how_often id [] ≡ 0
unfolding how_often
how_often-none id = refl

-- the record of a transaction that has its point now, or is acknowledged now
record_pointed : (b : Book) (id : ℕ) → (record_of b id).point ≡ None → IsRewritten b.steps (nothing_said id) (how_often id (id ∷ [])) (how_often id []) (record_of b id) (record_of (book_point b id) id)
record_pointed b id none =
    let r = record_of b id in
    rw (how_often-one id, how_often-none id, pointed-here b id)
    record {
      begun = leaves r.begun;
      entry = leaves r.entry;
      reply = leaves r.reply;
      point = subst (λ (o : Option ℕ). Notes b.steps 1 o (Some b.steps)) (sym none) notes;
      acked = keeps r.acked;
    }

record_acked : (b : Book) (id : ℕ) → (record_of b id).acked ≡ None → IsRewritten b.steps (nothing_said id) (how_often id []) (how_often id (id ∷ [])) (record_of b id) (record_of (book_ack b id) id)
record_acked b id none =
    let r = record_of b id in
    rw (how_often-one id, how_often-none id, acked-here b id)
    record {
      begun = leaves r.begun;
      entry = leaves r.entry;
      reply = leaves r.reply;
      point = keeps r.point;
      acked = subst (λ (o : Option ℕ). Notes b.steps 1 o (Some b.steps)) (sym none) notes;
    }

-- the point that is added has the reply of its record
reply_added : (b : Book) (id : ℕ) (reply : Reply) (p : Point) → (record_of b id).reply ≡ Some reply → In p (record { id = id; reply = reply_or (record_of b id).reply } ∷ [])
    → (record_of (book_point b id) p.id).reply ≡ Some p.reply
unfolding reply_or
reply_added b id reply p has_reply i =
    let is : p ≡ record { id = id; reply = reply_or (record_of b id).reply } = In-one p record { id = id; reply = reply_or (record_of b id).reply } i in
    let kept : (record_of (book_point b id) id).reply ≡ Some reply = ap (λ (r : TxRecord). r.reply) (pointed-here b id) ∙ has_reply in
    let given : reply_or (record_of b id).reply ≡ reply = ap (λ (o : Option Reply). reply_or o) has_reply in
    rw is (kept ∙ ap (λ (r : Reply). Some r) (sym given))

-- if a transaction has a reply, then its entry's pass writes its point, if it had none, and tells just that
pub point_once-change : (b : Book) (id : ℕ) (o : Option ℕ) (reply : Reply) → (record_of b id).point ≡ o → (record_of b id).reply ≡ Some reply → IsChange b (point_once b id o) nothing_said
unfolding point_once ids_of
point_once-change b id (Some step) reply is has_reply = IsChange-book_only b
point_once-change b id None reply is has_reply = record {
  counts = refl;
  added = record { id = id; reply = reply_or (record_of b id).reply } ∷ [];
  points = refl;
  told = refl;
  replies = λ p i. reply_added b id reply p has_reply i;
  records = records_one b (book_point b id) nothing_said id (id ∷ []) [] (record_pointed b id is)
      (λ j other. (refl, how_often-other id j other, how_often-none j, pointed-other b id j other));
}

-- an entry's pass at its own node writes the acknowledgement, if there was none, and tells just that
pub ack_once-change : (b : Book) (id : ℕ) (own : Bool) (o : Option ℕ) → (record_of b id).acked ≡ o → IsChange b (ack_once b id own o) nothing_said
unfolding ack_once ids_of
ack_once-change b id own (Some step) is = IsChange-book_only b
ack_once-change b id false None is = IsChange-book_only b
ack_once-change b id true None is = record {
  counts = refl;
  added = [];
  points = sym (append-nil b.points);
  told = refl;
  replies = λ p i. elim i [ ];
  records = records_one b (book_ack b id) nothing_said id [] (id ∷ []) (record_acked b id is)
      (λ j other. (refl, how_often-none j, how_often-other id j other, acked-other b id j other));
}

-- ---- passes

some_reply : (o : Option Reply) → is_some o ≡ true → (r : Reply) × (o ≡ Some r)
some_reply None h = absurd cc
some_reply (Some r) h = (r, refl)

pass_tx-change : (b : Book) (own : Bool) (found : Option ℕ) → HasReplies b → ((id : ℕ) → found ≡ Some id → is_some (record_of b id).entry ≡ true) → IsChange b (pass_tx b own found) nothing_said
unfolding pass_tx
pass_tx-change b own None r entry = IsChange-book_only b
pass_tx-change b own (Some id) r entry =
    let c = point_once b id (record_of b id).point in
    let reply = some_reply (record_of b id).reply (r.entries id (entry id refl)) in
    IsChange-then b c (ack_once c.book id own (record_of c.book id).acked) nothing_said
    (point_once-change b id (record_of b id).point reply.0 refl reply.1)
    (ack_once-change c.book id own (record_of c.book id).acked refl)

has_entry : (s : Stream) (k : ℕ) (e : Option EntryId) → is_entry s k e ≡ true → is_some e ≡ true
unfolding is_entry
has_entry s k None h = h
has_entry s k (Some e) h = refl

-- the transaction of an entry has an entry
tx_from-entry : (s : Stream) (k i id : ℕ) (rs : List TxRecord) → tx_from s k i rs ≡ Some id → (m : ℕ) × (id ≡ i + m) × (is_some (nth no_record rs m).entry ≡ true)
unfolding tx_from nth
tx_from-entry s k i id [] h = absurd cc
tx_from-entry s k i id (r ∷ rs) h = elim (cases_Bool (is_entry s k r.entry)) [
  | inl this ↦
      let found : Some i ≡ Some id = rw this at h in
      let same : i ≡ id = cc in
      (0, omega arith, has_entry s k r.entry this)
  | inr other ↦
      let more = tx_from-entry s k (suc i) id rs (rw other at h) in
      (suc more.0, let same = more.1 in omega arith, more.2)
]

tx_of-entry : (b : Book) (s : Stream) (k id : ℕ) → tx_of b s k ≡ Some id → is_some (record_of b id).entry ≡ true
tx_of-entry b s k id h =
    let found = tx_from-entry s k 0 id b.records h in
    let same : found.0 ≡ id = let e = found.1 in omega arith in
    subst (λ (j : ℕ). is_some (record_of b j).entry ≡ true) same found.2

-- if the book has the replies of its history, then passes of a stream's entries write just what they tell
pub pass_numbers-change : (b : Book) (own : Bool) (s : Stream) (ks : List ℕ) → HasReplies b → IsChange b (pass_numbers b own s ks) nothing_said
unfolding pass_numbers
pass_numbers-change b own s [] r = IsChange-book_only b
pass_numbers-change b own s (k ∷ ks) r =
    let c = pass_tx b own (tx_of b s k) in
    let first = pass_tx-change b own (tx_of b s k) r (λ id h. tx_of-entry b s k id h) in
    IsChange-then b c (pass_numbers c.book own s ks) nothing_said first (pass_numbers-change c.book own s ks (HasReplies-passed b c r first))

-- if the book has the replies of its history, then all passes of a step write just what they tell
pub book_passes-change : (b : Book) (me : ℕ) (ps : List Passed) → HasReplies b → IsChange b (book_passes b me ps) nothing_said
unfolding book_passes
book_passes-change b me [] r = IsChange-book_only b
book_passes-change b me (p ∷ ps) r =
    let c = pass_numbers b (p.stream.node == me) p.stream (numbers_from p.first (p.after - p.first)) in
    let first = pass_numbers-change b (p.stream.node == me) p.stream (numbers_from p.first (p.after - p.first)) r in
    IsChange-then b c (book_passes c.book me ps) nothing_said first (book_passes-change c.book me ps (HasReplies-passed b c r first))
