-- What each change keeps of a book, and how the book is seen after it.
use Rattle.std.proofs.Common.{◌^◌, length-append, ℕ, zero, suc, ◌≡◌, ◌≢◌, ◌<◌, ◌≤◌, ◌+◌, ◌++◌, ◌⊎◌, inl, inr, Bool, true, false, List, [], ◌∷◌, Option, Some, None, length, refl, sym, ap, ◌∙◌, subst, arith, ◌&&◌, ◌==◌}
use Rattle.std.specs.Prelude.{is_some, is_none, replicate}
use Rattle.std.specs.List.{slice_get}
use Rattle.std.proofs.Math.ListN.{get_or, set}
use Rattle.std.proofs.lemmas.Bool.{cases_Bool}
use Rattle.std.proofs.lemmas.List.{length-replicate}
use Rattle.std.proofs.lemmas.Bool.Decides.{nat_tests}
use Rattle.zeus_base.specs.Order.{same_stream}
use Rattle.zeus_base.specs.OrderLaws.{same_stream-true, same_stream-refl}
use Rattle.zeus_base.specs.TableLaws.{length-put, nth_read, nth-put_same, nth-put_other, put-set}
use Rattle.zeus_base.specs.declared.order.Stream.{Stream}
use Rattle.zeus_txn.specs.declared.reply.Reply.{Reply}
use Rattle.zeus_model.specs.Tables.{nth, put}
use Rattle.zeus_model.specs.Book.{Book, EntryId, Point, TxRecord, is_entry, no_record, reply_or, tx_from}
use Rattle.history_book.specs.Books.{ArePointed, BookState, IsKept, IsPointed, has_no_entry, has_no_point, how_many, point_of, points_of, with_book}
use Rattle.history_book.specs.Entries.{HasEntries, HasSlots, IsStream, of_stream}
use Rattle.history_book.specs.Ids.{IdsState}
use Rattle.history_book.specs.declared.book.Book.TheInside.{Inside}
use Rattle.history_book.proofs.Counts.{as_many, how_many-most, one_less}
use Rattle.history_book.proofs.Current.{IsFree}
use Rattle.history_book.proofs.Found.{found_new, found_nobody, found_same}
use Rattle.history_book.proofs.History.{equal_or_not, holds_at, points-append, points_stay, pointed-append, pointed_stay, same_at}
use Rattle.history_book.proofs.Rows.{IsSameStream, get_last, get_others, list_here, list_other, none_past, same_or_not, slots_stay, with_list}

-- the record of a transaction that is there was read, and the other is what the change makes of it
pub record IsChanged (change : TxRecord → TxRecord) (rs : List TxRecord) (i : ℕ) (r : TxRecord) : Type 0 where
  pub there : i < length rs
  pub before : TxRecord
  pub read : before ≡ get_or rs i before
  pub changed : r ≡ change before

-- a record that is read and written back
pub set_records : (change : TxRecord → TxRecord) (rs : List TxRecord) (i : ℕ) (r : TxRecord) → IsChanged change rs i r → set rs i r ≡ put no_record rs i (change (nth no_record rs i))
set_records change rs i r c = ap (set rs i) (c.changed ∙ sym (ap change (nth_read no_record rs i c.before c.there c.read))) ∙ sym (put-set no_record rs i _ c.there)

abbrev pub state_at : ℕ → List ℕ → List TxRecord → ℕ → ℕ → BookState
state_at steps ids rs nodes slots = record { book = record { steps = steps; points = points_of rs ids; records = rs }; nodes = nodes; slots = slots }

abbrev pub book_at : ℕ → List Point → List TxRecord → Book
book_at steps points rs = record { steps = steps; points = points; records = rs }

-- a record with the same entry, reply and point
pub record IsMark (k r : TxRecord) : Type 0 where
  pub entry : r.entry ≡ k.entry
  pub reply : r.reply ≡ k.reply
  pub point : r.point ≡ k.point

kept_put : (rs : List TxRecord) (i : ℕ) (r : TxRecord) (points : IdsState) (nodes slots : ℕ) (es : List (List IdsState)) → IsKept rs points nodes slots es → i < length rs
    → IsMark (nth no_record rs i) r → IsKept (put no_record rs i r) points nodes slots es
kept_put rs i r points nodes slots es kept h m =
    let size = length-put no_record rs i r h in
    let no_point = as_many has_no_point rs i r h (ap is_none m.point) in
    let no_entry = as_many has_no_entry rs i r h (ap is_none m.entry) in
    record {
      few = rw size kept.few;
      room = rw no_point kept.room;
      once = rw (no_point, size) kept.once;
      pointed = pointed_stay rs (put no_record rs i r) points.ids kept.pointed (λ j p. record {
        point = rw (same_at (λ (x : TxRecord). x.point) rs i r m.point j) p.point;
        reply = rw (same_at (λ (x : TxRecord). x.reply) rs i r m.reply j) p.reply;
      });
      replies = λ id e.
          let before : is_some (nth no_record rs id).entry ≡ true = ap is_some (sym (same_at (λ (x : TxRecord). x.entry) rs i r m.entry id)) ∙ e in
          ap is_some (same_at (λ (x : TxRecord). x.reply) rs i r m.reply id) ∙ kept.replies id before;
      found = λ s number. found_same s number 0 rs i r h (ap (is_entry s number) m.entry) ∙ kept.found s number;
      streams = kept.streams;
      more = rw no_entry kept.more;
    }

-- a begin, an acknowledgement and a refusal keep the book
pub kept_marked : (change : TxRecord → TxRecord) (b : Inside) (i : ℕ) (r : TxRecord) → ((x : TxRecord) → IsMark x (change x)) → IsKept b.records.items b.points b.nodes b.slots b.entries
    → IsChanged change b.records.items i r → IsKept (set b.records.items i r) b.points b.nodes b.slots b.entries
kept_marked change b i r mark kept c =
    let x : TxRecord = nth no_record b.records.items i in
    rw (set_records change b.records.items i r c) (kept_put b.records.items i (change x) b.points b.nodes b.slots b.entries kept c.there (mark x))

points_put : (rs : List TxRecord) (i : ℕ) (r : TxRecord) (ids : List ℕ) → ArePointed rs ids → r.reply ≡ (nth no_record rs i).reply → points_of (put no_record rs i r) ids ≡ points_of rs ids
points_put rs i r ids h e = points_stay rs (put no_record rs i r) ids h (λ j p. same_at (λ (x : TxRecord). x.reply) rs i r e j)

-- if a record is changed but for its entry, reply and point, then the book is seen with just that change
pub seen_marked : (change : TxRecord → TxRecord) (b : Inside) (i : ℕ) (r : TxRecord) → ((x : TxRecord) → IsMark x (change x)) → ArePointed b.records.items b.points.ids
    → IsChanged change b.records.items i r
    → state_at b.steps b.points.ids (set b.records.items i r) b.nodes b.slots
    ≡ with_book (state_at b.steps b.points.ids b.records.items b.nodes b.slots) (book_at b.steps (points_of b.records.items b.points.ids) (put no_record b.records.items i (change (nth no_record b.records.items i))))
seen_marked change b i r mark pointed c =
    let rs : List TxRecord = b.records.items in
    let x : TxRecord = nth no_record rs i in
    ap (λ (l : List TxRecord). state_at b.steps b.points.ids l b.nodes b.slots) (set_records change rs i r c)
    ∙ ap (λ (ps : List Point). with_book (state_at b.steps b.points.ids rs b.nodes b.slots) (book_at b.steps ps (put no_record rs i (change x))))
    (points_put rs i (change x) b.points.ids pointed (mark x).reply)

-- the begin of a transaction leaves its record's entry, reply and point
pub mark_begun : (step : ℕ) (x : TxRecord) → IsMark x (record x { begun = Some step })
mark_begun step x = record { entry = refl; reply = refl; point = refl }

-- the acknowledgement of a transaction leaves its record's entry, reply and point
pub mark_acked : (step : ℕ) (x : TxRecord) → IsMark x (record x { acked = Some step })
mark_acked step x = record { entry = refl; reply = refl; point = refl }

-- the refusal of a transaction leaves its record's entry, reply and point
pub mark_refused : (x : TxRecord) → IsMark x (record x { refused = true })
mark_refused x = record { entry = refl; reply = refl; point = refl }

-- ---- a reply, and a commit: the transaction has no point yet

-- who has its point is another, and stays
pointed_others : (rs : List TxRecord) (i : ℕ) (r : TxRecord) → (nth no_record rs i).point ≡ None → (j : ℕ) → IsPointed (nth no_record rs j) → nth no_record (put no_record rs i r) j ≡ nth no_record rs j
pointed_others rs i r none j p = elim (equal_or_not i j) [
  | inl same ↦ let has : is_some (nth no_record rs i).point ≡ true = rw same p.point in let no : is_some (nth no_record rs i).point ≡ false = ap is_some none in cc
  | inr other ↦ nth-put_other no_record rs i j r other
]

points_others : (rs : List TxRecord) (i : ℕ) (r : TxRecord) (ids : List ℕ) → ArePointed rs ids → (nth no_record rs i).point ≡ None → points_of (put no_record rs i r) ids ≡ points_of rs ids
points_others rs i r ids h none = points_stay rs (put no_record rs i r) ids h (λ j p. ap (λ (x : TxRecord). x.reply) (pointed_others rs i r none j p))

pointed_same : (rs : List TxRecord) (i : ℕ) (r : TxRecord) (ids : List ℕ) → ArePointed rs ids → (nth no_record rs i).point ≡ None → ArePointed (put no_record rs i r) ids
pointed_same rs i r ids h none = pointed_stay rs (put no_record rs i r) ids h (λ j p. subst IsPointed (sym (pointed_others rs i r none j p)) p)

-- if a record without a point is changed, then the book is seen with just that change
pub seen_unpointed : (change : TxRecord → TxRecord) (b : Inside) (i : ℕ) (r : TxRecord) → ArePointed b.records.items b.points.ids → (nth no_record b.records.items i).point ≡ None
    → IsChanged change b.records.items i r
    → state_at b.steps b.points.ids (set b.records.items i r) b.nodes b.slots
    ≡ with_book (state_at b.steps b.points.ids b.records.items b.nodes b.slots) (book_at b.steps (points_of b.records.items b.points.ids) (put no_record b.records.items i (change (nth no_record b.records.items i))))
seen_unpointed change b i r pointed none c =
    let rs : List TxRecord = b.records.items in
    let x : TxRecord = change (nth no_record rs i) in
    ap (λ (l : List TxRecord). state_at b.steps b.points.ids l b.nodes b.slots) (set_records change rs i r c)
    ∙ ap (λ (ps : List Point). with_book (state_at b.steps b.points.ids rs b.nodes b.slots) (book_at b.steps ps (put no_record rs i x)))
    (points_others rs i x b.points.ids pointed none)

replies_put : (rs : List TxRecord) (i : ℕ) (r : TxRecord) (reply : Reply) → r.reply ≡ Some reply → ((id : ℕ) → is_some (nth no_record rs id).entry ≡ true → is_some (nth no_record rs id).reply ≡ true)
    → (id : ℕ) → is_some (nth no_record (put no_record rs i r) id).entry ≡ true → is_some (nth no_record (put no_record rs i r) id).reply ≡ true
replies_put rs i r reply e each id = holds_at (λ (x : TxRecord). is_some x.entry ≡ true → is_some x.reply ≡ true) rs i r (λ h. ap is_some e) id (each id)

-- a record with a reply
abbrev pub with_reply : Reply → TxRecord → TxRecord
with_reply reply x = record x { reply = Some reply }

-- a reply keeps the book
pub kept_replied : (reply : Reply) (b : Inside) (i : ℕ) (r : TxRecord) → IsKept b.records.items b.points b.nodes b.slots b.entries → (nth no_record b.records.items i).point ≡ None
    → IsChanged (with_reply reply) b.records.items i r → IsKept (set b.records.items i r) b.points b.nodes b.slots b.entries
kept_replied reply b i r kept none c =
    let rs : List TxRecord = b.records.items in
    let x : TxRecord = with_reply reply (nth no_record rs i) in
    let h = c.there in
    let size = length-put no_record rs i x h in
    let no_point = as_many has_no_point rs i x h refl in
    let no_entry = as_many has_no_entry rs i x h refl in
    rw (set_records (with_reply reply) rs i r c) (record {
      few = rw size kept.few;
      room = rw no_point kept.room;
      once = rw (no_point, size) kept.once;
      pointed = pointed_same rs i x b.points.ids kept.pointed none;
      replies = replies_put rs i x reply refl kept.replies;
      found = λ s number. found_same s number 0 rs i x h refl ∙ kept.found s number;
      streams = kept.streams;
      more = rw no_entry kept.more;
    })

-- ---- a commit

and_both : (a b : Bool) → (a && b) ≡ true → (a ≡ true) × (b ≡ true)
and_both true b h = (refl, h)
and_both false b h = cc

same_number : (a b : ℕ) → (a == b) ≡ true → a ≡ b
same_number a b h = grind (arith, nat_tests)

number_self : (a : ℕ) → (a == a) ≡ true
number_self a = grind (arith, nat_tests)

-- an entry is that of its stream and number alone
entry_is : (s t : Stream) (number k : ℕ) → is_entry t k (Some record { stream = s; number = number }) ≡ true → IsSameStream s t × (number ≡ k)
unfolding is_entry
entry_is s t number k h =
    let both = and_both (same_stream s t) (number == k) h in
    let same = same_stream-true s t both.0 in
    (record { node = ap (λ (u : Stream). u.node) same; slot = ap (λ (u : Stream). u.slot) same }, same_number number k both.1)

same_is : (s t : Stream) → IsSameStream s t → s ≡ t
same_is s t e =
    let at : ℕ → ℕ → Stream = λ n m. record { node = n; slot = m } in
    let first : at s.node s.slot ≡ at t.node s.slot = ap (λ n. at n s.slot) e.node in
    let second : at t.node s.slot ≡ at t.node t.slot = ap (at t.node) e.slot in
    first ∙ second

entry_own : (s t : Stream) (number k : ℕ) → IsSameStream s t → number ≡ k → is_entry t k (Some record { stream = s; number = number }) ≡ true
unfolding is_entry
entry_own s t number k e f = rw (same_is s t e, f, same_stream-refl t, number_self k) refl

nobody : (t : Stream) (k : ℕ) (e : Option EntryId) → e ≡ None → is_entry t k e ≡ false
unfolding is_entry
nobody t k None h = refl
nobody t k (Some e) h = cc

not_entry : (s t : Stream) (number k : ℕ) → (IsSameStream s t → number ≡ k → ⊥) → is_entry t k (Some record { stream = s; number = number }) ≡ false
not_entry s t number k h = elim (cases_Bool (is_entry t k (Some record { stream = s; number = number }))) [
  | inl is ↦ let e = entry_is s t number k is in absurd (h e.0 e.1)
  | inr not ↦ not
]

-- the list of the stream has the transaction behind the others
pub record IsAdded (i : ℕ) (before after : IdsState) : Type 0 where
  pub ids : after.ids ≡ before.ids ++ i ∷ []
  pub room : after.room + 1 ≡ before.room

-- a record with an entry and a reply
abbrev pub with_entry : Stream → ℕ → Reply → TxRecord → TxRecord
with_entry s number reply x = record x { entry = Some record { stream = s; number = number }; reply = Some reply }

-- a transaction without an entry and a point gets the next entry of a stream, with its reply, and is added to the stream's list
pub record IsNewEntry (b : Inside) (i : ℕ) (r : TxRecord) (s : Stream) (number : ℕ) (reply : Reply) (list : IdsState) : Type 0 where
  pub changed : IsChanged (with_entry s number reply) b.records.items i r
  pub free : IsFree (nth no_record b.records.items i)
  pub stream : IsStream b.nodes b.slots s
  pub next : length (of_stream b.entries s).ids ≡ number
  pub added : IsAdded i (of_stream b.entries s) list

-- the records of a book with the new entry
abbrev entered : Inside → ℕ → Stream → ℕ → Reply → List TxRecord
entered b i s number reply = put no_record b.records.items i (with_entry s number reply (nth no_record b.records.items i))

committed_found : (b : Inside) (i : ℕ) (r : TxRecord) (s : Stream) (number : ℕ) (reply : Reply) (l : IdsState) → IsKept b.records.items b.points b.nodes b.slots b.entries → IsNewEntry b i r s number reply l
    → (t : Stream) (k : ℕ) → tx_from t k 0 (entered b i s number reply) ≡ slice_get (of_stream (with_list b.entries s l) t).ids k
committed_found b i r s number reply l kept n t k =
    let rs : List TxRecord = b.records.items in
    let es : List (List IdsState) = b.entries in
    let x : TxRecord = with_entry s number reply (nth no_record rs i) in
    let h : i < length rs = n.changed.there in
    let found = kept.found in
    let added = n.added in
    let last : length (of_stream es s).ids ≡ number = n.next in
    let before : is_entry t k (nth no_record rs i).entry ≡ false = nobody t k (nth no_record rs i).entry n.free.entry in
    elim (same_or_not s t) [
      | inl same ↦
          let lists : of_stream (with_list es s l) t ≡ l = list_here es s t l same in
          let t_is : of_stream es t ≡ of_stream es s = ap (of_stream es) (sym (same_is s t same)) in
          elim (equal_or_not number k) [
            | inl equal ↦
                let is : is_entry t k x.entry ≡ true = entry_own s t number k same equal in
                let free : tx_from t k 0 rs ≡ None = found t k ∙ ap (λ (y : IdsState). slice_get y.ids k) t_is ∙ none_past (of_stream es s).ids k (omega arith) in
                let new : tx_from t k 0 (put no_record rs i x) ≡ Some (0 + i) = found_new t k 0 rs i x h free is in
                let place : length (of_stream es s).ids ≡ k = last ∙ equal in
                let there : slice_get ((of_stream es s).ids ++ i ∷ []) k ≡ Some i = rw (← place) (get_last (of_stream es s).ids i) in
                let zero_is : 0 + i ≡ i = omega arith in
                new ∙ ap Some zero_is ∙ sym (ap (λ (y : IdsState). slice_get y.ids k) lists ∙ ap (λ (xs : List ℕ). slice_get xs k) added.ids ∙ there)
            | inr other ↦
                let is : is_entry t k x.entry ≡ false = not_entry s t number k (λ e f. other f) in
                let away : k ≢ length (of_stream es s).ids = λ e. other (sym (e ∙ last)) in
                found_same t k 0 rs i x h (is ∙ sym before) ∙ found t k ∙ ap (λ (y : IdsState). slice_get y.ids k) t_is
                ∙ sym (ap (λ (y : IdsState). slice_get y.ids k) lists ∙ ap (λ (xs : List ℕ). slice_get xs k) added.ids ∙ get_others (of_stream es s).ids i k away)
          ]
      | inr other ↦
          let is : is_entry t k x.entry ≡ false = not_entry s t number k (λ e f. elim other [ inl n ↦ n e.node | inr m ↦ m e.slot ]) in
          found_same t k 0 rs i x h (is ∙ sym before) ∙ found t k ∙ sym (ap (λ (y : IdsState). slice_get y.ids k) (list_other es s t l other))
    ]

committed_more : (b : Inside) (i : ℕ) (r : TxRecord) (s : Stream) (number : ℕ) (reply : Reply) (l : IdsState) → IsKept b.records.items b.points b.nodes b.slots b.entries → IsNewEntry b i r s number reply l
    → HasEntries (how_many has_no_entry (entered b i s number reply)) b.nodes b.slots (with_list b.entries s l)
unfolding HasEntries
committed_more b i r s number reply l kept n t there =
    let rs : List TxRecord = b.records.items in
    let x : TxRecord = with_entry s number reply (nth no_record rs i) in
    let less = one_less has_no_entry rs i x n.changed.there (ap is_none n.free.entry) refl in
    elim (same_or_not s t) [
      | inl same ↦
          let room : l.room ≡ (of_stream (with_list b.entries s l) t).room = ap (λ (y : IdsState). y.room) (sym (list_here b.entries s t l same)) in
          let h = kept.more s n.stream in
          let a = n.added.room in
          omega arith
      | inr other ↦
          let room : (of_stream b.entries t).room ≡ (of_stream (with_list b.entries s l) t).room = ap (λ (y : IdsState). y.room) (sym (list_other b.entries s t l other)) in
          let h = kept.more t there in
          omega arith
    ]

-- a commit keeps the book
pub kept_committed : (b : Inside) (i : ℕ) (r : TxRecord) (s : Stream) (number : ℕ) (reply : Reply) (l : IdsState) → IsKept b.records.items b.points b.nodes b.slots b.entries
    → IsNewEntry b i r s number reply l → IsKept (set b.records.items i r) b.points b.nodes b.slots (with_list b.entries s l)
kept_committed b i r s number reply l kept n =
    let rs : List TxRecord = b.records.items in
    let x : TxRecord = with_entry s number reply (nth no_record rs i) in
    let h = n.changed.there in
    let size = length-put no_record rs i x h in
    let no_point = as_many has_no_point rs i x h refl in
    rw (set_records (with_entry s number reply) rs i r n.changed) (record {
      few = rw size kept.few;
      room = rw no_point kept.room;
      once = rw (no_point, size) kept.once;
      pointed = pointed_same rs i x b.points.ids kept.pointed n.free.point;
      replies = replies_put rs i x reply refl kept.replies;
      found = committed_found b i r s number reply l kept n;
      streams = slots_stay b.nodes b.slots b.entries s l kept.streams n.stream;
      more = committed_more b i r s number reply l kept n;
    })

-- ---- a point

-- a record with a point
abbrev pub with_point : ℕ → TxRecord → TxRecord
with_point step x = record x { point = Some step }

-- a transaction without a point gets it at the book's step, and is added to the history
pub record IsNewPoint (b : Inside) (i : ℕ) (r : TxRecord) (after : IdsState) : Type 0 where
  pub changed : IsChanged (with_point b.steps) b.records.items i r
  pub first : (nth no_record b.records.items i).point ≡ None
  pub added : IsAdded i b.points after

-- a point keeps the book
pub kept_pointed : (b : Inside) (i : ℕ) (r : TxRecord) (after : IdsState) → IsKept b.records.items b.points b.nodes b.slots b.entries → is_some (nth no_record b.records.items i).reply ≡ true
    → IsNewPoint b i r after → IsKept (set b.records.items i r) after b.nodes b.slots b.entries
kept_pointed b i r after kept replied p =
    let rs : List TxRecord = b.records.items in
    let x : TxRecord = with_point b.steps (nth no_record rs i) in
    let h = p.changed.there in
    let size = length-put no_record rs i x h in
    let no_point = one_less has_no_point rs i x h (ap is_none p.first) refl in
    let no_entry = as_many has_no_entry rs i x h refl in
    let now : nth no_record (put no_record rs i x) i ≡ x = nth-put_same no_record rs i x in
    let ids = p.added.ids in
    let more : length after.ids ≡ length b.points.ids + 1 = rw ids (length-append b.points.ids (i ∷ [])) in
    let more_room = p.added.room in
    let few = kept.few in
    let room = kept.room in
    let once = kept.once in
    rw (set_records (with_point b.steps) rs i r p.changed) (record {
      few = rw size kept.few;
      room = omega arith;
      once = omega arith;
      pointed = rw ids (pointed-append (put no_record rs i x) b.points.ids i (pointed_same rs i x b.points.ids kept.pointed p.first) (record { point = rw now refl; reply = rw now replied }));
      replies = λ id f.
          let before : is_some (nth no_record rs id).entry ≡ true = ap is_some (sym (same_at (λ (y : TxRecord). y.entry) rs i x refl id)) ∙ f in
          ap is_some (same_at (λ (y : TxRecord). y.reply) rs i x refl id) ∙ kept.replies id before;
      found = λ s number. found_same s number 0 rs i x h refl ∙ kept.found s number;
      streams = kept.streams;
      more = rw no_entry kept.more;
    })

point_is : (rs : List TxRecord) (i : ℕ) (x : TxRecord) → x.reply ≡ (nth no_record rs i).reply → point_of (put no_record rs i x) i ≡ record { id = i; reply = reply_or (nth no_record rs i).reply }
unfolding point_of
point_is rs i x e = rw (nth-put_same no_record rs i x, e) refl

-- if a record without a point gets one, then the book is seen with the point in the record and at the end of the history
pub seen_pointed : (b : Inside) (i : ℕ) (r : TxRecord) (after : IdsState) → ArePointed b.records.items b.points.ids → IsNewPoint b i r after
    → state_at b.steps after.ids (set b.records.items i r) b.nodes b.slots
    ≡ with_book (state_at b.steps b.points.ids b.records.items b.nodes b.slots)
    (book_at b.steps (points_of b.records.items b.points.ids ++ record { id = i; reply = reply_or (nth no_record b.records.items i).reply } ∷ []) (put no_record b.records.items i (with_point b.steps (nth no_record b.records.items i))))
seen_pointed b i r after pointed p =
    let rs : List TxRecord = b.records.items in
    let x : TxRecord = with_point b.steps (nth no_record rs i) in
    let old = points_others rs i x b.points.ids pointed p.first in
    let new = point_is rs i x refl in
    ap (λ (l : List TxRecord). state_at b.steps after.ids l b.nodes b.slots) (set_records (with_point b.steps) rs i r p.changed)
    ∙ ap (λ (ids : List ℕ). state_at b.steps ids (put no_record rs i x) b.nodes b.slots) p.added.ids
    ∙ ap (λ (ps : List Point). with_book (state_at b.steps b.points.ids rs b.nodes b.slots) (book_at b.steps ps (put no_record rs i x)))
    (points-append (put no_record rs i x) b.points.ids i ∙ ap (λ (ps : List Point). ps ++ point_of (put no_record rs i x) i ∷ []) old ∙ ap (λ (q : Point). points_of rs b.points.ids ++ q ∷ []) new)

-- ---- the start

start_pointed : (n : ℕ) → ArePointed (replicate n no_record) []
unfolding ArePointed
start_pointed n = tt

no_replies : (n id : ℕ) → is_some (nth no_record (replicate n no_record) id).entry ≡ true → is_some (nth no_record (replicate n no_record) id).reply ≡ true
unfolding nth
no_replies zero id h = cc
no_replies (suc n) zero h = cc
no_replies (suc n) (suc id) h = no_replies n id h

-- the parts of a new book of n transactions: nothing is known of any, history and streams are empty, and have room for all
pub record IsNew (n : ℕ) (rs : List TxRecord) (points : IdsState) (nodes slots : ℕ) (es : List (List IdsState)) : Type 0 where
  pub few : n < 2 ^ 32
  pub records : rs ≡ replicate n no_record
  pub no_points : points.ids ≡ []
  pub room : n ≤ points.room
  pub streams : HasSlots nodes slots es
  pub no_entries : (s : Stream) → (of_stream es s).ids ≡ []
  pub more : HasEntries n nodes slots es

-- a new book is in order
pub kept_start : (n : ℕ) (rs : List TxRecord) (points : IdsState) (nodes slots : ℕ) (es : List (List IdsState)) → IsNew n rs points nodes slots es → IsKept rs points nodes slots es
unfolding HasEntries
kept_start n rs points nodes slots es new =
    let size : length rs ≡ n = ap length new.records ∙ length-replicate n no_record in
    let no_point = how_many-most has_no_point rs in
    let no_entry = how_many-most has_no_entry rs in
    let nought : length points.ids ≡ 0 = ap length new.no_points in
    let room = new.room in
    record {
      few = rw size new.few;
      room = omega arith;
      once = omega arith;
      pointed = rw (new.records, new.no_points) (start_pointed n);
      replies = rw new.records (no_replies n);
      found = λ s number. rw new.records (found_nobody s number 0 n) ∙ sym (ap (λ (xs : List ℕ). slice_get xs number) (new.no_entries s));
      streams = new.streams;
      more = λ s there. let h = new.more s there in omega arith;
    }

-- a new book is seen with no step, no point, and n records of nothing
pub seen_start : (n : ℕ) (rs : List TxRecord) (ids : List ℕ) (nodes slots : ℕ) → rs ≡ replicate n no_record → ids ≡ []
    → state_at 0 ids rs nodes slots ≡ record { book = record { steps = 0; points = []; records = replicate n no_record }; nodes = nodes; slots = slots }
unfolding points_of
seen_start n rs ids nodes slots e f =
    ap (λ (xs : List ℕ). state_at 0 xs rs nodes slots) f ∙ ap (λ (l : List TxRecord). state_at 0 [] l nodes slots) e
