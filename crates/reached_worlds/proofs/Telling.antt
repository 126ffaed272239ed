-- What a try says of the book, and that the book can note it.
use Rattle.std.proofs.Common.{ℕ, zero, suc, ◌≡◌, ◌≢◌, ◌<◌, ◌≤◌, ◌+◌, Bool, true, false, List, [], ◌∷◌, Option, Some, None, length, refl, sym, ap, ◌∙◌, subst, arith, inl, inr, ◌⊎◌}
use Rattle.std.specs.Prelude.{is_some, is_none, if◌then◌else◌, ◌&&◌, ◌==◌}
use Rattle.std.proofs.lemmas.Bool.{cases_Bool, cases_lt}
use Rattle.std.proofs.lemmas.Bool.Decides.{nat_tests}
use Rattle.zeus_base.specs.Order.{same_stream}
use Rattle.zeus_base.specs.OrderLaws.{same_stream-true, same_stream-refl}
use Rattle.zeus_base.specs.TableLaws.{nth-past}
use Rattle.zeus_base.specs.declared.order.Stream.{Stream}
use Rattle.zeus_txn.specs.Ops.{named, written, is_write}
use Rattle.zeus_txn.specs.declared.ops.Op.{Op}
use Rattle.zeus_txn.specs.declared.reply.Ran.{Ran}
use Rattle.zeus_txn.specs.declared.reply.Reply.{Reply}
use Rattle.zeus_model.specs.Act.{Did, just}
use Rattle.zeus_model.specs.Book.{Book, EntryId, TxRecord, is_entry, no_record, record_of, tx_from, tx_of}
use Rattle.zeus_model.specs.Local.{Hindrance, Missing, Unready, commit, commit_entry, full_cause, held_elsewhere, hindrance, holder_cause, owner_cause, read_missing, read_row, run_here, try_current, try_slot, worn_cause, write_cause, write_row}
use Rattle.zeus_model.specs.Readers.{state_of}
use Rattle.zeus_model.specs.State.{Node, Slot, slot, next_number}
use Rattle.zeus_model.specs.Tables.{first_of, nth, or_else, where_true}
use Rattle.zeus_model.specs.World.{World, node}
use Rattle.zeus_model.specs.declared.answer.Tried.{Tried}
use Rattle.zeus_model.specs.declared.answer.Tried.TheVariants.{Stopped, Nothing, NoCopy, NotValid, Read, PipeFull, NotOwner, Held, WornOut, Committed}
use Rattle.zeus_model.specs.declared.answer.TxState.TheVariants.{New, Current as CurrentState, Pending, Passed, Acked, Refused}
use Rattle.zeus_model.specs.declared.state.Current.{Current}
use Rattle.machine_moves.specs.Move.{own_kept}
use Rattle.machine_moves.specs.SystemState.{system}
use Rattle.replication_safety.specs.StreamState.{end}
use Rattle.invariants.specs.Streams.{stream_state, done_of, kept_of}
use Rattle.data_safety.specs.RunState.{Witness, run_state}
use Rattle.data_safety.specs.DataInvariant.{DataInvariant, IsBooked}
use Rattle.history_book.specs.Books.{BookState, IsNext}
use Rattle.history_book.specs.Entries.{IsStream}
use Rattle.history_book.specs.Tries.{CanNote, IsCurrent}
use Rattle.history_book.proofs.Found.{IsFound, found_is}
use Rattle.reached_worlds.proofs.Passes.{IsOfBelow}

-- the current transaction of a slot is this one
pub record IsCurrentOf (c : Option Current) (id : ℕ) : Type 0 where
  pub current : Current
  pub is : c ≡ Some current
  pub number : current.id ≡ id

-- an answer speaks of the current transaction, and commits it with this number
unfoldable pub Says : Option Current → ℕ → Tried → Type 0
Says c number (NoCopy id x) = IsCurrentOf c id
Says c number (Read id reply) = IsCurrentOf c id
Says c number (Committed id k reply) = IsCurrentOf c id × (k ≡ number)
Says c number _ = Unit {0}

unfoldable OnSaid : Option Current → ℕ → Option Tried → Type 0
OnSaid c number None = Unit {0}
OnSaid c number (Some t) = Says c number t

on_where : (c : Option Current) (number : ℕ) (test : Bool) (t : Tried) → Says c number t → OnSaid c number (where_true test t)
unfolding OnSaid where_true
on_where c number true t h = h
on_where c number false t h = tt

on_else : (c : Option Current) (number : ℕ) (a b : Option Tried) → OnSaid c number a → OnSaid c number b → OnSaid c number (or_else a b)
unfolding or_else
on_else c number None b h k = k
on_else c number (Some t) b h k = h

on_first : {A : Type 0} (c : Option Current) (number : ℕ) (f : A → Option Tried) (xs : List A) → ((x : A) → OnSaid c number (f x)) → OnSaid c number (first_of f xs)
unfolding first_of OnSaid
on_first c number f [] h = tt
on_first c number f (x ∷ xs) h = on_else c number (f x) (first_of f xs) (h x) (on_first c number f xs h)

on_held : (c : Option Current) (number s x : ℕ) (other : Option ℕ) → OnSaid c number (held_elsewhere s x other)
unfolding held_elsewhere OnSaid Says
on_held c number s x None = tt
on_held c number s x (Some other) = on_where c number _ (Held x other) tt

on_cause : (c : Option Current) (number : ℕ) (n : Node) (s : ℕ) (tx : List Op) → OnSaid c number (write_cause n s tx)
unfolding write_cause full_cause owner_cause holder_cause worn_cause Says
on_cause c number n s tx =
    on_else c number _ _ (on_where c number _ PipeFull tt)
    (on_else c number _ _ (on_first c number _ (named tx) (λ x. on_where c number _ (NotOwner x) tt))
    (on_else c number _ _ (on_first c number _ (named tx) (λ x. on_held c number s x _))
    (on_else c number _ _ (on_where c number _ WornOut tt) (on_first c number _ (written tx) (λ x. on_where c number _ WornOut tt)))))

says_commit : (n : Node) (s : ℕ) (c : Current) (ran : Ran) → Says (Some c) (next_number (slot n s)) (commit n s c ran).answer
unfolding commit commit_entry Says
says_commit n s c ran = (record { current = c; is = refl; number = refl }, refl)

says_write : (n : Node) (s : ℕ) (c : Current) (cause : Option Tried) → OnSaid (Some c) (next_number (slot n s)) cause → Says (Some c) (next_number (slot n s)) (write_row n s c cause).answer
unfolding write_row OnSaid
says_write n s c None o = says_commit n s c (run_here n c.tx)
says_write n s c (Some Stopped) o = o
says_write n s c (Some Nothing) o = o
says_write n s c (Some (NoCopy id x)) o = o
says_write n s c (Some (NotValid x state)) o = o
says_write n s c (Some (Read id reply)) o = o
says_write n s c (Some PipeFull) o = o
says_write n s c (Some (NotOwner x)) o = o
says_write n s c (Some (Held x other)) o = o
says_write n s c (Some WornOut) o = o
says_write n s c (Some (Committed id number reply)) o = o

says_missing : (number : ℕ) (n : Node) (s : ℕ) (c : Current) (x : ℕ) (degree : Option ℕ) → Says (Some c) number (read_missing n s c x degree).answer
unfolding read_missing Says
says_missing number n s c x None = record { current = c; is = refl; number = refl }
says_missing number n s c x (Some d) = record { current = c; is = refl; number = refl }

says_read : (number : ℕ) (n : Node) (s : ℕ) (c : Current) (hinders : Option Hindrance) → Says (Some c) number (read_row n s c hinders).answer
unfolding read_row Says
says_read number n s c None = record { current = c; is = refl; number = refl }
says_read number n s c (Some (Missing x)) = says_missing number n s c x n.degree
says_read number n s c (Some (Unready x state)) = tt

says_either : (c : Option Current) (number : ℕ) (test : Bool) (a b : Did Tried) → Says c number a.answer → Says c number b.answer → Says c number (if test then a else b).answer
says_either c number true a b h k = h
says_either c number false a b h k = k

says_current : (n : Node) (s : ℕ) (c : Option Current) → Says c (next_number (slot n s)) (try_current n s c).answer
unfolding try_current Says
says_current n s None = tt
says_current n s (Some c) =
    says_either (Some c) (next_number (slot n s)) (is_write c.tx) (write_row n s c (write_cause n s c.tx)) (read_row n s c (hindrance n c.tx))
    (says_write n s c (write_cause n s c.tx) (on_cause (Some c) (next_number (slot n s)) n s c.tx)) (says_read (next_number (slot n s)) n s c (hindrance n c.tx))

-- a try speaks of the slot's current transaction
says_try : (n : Node) (s : ℕ) → Says (slot n s).current (next_number (slot n s)) (try_slot n s).answer
unfolding try_slot Says
says_try n s = says_either (slot n s).current (next_number (slot n s)) n.stopped (just n Stopped) (try_current n s (slot n s).current) tt (says_current n s (slot n s).current)

-- ---- what the book has of it

none_of : {A : Type 0} (o : Option A) → ((a : A) → o ≡ Some a → ⊥) → o ≡ None
none_of None h = refl
none_of (Some a) h = absurd (h a refl)

clash : (o : Option ℕ) (a : ℕ) → o ≡ Some a → o ≡ None → ⊥
clash o a e f = cc

state_by : (refused : Bool) (acked point begun : Option ℕ) (entry : Option EntryId) → refused ≡ false → acked ≡ None → point ≡ None → entry ≡ None → is_some begun ≡ true
    → (if refused then Refused else (if is_some acked then Acked else (if is_some point then Passed else (if is_some entry then Pending else (if is_some begun then CurrentState else New))))) ≡ CurrentState
state_by refused acked point begun entry a b c d e = rw (a, b, c, d, e) refl

state_current : (r : TxRecord) → r.refused ≡ false → r.acked ≡ None → r.point ≡ None → r.entry ≡ None → is_some r.begun ≡ true → state_of r ≡ CurrentState
unfolding state_of
state_current r a b c d e = state_by r.refused r.acked r.point r.begun r.entry a b c d e

begun_there : (b : Book) (id : ℕ) → is_some (record_of b id).begun ≡ true → id < length b.records
begun_there b id h = elim (cases_lt id (length b.records)) [
  | inl there ↦ there
  | inr past ↦ let none : is_some (record_of b id).begun ≡ false = ap (λ (r : TxRecord). is_some r.begun) (nth-past no_record b.records id (omega arith)) in absurd cc
]

system_node : (w : World) (n : ℕ) → (system w).node n ≡ node w n
unfolding system
system_node w n = refl

-- the current transaction of a slot is one of the book, and current there
current_there : (w : World) (u : Witness) (n s : ℕ) (c : Current) (b : BookState) → b.book ≡ w.book → DataInvariant (run_state w) u → (slot (node w n) s).current ≡ Some c → IsCurrent b c.id
current_there w u n s c b same f is =
    let now : (slot ((system w).node n) s).current ≡ Some c = ap (λ (m : Node). (slot m s).current) (system_node w n) ∙ is in
    let h = f.booked.current n s c now in
    let not_acked : (record_of w.book c.id).acked ≡ None = none_of (record_of w.book c.id).acked (λ step e. clash (record_of w.book c.id).point step (f.booked.acked_at c.id step e) h.3) in
    rw same (record { there = begun_there w.book c.id h.1; current = state_current (record_of w.book c.id) h.4 not_acked h.3 h.2 h.1 })

-- if the data invariant holds, then the current transaction of a slot is current in the book
pub current_of : (w : World) (u : Witness) (n s id : ℕ) (b : BookState) → b.book ≡ w.book → DataInvariant (run_state w) u → IsCurrentOf (slot (node w n) s).current id → IsCurrent b id
current_of w u n s id b same f is = rw (← is.number) (current_there w u n s is.current b same f is.is)

-- ---- the next number of a stream

end_is : (w : World) (n s : ℕ) → end (stream_state (system w) record { node = n; slot = s }) ≡ next_number (slot (node w n) s)
unfolding stream_state system done_of kept_of own_kept
end_is w n s =
    let self : (n == n) ≡ true = grind (arith, nat_tests) in
    let count = Rattle.std.proofs.lemmas.List.length-map (slot (node w n) s).pending Rattle.zeus_model.specs.Commit.as_kept in
    rw self (ap (λ k. (slot (node w n) s).done + k) count)

number_same : (a b : ℕ) → (a == b) ≡ true → a ≡ b
number_same a b h = grind (arith, nat_tests)

and_both : (a b : Bool) → (a && b) ≡ true → (a ≡ true) × (b ≡ true)
and_both true b h = (refl, h)
and_both false b h = absurd cc

-- an entry is one of its stream and number
entry_of : (s : Stream) (number : ℕ) (e : Option EntryId) → is_entry s number e ≡ true → e ≡ Some record { stream = s; number = number }
unfolding is_entry
entry_of s number None h = absurd cc
entry_of s number (Some e) h =
    let both = and_both (same_stream e.stream s) (e.number == number) h in
    let stream : e.stream ≡ s = same_stream-true e.stream s both.0 in
    let at : e.number ≡ number = number_same e.number number both.1 in
    let made : Stream → ℕ → EntryId = λ t k. record { stream = t; number = k } in
    let first : made e.stream e.number ≡ made s e.number = ap (λ t. made t e.number) stream in
    let second : made s e.number ≡ made s number = ap (made s) at in
    ap Some (first ∙ second)

entry_self : (s : Stream) (number : ℕ) → is_entry s number (Some record { stream = s; number = number }) ≡ true
unfolding is_entry
entry_self s number = let self : (number == number) ≡ true = grind (arith, nat_tests) in rw (same_stream-refl s, self) refl

-- where a record has the entry, its transaction is found
found_some : (s : Stream) (number j : ℕ) (rs : List TxRecord) (i : ℕ) → is_entry s number (nth no_record rs i).entry ≡ true → is_some (tx_from s number j rs) ≡ true
unfolding tx_from nth is_entry
found_some s number j [] i h = absurd cc
found_some s number j (r ∷ rs) zero h = rw h refl
found_some s number j (r ∷ rs) (suc i) h = elim (cases_Bool (is_entry s number r.entry)) [
  | inl is ↦ rw is refl
  | inr not ↦ rw not (found_some s number (suc j) rs i h)
]

-- the number of the next entry is the next of the stream in the book
next_there : (w : World) (u : Witness) (n s : ℕ) → DataInvariant (run_state w) u → IsNext w.book (record { node = n; slot = s }) (next_number (slot (node w n) s))
next_there w u n s f =
    let t : Stream = record { node = n; slot = s } in
    let last : end (stream_state (system w) t) ≡ next_number (slot (node w n) s) = end_is w n s in
    record {
      below = λ k less.
          let h = f.booked.entry t k (rw last less) in
          found_some t k 0 w.book.records h.0 (rw h.1 (entry_self t k));
      free = none_of (tx_of w.book t (next_number (slot (node w n) s))) (λ id e.
          let g = found_is t (next_number (slot (node w n) s)) 0 w.book.records id e in
          let has = entry_of t (next_number (slot (node w n) s)) (nth no_record w.book.records g.place).entry g.is in
          let low = f.booked.below_end g.place (record { stream = t; number = next_number (slot (node w n) s) }) has in
          let lower : next_number (slot (node w n) s) < next_number (slot (node w n) s) = rw last at low in
          omega arith);
    }

can_by : (w : World) (u : Witness) (n s : ℕ) (b : BookState) (t : Tried) → b.book ≡ w.book → n < b.nodes → s < b.slots → DataInvariant (run_state w) u
    → Says (slot (node w n) s).current (next_number (slot (node w n) s)) t → CanNote b (record { node = n; slot = s }) t
unfolding Says CanNote
can_by w u n s b Stopped same h k f says = tt
can_by w u n s b Nothing same h k f says = tt
can_by w u n s b (NoCopy id x) same h k f says = (current_of w u n s id b same f says).there
can_by w u n s b (NotValid x state) same h k f says = tt
can_by w u n s b (Read id reply) same h k f says = current_of w u n s id b same f says
can_by w u n s b PipeFull same h k f says = tt
can_by w u n s b (NotOwner x) same h k f says = tt
can_by w u n s b (Held x other) same h k f says = tt
can_by w u n s b WornOut same h k f says = tt
can_by w u n s b (Committed id number reply) same h k f says =
    (current_of w u n s id b same f says.0, record { node = h; slot = k }, rw (same, says.1) (next_there w u n s f))

-- the book can note what a try answers
pub can_note : (w : World) (u : Witness) (n s : ℕ) (b : BookState) → b.book ≡ w.book → n < b.nodes → s < b.slots → DataInvariant (run_state w) u → CanNote b (record { node = n; slot = s }) (try_slot (node w n) s).answer
can_note w u n s b same h k f = can_by w u n s b (try_slot (node w n) s).answer same h k f (says_try (node w n) s)

of_below : (b : BookState) (s : Stream) (t : Tried) → CanNote b s t → IsOfBelow (length b.book.records) t
unfolding CanNote IsOfBelow
of_below b s Stopped h = tt
of_below b s Nothing h = tt
of_below b s (NoCopy id x) h = h
of_below b s (NotValid x state) h = tt
of_below b s (Read id reply) h = h.there
of_below b s PipeFull h = tt
of_below b s (NotOwner x) h = tt
of_below b s (Held x other) h = tt
of_below b s WornOut h = tt
of_below b s (Committed id number reply) h = h.0.there

-- and the transaction that it speaks of is there
pub try_of_below : (w : World) (u : Witness) (n s : ℕ) → DataInvariant (run_state w) u → IsOfBelow (length w.book.records) (try_slot (node w n) s).answer
try_of_below w u n s f =
    let b : BookState = record { book = w.book; nodes = suc n; slots = suc s } in
    of_below b (record { node = n; slot = s }) (try_slot (node w n) s).answer (can_note w u n s b refl (omega arith) (omega arith) f)
