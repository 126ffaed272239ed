-- A read has its point and its acknowledgement at once, and the data invariant stays.
use Rattle.std.specs.Prelude.{ℕ, zero, suc, ◌≡◌, ◌≢◌, ◌==◌, ◌+◌, ◌≤◌, true, false, List, [], ◌∷◌, ◌++◌, Option, Some, None, is_some, ◌↔◌, if◌then◌else◌}
use Rattle.std.proofs.Common.{arith, refl, sym, ap, ◌∙◌, inl, inr, eq-eqb}
use Rattle.std.proofs.lemmas.Bool.{ne_eqb}
use Rattle.zeus_base.specs.declared.value.Value.{Value}
use Rattle.zeus_base.specs.TableLaws.{nth-put_same}
use Rattle.zeus_packet.specs.declared.write.Content.{Content}
use Rattle.zeus_txn.specs.Ops.{is_write}
use Rattle.zeus_txn.specs.Run.{run}
use Rattle.zeus_txn.specs.declared.ops.Op.{Op}
use Rattle.zeus_txn.specs.declared.reply.Ran.{Ran}
use Rattle.zeus_txn.specs.declared.reply.Reply.{Reply}
use Rattle.zeus_model.specs.State.{Node, slot}
use Rattle.zeus_model.specs.Book.{Book, Point, TxRecord, no_record, record_of, reply_or, book_reply, book_point, book_ack, book_read}
use Rattle.zeus_model.specs.Local.{with_current, hindrance, run_here}
use Rattle.zeus_model.specs.Sound.{times}
use Rattle.zeus_model.specs.declared.state.Current.{Current}
use Rattle.machine_moves.specs.SystemState.{Changes, nothing}
use Rattle.machine_moves.proofs.Lists.{nth-put_other}
use Rattle.invariants.proofs.ObjectSeen.{same_or_not}
use Rattle.data_safety.specs.RunState.{RunState, Witness, tx_ops, overwritten}
use Rattle.data_safety.specs.DataInvariant.{DataInvariant, IsBooked, left, raised}
use Rattle.data_safety.proofs.Consequences.{read-valid}
use Rattle.data_safety.proofs.history.SerialRun.{HasPointed, pointed-left, pointed-replies, times-append}
use Rattle.zeus_txn.specs.RunLaws.{reads_write_nothing}
use Rattle.data_safety.proofs.commits.ReadRun.{read_run}
use Rattle.data_safety.proofs.history.CurrentOnly.{turned}
use Rattle.data_safety.proofs.history.BookOnlyBooked.{IsHistory}
use Rattle.data_safety.proofs.history.BookOnlyMoves.{resaid, resaid-invariant, slot-invariant}

some_same : {A : Type 0} (a b : A) → ◌≡◌ {A = Option A} (Some a) (Some b) → a ≡ b
some_same a b e = cc

-- ---- the book

-- a transaction has its reply, its point and its acknowledgement
abbrev read_record : Book → ℕ → Reply → TxRecord
read_record b id reply =
    record {
      begun = (record_of b id).begun;
      entry = (record_of b id).entry;
      reply = Some reply;
      point = Some b.steps;
      acked = Some b.steps;
      refused = (record_of b id).refused;
    }

reply_here : (b : Book) (id : ℕ) (reply : Reply) → record_of (book_reply b id reply) id ≡ record (record_of b id) { reply = Some reply }
reply_here b id reply = nth-put_same no_record b.records id (record (record_of b id) { reply = Some reply })

point_here : (b : Book) (id : ℕ) → record_of (book_point b id) id ≡ record (record_of b id) { point = Some b.steps }
point_here b id = nth-put_same no_record b.records id (record (record_of b id) { point = Some b.steps })

ack_here : (b : Book) (id : ℕ) → record_of (book_ack b id) id ≡ record (record_of b id) { acked = Some b.steps }
ack_here b id = nth-put_same no_record b.records id (record (record_of b id) { acked = Some b.steps })

with_point : ℕ → TxRecord → TxRecord
with_point step r = record r { point = Some step }

with_ack : ℕ → TxRecord → TxRecord
with_ack step r = record r { acked = Some step }

read_here : (b : Book) (id : ℕ) (reply : Reply) → record_of (book_read b id reply).book id ≡ read_record b id reply
unfolding with_point with_ack
read_here b id reply =
    ack_here (book_point (book_reply b id reply) id) id
    ∙ ap (λ (r : TxRecord). with_ack b.steps r) (point_here (book_reply b id reply) id ∙ ap (λ (r : TxRecord). with_point b.steps r) (reply_here b id reply))

read_others : (b : Book) (id j : ℕ) (reply : Reply) → j ≢ id → record_of (book_read b id reply).book j ≡ record_of b j
read_others b id j reply other =
    nth-put_other no_record (book_point (book_reply b id reply) id).records id j (record (record_of (book_point (book_reply b id reply) id) id) { acked = Some b.steps }) other
    ∙ nth-put_other no_record (book_reply b id reply).records id j (record (record_of (book_reply b id reply) id) { point = Some b.steps }) other
    ∙ nth-put_other no_record b.records id j (record (record_of b id) { reply = Some reply }) other

read_points : (b : Book) (id : ℕ) (reply : Reply) → (book_read b id reply).book.points ≡ b.points ++ record { id = id; reply = reply } ∷ []
unfolding reply_or
read_points b id reply =
    ap (λ (r : TxRecord). b.points ++ record { id = id; reply = reply_or r.reply } ∷ []) (reply_here b id reply)

-- ---- the history

module _ (y : RunState) (u : Witness) (b : IsBooked y u) (id : ℕ) (reply : Reply) (nodes : ℕ → Node) (book : Book) (is : book ≡ (book_read y.book id reply).book)
    (begun : is_some (record_of y.book id).begun ≡ true) (unpointed : (record_of y.book id).point ≡ None) where
  here : record_of book id ≡ read_record y.book id reply
  here = ap (λ (k : Book). record_of k id) is ∙ read_here y.book id reply

  others : (j : ℕ) → j ≢ id → record_of book j ≡ record_of y.book j
  others j other = ap (λ (k : Book). record_of k j) is ∙ read_others y.book id j reply other

  same_begun : (j : ℕ) → (record_of book j).begun ≡ (record_of y.book j).begun
  same_begun j = elim (same_or_not j id) [ inl same ↦ rw (same, here) refl | inr other ↦ ap (λ (r : TxRecord). r.begun) (others j other) ]

  new_point : Point
  new_point = record { id = id; reply = reply }

  -- the read has its point at the end of the history
  pub pointed : HasPointed y (turned y nodes book) record { id = id; reply = reply }
  pointed = record { config = refl; txs = refl; points = ap (λ (k : Book). k.points) is ∙ read_points y.book id reply }

  times_after : (j : ℕ) → times j book.points ≡ times j y.book.points + (if id == j then suc zero else zero)
  unfolding times
  times_after j = ap (λ (ps : List Point). times j ps) (pointed.points) ∙ times-append j y.book.points record { id = id; reply = reply }

  never_before : times id y.book.points ≡ 0
  never_before = zero_of (times id y.book.points) (λ some. let there_is = (b.in_history id).1 some in absurd (cc (there_is, ap (λ (o : Option ℕ). is_some o) unpointed)))
    where
      zero_of : (n : ℕ) → (1 ≤ n → ⊥) → n ≡ 0
      zero_of zero no_one = refl
      zero_of (suc n) no_one = absurd (no_one (omega arith))

  times_here : times id book.points ≡ 1
  times_here = times_after id ∙ rw (eq-eqb id id refl, never_before) (omega arith)

  times_other : (j : ℕ) → j ≢ id → times j book.points ≡ times j y.book.points
  times_other j other = times_after j ∙ rw (ne_eqb id j (λ e. other (sym e))) (omega arith)

  steps_same : book.steps ≡ y.book.steps
  steps_same = ap (λ (k : Book). k.steps) is

  pointed_now : (j step : ℕ) → j ≡ id → (record_of book j).point ≡ Some step → step ≡ y.book.steps
  pointed_now j step same at = sym (some_same y.book.steps step (sym (ap (λ (r : TxRecord). r.point) here) ∙ ap (λ (k : ℕ). (record_of book k).point) (sym same) ∙ at))

  acked_point : (j step : ℕ) → (record_of book j).acked ≡ Some step → (record_of book j).point ≡ Some step
  acked_point j step acked = elim (same_or_not j id) [
    | inl same ↦
        let both : (record_of book id).point ≡ (record_of book id).acked = ap (λ (r : TxRecord). r.point) here ∙ sym (ap (λ (r : TxRecord). r.acked) here) in
        ap (λ (k : ℕ). (record_of book k).point) same ∙ both ∙ ap (λ (k : ℕ). (record_of book k).acked) (sym same) ∙ acked
    | inr other ↦ ap (λ (r : TxRecord). r.point) (others j other) ∙ b.acked_at j step (sym (ap (λ (r : TxRecord). r.acked) (others j other)) ∙ acked)
  ]

  point_times : (j : ℕ) → (is_some (record_of book j).point ≡ true) ↔ (1 ≤ times j book.points)
  point_times j = elim (same_or_not j id) [
    | inl same ↦ rw (same, here) ((λ _. omega (arith, times_here)), (λ _. refl))
    | inr other ↦ rw (others j other, times_other j other) (b.in_history j)
  ]

  -- if the reply is what the operations make of what the history leaves, then the book with the read is a history
  pub read-history : (run (λ k. (left y k).value) (tx_ops y id)).reply ≡ reply → IsHistory (turned y nodes book)
  read-history same_reply = record {
    begun = λ j h. elim (same_or_not j id) [
      | inl same ↦ rw (same, here) begun
      | inr other ↦ rw (others j other) (b.begun j (rw (others j other) at h))
    ];
    begun_before = λ j step at. let low = b.begun_before j step (sym (same_begun j) ∙ at) in omega (arith, low, steps_same);
    point_after = λ j begin step was at. elim (same_or_not j id) [
      | inl same ↦
          let low = b.begun_before j begin (sym (same_begun j) ∙ was) in
          (omega (arith, low, pointed_now j step same at), omega (arith, steps_same, pointed_now j step same at))
      | inr other ↦
          let old = b.point_after j begin step (sym (same_begun j) ∙ was) (sym (ap (λ (r : TxRecord). r.point) (others j other)) ∙ at) in
          (old.0, omega (arith, old.1, steps_same))
    ];
    acked_at = acked_point;
    once = λ j. elim (same_or_not j id) [
      | inl same ↦ rw same (omega (arith, times_here))
      | inr other ↦ omega (arith, times_other j other, b.once j)
    ];
    in_history = point_times;
    replies = pointed-replies y (turned y nodes book) record { id = id; reply = reply } pointed same_reply b.replies;
  }

  -- a transaction that writes nothing leaves what the history left
  pub read-left : is_write (tx_ops y id) ≡ false → left (turned y nodes book) ≡ left y
  unfolding overwritten raised
  read-left reader = λ i. λ x. (pointed-left y (turned y nodes book) record { id = id; reply = reply } x pointed
      ∙ ap (λ (ws : List (ℕ × Value)). overwritten (left y) (raised (left y) ws) x) (reads_write_nothing (λ k. (left y k).value) (tx_ops y id) reader)) i

-- ---- the move

-- a slot's current read transaction is answered from the node's copies, with nothing that hinders it, and is gone from the slot
pub record ReadsTx (y z : RunState) (n s : ℕ) (c : Current) : Type 0 where
  pub current : (slot (y.system.node n) s).current ≡ Some c
  pub reader : is_write c.tx ≡ false
  pub free : hindrance (y.system.node n) c.tx ≡ None
  pub change : Changes y.system z.system n (with_current (y.system.node n) s None) nothing
  pub txs : z.txs ≡ y.txs
  pub book : z.book ≡ (book_read y.book c.id (run_here (y.system.node n) c.tx).reply).book

-- if nothing hinders a read transaction, and it is answered from the node's copies, then the invariant stays
pub reads-invariant : (y z : RunState) (u : Witness) → DataInvariant y u → (n s : ℕ) (c : Current) → ReadsTx y z n s c → DataInvariant z u
reads-invariant y z u f n s c reads =
    let x = resaid y z in
    let g = resaid-invariant y z u f reads.change.config reads.change.views reads.change.sends reads.txs in
    let gb : IsBooked x u = g.booked in
    let reply : Reply = (run_here (y.system.node n) c.tx).reply in
    let was = gb.current n s c reads.current in
    let after = here x u gb c.id reply z.system.node z.book reads.book was.1 was.3 in
    let ran : (run (λ k. (left x k).value) c.tx).reply ≡ reply = ap (λ (r : Ran). r.reply)
    (read_run (y.system.node n) c.tx (left x)
    (λ k d m at valid. ap (λ (e : Content). e.value) (read-valid x u g n k d (gb.objects c.id k (rw (← was.0) m)) reads.change.live at valid)) reads.free) in
    let same_reply : (run (λ k. (left x k).value) (tx_ops x c.id)).reply ≡ reply = ap (λ (ops : List Op). (run (λ k. (left x k).value) ops).reply) (sym was.0) ∙ ran in
    slot-invariant y z u f n s c.id None record {
      change = reads.change;
      txs = reads.txs;
      noted = record {
        others = others x u gb c.id reply z.system.node z.book reads.book was.1 was.3;
        before = was.2;
        after = ap (λ (r : TxRecord). r.entry) after ∙ was.2;
        node = was.5;
        slot = was.6;
      };
      current = λ a no_one. absurd cc;
      leaves = read-left x u gb c.id reply z.system.node z.book reads.book was.1 was.3 (ap (λ (ops : List Op). is_write ops) (sym was.0) ∙ reads.reader);
      history = λ b. read-history x u b c.id reply z.system.node z.book reads.book was.1 was.3 same_reply;
    }
