-- A stutter, a begin and a refusal keep what holds of a run.
use Rattle.std.specs.Prelude.{ℕ, ◌≡◌, ◌≢◌, ◌≤◌, true, false, List, Option, Some, None, is_some, ◌⊎◌}
use Rattle.std.proofs.Common.{arith, refl, sym, ap, subst, ◌∙◌, inl, inr}
use Rattle.zeus_base.specs.TableLaws.{nth-put_same}
use Rattle.zeus_txn.specs.declared.ops.Op.{Op}
use Rattle.zeus_txn.specs.declared.tx.TxDecl.{TxDecl}
use Rattle.zeus_model.specs.Tables.{nth}
use Rattle.zeus_model.specs.State.{Node, slot}
use Rattle.zeus_model.specs.Book.{Book, Point, TxRecord, no_record, record_of, book_begin, book_refuse}
use Rattle.zeus_model.specs.Local.{with_current}
use Rattle.zeus_model.specs.Serial.{start_map, serial_replies}
use Rattle.zeus_model.specs.Sound.{replies_of}
use Rattle.zeus_model.specs.World.{no_tx}
use Rattle.zeus_model.specs.declared.state.Current.{Current}
use Rattle.machine_moves.specs.SystemState.{Changes, Same, Sends, nothing}
use Rattle.machine_moves.specs.Move.{Move, turns}
use Rattle.machine_moves.proofs.Lists.{nth-put_other}
use Rattle.machine_moves.proofs.Steady.{move_keep, same_keep}
use Rattle.invariants.proofs.ObjectSeen.{same_or_not}
use Rattle.data_safety.specs.RunState.{RunState, Witness, tx_ops, txs_of}
use Rattle.data_safety.specs.DataInvariant.{DataInvariant, IsBooked, left}
use Rattle.data_safety.proofs.history.SerialRun.{left-same}
use Rattle.data_safety.proofs.history.Stutter.{same-invariant}
use Rattle.data_safety.proofs.history.CurrentOnly.{IsTurn, turned, turned-invariant}
use Rattle.data_safety.proofs.history.BookOnlyBooked.{TurnsSlot, slot_turns, no_turn, IsCurrent, IsNoted, IsHistory, turned-booked, noted-booked}

-- the run before, with what has been said since
abbrev pub resaid : RunState → RunState → RunState
resaid y z =
    record {
      system = record { config = z.system.config; views = z.system.views; node = y.system.node; letters = z.system.letters };
      txs = z.txs;
      book = y.book;
    }

-- if the configuration, the views and the letters stay, up to order, then the invariant holds of the run said again
pub resaid-invariant : (y z : RunState) (u : Witness) → DataInvariant y u → z.system.config ≡ y.system.config → z.system.views ≡ y.system.views → Sends y.system z.system nothing → z.txs ≡ y.txs → DataInvariant (resaid y z) u
resaid-invariant y z u f config views sends txs =
    same-invariant y (resaid y z) u f record { config = config; views = views; nodes = λ m. refl; sends = record { stay = sends.stay; only = sends.only } } txs refl

-- if an optional value is not there, then it is None
pub none_of : {A : Type 0} (o : Option A) → (is_some o ≡ true → ⊥) → o ≡ None
none_of None h = refl
none_of (Some a) h = absurd (h refl)

-- ---- the history stays

-- no transaction has had its point, and none was acknowledged
pub record SamePoints (y : Book) (z : Book) : Type 0 where
  pub points : z.points ≡ y.points
  pub steps : y.steps ≤ z.steps
  pub point : (j : ℕ) → (record_of z j).point ≡ (record_of y j).point
  pub acked : (j : ℕ) → (record_of z j).acked ≡ (record_of y j).acked
  pub begun : (j : ℕ) → (is_some (record_of z j).entry ≡ true) ⊎ ((is_some (record_of z j).point ≡ true) ⊎ ((record_of z j).refused ≡ true)) → is_some (record_of z j).begun ≡ true
  pub begun_before : (j step : ℕ) → (record_of z j).begun ≡ Some step → step ≤ z.steps
  pub had_begun : (j begin step : ℕ) → (record_of z j).begun ≡ Some begin → (record_of y j).point ≡ Some step → (record_of y j).begun ≡ Some begin

-- if the book has the same points, then it still is a history
pub points-history : (y : RunState) (u : Witness) (nodes : ℕ → Node) (book : Book) → IsBooked y u → SamePoints y.book book → IsHistory (turned y nodes book)
points-history y u nodes book b s = record {
  begun = s.begun;
  begun_before = s.begun_before;
  point_after = λ j begin step was pointed.
      let old_point : (record_of y.book j).point ≡ Some step = sym (s.point j) ∙ pointed in
      let old = b.point_after j begin step (s.had_begun j begin step was old_point) old_point in
      (old.0, omega (arith, old.1, s.steps));
  acked_at = λ j step is. s.point j ∙ b.acked_at j step (sym (s.acked j) ∙ is);
  once = λ j. rw s.points (b.once j);
  in_history = λ j. rw (s.points, s.point j) (b.in_history j);
  replies = ap (λ (ps : List Point). replies_of ps) s.points ∙ b.replies
      ∙ ap (λ (ps : List Point). serial_replies (start_map y.system.config) (txs_of y ps)) (sym s.points) ∙ same_txs y book.points;
}
  where
    same_txs : (x : RunState) (ps : List Point) → serial_replies (start_map y.system.config) (txs_of y ps) ≡ serial_replies (start_map y.system.config) (txs_of (turned y nodes book) ps)
    same_txs x ps = ap (λ (l : List (List Op)). serial_replies (start_map y.system.config) l) (sym (Rattle.data_safety.proofs.history.SerialRun.txs_of-same y (turned y nodes book) ps refl))

same_left : (y : RunState) (nodes : ℕ → Node) (book : Book) → book.points ≡ y.book.points → left (turned y nodes book) ≡ left y
same_left y nodes book points = λ i. λ x. left-same y (turned y nodes book) x refl refl points i

-- ---- a rest

-- if only the order of letters and the count of steps change, then the invariant stays
pub stutters-invariant : (y z : RunState) (u : Witness) → DataInvariant y u → Same y.system z.system → z.txs ≡ y.txs → z.book ≡ record y.book { steps = z.book.steps } → y.book.steps ≤ z.book.steps → DataInvariant z u
stutters-invariant y z u f s txs book steps =
    let x = resaid y z in
    let g : DataInvariant x u = resaid-invariant y z u f s.config s.views s.sends txs in
    let b : IsBooked x u = g.booked in
    let q : (m : ℕ) → IsTurn (x.system.node m) (z.system.node m) = λ m. rw (s.nodes m) (no_turn (y.system.node m)) in
    let records : (j : ℕ) → record_of z.book j ≡ record_of y.book j = λ j. ap (λ (k : Book). record_of k j) book in
    let history : IsHistory (turned x z.system.node z.book) = points-history x u z.system.node z.book b record {
      points = ap (λ (k : Book). k.points) book;
      steps = steps;
      point = λ j. ap (λ (r : TxRecord). r.point) (records j);
      acked = λ j. ap (λ (r : TxRecord). r.acked) (records j);
      begun = λ j. rw (records j) (b.begun j);
      begun_before = λ j step is. let low = b.begun_before j step (rw (records j) at is) in omega (arith, low, steps);
      had_begun = λ j begin step is pointed. rw (records j) at is;
    } in
    turned-invariant x z.system.node z.book q u g (same_left x z.system.node z.book (ap (λ (k : Book). k.points) book)) (same_keep y.system z.system s f.steady)
    (turned-booked x u b z.system.node z.book q (λ j. ap (λ (r : TxRecord). r.entry) (records j)) (λ j e is. records j)
    (λ n r c is. let was = b.current n r c (rw (s.nodes n) at is) in rw (records c.id) was) history)

-- ---- a slot turns

-- a slot turns to another transaction, or to none, and the book notes it at one transaction alone: the history is as it was, and so is what it leaves
pub record TurnsNoted (y z : RunState) (u : Witness) (n s id : ℕ) (c : Option Current) : Type 0 where
  pub change : Changes y.system z.system n (with_current (y.system.node n) s c) nothing
  pub txs : z.txs ≡ y.txs
  pub noted : IsNoted (resaid y z) z.book n s id
  pub current : (a : Current) → c ≡ Some a → IsCurrent z n s a
  pub leaves : left z ≡ left (resaid y z)
  pub history : IsBooked (resaid y z) u → IsHistory z

-- if a slot turns and the book notes it, then the invariant stays
pub slot-invariant : (y z : RunState) (u : Witness) → DataInvariant y u → (n s id : ℕ) (c : Option Current) → TurnsNoted y z u n s id c → DataInvariant z u
slot-invariant y z u f n s id c turned_slot =
    let x = resaid y z in
    let g : DataInvariant x u = resaid-invariant y z u f turned_slot.change.config turned_slot.change.views turned_slot.change.sends turned_slot.txs in
    let t : TurnsSlot x z.system.node n s c = record { at = turned_slot.change.node; others = turned_slot.change.others } in
    let move : Move y.system z.system = turns n s c turned_slot.change in
    turned-invariant x z.system.node z.book (slot_turns x z.system.node n s c t) u g turned_slot.leaves (move_keep y.system z.system move f.steady)
    (noted-booked x u g.booked z.system.node z.book n s id c t turned_slot.noted turned_slot.current (turned_slot.history g.booked))

some_same : {A : Type 0} (a b : A) → ◌≡◌ {A = Option A} (Some a) (Some b) → a ≡ b
some_same a b e = cc

-- ---- a begin

begin_others : (y : RunState) (id j : ℕ) → j ≢ id → record_of (book_begin y.book id) j ≡ record_of y.book j
begin_others y id j other = nth-put_other no_record y.book.records id j (record (record_of y.book id) { begun = Some y.book.steps }) other

begin_here : (y : RunState) (id : ℕ) → record_of (book_begin y.book id) id ≡ record (record_of y.book id) { begun = Some y.book.steps }
begin_here y id = nth-put_same no_record y.book.records id (record (record_of y.book id) { begun = Some y.book.steps })

-- what is not begun has no entry, no point, and was not refused
pub record IsFresh (r : TxRecord) : Type 0 where
  pub entry : r.entry ≡ None
  pub point : r.point ≡ None
  pub refused : r.refused ≡ false

not_refused : (r : TxRecord) → (r.refused ≡ true → ⊥) → r.refused ≡ false
not_refused r h = elim (Rattle.std.proofs.lemmas.Bool.cases_Bool r.refused) [ inl refused ↦ absurd (h refused) | inr open_one ↦ open_one ]

fresh : (y : RunState) (u : Witness) (id : ℕ) → IsBooked y u → (record_of y.book id).begun ≡ None → IsFresh (record_of y.book id)
fresh y u id b none =
    let r = record_of y.book id in
    let no_one : is_some r.begun ≡ true → ⊥ = λ some. let gone : is_some r.begun ≡ false = ap (λ (o : Option ℕ). is_some o) none in absurd cc in
    record {
      entry = none_of r.entry (λ some. no_one (b.begun id (inl some)));
      point = none_of r.point (λ some. no_one (b.begun id (inr (inl some))));
      refused = not_refused r (λ some. no_one (b.begun id (inr (inr some))));
    }

begin_points : (y : RunState) (u : Witness) (id : ℕ) → IsBooked y u → (record_of y.book id).begun ≡ None → SamePoints y.book (book_begin y.book id)
begin_points y u id b none =
    let new = fresh y u id b none in
    record {
      points = refl;
      steps = omega arith;
      point = λ j. elim (same_or_not j id) [ inl same ↦ rw (same, begin_here y id) refl | inr other ↦ ap (λ (r : TxRecord). r.point) (begin_others y id j other) ];
      acked = λ j. elim (same_or_not j id) [ inl same ↦ rw (same, begin_here y id) refl | inr other ↦ ap (λ (r : TxRecord). r.acked) (begin_others y id j other) ];
      begun = λ j h. elim (same_or_not j id) [
        | inl same ↦ rw (same, begin_here y id) refl
        | inr other ↦ rw (begin_others y id j other) (b.begun j (rw (begin_others y id j other) at h))
      ];
      begun_before = λ j step is. elim (same_or_not j id) [
        | inl same ↦
            let here : Some y.book.steps ≡ Some step = sym (ap (λ (r : TxRecord). r.begun) (begin_here y id)) ∙ ap (λ (k : ℕ). (record_of (book_begin y.book id) k).begun) (sym same) ∙ is in
            omega (arith, some_same y.book.steps step here)
        | inr other ↦ b.begun_before j step (sym (ap (λ (r : TxRecord). r.begun) (begin_others y id j other)) ∙ is)
      ];
      had_begun = λ j begin step is pointed. elim (same_or_not j id) [
        | inl same ↦ let gone : (record_of y.book j).point ≡ None = rw same new.point in absurd (cc (gone, pointed))
        | inr other ↦ sym (ap (λ (r : TxRecord). r.begun) (begin_others y id j other)) ∙ is
      ];
    }

-- the declared transaction of a number is begun, for the first time, at the slot of the node that it is declared for
pub record BeginsTx (y z : RunState) (n s id : ℕ) (c : Current) : Type 0 where
  pub named : c.id ≡ id
  pub tx : c.tx ≡ (nth no_tx y.txs id).tx
  pub at_node : (nth no_tx y.txs id).node ≡ n
  pub at_slot : (nth no_tx y.txs id).slot ≡ s
  pub fresh : (record_of y.book id).begun ≡ None
  pub change : Changes y.system z.system n (with_current (y.system.node n) s (Some c)) nothing
  pub txs : z.txs ≡ y.txs
  pub book : z.book ≡ book_begin y.book id

-- if a slot begins a declared transaction that has not begun, then the invariant stays
pub begins-invariant : (y z : RunState) (u : Witness) → DataInvariant y u → (n s id : ℕ) (c : Current) → BeginsTx y z n s id c → DataInvariant z u
begins-invariant y z u f n s id c begins =
    let new = fresh y u id f.booked begins.fresh in
    let after : record_of z.book id ≡ record (record_of y.book id) { begun = Some y.book.steps } = ap (λ (k : Book). record_of k id) begins.book ∙ begin_here y id in
    let node : (nth no_tx z.txs id).node ≡ n = ap (λ (l : List TxDecl). (nth no_tx l id).node) begins.txs ∙ begins.at_node in
    let slot_is : (nth no_tx z.txs id).slot ≡ s = ap (λ (l : List TxDecl). (nth no_tx l id).slot) begins.txs ∙ begins.at_slot in
    let ops : c.tx ≡ tx_ops z id = begins.tx ∙ sym (ap (λ (l : List TxDecl). (nth no_tx l id).tx) begins.txs) in
    slot-invariant y z u f n s id (Some c) record {
      change = begins.change;
      txs = begins.txs;
      noted = record {
        others = λ j other. ap (λ (k : Book). record_of k j) begins.book ∙ begin_others y id j other;
        before = new.entry;
        after = ap (λ (r : TxRecord). r.entry) after ∙ new.entry;
        node = node;
        slot = slot_is;
      };
      current = λ a is.
          let same : id ≡ a.id = sym begins.named ∙ ap (λ (d : Current). d.id) (some_same c a is) in
          let whole : IsCurrent z n s record { id = id; tx = a.tx } = (
            sym (ap (λ (d : Current). d.tx) (some_same c a is)) ∙ ops,
            ap (λ (r : TxRecord). is_some r.begun) after,
            ap (λ (r : TxRecord). r.entry) after ∙ new.entry,
            ap (λ (r : TxRecord). r.point) after ∙ new.point,
            ap (λ (r : TxRecord). r.refused) after ∙ new.refused,
            node,
            slot_is,
          ) in
          subst (λ (k : ℕ). IsCurrent z n s record { id = k; tx = a.tx }) same whole;
      leaves = same_left (resaid y z) z.system.node z.book (ap (λ (k : Book). k.points) begins.book);
      history = λ b. points-history (resaid y z) u z.system.node z.book b (subst (λ (k : Book). SamePoints y.book k) (sym begins.book) (begin_points y u id f.booked begins.fresh));
    }

-- ---- a refusal

refuse_others : (y : RunState) (id j : ℕ) → j ≢ id → record_of (book_refuse y.book id) j ≡ record_of y.book j
refuse_others y id j other = nth-put_other no_record y.book.records id j (record (record_of y.book id) { refused = true }) other

refuse_here : (y : RunState) (id : ℕ) → record_of (book_refuse y.book id) id ≡ record (record_of y.book id) { refused = true }
refuse_here y id = nth-put_same no_record y.book.records id (record (record_of y.book id) { refused = true })

refuse_begun : (y : RunState) (id j : ℕ) → (record_of (book_refuse y.book id) j).begun ≡ (record_of y.book j).begun
refuse_begun y id j = elim (same_or_not j id) [ inl same ↦ rw (same, refuse_here y id) refl | inr other ↦ ap (λ (r : TxRecord). r.begun) (refuse_others y id j other) ]

refuse_points : (y : RunState) (u : Witness) (id : ℕ) → IsBooked y u → is_some (record_of y.book id).begun ≡ true → SamePoints y.book (book_refuse y.book id)
refuse_points y u id b begun =
    record {
      points = refl;
      steps = omega arith;
      point = λ j. elim (same_or_not j id) [ inl same ↦ rw (same, refuse_here y id) refl | inr other ↦ ap (λ (r : TxRecord). r.point) (refuse_others y id j other) ];
      acked = λ j. elim (same_or_not j id) [ inl same ↦ rw (same, refuse_here y id) refl | inr other ↦ ap (λ (r : TxRecord). r.acked) (refuse_others y id j other) ];
      begun = λ j h. elim (same_or_not j id) [
        | inl same ↦ rw (same, refuse_here y id) begun
        | inr other ↦ rw (refuse_others y id j other) (b.begun j (rw (refuse_others y id j other) at h))
      ];
      begun_before = λ j step is. b.begun_before j step (sym (refuse_begun y id j) ∙ is);
      had_begun = λ j begin step is pointed. sym (refuse_begun y id j) ∙ is;
    }

-- if a slot's current transaction is refused, then the invariant stays
pub refuses-invariant : (y z : RunState) (u : Witness) → DataInvariant y u → (n s : ℕ) (c : Current) → (slot (y.system.node n) s).current ≡ Some c
    → Changes y.system z.system n (with_current (y.system.node n) s None) nothing → z.txs ≡ y.txs → z.book ≡ book_refuse y.book c.id → DataInvariant z u
refuses-invariant y z u f n s c is ch txs book =
    let was = f.booked.current n s c is in
    let after : record_of z.book c.id ≡ record (record_of y.book c.id) { refused = true } = ap (λ (k : Book). record_of k c.id) book ∙ refuse_here y c.id in
    slot-invariant y z u f n s c.id None record {
      change = ch;
      txs = txs;
      noted = record {
        others = λ j other. ap (λ (k : Book). record_of k j) book ∙ refuse_others y c.id j other;
        before = was.2;
        after = ap (λ (r : TxRecord). r.entry) after ∙ was.2;
        node = ap (λ (l : List TxDecl). (nth no_tx l c.id).node) txs ∙ was.5;
        slot = ap (λ (l : List TxDecl). (nth no_tx l c.id).slot) txs ∙ was.6;
      };
      current = λ a none. absurd cc;
      leaves = same_left (resaid y z) z.system.node z.book (ap (λ (k : Book). k.points) book);
      history = λ b. points-history (resaid y z) u z.system.node z.book b (subst (λ (k : Book). SamePoints y.book k) (sym book) (refuse_points y u c.id f.booked was.1));
    }
