-- The transactions of the slots, and how far they are begun.
use Rattle.std.proofs.Common.{ℕ, zero, suc, ◌≡◌, ◌<◌, ◌≤◌, ◌+◌, ◌-◌, ◌%◌, Bool, true, false, List, [], ◌∷◌, ◌++◌, Option, Some, None, length, get_or, drop, set, All, append_assoc, IfSome, arith, refl, ap, sym, subst, ◌∙◌, inl, inr}
use Rattle.std.specs.Prelude.{map, filter_map, slice_get, not, ◌&&◌, if◌then◌else◌, replicate}
use Rattle.std.proofs.lemmas.Bool.{cases_eq, cases_Bool, cond_both}
use Rattle.std.proofs.lemmas.List.{length-replicate}
use Rattle.std.proofs.lemmas.List.Elements.{All-nil, All-cons, All-append}
use Rattle.std.proofs.lemmas.Option.{slice_get-map, slice_get_within}
use Rattle.zeus_base.specs.Order.{same_stream}
use Rattle.zeus_base.specs.TableLaws.{nth-put_other, nth-set_same, put-set, nth-replicate}
use Rattle.zeus_base.specs.declared.config.Config.{Config}
use Rattle.zeus_base.specs.declared.order.Stream.{Stream}
use Rattle.zeus_base.specs.LoopLaws.{one_more}
use Rattle.zeus_txn.specs.declared.tx.TxDecl.{TxDecl}
use Rattle.zeus_model.specs.Book.{Book}
use Rattle.zeus_model.specs.Readers.{is_live}
use Rattle.zeus_model.specs.Tables.{nth}
use Rattle.zeus_model.specs.World.{World}
use Rattle.random_schedule.specs.Choices.{chosen, stream, streams, txs_from, own_txs, is_begun, first_new, has_current, ready_tx, ready_txs}
use Rattle.random_schedule.specs.Ready.{IsSlot, AreQueues, AreBegun, AreAllBegun}
use Rattle.random_schedule.specs.declared.queues.Queue.{Queue}
use Rattle.random_schedule.proofs.Elements.{all_got, chosen_all, got, streams_slots}
use Rattle.random_schedule.specs.Lists.{if_there}
use Rattle.random_schedule.proofs.Making.{filter_map-cons}

-- ---- the first that is not begun

-- one more is begun
pub begun_more : (b : Book) (txs : List ℕ) (i k : ℕ) → AreBegun b txs i → i < length txs → k ≡ get_or txs i k → is_begun b k ≡ true → AreBegun b txs (i + 1)
begun_more b txs i k s h here begun = record {
  within = omega arith;
  each = λ j below. elim (cases_eq j i) [
    | inl same ↦ rw (same, Rattle.zeus_base.specs.TableLaws.nth_read 0 txs i k h here) begun
    | inr other ↦ s.each j (omega arith)
  ];
}

-- those that are begun are passed over
front_begun : (b : Book) (txs : List ℕ) (n : ℕ) → AreBegun b txs n → first_new b (drop n txs) ≡ first_new b txs
unfolding first_new nth
front_begun b txs zero s = refl
front_begun b [] (suc n) s = refl
front_begun b (k ∷ ks) (suc n) s =
    let first = s.each 0 (omega arith) in
    let within : suc n ≤ length (k ∷ ks) = s.within in
    let rest : AreBegun b ks n = record { within = omega arith; each = λ i h. s.each (suc i) (omega arith) } in
    rw first (front_begun b ks n rest)

-- the first of the rest that is not begun is the first of all
pub first_found : (b : Book) (txs : List ℕ) (i k : ℕ) → AreBegun b txs i → i < length txs → k ≡ get_or txs i k → is_begun b k ≡ false → Some k ≡ first_new b txs
unfolding first_new
first_found b txs i k s h here new =
    let rest = Rattle.std.proofs.lemmas.List.drop_more txs i k h in
    let front = front_begun b txs i s in
    let e : drop i txs ≡ k ∷ drop (i + 1) txs = rest ∙ ap (λ j. j ∷ drop (i + 1) txs) (sym here) in
    let f : first_new b (k ∷ drop (i + 1) txs) ≡ Some k = rw new refl in
    sym f ∙ (sym (ap (first_new b) e) ∙ front)

-- if all transactions of a list are begun, then there is no next one to begin
pub all_begun : (b : Book) (txs : List ℕ) → AreBegun b txs (length txs) → None ≡ first_new b txs
unfolding first_new
all_begun b txs s =
    let none = Rattle.std.proofs.Math.ListN.drop_of_length-le txs (omega arith) in
    let f : first_new b [] ≡ None = refl in
    sym f ∙ (sym (ap (first_new b) none) ∙ front_begun b txs (length txs) s)

-- ---- the queues

-- the queue at a place is one of a slot that there is
pub queue_slot : (w : World) (queues : List Queue) (i : ℕ) (q : Queue) → AreQueues w queues → i < length queues → q ≡ get_or queues i q → IsSlot w.config q.slot
queue_slot w queues i q s h here =
    let there : slice_get (map (λ (p : Queue). p.slot) queues) i ≡ Some q.slot = slice_get-map (λ (p : Queue). p.slot) queues i ∙ ap (Rattle.std.specs.Prelude.option_map (λ (p : Queue). p.slot)) (got queues i q h here) in
    all_got (IsSlot w.config) (streams w.config) i q.slot (streams_slots w.config) (ap (λ (l : List Stream). slice_get l i) (sym s.slots) ∙ there)

-- if of each queue so many transactions are begun, then so many are of the queue at an index
pub queue_begun : (b : Book) (queues : List Queue) (begun : List ℕ) (i : ℕ) (q : Queue) → AreAllBegun b queues begun → i < length queues → q ≡ get_or queues i q → AreBegun b q.txs.items (get_or begun i 0)
queue_begun b queues begun i q s h here = subst (λ (m : ℕ). AreBegun b q.txs.items m) (Rattle.zeus_base.specs.TableLaws.nth-get_or 0 begun i) (s.each i q (got queues i q h here))

-- if of one queue another number is begun, then of each queue so many are begun with that number set
pub begun_set : (b : Book) (queues : List Queue) (begun : List ℕ) (i n : ℕ) (q : Queue) → AreAllBegun b queues begun → i < length queues → q ≡ get_or queues i q → AreBegun b q.txs.items n → AreAllBegun b queues (set begun i n)
begun_set b queues begun i n q s h here new =
    let count = s.count in
    let within : i < length begun = omega arith in
    record {
      count = Rattle.std.proofs.Common.length-set begun i n ∙ count;
      each = λ j p is. elim (cases_eq i j) [
        | inl same ↦
            let one : q ≡ p = let g = got queues i q h here in let k : slice_get queues i ≡ Some p = rw same is in cc (g, k) in
            rw (← same, nth-set_same 0 begun i n within, ← one) new
        | inr other ↦ rw (← put-set 0 begun i n within, nth-put_other 0 begun i j n other) (s.each j p is)
      ];
    }

-- at the start none is
pub none_begun : (b : Book) (queues : List Queue) → AreAllBegun b queues (replicate (length queues) 0)
none_begun b queues = record {
  count = length-replicate (length queues) 0;
  each = λ i q is. rw (nth-replicate {A = ℕ} 0 0 (length queues) i (slice_get_within queues i q is)) record { within = omega arith; each = λ j h. absurd (omega arith) };
}

-- ---- the transactions that can begin

txs_below : (k : ℕ) (s : Stream) (ts : List TxDecl) (bound : ℕ) → k + length ts ≤ bound → All (λ j. j < bound) (txs_from k s ts)
unfolding txs_from
txs_below k s [] bound h = All-nil (λ j. j < bound)
txs_below k s (t ∷ ts) bound h =
    let rest = txs_below (suc k) s ts bound (omega arith) in
    cond_both (same_stream (stream t.node t.slot) s) (k ∷ txs_from (suc k) s ts) (txs_from (suc k) s ts) (λ ks. All (λ j. j < bound) ks)
    (λ _. All-cons (λ j. j < bound) k (txs_from (suc k) s ts) (omega arith) rest) (λ _. rest)

first_is : (P : ℕ → Type 0) (b : Book) (ks : List ℕ) (k : ℕ) → All P ks → first_new b ks ≡ Some k → P k
unfolding first_new
first_is P b [] k all is = absurd cc
first_is P b (j ∷ js) k all is = elim (cases_Bool (is_begun b j)) [
  | inl begun ↦ first_is P b js k (Rattle.std.proofs.lemmas.List.Elements.All-tail P j js all) (rw begun at is)
  | inr new ↦
      let one : Some j ≡ Some k = rw new at is in
      let same : j ≡ k = cc in
      subst P same (Rattle.std.proofs.lemmas.List.Elements.All-head P j js all)
]

ready_is : (w : World) (s : Stream) (k : ℕ) → ready_tx w s ≡ Some k → k < length w.txs
unfolding ready_tx
ready_is w s k is = elim (cases_Bool (is_live w s.node && not (has_current w s))) [
  | inl can ↦ first_is (λ j. j < length w.txs) w.book (own_txs s w.txs) k (txs_below 0 s w.txs (length w.txs) (omega arith)) (rw can at is)
  | inr cannot ↦ let none : None ≡ Some k = rw cannot at is in absurd cc
]

there_all : {A B : Type 0} (P : B → Type 0) (h : A → Option B) (x : A) (xs : List A) (o : Option B) → h x ≡ o → ((y : B) → h x ≡ Some y → P y) → All P (filter_map h xs) → All P (filter_map h (x ∷ xs))
there_all P h x xs None is each rest = rw is rest
there_all P h x xs (Some y) is each rest = rw is (All-cons P y (filter_map h xs) (each y is) rest)

filter_map_all : {A B : Type 0} (P : B → Type 0) (h : A → Option B) → ((x : A) (y : B) → h x ≡ Some y → P y) → (xs : List A) → All P (filter_map h xs)
filter_map_all P h each [] = All-nil P
filter_map_all P h each (x ∷ xs) = there_all P h x xs (h x) refl (each x) (filter_map_all P h each xs)

-- a chosen one is one that there is
pub chosen_tx : (w : World) (u : ℕ) → IfSome (chosen u (ready_txs w)) (λ k. k < length w.txs)
chosen_tx w u = chosen_all (λ j. j < length w.txs) u (ready_txs w) (filter_map_all (λ j. j < length w.txs) (ready_tx w) (ready_is w) (streams w.config))

-- one more slot is looked at
pub ready_more : (w : World) (queues : List Queue) (i : ℕ) (q : Queue) (out after whole : List ℕ) → i < length queues → q ≡ get_or queues i q
    → out ++ filter_map (ready_tx w) (map (λ (p : Queue). p.slot) (drop i queues)) ≡ whole → after ≡ out ++ if_there (ready_tx w q.slot)
    → after ++ filter_map (ready_tx w) (map (λ (p : Queue). p.slot) (drop (i + 1) queues)) ≡ whole
ready_more w queues i q out after whole h here kept added =
    one_more (λ (ps : List Queue). filter_map (ready_tx w) (map (λ (p : Queue). p.slot) ps)) (λ (p : Queue). if_there (ready_tx w p.slot))
    (λ p ps. filter_map-cons (ready_tx w) p.slot (map (λ (r : Queue). r.slot) ps)) queues i q out after whole h here kept added

-- ---- the making of the queues

-- with the queue of the slot at an index added, the slots of the queues and those behind the index are all slots
pub slots_more : (queues after : List Queue) (q : Queue) (slots : List Stream) (i : ℕ) (s : Stream) → i < length slots → s ≡ get_or slots i s → map (λ (p : Queue). p.slot) queues ++ drop i slots ≡ slots
    → q.slot ≡ s → after ≡ queues ++ q ∷ [] → map (λ (p : Queue). p.slot) after ++ drop (i + 1) slots ≡ slots
slots_more queues after q slots i s h here kept same added =
    let rest = Rattle.std.proofs.lemmas.List.drop_more slots i s h in
    let front : map (λ (p : Queue). p.slot) (queues ++ q ∷ []) ≡ map (λ (p : Queue). p.slot) queues ++ (q.slot ∷ []) = Rattle.std.proofs.lemmas.List.map-append (λ (p : Queue). p.slot) queues (q ∷ []) in
    let joined = append_assoc (map (λ (p : Queue). p.slot) queues) (q.slot ∷ []) (drop (i + 1) slots) in
    cc (rest, here, front, joined, kept, same, added)
