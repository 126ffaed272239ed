-- A list that a loop makes, one piece after another: what is made, with what the rest makes, stays the whole.
use Rattle.std.proofs.Common.{ℕ, suc, ◌≡◌, ◌<◌, ◌≤◌, ◌+◌, Bool, true, false, List, [], ◌∷◌, ◌++◌, Option, Some, None, length, get_or, drop, append_assoc, arith, refl, ap, sym, ◌∙◌}
use Rattle.std.specs.Prelude.{map, filter, filter_map, if◌then◌else◌, cond}
use Rattle.std.proofs.Math.ListN.{drop_of_length-le}
use Rattle.std.proofs.lemmas.List.{drop_more, append-nil}
use Rattle.zeus_base.specs.Order.{same_stream}
use Rattle.zeus_base.specs.declared.order.Stream.{Stream}
use Rattle.zeus_base.specs.LoopLaws.{one_more, all_done}
use Rattle.zeus_txn.specs.declared.tx.TxDecl.{TxDecl}
use Rattle.random_schedule.specs.Choices.{pairs, stream, txs_from}
use Rattle.random_schedule.specs.Lists.{if_passes, if_there}

-- ---- what the element adds

passes-cons : {A : Type 0} (test : Bool) (x : A) (ys : List A) → cond test (x ∷ ys) ys ≡ if_passes test x ++ ys
passes-cons true x ys = refl
passes-cons false x ys = refl

-- what passes a test of a list is its head, if that passes, and what passes of its tail
pub filter-cons : {A : Type 0} (p : A → Bool) (x : A) (xs : List A) → filter p (x ∷ xs) ≡ if_passes (p x) x ++ filter p xs
filter-cons p x xs = passes-cons (p x) x (filter p xs)

there-cons : {A B : Type 0} (h : A → Option B) (x : A) (xs : List A) (o : Option B) → h x ≡ o → filter_map h (x ∷ xs) ≡ if_there o ++ filter_map h xs
unfolding if_there
there-cons h x xs None is = rw is refl
there-cons h x xs (Some y) is = rw is refl

-- what a function gives of a list is what it gives of its head, if anything, and what it gives of its tail
pub filter_map-cons : {A B : Type 0} (h : A → Option B) (x : A) (xs : List A) → filter_map h (x ∷ xs) ≡ if_there (h x) ++ filter_map h xs
filter_map-cons h x xs = there-cons h x xs (h x) refl

-- the map of a list is that of its head, and the map of its tail
pub map-cons : {A B : Type 0} (f : A → B) (x : A) (xs : List A) → map f (x ∷ xs) ≡ (f x ∷ []) ++ map f xs
map-cons f x xs = refl

-- the pairs of a list with another are those of its head, and the pairs of its tail
pub pairs-cons : {A : Type 0} (f : ℕ → ℕ → A) (ns : List ℕ) (m : ℕ) (ms : List ℕ) → pairs f (m ∷ ms) ns ≡ map (f m) ns ++ pairs f ms ns
unfolding pairs
pairs-cons f ns m ms = refl

-- the pairs of an empty list with another are none
pub pairs-nil : {A : Type 0} (f : ℕ → ℕ → A) (ns : List ℕ) → pairs f [] ns ≡ []
unfolding pairs
pairs-nil f ns = refl

-- ---- the transactions of a slot

txs_from-cons : (k : ℕ) (s : Stream) (t : TxDecl) (ts : List TxDecl) → txs_from k s (t ∷ ts) ≡ if_passes (same_stream (stream t.node t.slot) s) k ++ txs_from (suc k) s ts
unfolding txs_from
txs_from-cons k s t ts = passes-cons (same_stream (stream t.node t.slot) s) k (txs_from (suc k) s ts)

-- if the transaction at an index is the slot's, it is added, and with those behind it the whole is as before
pub own_more : (s : Stream) (ts : List TxDecl) (i : ℕ) (t : TxDecl) (out after whole : List ℕ) → i < length ts → t ≡ get_or ts i t → out ++ txs_from i s (drop i ts) ≡ whole
    → after ≡ out ++ if_passes (same_stream (stream t.node t.slot) s) i → after ++ txs_from (i + 1) s (drop (i + 1) ts) ≡ whole
own_more s ts i t out after whole h here kept added =
    let e = append_assoc out (if_passes (same_stream (stream t.node t.slot) s) i) (txs_from (suc i) s (drop (i + 1) ts)) in
    let f = txs_from-cons i s t (drop (i + 1) ts) in
    let g = drop_more ts i t h in
    let n : i + 1 ≡ suc i = omega arith in
    let v : txs_from (i + 1) s (drop (i + 1) ts) ≡ txs_from (suc i) s (drop (i + 1) ts) = ap (λ k. txs_from k s (drop (i + 1) ts)) n in
    cc (e, f, g, v)

-- past the last transaction the whole is made
pub own_done : (s : Stream) (ts : List TxDecl) (i : ℕ) (out whole : List ℕ) → length ts ≤ i → out ++ txs_from i s (drop i ts) ≡ whole → out ≡ whole
unfolding txs_from
own_done s ts i out whole h kept =
    let e = drop_of_length-le ts h in
    let f : txs_from i s [] ≡ [] = refl in
    let a = append-nil out in
    cc (e, f, a)

-- ---- what passes a test

-- if the element at an index passes, it is added, and with those behind it the whole is as before
pub passes_more : {A : Type 0} (p : A → Bool) (xs : List A) (i : ℕ) (x : A) (out after whole : List A) → i < length xs → x ≡ get_or xs i x → out ++ filter p (drop i xs) ≡ whole → after ≡ out ++ if_passes (p x) x
    → after ++ filter p (drop (i + 1) xs) ≡ whole
passes_more p xs i x out after whole h here kept added = one_more (filter p) (λ y. if_passes (p y) y) (filter-cons p) xs i x out after whole h here kept added

-- past the end of the list the whole is made
pub passes_done : {A : Type 0} (p : A → Bool) (xs : List A) (i : ℕ) (out whole : List A) → length xs ≤ i → out ++ filter p (drop i xs) ≡ whole → out ≡ whole
passes_done p xs i out whole h kept = all_done (filter p) refl xs i out whole h kept
