-- What a commit writes and holds, one object after another.
use Rattle.std.proofs.Common.{ℕ, zero, suc, ◌≡◌, ◌≢◌, ◌<◌, ◌≤◌, ◌+◌, ◌-◌, ◌^◌, Bool, true, false, List, [], ◌∷◌, ◌++◌, Option, Some, None, length, take, drop, refl, sym, ap, ◌∙◌, subst, add-one, drop-cons, arith}
use Rattle.std.specs.Prelude.{◌==◌, ◌||◌, not, All}
use Rattle.std.proofs.Math.ListN.{get_or}
use Rattle.std.proofs.lemmas.Bool.{eqb-true}
use Rattle.std.proofs.lemmas.Bool.Decides.{nat_tests}
use Rattle.std.proofs.lemmas.List.{drop_all, take_more}
use Rattle.zeus_base.specs.Nodes.{join}
use Rattle.zeus_base.specs.TableLaws.{length-put, nth-put_other}
use Rattle.zeus_base.specs.declared.value.Value.{Value}
use Rattle.zeus_packet.specs.declared.write.Write.{Write}
use Rattle.zeus_txn.specs.Ops.{mentions, named}
use Rattle.zeus_txn.specs.RunLaws.{AreDistinct, keys, run-are_of}
use Rattle.zeus_txn.specs.declared.ops.Op.{Op}
use Rattle.zeus_model.specs.declared.answer.Tried.{Tried}
use Rattle.zeus_model.specs.declared.answer.Tried.TheVariants.{Held}
use Rattle.zeus_model.specs.declared.state.Copy.{Copy}
use Rattle.zeus_model.specs.declared.state.Entry.{Entry}
use Rattle.zeus_model.specs.declared.state.Pending.{Pending}
use Rattle.zeus_model.specs.Commit.{each_write}
use Rattle.zeus_model.specs.Local.{held_elsewhere, new_writes, replicas_of, rewritten_copy, run_here}
use Rattle.zeus_model.specs.State.{Node, copy, entry, no_entry, value_of, version_of}
use Rattle.zeus_model.specs.Tables.{first_of, nth, or_else, put, where_true}
use Rattle.object_table.specs.declared.hold.Hold.{Hold}
use Rattle.object_table.specs.Table.{AreWithin, CanHold, after_write, each_held, held, hold_count, hold_slot, next_write}
use Rattle.object_table.specs.HoldLaws.{hold_count-held}
use Rattle.object_table.specs.NamedLaws.{distinct-named}
use Rattle.object_table.specs.HeldLaws.{held-once, held-other, naming-more, naming-same}
use Rattle.object_table.specs.Entries.{AreNamed, naming}
use Rattle.local_txn.specs.Tries.{AreNext, AreRising, CanHoldEach, IsNext, held_at}

-- ---- an object of a list

or_right : (a b : Bool) → b ≡ true → (a || b) ≡ true
or_right true b e = refl
or_right false b e = e

mentions-first : (x : ℕ) (xs : List ℕ) → mentions x (x ∷ xs) ≡ true
unfolding mentions
mentions-first x xs = grind (arith, nat_tests)

mentions-later : (x y : ℕ) (ys : List ℕ) → mentions x ys ≡ true → mentions x (y ∷ ys) ≡ true
unfolding mentions
mentions-later x y ys h = or_right (x == y) (mentions x ys) h

distinct-first : (x : ℕ) (xs : List ℕ) → AreDistinct (x ∷ xs) → mentions x xs ≡ false
unfolding AreDistinct
distinct-first x xs d = d.0

distinct-rest : (x : ℕ) (xs : List ℕ) → AreDistinct (x ∷ xs) → AreDistinct xs
unfolding AreDistinct
distinct-rest x xs d = d.1

other : (x y : ℕ) (xs : List ℕ) → AreDistinct (x ∷ xs) → mentions y xs ≡ true → x ≢ y
other x y xs d m = λ e. let new = distinct-first x xs d in let old : mentions x xs ≡ true = rw e m in cc

mentions_all-at : (n : ℕ) (xs : List ℕ) (x : ℕ) → ((i d : ℕ) → i < length xs → get_or xs i d < n) → mentions x xs ≡ true → x < n
unfolding mentions
mentions_all-at n [] x all m = cc
mentions_all-at n (y ∷ ys) x all m =
    elim (x == y) as (λ b. (x == y) ≡ b → (b || mentions x ys) ≡ true → x < n) [
      | true ↦ λ e _. let same : x ≡ y = eqb-true x y e in rw same (all 0 0 (omega arith))
      | false ↦ λ _ rest. mentions_all-at n ys x (λ i d h. all (suc i) d (omega arith)) rest
    ] refl m

-- if all numbers of a list are below a bound, then so is each that is mentioned
pub mentions_all : (n : ℕ) (xs : List ℕ) (x : ℕ) → All (λ y. y < n) xs → mentions x xs ≡ true → x < n
mentions_all n xs x all m = mentions_all-at n xs x (λ i d h. all i d h) m

-- if all numbers of a list are below a bound, then so is the one that is read at an index
pub all_read : (n : ℕ) (xs : List ℕ) (i x : ℕ) → All (λ y. y < n) xs → i < length xs → x ≡ get_or xs i x → x < n
all_read n xs i x all h e = rw e (all i x h)

-- ---- holds

first_free : (o b : Option Tried) → None ≡ or_else o b → None ≡ o
unfolding or_else
first_free None b e = refl
first_free (Some a) b e = cc

rest_free : (o b : Option Tried) → None ≡ or_else o b → None ≡ b
unfolding or_else
rest_free None b e = e
rest_free (Some a) b e = cc

free_all : (s : ℕ) (holds : List (Option Hold)) (xs : List ℕ) (x : ℕ) → None ≡ first_of (held_at s holds) xs → mentions x xs ≡ true → None ≡ held_at s holds x
unfolding first_of mentions
free_all s holds [] x e m = cc
free_all s holds (y ∷ ys) x e m =
    elim (x == y) as (λ b. (x == y) ≡ b → (b || mentions x ys) ≡ true → None ≡ held_at s holds x) [
      | true ↦ λ same _. let at : x ≡ y = eqb-true x y same in rw at (first_free _ _ e)
      | false ↦ λ _ rest. free_all s holds ys x (rest_free _ _ e) rest
    ] refl m

naming-length : (x : ℕ) (ps : List Pending) → naming x ps ≤ length ps
unfolding naming
naming-length x [] = omega arith
naming-length x (p ∷ ps) = grind (arith, nat_tests, naming-length x ps)

can_hold : (s x : ℕ) (h : Option Hold) (ps : List Pending) → None ≡ held_elsewhere s x (hold_slot h) → (hold_slot h ≡ Some s → hold_count h ≤ naming x ps) → length ps < 16 → CanHold s h
unfolding CanHold held_elsewhere hold_slot hold_count where_true
can_hold s x None ps free count room = tt
can_hold s x (Some h) ps free count room =
    elim (h.slot == s) as (λ b. (h.slot == s) ≡ b → None ≡ where_true (not b) (Held x h.slot) → (h.slot ≡ s) × (h.count < 16)) [
      | true ↦ λ same _. let at : h.slot ≡ s = eqb-true h.slot s same in (at, omega (arith, count (ap Some at), naming-length x ps))
      | false ↦ λ _ none. cc
    ] refl free

can_hold_each : (s objects : ℕ) (holds : List (Option Hold)) (xs : List ℕ) → AreDistinct xs → ((x : ℕ) → mentions x xs ≡ true → (x < objects) × CanHold s (nth None holds x)) → CanHoldEach s objects holds xs
unfolding CanHoldEach
can_hold_each s objects holds [] d each = tt
can_hold_each s objects holds (x ∷ xs) d each =
    let here = each x (mentions-first x xs) in (
      here.0,
      (
        here.1,
        can_hold_each s objects (put None holds x (Some (held s (nth None holds x)))) xs (distinct-rest x xs d)
            (λ y m. let there = each y (mentions-later y x xs m) in
            (there.0, rw (nth-put_other None holds x y (Some (held s (nth None holds x))) (other x y xs d m)) there.1)),
      ),
    )

free_at : (s : ℕ) (holds : List (Option Hold)) (x : ℕ) → None ≡ held_at s holds x → None ≡ held_elsewhere s x (hold_slot (nth None holds x))
unfolding held_at
free_at s holds x e = e

-- if no other slot holds a named object and fewer than 16 entries are pending, then the slot can hold each of them
pub can_hold_named : (s objects : ℕ) (holds : List (Option Hold)) (ps : List Pending) (tx : List Op) → All (λ x. x < objects) (named tx) → None ≡ first_of (held_at s holds) (named tx) → AreNamed s holds ps → length ps < 16 → CanHoldEach s objects holds (named tx)
can_hold_named s objects holds ps tx all free counts room =
    can_hold_each s objects holds (named tx) (distinct-named tx)
    (λ x m. (mentions_all objects (named tx) x all m, can_hold s x (nth None holds x) ps (free_at s holds x (free_all s holds (named tx) x free m)) (counts x) room))

-- ---- one step of a loop over objects

hold_each-cons : (s objects x : ℕ) (holds : List (Option Hold)) (xs : List ℕ) → CanHoldEach s objects holds (x ∷ xs) → (x < objects) × (CanHold s (nth None holds x) × CanHoldEach s objects (put None holds x (Some (held s (nth None holds x)))) xs)
unfolding CanHoldEach
hold_each-cons s objects x holds xs h = h

each_held-cons : (s x : ℕ) (holds : List (Option Hold)) (xs : List ℕ) → each_held s holds (x ∷ xs) ≡ each_held s (put None holds x (Some (held s (nth None holds x)))) xs
unfolding each_held
each_held-cons s x holds xs = refl

drop_here : {A : Type 0} (xs : List A) (i : ℕ) (x : A) → i < length xs → x ≡ get_or xs i x → drop i xs ≡ x ∷ drop (i + 1) xs
drop_here xs i x h e = rw (add-one, drop-cons xs i x h, ← e) refl

-- if the slot can hold the objects from an index on, then it can hold that one, and then those behind it
pub hold_here : (s objects : ℕ) (holds : List (Option Hold)) (xs : List ℕ) (i x : ℕ) → i < length xs → x ≡ get_or xs i x → CanHoldEach s objects holds (drop i xs) → (x < objects) × (CanHold s (nth None holds x) × CanHoldEach s objects (put None holds x (Some (held s (nth None holds x)))) (drop (i + 1) xs))
hold_here s objects holds xs i x h e can = hold_each-cons s objects x holds _ (rw (drop_here xs i x h e) at can)

-- to hold the object at an index and then those behind it is to hold all from that index on
pub each_held-step : (s : ℕ) (holds : List (Option Hold)) (xs : List ℕ) (i x : ℕ) → i < length xs → x ≡ get_or xs i x → each_held s (put None holds x (Some (held s (nth None holds x)))) (drop (i + 1) xs) ≡ each_held s holds (drop i xs)
each_held-step s holds xs i x h e = rw (drop_here xs i x h e) (sym (each_held-cons s x holds _))

-- past the end of a list no object more is held
pub each_held-end : (s : ℕ) (holds : List (Option Hold)) (xs : List ℕ) (i : ℕ) → length xs ≤ i → holds ≡ each_held s holds (drop i xs)
unfolding each_held
each_held-end s holds xs i h = rw (drop_all i xs h) refl

-- ---- writes

-- an object that there is, whose copy is still the node's and has no last version
record IsUnwritten (n : Node) (copies : List (Option Copy)) (x : ℕ) : Type 0 where
  within : x < length copies
  rises : version_of (nth None n.copies x) ≢ 2 ^ 64 - 1
  same : nth None copies x ≡ nth None n.copies x

are_next : (n : Node) (copies : List (Option Copy)) (ws : List (ℕ × Value)) → AreDistinct (keys ws) → ((x : ℕ) → mentions x (keys ws) ≡ true → IsUnwritten n copies x) → AreNext copies (new_writes n ws)
unfolding AreNext new_writes keys
are_next n copies [] d each = tt
are_next n copies (w ∷ ws) d each =
    let here = each w.0 (mentions-first w.0 (keys ws)) in
    let write : Write = record { obj = w.0; ver = version_of (copy n w.0) + 1; value = w.1 } in (
      record { within = here.within; rises = rw here.same here.rises; next = ap (λ c. version_of c + 1) (sym here.same) },
      are_next n (after_write rewritten_copy copies write) ws (distinct-rest w.0 (keys ws) d)
          (λ y m. let there = each y (mentions-later y w.0 (keys ws) m) in
          record {
            within = rw (length-put None copies w.0 (rewritten_copy write (nth None copies w.0)) here.within) there.within;
            rises = there.rises;
            same = nth-put_other None copies w.0 y (rewritten_copy write (nth None copies w.0)) (other w.0 y (keys ws) d m) ∙ there.same;
          }),
    )

rising_key : (copies : List (Option Copy)) (ws : List (ℕ × Value)) (x : ℕ) → AreRising copies ws → mentions x (keys ws) ≡ true → version_of (nth None copies x) ≢ 2 ^ 64 - 1
unfolding AreRising keys mentions
rising_key copies [] x r m = cc
rising_key copies (w ∷ ws) x r m =
    elim (x == w.0) as (λ b. (x == w.0) ≡ b → (b || mentions x (keys ws)) ≡ true → version_of (nth None copies x) ≢ 2 ^ 64 - 1) [
      | true ↦ λ e _. let same : x ≡ w.0 = eqb-true x w.0 e in rw same r.0
      | false ↦ λ _ rest. rising_key copies ws x r.1 rest
    ] refl m

-- if no version is at its end, then each new write has the version after that of the copy
pub writes_next : (n : Node) (tx : List Op) → All (λ x. x < length n.copies) (named tx) → AreRising n.copies (run_here n tx).writes → AreNext n.copies (new_writes n (run_here n tx).writes)
writes_next n tx all rises =
    let of = run-are_of (λ x. value_of (copy n x)) tx in
    are_next n n.copies (run_here n tx).writes of.distinct
    (λ x m. record {
      within = mentions_all (length n.copies) (named tx) x all (of.named x m);
      rises = rising_key n.copies (run_here n tx).writes x rises m;
      same = refl;
    })

writes_within-of : (n : Node) (k : ℕ) (ws : List (ℕ × Value)) → ((x : ℕ) → mentions x (keys ws) ≡ true → x < k) → AreWithin k (new_writes n ws)
unfolding AreWithin new_writes keys
writes_within-of n k [] each = tt
writes_within-of n k (w ∷ ws) each =
    (each w.0 (mentions-first w.0 (keys ws)), writes_within-of n k ws (λ y m. each y (mentions-later y w.0 (keys ws) m)))

-- if all named objects are below a bound, then so are those of the new writes
pub writes_within : (n : Node) (k : ℕ) (tx : List Op) → All (λ x. x < k) (named tx) → AreWithin k (new_writes n (run_here n tx).writes)
writes_within n k tx all =
    let of = run-are_of (λ x. value_of (copy n x)) tx in
    writes_within-of n k (run_here n tx).writes (λ x m. mentions_all k (named tx) x all (of.named x m))

-- ---- one step of a loop over writes

next_is : (copies : List (Option Copy)) (w : Write) → IsNext copies w → next_write copies w.obj w.value ≡ w
next_is copies w is = λ i. record { obj = w.obj; ver = sym is.next i; value = w.value }

next-cons : (copies : List (Option Copy)) (w : Write) (ws : List Write) → AreNext copies (w ∷ ws) → IsNext copies w × AreNext (after_write rewritten_copy copies w) ws
unfolding AreNext
next-cons copies w ws h = h

each_write-cons : (copies : List (Option Copy)) (w : Write) (ws : List Write) → each_write rewritten_copy copies (w ∷ ws) ≡ each_write rewritten_copy (after_write rewritten_copy copies w) ws
unfolding each_write
each_write-cons copies w ws = refl

-- if the writes from an index on are next, then so is that one, and after it those behind it
pub next_here : (copies : List (Option Copy)) (ws : List Write) (i : ℕ) (w : Write) → i < length ws → w ≡ get_or ws i w → AreNext copies (drop i ws) → IsNext copies w × AreNext (after_write rewritten_copy copies w) (drop (i + 1) ws)
next_here copies ws i w h e next = next-cons copies w _ (rw (drop_here ws i w h e) at next)

-- the copies after the write are those after the next write of its value
pub written_is : (copies now : List (Option Copy)) (w : Write) → IsNext copies w → now ≡ after_write rewritten_copy copies (next_write copies w.obj w.value) → now ≡ after_write rewritten_copy copies w
written_is copies now w is e = e ∙ ap (after_write rewritten_copy copies) (next_is copies w is)

-- to make the write at an index and then those behind it is to make all from that index on
pub each_write-step : (copies : List (Option Copy)) (ws : List Write) (i : ℕ) (w : Write) → i < length ws → w ≡ get_or ws i w → each_write rewritten_copy (after_write rewritten_copy copies w) (drop (i + 1) ws) ≡ each_write rewritten_copy copies (drop i ws)
each_write-step copies ws i w h e = rw (drop_here ws i w h e) (sym (each_write-cons copies w _))

-- past the end of a list no write more is made
pub each_write-end : (copies : List (Option Copy)) (ws : List Write) (i : ℕ) → length ws ≤ i → copies ≡ each_write rewritten_copy copies (drop i ws)
unfolding each_write
each_write-end copies ws i h = rw (drop_all i ws h) refl

-- ---- new writes, one after another

rising_at : (copies : List (Option Copy)) (ws : List (ℕ × Value)) (i : ℕ) (d : ℕ × Value) → AreRising copies ws → i < length ws → version_of (nth None copies (get_or ws i d).0) ≢ 2 ^ 64 - 1
unfolding AreRising
rising_at copies [] i d h k = absurd (omega arith)
rising_at copies (w ∷ ws) zero d h k = h.0
rising_at copies (w ∷ ws) (suc i) d h k = rising_at copies ws i d h.1 (omega arith)

-- if no version is at its end, then that of the object written at an index is not
pub rising_read : (copies : List (Option Copy)) (ws : List (ℕ × Value)) (i : ℕ) (w : ℕ × Value) → AreRising copies ws → i < length ws → w ≡ get_or ws i w → version_of (nth None copies w.0) ≢ 2 ^ 64 - 1
rising_read copies ws i w h k e =
    let P : ℕ × Value → Type 0 = λ v. version_of (nth None copies v.0) ≢ 2 ^ 64 - 1 in
    subst P (sym e) (rising_at copies ws i w h k)

new_writes-append : (n : Node) (vs ws : List (ℕ × Value)) → new_writes n (vs ++ ws) ≡ new_writes n vs ++ new_writes n ws
unfolding new_writes
new_writes-append n [] ws = refl
new_writes-append n (v ∷ vs) ws = ap (λ l. record { obj = v.0; ver = version_of (copy n v.0) + 1; value = v.1 } ∷ l) (new_writes-append n vs ws)

-- one write more
pub new_writes_more : (n : Node) (ws : List (ℕ × Value)) (i : ℕ) (w : ℕ × Value) → i < length ws → w ≡ get_or ws i w → new_writes n (take (i + 1) ws) ≡ new_writes n (take i ws) ++ record { obj = w.0; ver = version_of (copy n w.0) + 1; value = w.1 } ∷ []
unfolding new_writes
new_writes_more n ws i w h e = rw (take_more ws i w h, ← e) (new_writes-append n (take i ws) (w ∷ []))

-- of no written values there is no new write
pub new_writes_none : (n : Node) (ws : List (ℕ × Value)) → [] ≡ new_writes n (take 0 ws)
unfolding new_writes
new_writes_none n ws = refl

-- only the copies count
pub new_writes_same : (n m : Node) (ws : List (ℕ × Value)) → n.copies ≡ m.copies → new_writes n ws ≡ new_writes m ws
unfolding new_writes
new_writes_same n m [] e = refl
new_writes_same n m (w ∷ ws) e =
    ap (λ (cs : List (Option Copy)). record { obj = w.0; ver = version_of (nth None cs w.0) + 1; value = w.1 } ∷ new_writes n ws) e
    ∙ ap (λ l. record { obj = w.0; ver = version_of (copy m w.0) + 1; value = w.1 } ∷ l) (new_writes_same n m ws e)

-- ---- the replicas of the written objects, from the last write on

-- if all writes are of objects below a bound, then so is the one at an index
pub within_at : (k : ℕ) (ws : List Write) (i : ℕ) (d : Write) → AreWithin k ws → i < length ws → (get_or ws i d).obj < k
unfolding AreWithin
within_at k [] i d h g = absurd (omega arith)
within_at k (w ∷ ws) zero d h g = h.0
within_at k (w ∷ ws) (suc i) d h g = within_at k ws i d h.1 (omega arith)

-- the replicas of the writes from an index on are those of that object, and those of the writes behind it
pub replicas_step : (n : Node) (ws : List Write) (place : ℕ) (w : Write) → place < length ws → w ≡ get_or ws place w → replicas_of n (drop place ws) ≡ join (entry n w.obj).place.replicas (replicas_of n (drop (suc place) ws))
unfolding replicas_of
replicas_step n ws place w h e = rw (drop-cons ws place w h, ← e) refl

-- past the end of the writes there are no replicas
pub replicas_none : (n : Node) (ws : List Write) (i : ℕ) → length ws ≤ i → [] ≡ replicas_of n (drop i ws)
unfolding replicas_of
replicas_none n ws i h = rw (drop_all i ws h) refl

-- only the entries count
pub replicas_same : (n m : Node) (ws : List Write) → n.entries ≡ m.entries → replicas_of n ws ≡ replicas_of m ws
unfolding replicas_of
replicas_same n m [] e = refl
replicas_same n m (w ∷ ws) e =
    ap (λ (es : List Entry). join (nth no_entry es w.obj).place.replicas (replicas_of n ws)) e
    ∙ ap (join (entry m w.obj).place.replicas) (replicas_same n m ws e)

-- ---- the slot still holds no object more often than entries name it

held_before : (s k : ℕ) (h : Option Hold) → CanHold s h → (hold_slot h ≡ Some s → hold_count h ≤ k) → hold_count h ≤ k
unfolding CanHold hold_slot hold_count
held_before s k None can count = omega arith
held_before s k (Some h) can count = count (ap Some can.0)

-- if the slot holds the objects of a new entry, then what it holds is still named by its entries, with the new one
pub named_kept : (s : ℕ) (holds : List (Option Hold)) (ps : List Pending) (p : Pending) (tx : List Op) → p.named ≡ named tx → None ≡ first_of (held_at s holds) (named tx) → AreNamed s holds ps → length ps < 16 → AreNamed s (each_held s holds (named tx)) (ps ++ p ∷ [])
named_kept s holds ps p tx e free counts room = λ x here.
    elim (mentions x (named tx)) as (λ b. mentions x (named tx) ≡ b → hold_count (nth None (each_held s holds (named tx)) x) ≤ naming x (ps ++ p ∷ [])) [
      | true ↦ λ m.
          let can = can_hold s x (nth None holds x) ps (free_at s holds x (free_all s holds (named tx) x free m)) (counts x) room in
          let before = held_before s (naming x ps) (nth None holds x) can (counts x) in
          rw (held-once s holds (named tx) x (distinct-named tx) m, naming-more x ps p (rw e m))
          (omega (arith, before, hold_count-held s (nth None holds x)))
      | false ↦ λ m.
          let same = held-other s holds (named tx) x m in
          rw (same, naming-same x ps p (rw e m)) (counts x (rw same at here))
    ] refl
