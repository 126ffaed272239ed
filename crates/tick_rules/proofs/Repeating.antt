-- Entries that are sent again, one after another.
use Rattle.std.proofs.Common.{ℕ, zero, suc, ◌≡◌, ◌<◌, ◌+◌, true, false, List, [], ◌∷◌, ◌++◌, Some, None, length, drop, map, refl, sym, ap, ◌∙◌, arith}
use Rattle.std.specs.Prelude.{slice_get}
use Rattle.std.proofs.lemmas.List.{drop-map}
use Rattle.zeus_base.specs.Nodes.{has, meet, without}
use Rattle.zeus_base.specs.declared.order.Stream.{Stream}
use Rattle.zeus_packet.specs.declared.letter.Body.{Body}
use Rattle.zeus_packet.specs.declared.letter.Body.TheVariants.{RInv}
use Rattle.zeus_packet.specs.declared.letter.Letter.{Letter}
use Rattle.zeus_model.specs.declared.state.Kept.{Kept}
use Rattle.zeus_model.specs.declared.state.Pending.{Pending}
use Rattle.zeus_model.specs.Act.{letter, to_each}
use Rattle.zeus_model.specs.Commit.{as_kept}
use Rattle.zeus_model.specs.Membership.{apart, repeat_entries, repeat_kept, repeat_own}
use Rattle.zeus_model.specs.State.{Node, Slot, log, own_stream, slot}

-- ---- receivers

module _ (n : Node) (body : Body) (acks : List ℕ) where
  -- the letters to those of the nodes that have not acknowledged
  abbrev pub to_lacking : List ℕ → List Letter
  to_lacking left = to_each n (apart left acks) body

  -- the next node has not acknowledged
  pub to_lacking-next : (m : ℕ) (left rest : List ℕ) → left ≡ m ∷ rest → has m acks ≡ false → to_lacking left ≡ (letter n m body ∷ []) ++ to_lacking rest
  unfolding to_each apart
  to_lacking-next m left rest e lacking = rw (e, lacking) refl

  -- it has
  pub to_lacking-acked : (m : ℕ) (left rest : List ℕ) → left ≡ m ∷ rest → has m acks ≡ true → to_lacking left ≡ to_lacking rest
  unfolding to_each apart
  to_lacking-acked m left rest e acked = rw (e, acked) refl

  -- no node is left
  pub to_lacking-none : (left : List ℕ) → left ≡ [] → to_lacking left ≡ []
  unfolding to_each apart
  to_lacking-none left e = rw e refl

-- ---- an element that is found

-- an element that is found comes before those behind it
pub found-next : {A : Type 0} (xs : List A) (i : ℕ) (x : A) → Some x ≡ slice_get xs i → drop i xs ≡ x ∷ drop (i + 1) xs
found-next [] i x e = absurd cc
found-next (y ∷ ys) zero x e = let same : y ≡ x = cc in ap (λ z. z ∷ ys) same
found-next (y ∷ ys) (suc i) x e = let at : suc i + 1 ≡ suc (i + 1) = omega arith in rw at (found-next ys i x e)

-- it stands in range
pub found-less : {A : Type 0} (xs : List A) (i : ℕ) (x : A) → Some x ≡ slice_get xs i → i < length xs
found-less [] i x e = absurd cc
found-less (y ∷ ys) zero x e = omega arith
found-less (y ∷ ys) (suc i) x e = omega (arith, found-less ys i x e)

-- where none is found nothing is left
pub found-none : {A : Type 0} (xs : List A) (i : ℕ) → None ≡ slice_get xs i → drop i xs ≡ []
found-none [] zero e = refl
found-none [] (suc i) e = refl
found-none (y ∷ ys) zero e = absurd cc
found-none (y ∷ ys) (suc i) e = found-none ys i e

-- ---- entries

-- the letters of an entry
abbrev pub of_entry : Node → Stream → ℕ → ℕ → Kept → List Letter
of_entry n s done number k =
    to_each n (apart (without n.me (meet k.followers n.members)) k.acks) (RInv record { stream = s; number = number; done = done; followers = k.followers; writes = k.writes })

-- the letters of the entries from a place on
abbrev pub of_entries : Node → Stream → ℕ → List Kept → ℕ → List Letter
of_entries n s done ks place = repeat_entries n s done (done + place) (drop place ks)

-- all entries are those from the first place on
pub of_entries-all : (n : Node) (s : Stream) (done : ℕ) (ks : List Kept) → repeat_entries n s done done ks ≡ of_entries n s done ks 0
of_entries-all n s done ks = let at : done + 0 ≡ done = omega arith in rw at refl

entries-next : (n : Node) (s : Stream) (done : ℕ) (ks : List Kept) (place : ℕ) (k : Kept) → drop place ks ≡ k ∷ drop (place + 1) ks → of_entries n s done ks place ≡ of_entry n s done (done + place) k ++ of_entries n s done ks (place + 1)
unfolding repeat_entries
entries-next n s done ks place k e =
    let at : done + (place + 1) ≡ done + place + 1 = omega arith in
    rw (e, at) refl

entries-none : (n : Node) (s : Stream) (done : ℕ) (ks : List Kept) (place : ℕ) → drop place ks ≡ [] → of_entries n s done ks place ≡ []
unfolding repeat_entries
entries-none n s done ks place e = rw e refl

-- ---- stored entries

-- the next stored entry
pub stored-next : (n : Node) (s : Stream) (done : ℕ) (ks : List Kept) (place : ℕ) (k : Kept) → Some k ≡ slice_get ks place → of_entries n s done ks place ≡ of_entry n s done (done + place) k ++ of_entries n s done ks (place + 1)
stored-next n s done ks place k found = entries-next n s done ks place k (found-next ks place k found)

-- no stored entry is left
pub stored-end : (n : Node) (s : Stream) (done : ℕ) (ks : List Kept) (place : ℕ) → None ≡ slice_get ks place → of_entries n s done ks place ≡ []
stored-end n s done ks place none = entries-none n s done ks place (found-none ks place none)

-- all stored entries
pub stored-all : (n : Node) (s : Stream) (d : ℕ) → d ≡ (log n s).done → repeat_kept n s ≡ of_entries n s d (log n s).kept 0
unfolding repeat_kept
stored-all n s d is = rw (← is) (of_entries-all n s d (log n s).kept)

-- ---- pending entries

-- the next pending entry
pub pending-next : (n : Node) (s : Stream) (done : ℕ) (ps : List Pending) (place : ℕ) (p : Pending) → Some p ≡ slice_get ps place → of_entries n s done (map as_kept ps) place ≡ of_entry n s done (done + place) (as_kept p) ++ of_entries n s done (map as_kept ps) (place + 1)
pending-next n s done ps place p found =
    entries-next n s done (map as_kept ps) place (as_kept p)
    (drop-map as_kept place ps ∙ ap (map as_kept) (found-next ps place p found) ∙ ap (λ (ks : List Kept). as_kept p ∷ ks) (sym (drop-map as_kept (place + 1) ps)))

-- no pending entry is left
pub pending-end : (n : Node) (s : Stream) (done : ℕ) (ps : List Pending) (place : ℕ) → None ≡ slice_get ps place → of_entries n s done (map as_kept ps) place ≡ []
pending-end n s done ps place none = entries-none n s done (map as_kept ps) place (drop-map as_kept place ps ∙ ap (map as_kept) (found-none ps place none))

-- all pending entries
pub pending-all : (n : Node) (s d : ℕ) (l : Slot) (t : Stream) → l ≡ slot n s → d ≡ l.done → t ≡ own_stream n s → repeat_own n s ≡ of_entries n t d (map as_kept l.pending) 0
unfolding repeat_own
pending-all n s d l t here is at = rw (at, is, ← here) (of_entries-all n (own_stream n s) l.done (map as_kept l.pending))
