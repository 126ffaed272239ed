-- Loops over entries, from the first on.
use Rattle.std.proofs.Common.{ℕ, zero, suc, ◌≡◌, ◌<◌, ◌≤◌, List, [], ◌∷◌, Option, Some, None, length, take, drop, map, refl, sym, arith}
use Rattle.std.specs.List.{slice_get}
use Rattle.zeus_base.specs.Nodes.{join}
use Rattle.zeus_model.specs.declared.state.Copy.{Copy}
use Rattle.zeus_model.specs.declared.state.Kept.{Kept}
use Rattle.zeus_model.specs.declared.state.Pending.{Pending}
use Rattle.zeus_model.specs.Commit.{as_kept, each_write, followers_of, validated, writes_of}
use Rattle.object_table.specs.Entries.{named_of}
use Rattle.object_table.specs.HeldLaws.{unheld-append, unheld-nil}
use Rattle.object_table.specs.Table.{each_unheld}
use Rattle.object_table.specs.WriteLaws.{each_write-append, each_write-nil}
use Rattle.object_table.specs.declared.hold.Hold.{Hold}

-- ---- entries one by one

-- the first entry passes, and then the others
pub pass-copies : (copies : List (Option Copy)) (ps : List Pending) (e : Pending) (a b : ℕ) → b ≡ suc a → Some e ≡ slice_get ps 0 → each_write validated (each_write validated copies e.writes) (writes_of (take a (map as_kept (drop 1 ps)))) ≡ each_write validated copies (writes_of (take b (map as_kept ps)))
unfolding writes_of
pass-copies copies [] e a b eq is = absurd cc
pass-copies copies (p ∷ ps) e a b eq is =
    let same : e ≡ p = cc in
    rw (eq, same) (sym (each_write-append validated copies p.writes (writes_of (take a (map as_kept ps)))))

-- releasing the names of the front entry, and then those of the entries behind it, is releasing those of all
pub pass-holds : (holds : List (Option Hold)) (ps : List Pending) (e : Pending) (a b : ℕ) → b ≡ suc a → Some e ≡ slice_get ps 0 → each_unheld (each_unheld holds e.named) (named_of (take a (drop 1 ps))) ≡ each_unheld holds (named_of (take b ps))
unfolding named_of
pass-holds holds [] e a b eq is = absurd cc
pass-holds holds (p ∷ ps) e a b eq is =
    let same : e ≡ p = cc in
    rw (eq, same) (sym (unheld-append holds p.named (named_of (take a ps))))

-- the entries left behind the front one and some more are those left behind one more
pub pass-rest : (ps : List Pending) (e : Pending) (a b : ℕ) → b ≡ suc a → Some e ≡ slice_get ps 0 → drop a (drop 1 ps) ≡ drop b ps
pass-rest [] e a b eq is = absurd cc
pass-rest (p ∷ ps) e a b eq is = rw eq refl

-- if no more entries pass than there are, then behind the front one no more pass than are there
pub pass-few : (ps : List Pending) (a b : ℕ) → b ≡ suc a → b ≤ length ps → a ≤ length (drop 1 ps)
pass-few [] a b eq h = absurd (omega arith)
pass-few (p ∷ ps) a b eq h = omega arith

-- none is left to pass
pub pass_none-copies : (copies : List (Option Copy)) (ks : List Kept) (n : ℕ) → n ≡ 0 → each_write validated copies (writes_of (take n ks)) ≡ copies
unfolding writes_of
pass_none-copies copies ks n e = rw e (each_write-nil validated copies)

-- if no entry passes, then no name is released
pub pass_none-holds : (holds : List (Option Hold)) (ps : List Pending) (n : ℕ) → n ≡ 0 → each_unheld holds (named_of (take n ps)) ≡ holds
unfolding named_of
pass_none-holds holds ps n e = rw e (unheld-nil holds)

-- if no entry stands in front, then there are none
pub none_first : (ps : List Pending) → None ≡ slice_get ps 0 → length ps ≡ 0
none_first [] h = refl
none_first (p ∷ ps) h = absurd cc

-- ---- followers, from the last entry on

-- the followers of the entries from a place on are those of the entry there and those of the entries behind it
pub followers-step : (ks : List Kept) (count place : ℕ) (e : Kept) → place < count → Some e ≡ slice_get ks place → followers_of (drop place (take count ks)) ≡ join e.followers (followers_of (drop (suc place) (take count ks)))
unfolding followers_of
followers-step [] count place e h is = absurd cc
followers-step (k ∷ ks) zero place e h is = absurd (omega arith)
followers-step (k ∷ ks) (suc count) zero e h is = let same : e ≡ k = cc in rw same refl
followers-step (k ∷ ks) (suc count) (suc place) e h is = followers-step ks count place e (omega arith) is

-- no followers are left behind the last entry
pub followers-none : (ks : List Kept) (count : ℕ) → [] ≡ followers_of (drop count (take count ks))
unfolding followers_of
followers-none ks zero = refl
followers-none [] (suc count) = refl
followers-none (k ∷ ks) (suc count) = followers-none ks count

-- if a pending entry is found at a place, then it stands there in the form of a stored one
pub as_kept-found : (ps : List Pending) (i : ℕ) (e : Pending) → Some e ≡ slice_get ps i → Some (as_kept e) ≡ slice_get (map as_kept ps) i
as_kept-found [] i e h = absurd cc
as_kept-found (p ∷ ps) zero e h = let same : e ≡ p = cc in rw same refl
as_kept-found (p ∷ ps) (suc i) e h = as_kept-found ps i e h

-- if nothing is found at a place of a list, then the place is past its end
pub found : {A : Type 0} (xs : List A) (i : ℕ) → None ≡ slice_get xs i → length xs ≤ i
found [] i h = omega arith
found (x ∷ xs) zero h = absurd cc
found (x ∷ xs) (suc i) h = let k = found xs i h in omega arith
