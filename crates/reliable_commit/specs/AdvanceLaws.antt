-- What an advance needs of the entries of a slot, and what the slots hold after an own stream has advanced.
use Rattle.std.specs.Prelude.{ℕ, ◌≡◌, ◌-◌, ◌<◌, List, [], ◌∷◌, ◌++◌, All, Option, map, take, refl}
use Rattle.std.proofs.lemmas.List.Elements.{All-append, All-cons, All-head, All-nil, All-tail}
use Rattle.zeus_model.specs.declared.state.Copy.{Copy}
use Rattle.zeus_model.specs.declared.state.Pending.{Pending}
use Rattle.zeus_model.specs.Commit.{advance_own, as_kept, writes_of}
use Rattle.zeus_model.specs.State.{Node, slot}
use Rattle.object_table.specs.declared.hold.Hold.{Hold}
use Rattle.object_table.specs.Entries.{AreEntriesWithin, named_of}
use Rattle.object_table.specs.Holding.{AreHeld}
use Rattle.object_table.specs.NodeHolds.{AreHeld-advance_own}
use Rattle.object_table.specs.Table.{AreWithin, each_unheld}
use Rattle.commit_pipeline.specs.Pipes.{Waiting}
use Rattle.reliable_commit.specs.Advancing.{IsOwnWith, count_of}
use Rattle.reliable_commit.specs.FollowLaws.{AreWithin-append, AreWithin-left, AreWithin-nil, AreWithin-right}
use Rattle.reliable_commit.specs.declared.advance.Advance.{Advance}

All-left : (P : ℕ → Type 0) (xs ys : List ℕ) → All P (xs ++ ys) → All P xs
All-left P [] ys h = All-nil P
All-left P (x ∷ xs) ys h =
    All-cons P x xs (All-head P x (xs ++ ys) h) (All-left P xs ys (All-tail P x (xs ++ ys) h))

All-right : (P : ℕ → Type 0) (xs ys : List ℕ) → All P (xs ++ ys) → All P ys
All-right P [] ys h = h
All-right P (x ∷ xs) ys h = All-right P xs ys (All-tail P x (xs ++ ys) h)

-- where all that the entries write and all that they name is there, each entry is of objects that there are
pub within-lists : (n : ℕ) (ps : List Pending) → AreWithin n (writes_of (map as_kept ps)) → All (λ x. x < n) (named_of ps) → AreEntriesWithin n ps
unfolding AreEntriesWithin writes_of named_of
within-lists n [] w a = tt
within-lists n (p ∷ ps) w a = (
  record {
    writes = AreWithin-left n p.writes (writes_of (map as_kept ps)) w;
    named = All-left (λ x. x < n) p.named (named_of ps) a;
  },
  within-lists n ps (AreWithin-right n p.writes (writes_of (map as_kept ps)) w) (All-right (λ x. x < n) p.named (named_of ps) a),
)

-- and the other way round
pub lists-within : (n : ℕ) (ps : List Pending) → AreEntriesWithin n ps → AreWithin n (writes_of (map as_kept ps)) × All (λ x. x < n) (named_of ps)
unfolding AreEntriesWithin writes_of named_of
lists-within n [] h = (AreWithin-nil n, All-nil (λ (x : ℕ). x < n))
lists-within n (p ∷ ps) h =
    let rest = lists-within n ps h.1 in
    (AreWithin-append n p.writes (writes_of (map as_kept ps)) h.0.writes rest.0, All-append (λ x. x < n) p.named (named_of ps) h.0.named rest.1)

-- the slots hold what their pending entries name, as before the advance
pub AreHeld-advanced : (n : Node) (s : ℕ) (copies : List (Option Copy)) (w : Waiting) (me : ℕ) (members : List ℕ) (a : Advance) (holds : List (Option Hold)) → IsOwnWith n s copies w me members → a.first ≡ w.done → a.after ≡ (slot (advance_own n s).node s).done → AreHeld n holds → AreHeld (advance_own n s).node (each_unheld holds (named_of (take (count_of a) w.pending)))
AreHeld-advanced n s copies w me members a holds node first after h =
    let count : count_of a ≡ (slot (advance_own n s).node s).done - (slot n s).done = rw (first, after, node.done) refl in
    rw (← node.pending) (AreHeld-advance_own n s (count_of a) holds count h)
