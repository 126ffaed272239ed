-- How a try's write part stands in the try of a slot.
use Rattle.std.specs.Prelude.{ℕ, ◌≡◌, ◌==◌, ◌||◌, true, false, not, List, [], ◌∷◌, Option, Some, None, if◌then◌else◌, refl}
use Rattle.std.proofs.Common.{ap, ◌∙◌}
use Rattle.std.proofs.lemmas.Bool.{eqb-true}
use Rattle.zeus_base.specs.Nodes.{meet}
use Rattle.zeus_packet.specs.declared.letter.Body.TheVariants.{RInv}
use Rattle.zeus_model.specs.declared.answer.Tried.{Tried}
use Rattle.zeus_model.specs.declared.answer.Tried.TheVariants.{Committed, Held}
use Rattle.zeus_model.specs.declared.answer.Tried.TheVariants as rules
use Rattle.zeus_model.specs.declared.state.Current.{Current}
use Rattle.zeus_model.specs.declared.state.Entry.{Entry}
use Rattle.zeus_model.specs.Act.{did_then, sends, to_each}
use Rattle.zeus_model.specs.Commit.{advance_own}
use Rattle.zeus_model.specs.Local.{commit, commit_entry, full_cause, held_elsewhere, holder_cause, invalidation, owner_cause, run_here, worn_cause, write_cause, write_row}
use Rattle.zeus_model.specs.State.{Node, holder, next_number, slot}
use Rattle.zeus_model.specs.Tables.{first_of, nth, or_else, where_true}
use Rattle.zeus_txn.specs.Ops.{mentions, named}
use Rattle.zeus_txn.specs.declared.ops.Op.{Op}
use Rattle.object_table.specs.declared.hold.Hold.{Hold}
use Rattle.object_table.specs.Holders.{holder-held}
use Rattle.object_table.specs.Holding.{AreHeld, IsFreeFor}
use Rattle.object_table.specs.NodeHolds.{AreHeld-committed}
use Rattle.object_table.specs.Table.{Table, hold_slot}
use Rattle.commit_pipeline.specs.Pipes.{Waiting}
use Rattle.local_txn.specs.Tries.{IsNodeOf, after_try, followers_here, holds_after, writes_here}

-- a transaction that nothing stands against is committed; then its entry goes to the followers, and the stream advances
pub write_row-committed : (n : Node) (s : ℕ) (c : Current) → write_row n s c None ≡ did_then (sends (after_try n s c None) (Committed c.id (next_number (slot n s)) (run_here n c.tx).reply) (to_each n (meet (followers_here n c.tx) n.members) (RInv (invalidation n s (followers_here n c.tx) (writes_here n c.tx))))) (λ m. advance_own m s)
unfolding write_row commit commit_entry after_try
write_row-committed n s c = refl

-- what stands against a transaction is the answer
pub told_back : (n : Node) (s : ℕ) (c : Current) (t : Tried) → (write_row n s c (Some t)).answer ≡ t
unfolding write_row
told_back n s c rules.Stopped = refl
told_back n s c rules.Nothing = refl
told_back n s c (rules.NoCopy k x) = refl
told_back n s c (rules.NotValid x state) = refl
told_back n s c (rules.Read k reply) = refl
told_back n s c rules.PipeFull = refl
told_back n s c (rules.NotOwner x) = refl
told_back n s c (rules.Held x t) = refl
told_back n s c rules.WornOut = refl
told_back n s c (rules.Committed k number reply) = refl

-- ---- what the slots hold

first_none : {A : Type 0} (o b : Option A) → or_else o b ≡ None → o ≡ None
unfolding or_else
first_none None b e = refl
first_none (Some a) b e = absurd cc

rest_none : {A : Type 0} (o b : Option A) → or_else o b ≡ None → b ≡ None
unfolding or_else
rest_none None b e = e
rest_none (Some a) b e = absurd cc

each_none : {A : Type 0} (f : ℕ → Option A) (xs : List ℕ) (x : ℕ) → first_of f xs ≡ None → mentions x xs ≡ true → f x ≡ None
unfolding first_of mentions
each_none f [] x e m = absurd cc
each_none f (y ∷ ys) x e m =
    elim (x == y) as (λ b. (x == y) ≡ b → (b || mentions x ys) ≡ true → f x ≡ None) [
      | true ↦ λ is _. ap f (eqb-true x y is) ∙ first_none (f y) (first_of f ys) e
      | false ↦ λ _ later. each_none f ys x (rest_none (f y) (first_of f ys) e) later
    ] refl m

-- no other slot holds an object that no other slot holds at the node
free-of : (s x : ℕ) (h : Option Hold) → held_elsewhere s x (hold_slot h) ≡ None → IsFreeFor s h
unfolding held_elsewhere hold_slot where_true IsFreeFor
free-of s x None e = tt
free-of s x (Some h) e =
    elim (h.slot == s) as (λ b. (h.slot == s) ≡ b → (if not b then Some (Held x h.slot) else None) ≡ None → h.slot ≡ s) [
      | true ↦ λ same _. eqb-true h.slot s same
      | false ↦ λ _ some. absurd cc
    ] refl e

held-none : (n : Node) (s : ℕ) (tx : List Op) → write_cause n s tx ≡ None → holder_cause n s tx ≡ None
unfolding write_cause
held-none n s tx e =
    first_none (holder_cause n s tx) (worn_cause n s tx) (rest_none (owner_cause n tx) _ (rest_none (full_cause (slot n s)) _ e))

free-here : (n : Node) (s x : ℕ) (tx : List Op) (holds : List (Option Hold)) → AreHeld n holds → write_cause n s tx ≡ None → mentions x (named tx) ≡ true → IsFreeFor s (nth None holds x)
unfolding holder_cause
free-here n s x tx holds h e m =
    let none = each_none (λ y. held_elsewhere s y (holder n y)) (named tx) x (held-none n s tx e) m in
    free-of s x (nth None holds x) (rw (holder-held n holds x h) at none)

after-cause : (n : Node) (s : ℕ) (c : Current) (holds : List (Option Hold)) (o : Option Tried) → write_cause n s c.tx ≡ o → AreHeld n holds → AreHeld (after_try n s c o) (holds_after s holds c.tx o)
unfolding after_try holds_after
after-cause n s c holds (Some t) e h = h
after-cause n s c holds None e h =
    AreHeld-committed n s c (run_here n c.tx) (followers_here n c.tx) (writes_here n c.tx) holds (λ x. free-here n s x c.tx holds h e) h

-- after a try the slots hold what their pending entries name, as before it
pub AreHeld-after_try : (n : Node) (s : ℕ) (c : Current) (holds : List (Option Hold)) → AreHeld n holds → AreHeld (after_try n s c (write_cause n s c.tx)) (holds_after s holds c.tx (write_cause n s c.tx))
AreHeld-after_try n s c holds h = after-cause n s c holds (write_cause n s c.tx) refl h

-- a node whose slots hold what their pending entries name is one whose holders the table knows
pub IsNodeOf-held : (me : ℕ) (entries : List Entry) (table : Table) (s : ℕ) (waiting : Waiting) (n : Node) → n.me ≡ me → n.entries ≡ entries → n.copies ≡ table.copies → (slot n s).done ≡ waiting.done → (slot n s).pending ≡ waiting.pending → AreHeld n table.holds → IsNodeOf me entries table s waiting n
IsNodeOf-held me entries table s waiting n number known copies done pending h =
    record {
      number = number;
      known = known;
      copies = copies;
      holders = λ x. ap (held_elsewhere s x) (holder-held n table.holds x h);
      done = done;
      pending = pending;
    }
