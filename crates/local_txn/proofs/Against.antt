-- What stands against a transaction: the first that applies.
use Rattle.std.proofs.Common.{ℕ, ◌≡◌, ◌≢◌, ◌<◌, ◌≤◌, ◌+◌, ◌-◌, ◌^◌, Bool, true, false, List, [], ◌∷◌, Option, Some, None, length, drop, refl, sym, ap, ◌∙◌}
use Rattle.std.specs.Prelude.{◌==◌, ◌||◌, not, is_some}
use Rattle.std.specs.List.{list_any}
use Rattle.std.proofs.Math.ListN.{get_or}
use Rattle.std.proofs.lemmas.Bool.{eq-eqb, ne_eqb}
use Rattle.std.proofs.lemmas.List.{drop_all}
use Rattle.zeus_txn.specs.Ops.{named}
use Rattle.zeus_txn.specs.declared.ops.Op.{Op}
use Rattle.zeus_model.specs.declared.answer.Tried.{Tried}
use Rattle.zeus_model.specs.declared.answer.Tried.TheVariants as rules
use Rattle.zeus_model.specs.declared.state.Entry.{Entry}
use Rattle.zeus_model.specs.declared.state.Pending.{Pending}
use Rattle.zeus_model.specs.Local.{full_cause, held_elsewhere, holder_cause, owner_cause, worn_cause, write_cause}
use Rattle.zeus_model.specs.State.{Node, holder, next_number, owns, slot}
use Rattle.zeus_model.specs.Tables.{first_of, nth, or_else, where_true}
use Rattle.zeus_model.specs.TableLaws.{first_of-at}
use Rattle.object_table.specs.declared.hold.Hold.{Hold}
use Rattle.object_table.specs.Table.{Table, hold_slot}
use Rattle.commit_pipeline.specs.Pipes.{Waiting}
use Rattle.local_txn.specs.declared.causes.HeldBy.{HeldBy}
use Rattle.local_txn.specs.declared.attempt.WriteTry.TheVariants.{PipeFull, NotOwner, Held, WornOut}
use Rattle.local_txn.specs.Tries.{IsNodeOf, cause_as, held_at, node_of, owner_at, owns_at, told_held, told_not_owned, tried_as, worn_at}
use Rattle.local_txn.proofs.Worn.{worn_is}

-- ---- the first of a list

or_else-some : {A : Type 0} (a : A) (o b : Option A) → Some a ≡ o → Some a ≡ or_else o b
unfolding or_else
or_else-some a o b e = rw (← e) refl

or_else-none : {A : Type 0} (o b : Option A) → None ≡ o → or_else o b ≡ b
unfolding or_else
or_else-none o b e = rw (← e) refl

-- if the element at an index gives something, then that is what the list from there gives before all else
pub first_here : {A B : Type 0} (f : A → Option B) (xs : List A) (i : ℕ) (x : A) (b : B) → i < length xs → x ≡ get_or xs i x → Some b ≡ f x → Some b ≡ first_of f (drop i xs)
first_here f xs i x b h e is = rw (first_of-at f xs i x h e) (or_else-some b (f x) _ is)

-- if the element at an index gives nothing, then the list from there gives what the list behind it gives
pub first_later : {A B : Type 0} (f : A → Option B) (xs : List A) (i : ℕ) (x : A) → i < length xs → x ≡ get_or xs i x → None ≡ f x → first_of f (drop (i + 1) xs) ≡ first_of f (drop i xs)
first_later f xs i x h e is = rw (first_of-at f xs i x h e) (sym (or_else-none (f x) _ is))

-- past the end of a list nothing is given
pub first_none : {A B : Type 0} (f : A → Option B) (xs : List A) (i : ℕ) → length xs ≤ i → None ≡ first_of f (drop i xs)
unfolding first_of
first_none f xs i h = rw (drop_all i xs h) refl

first_same : {A B : Type 0} (f g : A → Option B) → ((x : A) → f x ≡ g x) → (xs : List A) → first_of f xs ≡ first_of g xs
unfolding first_of
first_same f g same [] = refl
first_same f g same (x ∷ xs) = rw (same x, first_same f g same xs) refl

-- ---- at one object

-- a node with these entries owns an object exactly if the entries say so
pub owns_at-is : (me : ℕ) (entries : List Entry) (x : ℕ) → owns (node_of me entries []) x ≡ owns_at me entries x
unfolding owns owns_at
owns_at-is me entries x = refl

owns-at : (n : Node) (x : ℕ) → owns n x ≡ owns_at n.me n.entries x
unfolding owns owns_at
owns-at n x = refl

-- if the entries say that the object is not owned, then that stands against it
pub not_owned_here : (me : ℕ) (entries : List Entry) (x : ℕ) (b : Bool) → b ≡ owns_at me entries x → b ≡ false → told_not_owned (Some x) ≡ owner_at me entries x
unfolding owner_at told_not_owned where_true
not_owned_here me entries x b is e = rw (← is, e) refl

-- if the entries say that the object is owned, then nothing stands against it there
pub owned_here : (me : ℕ) (entries : List Entry) (x : ℕ) (b : Bool) → b ≡ owns_at me entries x → b ≡ true → None ≡ owner_at me entries x
unfolding owner_at where_true
owned_here me entries x b is e = rw (← is, e) refl

-- if no slot holds the object, then nothing stands against it there
pub free_here : (s x : ℕ) (holds : List (Option Hold)) → None ≡ hold_slot (nth None holds x) → told_held None ≡ held_at s holds x
unfolding held_at told_held held_elsewhere
free_here s x holds e = rw (← e) refl

-- if the slot itself holds the object, then nothing stands against it there
pub held_here : (s x other : ℕ) (holds : List (Option Hold)) (b : Bool) → Some other ≡ hold_slot (nth None holds x) → (other == s) ≡ true → told_held None ≡ held_at s holds x
unfolding held_at told_held held_elsewhere where_true
held_here s x other holds b e same = rw (← e, same) refl

-- if another slot holds the object, then that stands against it
pub held_elsewhere_here : (s x other : ℕ) (holds : List (Option Hold)) → Some other ≡ hold_slot (nth None holds x) → (other == s) ≡ false → told_held (Some record { object = x; slot = other }) ≡ held_at s holds x
unfolding held_at told_held held_elsewhere where_true
held_elsewhere_here s x other holds e same = rw (← e, same) refl

-- if a hold of another slot was found, then it comes before any other cause
pub told_held-some : (h : Option HeldBy) (o : Option Tried) → told_held h ≡ o → is_some h ≡ true → (b : Option Tried) → told_held h ≡ or_else o b
unfolding told_held or_else
told_held-some None o e s b = cc
told_held-some (Some h) o e s b = rw (← e) refl

-- if no hold of another slot was found, then nothing is told
pub told_held-none : (h : Option HeldBy) (o : Option Tried) → told_held h ≡ o → is_some h ≡ false → None ≡ o
unfolding told_held
told_held-none None o e s = e
told_held-none (Some h) o e s = cc

-- if another slot holds the object at an index, then that stands against the list from there
pub first_held_here : (f : ℕ → Option Tried) (xs : List ℕ) (i x : ℕ) (h : Option HeldBy) → i < length xs → x ≡ get_or xs i x → told_held h ≡ f x → is_some h ≡ true → told_held h ≡ first_of f (drop i xs)
first_held_here f xs i x h here e is s = rw (first_of-at f xs i x here e) (told_held-some h (f x) is s _)

-- if the object at an index is not owned, then that stands against the list from there
pub first_not_owned_here : (me : ℕ) (entries : List Entry) (xs : List ℕ) (i x : ℕ) (b : Bool) → i < length xs → x ≡ get_or xs i x → b ≡ owns_at me entries x → b ≡ false → told_not_owned (Some x) ≡ first_of (owner_at me entries) (drop i xs)
unfolding told_not_owned
first_not_owned_here me entries xs i x b here e is other =
    first_here (owner_at me entries) xs i x (rules.NotOwner x) here e (not_owned_here me entries x b is other)

-- past the end of the named objects none is left that is not owned
pub first_not_owned_none : (me : ℕ) (entries : List Entry) (xs : List ℕ) (i : ℕ) → length xs ≤ i → told_not_owned None ≡ first_of (owner_at me entries) (drop i xs)
unfolding told_not_owned
first_not_owned_none me entries xs i h = first_none (owner_at me entries) xs i h

-- past the end of the named objects none is left that another slot holds
pub first_held_none : (s : ℕ) (holds : List (Option Hold)) (xs : List ℕ) (i : ℕ) → length xs ≤ i → told_held None ≡ first_of (held_at s holds) (drop i xs)
unfolding told_held
first_held_none s holds xs i h = first_none (held_at s holds) xs i h

-- ---- all causes

module _ (me : ℕ) (entries : List Entry) (table : Table) (s : ℕ) (waiting : Waiting) (n : Node) (is : IsNodeOf me entries table s waiting n) (tx : List Op) where
  full-is : full_cause (slot n s) ≡ where_true (length waiting.pending == 16) rules.PipeFull
  unfolding full_cause
  full-is = ap (λ (ps : List Pending). where_true (length ps == 16) rules.PipeFull) is.pending

  owner-is : owner_cause n tx ≡ first_of (owner_at me entries) (named tx)
  unfolding owner_cause owner_at
  owner-is =
      first_same (λ x. where_true (not (owns n x)) (rules.NotOwner x)) (owner_at me entries)
      (λ x. rw owns-at (ap (λ m. where_true (not (owns_at m n.entries x)) (rules.NotOwner x)) is.number
      ∙ ap (λ es. where_true (not (owns_at me es x)) (rules.NotOwner x)) is.known)) (named tx)

  holder-is : holder_cause n s tx ≡ first_of (held_at s table.holds) (named tx)
  unfolding holder_cause held_at
  holder-is = first_same (λ x. held_elsewhere s x (holder n x)) (held_at s table.holds) is.holders (named tx)

  number-is : next_number (slot n s) ≡ waiting.done + length waiting.pending
  number-is = ap (λ d. d + length (slot n s).pending) is.done ∙ ap (λ (ps : List Pending). waiting.done + length ps) is.pending

  worn_cause-is : worn_cause n s tx ≡ where_true ((waiting.done + length waiting.pending == 2 ^ 32 - 1) || list_any (worn_at table.copies) tx) rules.WornOut
  worn_cause-is =
      worn_is n s tx (waiting.done + length waiting.pending == 2 ^ 32 - 1) (ap (λ k. k == 2 ^ 32 - 1) number-is)
      ∙ ap (λ cs. where_true ((waiting.done + length waiting.pending == 2 ^ 32 - 1) || list_any (worn_at cs) tx) rules.WornOut) is.copies

  -- the causes in order: 16 pending entries, an object not owned, one held by another slot, a number or version at its end
  pub causes-are :
      write_cause n s tx
      ≡ or_else (where_true (length waiting.pending == 16) rules.PipeFull)
      (or_else (first_of (owner_at me entries) (named tx))
      (or_else (first_of (held_at s table.holds) (named tx))
      (where_true ((waiting.done + length waiting.pending == 2 ^ 32 - 1) || list_any (worn_at table.copies) tx) rules.WornOut)))
  unfolding write_cause
  causes-are = rw (full-is, owner-is, holder-is, worn_cause-is) refl

  -- if 16 entries are pending, then that stands against the write
  pub against_full : (id : ℕ) → length waiting.pending ≡ 16 → cause_as id (Some PipeFull) ≡ write_cause n s tx
  unfolding cause_as tried_as or_else where_true
  against_full id e = rw (causes-are, eq-eqb _ _ e) refl

  -- if fewer are pending and an object is not owned, then that stands against the write
  pub against_owner : (id x : ℕ) → length waiting.pending ≢ 16 → told_not_owned (Some x) ≡ first_of (owner_at me entries) (named tx) → cause_as id (Some (NotOwner x)) ≡ write_cause n s tx
  unfolding cause_as tried_as told_not_owned or_else where_true
  against_owner id x room e = rw (causes-are, ne_eqb _ _ room, ← e) refl

  -- if all objects are owned and another slot holds one, then that stands against the write
  pub against_holder : (id : ℕ) (h : HeldBy) → length waiting.pending ≢ 16 → told_not_owned None ≡ first_of (owner_at me entries) (named tx) → told_held (Some h) ≡ first_of (held_at s table.holds) (named tx) → cause_as id (Some (Held h.object h.slot)) ≡ write_cause n s tx
  unfolding cause_as tried_as told_not_owned told_held or_else where_true
  against_holder id h room owned e = rw (causes-are, ne_eqb _ _ room, ← owned, ← e) refl

  -- if all objects are owned and free, and a number or a version is at its end, then that stands against the write
  pub against_worn : (id : ℕ) (b : Bool) → length waiting.pending ≢ 16 → told_not_owned None ≡ first_of (owner_at me entries) (named tx) → told_held None ≡ first_of (held_at s table.holds) (named tx) → b ≡ ((waiting.done + length waiting.pending == 2 ^ 32 - 1) || list_any (worn_at table.copies) tx) → b ≡ true → cause_as id (Some WornOut) ≡ write_cause n s tx
  unfolding cause_as tried_as told_not_owned told_held or_else where_true
  against_worn id b room owned free worn e = rw (causes-are, ne_eqb _ _ room, ← owned, ← free, ← worn, e) refl

  -- if none of the four causes applies, then nothing stands against the write
  pub against_none : (id : ℕ) (b : Bool) → length waiting.pending ≢ 16 → told_not_owned None ≡ first_of (owner_at me entries) (named tx) → told_held None ≡ first_of (held_at s table.holds) (named tx) → b ≡ ((waiting.done + length waiting.pending == 2 ^ 32 - 1) || list_any (worn_at table.copies) tx) → b ≡ false → cause_as id None ≡ write_cause n s tx
  unfolding cause_as told_not_owned told_held or_else where_true
  against_none id b room owned free worn e = rw (causes-are, ne_eqb _ _ room, ← owned, ← free, ← worn, e) refl
