-- What a try's answer names for the book is the slot's current transaction; and a stopped node stays stopped.
use Rattle.std.specs.Prelude.{ℕ, ◌≡◌, ◌==◌, Bool, true, false, not, List, [], ◌∷◌, Option, Some, None, if◌then◌else◌}
use Rattle.std.proofs.Common.{refl}
use Rattle.zeus_txn.specs.Ops.{is_write, named, written}
use Rattle.zeus_txn.specs.declared.ops.Op.{Op}
use Rattle.zeus_txn.specs.declared.tx.TxDecl.{TxDecl}
use Rattle.zeus_packet.specs.declared.letter.Letter.{Letter}
use Rattle.zeus_model.specs.declared.answer.Tried.{Tried}
use Rattle.zeus_model.specs.declared.answer.Tried.TheVariants.{Stopped, NoCopy, Read, PipeFull, NotOwner, Held, WornOut, Committed}
use Rattle.zeus_model.specs.declared.state.Current.{Current}
use Rattle.zeus_model.specs.Tables.{or_else, where_true, first_of}
use Rattle.zeus_model.specs.State.{Node, slot}
use Rattle.zeus_model.specs.Act.{Did, just}
use Rattle.zeus_model.specs.Local.{Hindrance, Missing, Unready, read_missing, read_row, full_cause, owner_cause, held_elsewhere, holder_cause, worn_cause, write_cause, commit_entry, commit, write_row, try_current, try_slot, begin}
use Rattle.zeus_model.specs.Membership.{install, stop, tick}
use Rattle.zeus_model.specs.Receive.{rejection, receive_or_not, receive}
use Rattle.live_model.specs.Cell.{Deed, Began, Tried as TriedDeed, Took, Ticked, Halted, Saw, declared, does}
use Rattle.live_replay.proofs.BookSteps.{TriesOwn}
use Rattle.zeus_model.specs.declared.answer.Stop.TheVariants.{Stopped as StopStopped, Done}

-- ---- causes against a write transaction name no transaction

unfoldable IsUntouched : Tried → Type 0
IsUntouched (Committed id number reply) = ⊥
IsUntouched (Read id reply) = ⊥
IsUntouched (NoCopy id x) = ⊥
IsUntouched _ = Unit {0}

unfoldable AreUntouched : Option Tried → Type 0
AreUntouched None = Unit {0}
AreUntouched (Some t) = IsUntouched t

untouched-or_else : (a b : Option Tried) → AreUntouched a → AreUntouched b → AreUntouched (or_else a b)
unfolding or_else
untouched-or_else None b h g = g
untouched-or_else (Some t) b h g = h

untouched-where_true : (test : Bool) (t : Tried) → IsUntouched t → AreUntouched (where_true test t)
unfolding where_true AreUntouched
untouched-where_true true t h = h
untouched-where_true false t h = tt

untouched-first_of : (f : ℕ → Option Tried) (xs : List ℕ) → ((x : ℕ) → AreUntouched (f x)) → AreUntouched (first_of f xs)
unfolding first_of AreUntouched
untouched-first_of f [] h = tt
untouched-first_of f (x ∷ xs) h = untouched-or_else (f x) (first_of f xs) (h x) (untouched-first_of f xs h)

untouched-held : (o : Option ℕ) (s x : ℕ) → AreUntouched (held_elsewhere s x o)
unfolding held_elsewhere AreUntouched IsUntouched
untouched-held None s x = tt
untouched-held (Some other) s x = untouched-where_true (not (other == s)) (Held x other) tt

untouched-write_cause : (n : Node) (s : ℕ) (tx : List Op) → AreUntouched (write_cause n s tx)
unfolding write_cause full_cause owner_cause holder_cause worn_cause AreUntouched IsUntouched
untouched-write_cause n s tx =
    untouched-or_else _ _ (untouched-where_true _ PipeFull tt)
    (untouched-or_else _ _ (untouched-first_of _ (named tx) (λ x. untouched-where_true _ (NotOwner x) tt))
    (untouched-or_else _ _ (untouched-first_of _ (named tx) (λ x. untouched-held _ s x))
    (untouched-or_else _ _ (untouched-where_true _ WornOut tt) (untouched-first_of _ (written tx) (λ x. untouched-where_true _ WornOut tt)))))

-- ---- tries

untouched-own : (t : Tried) (txs : List TxDecl) (n : ℕ) → IsUntouched t → TriesOwn txs n t
unfolding IsUntouched TriesOwn
untouched-own (Committed id number reply) txs n h = absurd h
untouched-own (Read id reply) txs n h = absurd h
untouched-own (NoCopy id x) txs n h = absurd h
untouched-own _ txs n h = tt

own-write_row : (cause : Option Tried) (n : Node) (s : ℕ) (c : Current) (txs : List TxDecl) (me : ℕ) → AreUntouched cause → (declared txs c.id).node ≡ me → TriesOwn txs me (write_row n s c cause).answer
unfolding write_row commit commit_entry AreUntouched TriesOwn
own-write_row None n s c txs me untouched own = own
own-write_row (Some (NotOwner x)) n s c txs me untouched own = tt
own-write_row (Some other) n s c txs me untouched own = untouched-own other txs me untouched

own-read_missing : (degree : Option ℕ) (n : Node) (s : ℕ) (c : Current) (x : ℕ) (txs : List TxDecl) (me : ℕ) → (declared txs c.id).node ≡ me → TriesOwn txs me (read_missing n s c x degree).answer
unfolding read_missing TriesOwn
own-read_missing None n s c x txs me own = own
own-read_missing (Some d) n s c x txs me own = own

own-read_row : (h : Option Hindrance) (n : Node) (s : ℕ) (c : Current) (txs : List TxDecl) (me : ℕ) → (declared txs c.id).node ≡ me → TriesOwn txs me (read_row n s c h).answer
unfolding read_row TriesOwn
own-read_row (Some (Missing x)) n s c txs me own = own-read_missing n.degree n s c x txs me own
own-read_row (Some (Unready x state)) n s c txs me own = tt
own-read_row None n s c txs me own = own

if_holds : {A : Type 0} (P : A → Type 0) (b : Bool) (x y : A) → P x → P y → P (if b then x else y)
if_holds P true x y p q = p
if_holds P false x y p q = q

own-try_current : (current : Option Current) (n : Node) (s : ℕ) (txs : List TxDecl) (me : ℕ) → ((c : Current) → current ≡ Some c → (declared txs c.id).node ≡ me)
    → TriesOwn txs me (try_current n s current).answer
unfolding try_current TriesOwn
own-try_current None n s txs me own = tt
own-try_current (Some c) n s txs me own =
    if_holds (λ (d : Did Tried). TriesOwn txs me d.answer) (is_write c.tx) _ _
    (own-write_row _ n s c txs me (untouched-write_cause n s c.tx) (own c refl)) (own-read_row _ n s c txs me (own c refl))

-- the transaction that a try's answer names is the slot's current one, and so one of its node
pub own-try_slot : (n : Node) (s : ℕ) (txs : List TxDecl) (me : ℕ) → ((c : Current) → (slot n s).current ≡ Some c → (declared txs c.id).node ≡ me)
    → TriesOwn txs me (try_slot n s).answer
unfolding try_slot TriesOwn
own-try_slot n s txs me own =
    if_holds (λ (d : Did Tried). TriesOwn txs me d.answer) n.stopped (just n Stopped) _ tt (own-try_current _ n s txs me own)

-- ---- a stopped node

receive-stopped : (n : Node) (l : Letter) → n.stopped ≡ true → (receive n l).node.stopped ≡ true
unfolding receive receive_or_not rejection or_else where_true
receive-stopped n l is = rw is refl

-- if a node has stopped, then it is still stopped after whatever it does
pub does-stopped : (txs : List TxDecl) (n : Node) (deed : Deed) → n.stopped ≡ true → (does txs n deed).node.stopped ≡ true
unfolding does begin try_slot tick stop install
does-stopped txs n (Began j) is = rw is refl
does-stopped txs n (TriedDeed s) is = rw is refl
does-stopped txs n (Took sender p) is = receive-stopped n p.letter is
does-stopped txs n Ticked is = rw is refl
does-stopped txs n Halted is = rw is refl
does-stopped txs n (Saw v) is = rw is refl

-- a node that halts is stopped afterwards
pub stop-stops : (txs : List TxDecl) (n : Node) → (does txs n Halted).node.stopped ≡ true
unfolding does stop
stop-stops txs n = stops n.stopped n refl
  where
    stops : (b : Bool) (n : Node) → n.stopped ≡ b → (if b then just n StopStopped else just (record n { stopped = true }) Done).node.stopped ≡ true
    stops true n is = is
    stops false n is = refl
