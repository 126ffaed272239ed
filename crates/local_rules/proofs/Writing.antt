-- What follows from a try to write, at the whole node.
use Rattle.std.proofs.Common.{ℕ, ◌≡◌, ◌≤◌, ◌-◌, List, [], ◌∷◌, ◌++◌, Option, Some, None, length, refl, sym, ap, ◌∙◌, arith, length-append}
use Rattle.std.specs.Prelude.{slice_get}
use Rattle.zeus_base.specs.Nodes.{meet}
use Rattle.zeus_base.specs.TableLaws.{nth-put_same}
use Rattle.zeus_packet.specs.declared.letter.Body.TheVariants.{RInv}
use Rattle.zeus_packet.specs.declared.letter.RInv.{RInv as Invalidation}
use Rattle.zeus_txn.specs.declared.reply.Reply.{Reply}
use Rattle.zeus_model.specs.declared.answer.Tried.{Tried}
use Rattle.zeus_model.specs.declared.answer.Tried.TheVariants as rules
use Rattle.zeus_model.specs.declared.state.Current.{Current}
use Rattle.zeus_model.specs.declared.state.Pending.{Pending}
use Rattle.zeus_model.specs.Act.{sends, to_each}
use Rattle.zeus_model.specs.Commit.{advance_own}
use Rattle.zeus_model.specs.Local.{invalidation, run_here, write_cause, write_row}
use Rattle.zeus_model.specs.State.{Node, Slot, next_number, no_slot, own_stream, slot}
use Rattle.local_txn.specs.Tries.{after_try, entry_here, followers_here, tried_as, writes_here}
use Rattle.local_txn.specs.TriesLaws.{write_row-committed}
use Rattle.local_txn.specs.declared.attempt.WriteTry.{WriteTry}
use Rattle.local_txn.specs.declared.attempt.WriteTry.TheVariants.{PipeFull, NotOwner, Held, WornOut, Committed}
use Rattle.node_state.specs.declared.effect.Effect.{Effect}
use Rattle.node_state.specs.Done.{Adds, IsActed, IsDone}
use Rattle.node_state.specs.EffectLaws.{adds_nothing, done_then}
use Rattle.node_state.specs.LetterLaws.{to_each-same}
use Rattle.node_state.specs.Requests.{requests_to_own}
use Rattle.node_state.specs.SlotTries.{IsWriteTried, entry_letter, newest_of}
use Rattle.node_state.specs.SlotTryLaws.{IsUncommitted, cause-committed, cause-refused}
use Rattle.local_rules.specs.Entries.{entry_letters, newest_letters}

-- ---- the entry that a commit made

at_end : (ps : List Pending) (p : Pending) → slice_get (ps ++ p ∷ []) (length ps) ≡ Some p
at_end [] p = refl
at_end (q ∷ ps) p = at_end ps p

-- the slot after the commit
slot-committed : (n : Node) (s : ℕ) (c : Current) → slot (after_try n s c None) s ≡ record { current = None; done = (slot n s).done; pending = (slot n s).pending ++ entry_here n c.id c.tx ∷ [] }
unfolding after_try
slot-committed n s c = nth-put_same no_slot n.slots s record { current = None; done = (slot n s).done; pending = (slot n s).pending ++ entry_here n c.id c.tx ∷ [] }

newest-pushed : (n : Node) (s : ℕ) (c : Current) → newest_of (own_stream n s) (record { current = None; done = (slot n s).done; pending = (slot n s).pending ++ entry_here n c.id c.tx ∷ [] }) ≡ Some (invalidation n s (followers_here n c.tx) (writes_here n c.tx))
unfolding entry_letter
newest-pushed n s c =
    let p = entry_here n c.id c.tx in
    let ps = (slot n s).pending in
    let last : length (ps ++ p ∷ []) - 1 ≡ length ps = omega (arith, length-append ps (p ∷ [])) in
    rw (last, at_end ps p) refl

letters-of : (n m : Node) (r : Invalidation) → n.me ≡ m.me → n.epoch ≡ m.epoch → n.members ≡ m.members → entry_letters m (Some r) ≡ to_each n (meet r.followers n.members) (RInv r)
unfolding entry_letters
letters-of n m r me epoch members =
    sym (to_each-same n m (meet r.followers m.members) (RInv r) me epoch) ∙ ap (λ ms. to_each n (meet r.followers ms) (RInv r)) (sym members)

own-committed : (n : Node) (s : ℕ) (c : Current) → own_stream (after_try n s c None) s ≡ own_stream n s
unfolding after_try
own-committed n s c = refl

members-committed : (n : Node) (s : ℕ) (c : Current) → (n.me ≡ (after_try n s c None).me) × (n.epoch ≡ (after_try n s c None).epoch) × (n.members ≡ (after_try n s c None).members)
unfolding after_try
members-committed n s c = (refl, refl, refl)

newest-committed : (n : Node) (s : ℕ) (c : Current) → newest_letters (after_try n s c None) s ≡ to_each n (meet (followers_here n c.tx) n.members) (RInv (invalidation n s (followers_here n c.tx) (writes_here n c.tx)))
newest-committed n s c =
    let same = members-committed n s c in
    ap (λ (o : Option Invalidation). entry_letters (after_try n s c None) o)
    (ap (λ (l : Slot). newest_of (own_stream (after_try n s c None) s) l) (slot-committed n s c) ∙ rw (own-committed n s c) (newest-pushed n s c))
    ∙ letters-of n (after_try n s c None) (invalidation n s (followers_here n c.tx) (writes_here n c.tx)) same.0 same.1 same.2

-- ---- the rows

after_refused : (n : Node) (s : ℕ) (c : Current) (o : Option Tried) (r : Tried) → o ≡ Some r → after_try n s c o ≡ n
unfolding after_try
after_refused n s c o r e = rw e refl

module _ (n m : Node) (s id : ℕ) (t : WriteTry) (h : IsWriteTried n s id t m) where
  refused : (r : Tried) → IsUncommitted (Some r) → r ≡ tried_as id t → write_cause n s h.tx ≡ Some r
  refused r free e = cause-refused n s (record { id = id; tx = h.tx }) r free (e ∙ h.told)

  stays : (r : Tried) → write_cause n s h.tx ≡ Some r → m ≡ n
  stays r e = h.becomes ∙ after_refused n s (record { id = id; tx = h.tx }) (write_cause n s h.tx) r e

  pub write-full : (out : Effect) → t ≡ PipeFull → length out.sent ≤ 64 → IsDone (write_row n s (record { id = id; tx = h.tx }) (write_cause n s h.tx)) rules.PipeFull m out out
  unfolding write_row tried_as IsUncommitted
  write-full out e room =
      let cause = refused rules.PipeFull tt (ap (tried_as id) (sym e)) in
      rw cause record { says = refl; becomes = stays rules.PipeFull cause; adds = adds_nothing out room }

  pub write-held : (x other : ℕ) (out : Effect) → t ≡ Held x other → length out.sent ≤ 64 → IsDone (write_row n s (record { id = id; tx = h.tx }) (write_cause n s h.tx)) (rules.Held x other) m out out
  unfolding write_row tried_as IsUncommitted
  write-held x other out e room =
      let cause = refused (rules.Held x other) tt (ap (tried_as id) (sym e)) in
      rw cause record { says = refl; becomes = stays (rules.Held x other) cause; adds = adds_nothing out room }

  pub write-worn : (out : Effect) → t ≡ WornOut → length out.sent ≤ 64 → IsDone (write_row n s (record { id = id; tx = h.tx }) (write_cause n s h.tx)) rules.WornOut m out out
  unfolding write_row tried_as IsUncommitted
  write-worn out e room =
      let cause = refused rules.WornOut tt (ap (tried_as id) (sym e)) in
      rw cause record { says = refl; becomes = stays rules.WornOut cause; adds = adds_nothing out room }

  pub write-asked : (x : ℕ) (a b : Effect) → t ≡ NotOwner x → Adds (requests_to_own m (slot m s).current) [] a b → IsDone (write_row n s (record { id = id; tx = h.tx }) (write_cause n s h.tx)) (rules.NotOwner x) m a b
  unfolding write_row tried_as IsUncommitted requests_to_own
  write-asked x a b e adds =
      let cause = refused (rules.NotOwner x) tt (ap (tried_as id) (sym e)) in
      rw cause record { says = refl; becomes = stays (rules.NotOwner x) cause; adds = rw (stays (rules.NotOwner x) cause, h.current) at adds }

  pub write-committed : (number : ℕ) (reply : Reply) (k : Node) (a b d : Effect) → t ≡ Committed number reply → Adds (newest_letters m s) [] a b → IsActed (advance_own m s) k b d → IsDone (write_row n s (record { id = id; tx = h.tx }) (write_cause n s h.tx)) (rules.Committed id number reply) k a d
  unfolding tried_as
  write-committed number reply k a b d e adds acted =
      let c : Current = record { id = id; tx = h.tx } in
      let told = ap (tried_as id) (sym e) ∙ h.told in
      let cause = cause-committed n s c id number reply told in
      let becomes = rw cause at h.becomes in
      let first = done_then (sends (after_try n s c None) (rules.Committed c.id (next_number (slot n s)) (run_here n c.tx).reply) (to_each n (meet (followers_here n c.tx) n.members) (RInv (invalidation n s (followers_here n c.tx) (writes_here n c.tx))))) (λ l. advance_own l s) (rules.Committed id number reply) m k a b d
      record {
        says = rw (cause, write_row-committed n s c) at told;
        becomes = becomes;
        adds = rw (becomes, newest-committed n s c) at adds;
      } acted
      in
      rw (cause, write_row-committed n s c) first
