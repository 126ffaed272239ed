-- What a try answers and leaves, at each node that it is a try of.
use Rattle.std.proofs.Common.{ℕ, ◌≡◌, ◌+◌, List, [], ◌∷◌, ◌++◌, Option, Some, None, length, refl, sym, ap, ◌∙◌}
use Rattle.zeus_base.specs.Nodes.{without}
use Rattle.zeus_base.specs.TableLaws.{nth-put_same}
use Rattle.zeus_packet.specs.declared.write.Write.{Write}
use Rattle.zeus_txn.specs.Ops.{named}
use Rattle.zeus_txn.specs.Run.{run}
use Rattle.zeus_txn.specs.declared.ops.Op.{Op}
use Rattle.zeus_txn.specs.declared.reply.Ran.{Ran}
use Rattle.zeus_txn.specs.declared.reply.Reply.{Reply}
use Rattle.zeus_model.specs.declared.answer.Tried.{Tried}
use Rattle.zeus_model.specs.declared.answer.Tried.TheVariants as rules
use Rattle.zeus_model.specs.declared.state.Copy.{Copy}
use Rattle.zeus_model.specs.declared.state.Current.{Current}
use Rattle.zeus_model.specs.declared.state.Entry.{Entry}
use Rattle.zeus_model.specs.declared.state.Pending.{Pending}
use Rattle.zeus_model.specs.Commit.{each_write}
use Rattle.zeus_model.specs.Local.{commit, commit_entry, new_writes, replicas_of, rewritten_copy, run_here, write_row}
use Rattle.zeus_model.specs.State.{Node, next_number, no_slot, slot, value_of}
use Rattle.zeus_model.specs.Tables.{nth}
use Rattle.object_table.specs.declared.hold.Hold.{Hold}
use Rattle.object_table.specs.Table.{Table, each_held}
use Rattle.commit_pipeline.specs.Pipes.{Waiting}
use Rattle.local_txn.specs.declared.attempt.WriteTry.{WriteTry}
use Rattle.local_txn.specs.Tries.{IsNodeOf, after_try, cause_as, entry_here, followers_here, holds_after, node_of, tried_as, writes_here}
use Rattle.local_txn.specs.TriesLaws.{told_back}
use Rattle.local_txn.proofs.Committing.{new_writes_same, replicas_same}

-- ---- the entry that the code makes

-- the writes made of the run on these copies are those that the rules make
pub writes_made : (me : ℕ) (entries : List Entry) (copies : List (Option Copy)) (tx : List Op) (ran : Ran) (writes : List Write) → ran ≡ run_here (node_of me entries copies) tx → writes ≡ new_writes (node_of 0 [] copies) ran.writes → writes ≡ writes_here (node_of me entries copies) tx
writes_made me entries copies tx ran writes e w =
    w ∙ ap (λ (r : Ran). new_writes (node_of 0 [] copies) r.writes) e
    ∙ new_writes_same (node_of 0 [] copies) (node_of me entries copies) (run_here (node_of me entries copies) tx).writes refl

-- if reply, writes and followers are those of the rules, then the entry is the one that the rules make
pub entry_made : (me : ℕ) (entries : List Entry) (copies : List (Option Copy)) (id : ℕ) (tx : List Op) (reply : Reply) (followers : List ℕ) (writes : List Write) → reply ≡ (run_here (node_of me entries copies) tx).reply → writes ≡ writes_here (node_of me entries copies) tx → followers ≡ without me (replicas_of (node_of 0 entries []) writes) → ◌≡◌ {A = Pending} record { id = id; reply = reply; named = named tx; followers = followers; writes = writes; acks = [] } (entry_here (node_of me entries copies) id tx)
entry_made me entries copies id tx reply followers writes r w f =
    let same : followers ≡ followers_here (node_of me entries copies) tx =
    f ∙ ap (without me) (replicas_same (node_of 0 entries []) (node_of me entries copies) writes refl ∙ ap (replicas_of (node_of me entries copies)) w)
    in
    λ i. record { id = id; reply = r i; named = named tx; followers = same i; writes = w i; acks = [] }

-- ---- where something stands against the transaction

after-some : (n : Node) (s : ℕ) (c : Current) (id : ℕ) (t : WriteTry) (o : Option Tried) → cause_as id (Some t) ≡ o → n ≡ after_try n s c o
unfolding cause_as after_try
after-some n s c id t o e = rw (← e) refl

holds-some : (s : ℕ) (holds : List (Option Hold)) (tx : List Op) (id : ℕ) (t : WriteTry) (o : Option Tried) → cause_as id (Some t) ≡ o → holds ≡ holds_after s holds tx o
unfolding cause_as holds_after
holds-some s holds tx id t o e = rw (← e) refl

-- ---- where nothing does

committed_answer : (n : Node) (s : ℕ) (c : Current) (id : ℕ) (o : Option Tried) → cause_as id None ≡ o → (write_row n s c o).answer ≡ rules.Committed c.id (next_number (slot n s)) (run_here n c.tx).reply
unfolding cause_as write_row commit commit_entry
committed_answer n s c id o e = rw (← e) refl

committed_copies : (n : Node) (s : ℕ) (c : Current) (id : ℕ) (o : Option Tried) → cause_as id None ≡ o → (after_try n s c o).copies ≡ each_write rewritten_copy n.copies (writes_here n c.tx)
unfolding cause_as after_try
committed_copies n s c id o e = rw (← e) refl

committed_pending : (n : Node) (s : ℕ) (c : Current) (id : ℕ) (o : Option Tried) → cause_as id None ≡ o → (slot (after_try n s c o) s).pending ≡ (slot n s).pending ++ entry_here n c.id c.tx ∷ []
unfolding cause_as after_try
committed_pending n s c id o e =
    rw (← e)
    (rw (nth-put_same no_slot n.slots s record { current = None; done = (slot n s).done; pending = (slot n s).pending ++ entry_here n c.id c.tx ∷ [] }) refl)

holds-none : (s : ℕ) (holds : List (Option Hold)) (tx : List Op) (id : ℕ) (o : Option Tried) → cause_as id None ≡ o → each_held s holds (named tx) ≡ holds_after s holds tx o
unfolding cause_as holds_after
holds-none s holds tx id o e = rw (← e) refl

-- ---- at a node

module _ (me : ℕ) (entries : List Entry) (table : Table) (s : ℕ) (waiting : Waiting) (n : Node) (is : IsNodeOf me entries table s waiting n) (id : ℕ) (tx : List Op) (o : Option Tried) where
  -- if a cause stands against the write, then the answer is that cause
  pub refused_answer : (t : WriteTry) → cause_as id (Some t) ≡ o → tried_as id t ≡ (write_row n s record { id = id; tx = tx } o).answer
  unfolding cause_as
  refused_answer t e = rw (← e) (sym (told_back n s record { id = id; tx = tx } (tried_as id t)))

  -- if a cause stands against the write, then the copies stay
  pub refused_copies : (t : WriteTry) → cause_as id (Some t) ≡ o → table.copies ≡ (after_try n s record { id = id; tx = tx } o).copies
  refused_copies t e = sym is.copies ∙ ap (λ (m : Node). m.copies) (after-some n s record { id = id; tx = tx } id t o e)

  -- if a cause stands against the write, then the pending entries stay
  pub refused_pending : (t : WriteTry) → cause_as id (Some t) ≡ o → waiting.pending ≡ (slot (after_try n s record { id = id; tx = tx } o) s).pending
  refused_pending t e = sym is.pending ∙ ap (λ (m : Node). (slot m s).pending) (after-some n s record { id = id; tx = tx } id t o e)

  -- if a cause stands against the write, then the holds stay
  pub refused_holds : (t : WriteTry) → cause_as id (Some t) ≡ o → table.holds ≡ holds_after s table.holds tx o
  refused_holds t e = holds-some s table.holds tx id t o e

  ran_same : run_here n tx ≡ run_here (node_of me entries table.copies) tx
  ran_same = ap (λ (cs : List (Option Copy)). run (λ x. value_of (nth None cs x)) tx) is.copies

  writes_same : writes_here n tx ≡ writes_here (node_of me entries table.copies) tx
  writes_same =
      new_writes_same n (node_of me entries table.copies) (run_here n tx).writes is.copies
      ∙ ap (λ (r : Ran). new_writes (node_of me entries table.copies) r.writes) ran_same

  followers_same : followers_here n tx ≡ followers_here (node_of me entries table.copies) tx
  followers_same =
      ap (λ k. without k (replicas_of n (writes_here n tx))) is.number
      ∙ ap (without me) (replicas_same n (node_of me entries table.copies) (writes_here n tx) is.known ∙ ap (replicas_of (node_of me entries table.copies)) writes_same)

  entry_same : entry_here n id tx ≡ entry_here (node_of me entries table.copies) id tx
  entry_same = λ i. record { id = id; reply = (ran_same i).reply; named = named tx; followers = followers_same i; writes = writes_same i; acks = [] }

  number_same : next_number (slot n s) ≡ waiting.done + length waiting.pending
  number_same = ap (λ d. d + length (slot n s).pending) is.done ∙ ap (λ (ps : List Pending). waiting.done + length ps) is.pending

  -- if nothing stands against the write, then the answer is the commit, with its number and its reply
  pub done_answer : (t : WriteTry) → cause_as id None ≡ o → tried_as id t ≡ rules.Committed id (waiting.done + length waiting.pending) (run_here (node_of me entries table.copies) tx).reply → tried_as id t ≡ (write_row n s record { id = id; tx = tx } o).answer
  done_answer t e is_done =
      is_done ∙ sym (committed_answer n s record { id = id; tx = tx } id o e
      ∙ ap (λ k. rules.Committed id k (run_here n tx).reply) number_same
      ∙ ap (λ (r : Ran). rules.Committed id (waiting.done + length waiting.pending) r.reply) ran_same)

  -- if nothing stands against the write, then the copies are rewritten by its writes
  pub done_copies : (copies : List (Option Copy)) → cause_as id None ≡ o → copies ≡ each_write rewritten_copy table.copies (writes_here (node_of me entries table.copies) tx) → copies ≡ (after_try n s record { id = id; tx = tx } o).copies
  done_copies copies e are =
      are ∙ sym (committed_copies n s record { id = id; tx = tx } id o e
      ∙ ap (λ (cs : List (Option Copy)). each_write rewritten_copy cs (writes_here n tx)) is.copies
      ∙ ap (each_write rewritten_copy table.copies) writes_same)

  -- if nothing stands against the write, then its entry is pending at the end
  pub done_pending : (pending : List Pending) → cause_as id None ≡ o → pending ≡ waiting.pending ++ entry_here (node_of me entries table.copies) id tx ∷ [] → pending ≡ (slot (after_try n s record { id = id; tx = tx } o) s).pending
  done_pending pending e are =
      are ∙ sym (committed_pending n s record { id = id; tx = tx } id o e
      ∙ ap (λ (ps : List Pending). ps ++ entry_here n id tx ∷ []) is.pending
      ∙ ap (λ (p : Pending). waiting.pending ++ p ∷ []) entry_same)

  -- if nothing stands against the write, then the slot holds each named object once more
  pub done_holds : (holds : List (Option Hold)) → cause_as id None ≡ o → holds ≡ each_held s table.holds (named tx) → holds ≡ holds_after s table.holds tx o
  done_holds holds e are = are ∙ holds-none s table.holds tx id o e
