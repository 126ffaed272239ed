-- A try of a slot's current transaction, from the tables that it is made on to the whole node.
use Rattle.std.proofs.Common.{All, ℕ, ◌≡◌, ◌<◌, true, false, List, Option, Some, None, length, refl, sym, ap, ◌∙◌}
use Rattle.zeus_base.specs.TableLaws.{nth-put_same, put-nth}
use Rattle.zeus_txn.specs.Ops.{is_write, named}
use Rattle.zeus_txn.specs.declared.ops.Op.{Op}
use Rattle.zeus_model.specs.declared.answer.Tried.{Tried}
use Rattle.zeus_model.specs.declared.answer.Tried.TheVariants as rules
use Rattle.zeus_model.specs.declared.state.Copy.{Copy}
use Rattle.zeus_model.specs.declared.state.Current.{Current}
use Rattle.zeus_model.specs.declared.state.Entry.{Entry}
use Rattle.zeus_model.specs.Local.{hindrance, run_here, commit, commit_entry, write_cause, write_row}
use Rattle.zeus_model.specs.State.{Node, Slot, no_slot, slot}
use Rattle.object_table.specs.declared.hold.Hold.{Hold}
use Rattle.object_table.specs.Holding.{AreHeld}
use Rattle.object_table.specs.Table.{Table}
use Rattle.commit_pipeline.specs.Pipes.{Waiting}
use Rattle.local_txn.specs.Tries.{IsNodeOf, after_try, holds_after, tried_as}
use Rattle.local_txn.specs.TriesLaws.{AreHeld-after_try, IsNodeOf-held}
use Rattle.local_txn.specs.declared.attempt.WriteTry.{WriteTry}
use Rattle.local_txn.specs.declared.attempt.WriteTry.TheVariants.{PipeFull, NotOwner, Held, WornOut, Committed}
use Rattle.replica_reads.specs.Reads.{read_told}
use Rattle.replica_reads.specs.declared.reads.ReadTry.{ReadTry}
use Rattle.std.proofs.Math.ListN.{get_or, set}
use Rattle.zeus_base.specs.declared.config.Limits.{Limits}
use Rattle.node_ranges.specs.Ranges.{FitsCurrent, FitsTx, KeepsRanges}
use Rattle.node_ranges.specs.LocalRules.{KeepsRanges-commit}
use Rattle.node_state.proofs.Slots.{slot_read, slot_written}
use Rattle.node_state.specs.declared.attempt.SlotTry.{SlotTry}
use Rattle.node_state.specs.declared.attempt.SlotTry.TheVariants.{Nothing, Read, Write}
use Rattle.node_state.specs.SlotTryLaws.{IsUncommitted, uncommitted-cause}
use Rattle.node_state.specs.SlotTries.{IsCurrentWithin, IsNodeAt, IsTried, current_after, with_tables}

-- ---- the tables after a try, as the node after it

with_tables-same : (n : Node) (s : ℕ) (copies : List (Option Copy)) (l : Slot) → s < length n.slots → n.copies ≡ copies → slot n s ≡ l → with_tables n s copies l ≡ n
with_tables-same n s copies l h e own =
    rw (← e, ← own) (ap (λ (ls : List Slot). let m : Node = record n { slots = ls } in m) (put-nth no_slot n.slots s h))

slot_is : (a b : Slot) → a.current ≡ b.current → a.done ≡ b.done → a.pending ≡ b.pending → a ≡ b
slot_is a b current done pending = λ i. record { current = current i; done = done i; pending = pending i }

-- what stands against a transaction is the answer, and the transaction stays
refused_current : (n : Node) (s : ℕ) (c : Current) (id : ℕ) (t : WriteTry) (r : Tried) → IsUncommitted (Some r) → tried_as id t ≡ (write_row n s c (Some r)).answer → current_after t (Some c) ≡ Some c
unfolding IsUncommitted tried_as write_row current_after
refused_current n s c id PipeFull r h e = refl
refused_current n s c id (NotOwner x) r h e = refl
refused_current n s c id (Held x t) r h e = refl
refused_current n s c id WornOut r h e = refl
refused_current n s c id (Committed number reply) rules.Stopped h e = cc
refused_current n s c id (Committed number reply) rules.Nothing h e = cc
refused_current n s c id (Committed number reply) (rules.NoCopy k x) h e = cc
refused_current n s c id (Committed number reply) (rules.NotValid x state) h e = cc
refused_current n s c id (Committed number reply) (rules.Read k other) h e = cc
refused_current n s c id (Committed number reply) rules.PipeFull h e = cc
refused_current n s c id (Committed number reply) (rules.NotOwner x) h e = cc
refused_current n s c id (Committed number reply) (rules.Held x t) h e = cc
refused_current n s c id (Committed number reply) rules.WornOut h e = cc
refused_current n s c id (Committed number reply) (rules.Committed k other again) h e = absurd h

committed_current : (n : Node) (s : ℕ) (c : Current) (id : ℕ) (t : WriteTry) → tried_as id t ≡ (write_row n s c None).answer → current_after t (Some c) ≡ None
unfolding tried_as write_row commit commit_entry current_after
committed_current n s c id PipeFull e = cc
committed_current n s c id (NotOwner x) e = cc
committed_current n s c id (Held x t) e = cc
committed_current n s c id WornOut e = cc
committed_current n s c id (Committed number reply) e = refl

tables_written : (n : Node) (s : ℕ) (c : Current) (id : ℕ) (t : WriteTry) (o : Option Tried) (copies : List (Option Copy)) (l : Slot) → s < length n.slots → (slot n s).current ≡ Some c → IsUncommitted o → tried_as id t ≡ (write_row n s c o).answer → copies ≡ (after_try n s c o).copies → l.current ≡ current_after t (Some c) → l.done ≡ (slot n s).done → l.pending ≡ (slot (after_try n s c o) s).pending → with_tables n s copies l ≡ after_try n s c o
unfolding after_try
tables_written n s c id t None copies l h there free told cs current done pending =
    let own = slot_is l _ (current ∙ committed_current n s c id t told) done (pending ∙ ap (λ (m : Slot). m.pending) (nth-put_same no_slot n.slots s _)) in
    rw (cs, own) refl
tables_written n s c id t (Some r) copies l h there free told cs current done pending =
    with_tables-same n s copies l h (sym cs)
    (slot_is (slot n s) l (there ∙ sym (current ∙ refused_current n s c id t r free told)) (sym done) (sym pending))

-- ---- a try of a slot's current transaction at a node

module _ (me : ℕ) (entries : List Entry) (table : Table) (s : ℕ) (l : Slot) (n : Node) (at : IsNodeAt me entries table s l n) where
  -- the tables of the node are its tables
  pub tables_same : with_tables n s table.copies l ≡ n
  tables_same = with_tables-same n s table.copies l at.there at.copies at.own

  pub tables_held : AreHeld (with_tables n s table.copies l) table.holds
  tables_held = rw tables_same at.held

  -- the slot has no current transaction
  pub nothing_tried : l.current ≡ None → IsTried n s Nothing (with_tables n s table.copies l)
  unfolding IsTried
  nothing_tried none = record { current = ap (λ (m : Slot). m.current) at.own ∙ none; stays = tables_same }

  -- a read
  pub read_tried : (id : ℕ) (tx : List Op) (t : ReadTry) → l.current ≡ Some (record { id = id; tx = tx }) → is_write tx ≡ false → t ≡ read_told (hindrance n tx) (run_here n tx).reply → IsTried n s (Read id t) (with_tables n s table.copies l)
  unfolding IsTried
  read_tried id tx t current reads told =
      record { tx = tx; current = ap (λ (m : Slot). m.current) at.own ∙ current; reads = reads; told = told; stays = tables_same }

  -- the slot's entries are those of its pipe
  pub node_of-slot : (waiting : Waiting) → waiting.done ≡ l.done → waiting.pending ≡ l.pending → IsNodeOf me entries table s waiting n
  node_of-slot waiting done pending =
      IsNodeOf-held me entries table s waiting n at.number at.known at.copies (ap (λ (m : Slot). m.done) at.own ∙ sym done)
      (ap (λ (m : Slot). m.pending) at.own ∙ sym pending) at.held

  module _ (id : ℕ) (tx : List Op) (t : WriteTry) (copies : List (Option Copy)) (k : Slot) (current : l.current ≡ Some (record { id = id; tx = tx })) (told : tried_as id t ≡ (write_row n s (record { id = id; tx = tx }) (write_cause n s tx)).answer) (cs : copies ≡ (after_try n s (record { id = id; tx = tx }) (write_cause n s tx)).copies) (left : k.current ≡ current_after t l.current) (done : k.done ≡ l.done) (pending : k.pending ≡ (slot (after_try n s (record { id = id; tx = tx }) (write_cause n s tx)) s).pending) where
    tables_after : with_tables n s copies k ≡ after_try n s (record { id = id; tx = tx }) (write_cause n s tx)
    tables_after =
        tables_written n s (record { id = id; tx = tx }) id t (write_cause n s tx) copies k at.there (ap (λ (m : Slot). m.current) at.own ∙ current)
        (uncommitted-cause n s tx) told cs (left ∙ ap (current_after t) current) (done ∙ sym (ap (λ (m : Slot). m.done) at.own)) pending

    -- a write
    pub write_tried : is_write tx ≡ true → IsTried n s (Write id t) (with_tables n s copies k)
    unfolding IsTried
    write_tried writes =
        record { tx = tx; current = ap (λ (m : Slot). m.current) at.own ∙ current; writes = writes; told = told; becomes = tables_after }

    pub write_held : (holds : List (Option Hold)) → holds ≡ holds_after s table.holds tx (write_cause n s tx) → AreHeld (with_tables n s copies k) holds
    write_held holds e = rw (tables_after, e) (AreHeld-after_try n s (record { id = id; tx = tx }) table.holds at.held)

-- a current transaction names objects that there are
pub current_named : (objects : ℕ) (c : Option Current) (d : Current) → c ≡ Some d → IsCurrentWithin objects c → All (λ x. x < objects) (named d.tx)
unfolding IsCurrentWithin
current_named objects c d e h = rw e at h

-- so does one that fits
pub fits_within : (limits : Limits) (c : Option Current) → FitsCurrent limits c → IsCurrentWithin limits.objects c
unfolding FitsCurrent IsCurrentWithin
fits_within limits None h = tt
fits_within limits (Some c) h = h.named

-- the node is one with its own tables and slot
pub is_node_at : (n : Node) (table : Table) (s : ℕ) (l : Slot) → s < length n.slots → l ≡ get_or n.slots s l → n.copies ≡ table.copies → AreHeld n table.holds → IsNodeAt n.me n.entries table s l n
is_node_at n table s l there own copies held =
    record { number = refl; known = refl; copies = copies; there = there; own = slot_read n s l there own; held = held }

-- the list of slots with one set is the table with one put
pub tables_put : (n : Node) (s : ℕ) (copies : List (Option Copy)) (l : Slot) → s < length n.slots → (let m : Node = record n { copies = copies; slots = set n.slots s l } in m) ≡ with_tables n s copies l
tables_put n s copies l h = ap (λ (ls : List Slot). let m : Node = record n { copies = copies; slots = ls } in m) (slot_written n s l h)

-- the node keeps its ranges after the try
after_try-ranges : (limits : Limits) (n : Node) (s : ℕ) (c : Current) (o : Option Tried) → s < limits.slots → write_cause n s c.tx ≡ o → FitsTx limits c.tx → KeepsRanges limits n → KeepsRanges limits (after_try n s c o)
unfolding after_try
after_try-ranges limits n s c None there e fits h = KeepsRanges-commit limits n s c there e fits h
after_try-ranges limits n s c (Some cause) there e fits h = h

current_fits : (limits : Limits) (c : Option Current) (d : Current) → c ≡ Some d → FitsCurrent limits c → FitsTx limits d.tx
unfolding FitsCurrent
current_fits limits c d e h = rw e at h

-- if a node keeps the ranges, then it keeps them after a try of a slot
pub tried_ranges : (limits : Limits) (n : Node) (s : ℕ) (t : SlotTry) (m : Node) → s < limits.slots → IsTried n s t m → KeepsRanges limits n → KeepsRanges limits m
unfolding IsTried
tried_ranges limits n s Nothing m there tried h = rw tried.stays h
tried_ranges limits n s (Read id t) m there tried h = rw tried.stays h
tried_ranges limits n s (Write id t) m there tried h =
    let c : Current = record { id = id; tx = tried.tx } in
    rw tried.becomes
    (after_try-ranges limits n s c (write_cause n s c.tx) there refl (current_fits limits (slot n s).current c tried.current (h.slots s).current) h)
