-- More changes of a node's slots and streams that keep its ranges: acknowledgements, current transactions and commits; and reports.
use Rattle.std.specs.Prelude.{ℕ, ◌≢◌, ◌<◌, List, [], ◌∷◌, ◌++◌, length, All, Option, None}
use Rattle.std.proofs.Common.{arith, length-append}
use Rattle.std.proofs.lemmas.List.Elements.{All-push, All-set, All-get_or}
use Rattle.zeus_base.specs.Nodes.{with_node}
use Rattle.zeus_base.specs.TableLaws.{length-put, nth_here, put-set}
use Rattle.zeus_base.specs.declared.config.Limits.{Limits}
use Rattle.zeus_base.specs.declared.order.Stream.{Stream}
use Rattle.zeus_packet.specs.declared.write.Write.{Write}
use Rattle.zeus_txn.specs.Ops.{named}
use Rattle.zeus_txn.specs.declared.reply.Ran.{Ran}
use Rattle.zeus_model.specs.declared.state.Current.{Current}
use Rattle.zeus_model.specs.declared.state.Kept.{Kept}
use Rattle.zeus_model.specs.declared.state.Pending.{Pending}
use Rattle.zeus_model.specs.Commit.{each_write, no_pending, no_kept, acked_pending, acked_kept}
use Rattle.zeus_model.specs.Local.{with_current, rewritten_copy, committed}
use Rattle.zeus_model.specs.State.{Node, Slot, StreamLog, slot, log, next_number, with_copies, with_slot, with_log}
use Rattle.zeus_model.specs.Tables.{nth, put}
use Rattle.node_ranges.specs.CommitChanges.{KeepsRanges-each_write, LeavesFit-rewritten}
use Rattle.node_ranges.specs.NodeSets.{nodes_fit-with_node}
use Rattle.node_ranges.specs.Parts.{KeepsRanges-with_slot, KeepsRanges-with_log, KeepsRanges-reported}
use Rattle.node_ranges.specs.Ranges.{FitsKept, FitsPending, FitsCurrent, FitsSlot, FitsLog, KeepsRanges}

-- what holds of each element, and of another, holds of each after that was put in range
pub All-put : {A : Type 0} (P : A → Type 0) (d : A) (xs : List A) (i : ℕ) (v : A) → i < length xs → P v → All P xs → All P (put d xs i v)
All-put P d xs i v less h all = rw (put-set d xs i v less) (All-set P xs i v h all)

-- what holds of each element holds at a place in range
pub All-nth : {A : Type 0} (P : A → Type 0) (d : A) (xs : List A) (i : ℕ) → i < length xs → All P xs → P (nth d xs i)
All-nth P d xs i less all = rw (nth_here d xs i less) (All-get_or P xs i (nth d xs i) less all)

-- ---- acknowledgements

FitsPending-acked : (limits : Limits) (me from : ℕ) (p : Pending) → FitsPending limits me p → FitsPending limits me (acked_pending p from)
FitsPending-acked limits me from p h =
    let e = h.entry in
    record {
      entry = record { followers = e.followers; some = e.some; few = e.few; writes = e.writes; once = e.once };
      others = h.others;
      named = h.named;
    }

FitsKept-acked : (limits : Limits) (from : ℕ) (k : Kept) → FitsKept limits k → FitsKept limits (acked_kept k from)
FitsKept-acked limits from k e = record { followers = e.followers; some = e.some; few = e.few; writes = e.writes; once = e.once }

-- a slot where an entry has one acknowledgement more
abbrev pub acked_slot : Slot → ℕ → ℕ → Slot
acked_slot l i from = record { current = l.current; done = l.done; pending = put no_pending l.pending i (acked_pending (nth no_pending l.pending i) from) }

-- a stream where a stored entry has one acknowledgement more
abbrev pub acked_log : StreamLog → ℕ → ℕ → StreamLog
acked_log l i from = record { done = l.done; kept = put no_kept l.kept i (acked_kept (nth no_kept l.kept i) from) }

FitsSlot-acked : (limits : Limits) (me i from : ℕ) (l : Slot) → i < length l.pending → FitsSlot limits me l → FitsSlot limits me (acked_slot l i from)
FitsSlot-acked limits me i from l less h =
    let p = acked_pending (nth no_pending l.pending i) from in
    let size = length-put no_pending l.pending i p less in
    record {
      current = h.current;
      few = omega (arith, h.few);
      numbered = omega (arith, h.numbered);
      pending = All-put (FitsPending limits me) no_pending l.pending i p less
          (FitsPending-acked limits me from (nth no_pending l.pending i) (All-nth (FitsPending limits me) no_pending l.pending i less h.pending)) h.pending;
    }

FitsLog-acked : (limits : Limits) (i from : ℕ) (l : StreamLog) → i < length l.kept → FitsLog limits l → FitsLog limits (acked_log l i from)
FitsLog-acked limits i from l less h =
    let k = acked_kept (nth no_kept l.kept i) from in
    let size = length-put no_kept l.kept i k less in
    record {
      few = omega (arith, h.few);
      numbered = λ some. omega (arith, h.numbered);
      kept = All-put (FitsKept limits) no_kept l.kept i k less
          (FitsKept-acked limits from (nth no_kept l.kept i) (All-nth (FitsKept limits) no_kept l.kept i less h.kept)) h.kept;
    }

-- a pending entry is acknowledged
pub KeepsRanges-acked_pending : (limits : Limits) (n : Node) (s i from : ℕ) → s < limits.slots → i < length (slot n s).pending → KeepsRanges limits n → KeepsRanges limits (with_slot n s (acked_slot (slot n s) i from))
KeepsRanges-acked_pending limits n s i from within less k =
    KeepsRanges-with_slot limits n s (acked_slot (slot n s) i from) within (FitsSlot-acked limits n.me i from (slot n s) less (k.slots s)) k

-- a stored entry is acknowledged
pub KeepsRanges-acked_kept : (limits : Limits) (n : Node) (s : Stream) (i from : ℕ) → s.node < limits.nodes → s.slot < limits.slots → i < length (log n s).kept → KeepsRanges limits n → KeepsRanges limits (with_log n s (acked_log (log n s) i from))
KeepsRanges-acked_kept limits n s i from node within less k =
    KeepsRanges-with_log limits n s (acked_log (log n s) i from) node within (FitsLog-acked limits i from (log n s) less (k.logs s)) k

-- ---- transactions

-- a slot takes a transaction that fits, or none
pub KeepsRanges-with_current : (limits : Limits) (n : Node) (s : ℕ) (c : Option Current) → s < limits.slots → FitsCurrent limits c → KeepsRanges limits n → KeepsRanges limits (with_current n s c)
KeepsRanges-with_current limits n s c within fit k =
    let l = k.slots s in
    KeepsRanges-with_slot limits n s record { current = c; done = (slot n s).done; pending = (slot n s).pending } within
    (record { current = fit; few = l.few; numbered = l.numbered; pending = l.pending }) k

-- a slot has no transaction
pub KeepsRanges-no_current : (limits : Limits) (n : Node) (s : ℕ) → s < limits.slots → KeepsRanges limits n → KeepsRanges limits (with_current n s None)
unfolding FitsCurrent
KeepsRanges-no_current limits n s within k = KeepsRanges-with_current limits n s None within tt k

-- the entry that a commit makes
abbrev pub new_pending : Current → Ran → List ℕ → List Write → Pending
new_pending c ran followers writes = record { id = c.id; reply = ran.reply; named = named c.tx; followers = followers; writes = writes; acks = [] }

FitsSlot-committed : (limits : Limits) (me : ℕ) (l : Slot) (p : Pending) → length l.pending ≢ 16 → next_number l ≢ 4294967295 → FitsPending limits me p → FitsSlot limits me l → FitsSlot limits me record { current = None; done = l.done; pending = l.pending ++ p ∷ [] }
unfolding FitsCurrent
FitsSlot-committed limits me l p room left fit h =
    let size = length-append l.pending (p ∷ []) in
    record {
      current = tt;
      few = omega (arith, h.few, room);
      numbered = omega (arith, h.numbered, left);
      pending = All-push (FitsPending limits me) l.pending p h.pending fit;
    }

-- a slot commits an entry that fits, where it has room and a number for it
pub KeepsRanges-committed : (limits : Limits) (n : Node) (s : ℕ) (c : Current) (ran : Ran) (followers : List ℕ) (writes : List Write) → s < limits.slots → length (slot n s).pending ≢ 16 → next_number (slot n s) ≢ 4294967295 → FitsPending limits n.me (new_pending c ran followers writes) → KeepsRanges limits n → KeepsRanges limits (committed n s c ran followers writes)
KeepsRanges-committed limits n s c ran followers writes within room left fit k =
    let p = new_pending c ran followers writes in
    KeepsRanges-with_slot limits (with_copies n (each_write rewritten_copy n.copies writes)) s
    record { current = None; done = (slot n s).done; pending = (slot n s).pending ++ p ∷ [] } within
    (FitsSlot-committed limits n.me (slot n s) p room left fit (k.slots s))
    (KeepsRanges-each_write limits rewritten_copy n writes (LeavesFit-rewritten limits) fit.entry.writes k)

-- ---- reports

-- a node has heard that a node has reported
pub KeepsRanges-heard : (limits : Limits) (n : Node) (from : ℕ) → from < limits.nodes → KeepsRanges limits n → KeepsRanges limits (record n { reported = with_node from n.reported })
KeepsRanges-heard limits n from less k = KeepsRanges-reported limits n (with_node from n.reported) (nodes_fit-with_node limits from n.reported less k.nodes.reported) k
