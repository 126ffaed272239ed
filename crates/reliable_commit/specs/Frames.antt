-- What the rules of commit leave as it is at a node: all but its copies and its streams.
use Rattle.std.specs.Prelude.{ℕ, zero, suc, ◌≡◌, ◌<◌, ◌-◌, ◌==◌, ◌&&◌, not, nat_lt, List, length, map, refl}
use Rattle.std.proofs.Common.{sym, ap, ◌∙◌}
use Rattle.std.proofs.lemmas.Bool.{cond_both}
use Rattle.zeus_base.specs.Nodes.{has}
use Rattle.zeus_base.specs.TableLaws.{nth-put_same, put-nth}
use Rattle.zeus_base.specs.declared.order.Stream.{Stream}
use Rattle.zeus_packet.specs.declared.letter.RInv.{RInv}
use Rattle.zeus_model.specs.declared.answer.Outcome.{Outcome}
use Rattle.zeus_model.specs.Act.{Did}
use Rattle.zeus_model.specs.Commit.{advance_kept, advance_kept_by, advance_own, advance_own_by, as_kept, is_within, next_kept, no_kept, on_kept_rack, on_rinv, on_rval, pass_own, passing, raise, stored_rinv}
use Rattle.zeus_model.specs.State.{Node, Slot, log, no_slot, slot, with_slot}
use Rattle.zeus_model.specs.Tables.{nth, put}

-- the node with the copies and the foreign streams of another, and all else of its own
abbrev pub replicating : Node → Node → Node
replicating n m = record n { copies = m.copies; logs = m.logs }

-- the node with the copies of another and with these entries of a slot, and all else of its own
abbrev pub committing : Node → ℕ → Node → Node
committing n s m =
    with_slot (record n { copies = m.copies }) s
    record { current = (slot n s).current; done = (slot m s).done; pending = (slot m s).pending }

-- what two changes leave, both leave
through : (n m k : Node) → replicating n m ≡ m → replicating m k ≡ k → replicating n k ≡ k
through n m k e f = ap (λ (l : Node). replicating l k) e ∙ f

raise-frame : (n : Node) (s : Stream) (d : ℕ) → replicating n (raise n s d) ≡ raise n s d
unfolding raise
raise-frame n s d = cond_both (nat_lt (log n s).done d) _ n (λ (m : Node). replicating n m ≡ m) (λ _. refl) (λ _. refl)

stored_rinv-frame : (n : Node) (from : ℕ) (r : RInv) → replicating n (stored_rinv n from r).node ≡ (stored_rinv n from r).node
unfolding stored_rinv
stored_rinv-frame n from r =
    let P : Did Outcome → Type 0 = λ (d : Did Outcome). replicating n d.node ≡ d.node in
    cond_both (nat_lt r.number (next_kept (log n r.stream))) _ _ P (λ _. refl)
    (λ _. cond_both (nat_lt (next_kept (log n r.stream)) r.number) _ _ P (λ _. refl)
    (λ _. cond_both (length (log n r.stream).kept == 16) _ _ P (λ _. refl) (λ _. refl)))

-- R-INV changes copies and foreign streams alone
pub on_rinv-frame : (n : Node) (from : ℕ) (r : RInv) → replicating n (on_rinv n from r).node ≡ (on_rinv n from r).node
unfolding on_rinv
on_rinv-frame n from r =
    cond_both (r.stream.node == n.me) _ _ (λ (d : Did Outcome). replicating n d.node ≡ d.node) (λ _. refl)
    (λ _. through n (raise n r.stream r.done) _ (raise-frame n r.stream r.done) (stored_rinv-frame (raise n r.stream r.done) from r))

-- so does R-VAL
pub on_rval-frame : (n : Node) (s : Stream) (d : ℕ) → replicating n (on_rval n s d).node ≡ (on_rval n s d).node
unfolding on_rval
on_rval-frame n s d =
    let P : Did Outcome → Type 0 = λ (a : Did Outcome). replicating n a.node ≡ a.node in
    cond_both (s.node == n.me) _ _ P (λ _. refl)
    (λ _. cond_both (nat_lt (log n s).done d) _ _ P (λ _. raise-frame n s d) (λ _. refl))

advance_kept_by-frame : (n : Node) (s : Stream) (k : ℕ) → replicating n (advance_kept_by n s k).node ≡ (advance_kept_by n s k).node
unfolding advance_kept_by
advance_kept_by-frame n s zero = refl
advance_kept_by-frame n s (suc k) = refl

-- so does the advance of a foreign stream
pub advance_kept-frame : (n : Node) (s : Stream) → replicating n (advance_kept n s).node ≡ (advance_kept n s).node
unfolding advance_kept
advance_kept-frame n s = advance_kept_by-frame n s (passing n (log n s).kept)

-- an acknowledgement of a foreign stream changes the streams alone
pub on_kept_rack-frame : (n : Node) (from : ℕ) (s : Stream) (number : ℕ) → record n { logs = (on_kept_rack n from s number).node.logs } ≡ (on_kept_rack n from s number).node
unfolding on_kept_rack
on_kept_rack-frame n from s number =
    cond_both (is_within number (log n s).done (length (log n s).kept) && not (has from (nth no_kept (log n s).kept (number - (log n s).done)).acks)) _ _
    (λ (d : Did Outcome). record n { logs = d.node.logs } ≡ d.node) (λ _. refl) (λ _. refl)

-- a node without a change of a slot's entries
same_slot : (n : Node) (s : ℕ) → s < length n.slots → committing n s n ≡ n
same_slot n s h = ap (λ (ls : List Slot). record n { slots = ls }) (put-nth no_slot n.slots s h)

set_slot : (n m : Node) (s : ℕ) (l : Slot) → m.slots ≡ put no_slot n.slots s l → l.current ≡ (slot n s).current → put no_slot n.slots s record { current = (slot n s).current; done = (slot m s).done; pending = (slot m s).pending } ≡ m.slots
set_slot n m s l is same =
    let there : slot m s ≡ l = ap (λ (ls : List Slot). nth no_slot ls s) is ∙ nth-put_same no_slot n.slots s l in
    rw (there, ← same) (sym is)

advance_own_by-frame : (n : Node) (s k : ℕ) → s < length n.slots → committing n s (advance_own_by n s k).node ≡ (advance_own_by n s k).node
unfolding advance_own_by
advance_own_by-frame n s zero h = same_slot n s h
advance_own_by-frame n s (suc k) h =
    ap (λ (ls : List Slot). record (pass_own n s (suc k)) { slots = ls }) (set_slot n (pass_own n s (suc k)) s _ refl refl)

-- the advance of an own stream changes the copies and the entries of its slot alone
pub advance_own-frame : (n : Node) (s : ℕ) → s < length n.slots → committing n s (advance_own n s).node ≡ (advance_own n s).node
unfolding advance_own
advance_own-frame n s h = advance_own_by-frame n s (passing n (map as_kept (slot n s).pending)) h
