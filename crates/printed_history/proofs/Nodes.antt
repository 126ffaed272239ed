-- Nodes whose texts stay within a line, and the changes that keep them so.
use Rattle.std.proofs.Common.{ℕ, zero, suc, ◌+◌, ◌-◌, List, [], ◌∷◌, ◌++◌, take, drop, map, Option, Some, None, arith}
use Rattle.std.specs.Prelude.{◌==◌, nat_lt, All}
use Rattle.std.proofs.lemmas.Bool.{cond_both}
use Rattle.std.proofs.lemmas.List.Elements.{All-nil, All-cons, All-head, All-tail, All-append, All-push, All-take, All-drop, All-map}
use Rattle.zeus_base.specs.Order.{is_below, same_stamp}
use Rattle.zeus_base.specs.declared.order.Stamp.{Stamp}
use Rattle.zeus_base.specs.declared.order.Stream.{Stream}
use Rattle.zeus_base.specs.declared.value.Value.{Value}
use Rattle.zeus_packet.specs.declared.letter.RInv.{RInv as Invalidation}
use Rattle.zeus_packet.specs.declared.place.Place.{Place}
use Rattle.zeus_packet.specs.declared.place.Proposal.{Proposal}
use Rattle.zeus_packet.specs.declared.place.Want.{Want}
use Rattle.zeus_packet.specs.declared.place.Want.TheVariants.{Own, Read, Leave}
use Rattle.zeus_packet.specs.declared.write.Content.{Content}
use Rattle.zeus_packet.specs.declared.write.Write.{Write}
use Rattle.zeus_model.specs.declared.state.Copy.{Copy}
use Rattle.zeus_model.specs.declared.state.Current.{Current}
use Rattle.zeus_model.specs.declared.state.Gather.{Gather}
use Rattle.zeus_model.specs.declared.state.Kept.{Kept}
use Rattle.zeus_model.specs.declared.state.Pending.{Pending}
use Rattle.zeus_model.specs.Commit.{validated, applied, each_write, writes_of, as_kept, after_passing, pass_own, pass_kept, raise, store, no_pending, no_kept}
use Rattle.zeus_model.specs.Local.{rewritten_copy, new_writes}
use Rattle.zeus_model.specs.Membership.{dropped}
use Rattle.zeus_model.specs.Ownership.{content_of, own_content, is_source, settle, settled_entry, gather_above, brought, bring, gather_for, noted}
use Rattle.zeus_model.specs.State.{Node, Slot, StreamLog, copy, entry, gather, slot, log, no_slot, no_log, with_copies, with_copy, with_entry, with_gather, with_log, with_slot, value_of}
use Rattle.zeus_model.specs.Tables.{nth, put, or_else, where_true}
use Rattle.printed_history.proofs.Values.{IsOneLine, OneLinePair, OneLineOp, one_line-num, nth-put}

-- ---- what is of one line

abbrev pub OneLineWrite : Write → Type 0
OneLineWrite w = IsOneLine w.value

abbrev pub OneLineWrites : List Write → Type 0
OneLineWrites ws = All OneLineWrite ws

unfoldable pub OneLineCopy : Option Copy → Type 0
OneLineCopy None = Unit {0}
OneLineCopy (Some c) = IsOneLine c.value

unfoldable pub OneLineContent : Option Content → Type 0
OneLineContent None = Unit {0}
OneLineContent (Some c) = IsOneLine c.value

unfoldable pub OneLineGather : Option Gather → Type 0
OneLineGather None = Unit {0}
OneLineGather (Some g) = OneLineContent g.content

unfoldable pub OneLineCurrent : Option Current → Type 0
OneLineCurrent None = Unit {0}
OneLineCurrent (Some c) = All OneLineOp c.tx

abbrev pub OneLineKept : Kept → Type 0
OneLineKept k = OneLineWrites k.writes

abbrev pub OneLinePending : Pending → Type 0
OneLinePending p = OneLineWrites p.writes

pub record OneLineSlot (l : Slot) : Type 0 where
  pub current : OneLineCurrent l.current
  pub pending : All OneLinePending l.pending

pub record OneLineLog (l : StreamLog) : Type 0 where
  pub kept : All OneLineKept l.kept

abbrev pub OneLineCopies : List (Option Copy) → Type 0
OneLineCopies cs = (x : ℕ) → OneLineCopy (nth None cs x)

pub record OneLineNode (n : Node) : Type 0 where
  pub copies : OneLineCopies n.copies
  pub gathers : (x : ℕ) → OneLineGather (gather n x)
  pub slots : (s : ℕ) → OneLineSlot (slot n s)
  pub logs : (m s : ℕ) → OneLineLog (nth no_log (nth [] n.logs m) s)

-- ---- parts of a node

-- if a node's texts and those of new copies stay within a line, then so do those of the node with these copies
pub with_copies-one_line : (n : Node) (cs : List (Option Copy)) → OneLineCopies cs → OneLineNode n → OneLineNode (with_copies n cs)
with_copies-one_line n cs h k = record { copies = h; gathers = k.gathers; slots = k.slots; logs = k.logs }

-- if a node's texts and that of a new copy stay within a line, then so do those of the node with this copy
pub with_copy-one_line : (n : Node) (x : ℕ) (c : Option Copy) → OneLineCopy c → OneLineNode n → OneLineNode (with_copy n x c)
with_copy-one_line n x c h k = record { copies = nth-put OneLineCopy None n.copies x c h k.copies; gathers = k.gathers; slots = k.slots; logs = k.logs }

-- if a node's texts and that of a new gather stay within a line, then so do those of the node with this gather
pub with_gather-one_line : (n : Node) (x : ℕ) (g : Option Gather) → OneLineGather g → OneLineNode n → OneLineNode (with_gather n x g)
with_gather-one_line n x g h k = record { copies = k.copies; gathers = nth-put OneLineGather None n.gathers x g h k.gathers; slots = k.slots; logs = k.logs }

-- if a node's texts and those of a new slot stay within a line, then so do those of the node with this slot
pub with_slot-one_line : (n : Node) (s : ℕ) (l : Slot) → OneLineSlot l → OneLineNode n → OneLineNode (with_slot n s l)
with_slot-one_line n s l h k = record { copies = k.copies; gathers = k.gathers; slots = nth-put OneLineSlot no_slot n.slots s l h k.slots; logs = k.logs }

-- if a node's texts and those of a new stored stream stay within a line, then so do those of the node with this stream
pub with_log-one_line : (n : Node) (t : Stream) (l : StreamLog) → OneLineLog l → OneLineNode n → OneLineNode (with_log n t l)
with_log-one_line n t l h k = record {
  copies = k.copies;
  gathers = k.gathers;
  slots = k.slots;
  logs = nth-put (λ (row : List StreamLog). (s : ℕ) → OneLineLog (nth no_log row s)) [] n.logs t.node (put no_log (nth [] n.logs t.node) t.slot l)
      (nth-put OneLineLog no_log (nth [] n.logs t.node) t.slot l h (k.logs t.node)) k.logs;
}

-- ---- writes of copies

abbrev pub KeepsOneLine : (Write → Option Copy → Option Copy) → Type 0
KeepsOneLine f = (w : Write) (c : Option Copy) → OneLineWrite w → OneLineCopy c → OneLineCopy (f w c)

-- validating a copy keeps its text within a line
pub validated-one_line : KeepsOneLine validated
unfolding validated OneLineCopy
validated-one_line w None h g = g
validated-one_line w (Some c) h g = cond_both (c.ver == w.ver) (Some _) (Some c) OneLineCopy (λ _. g) (λ _. g)

-- applying a write whose text stays within a line keeps the copy's text so
pub applied-one_line : KeepsOneLine applied
unfolding applied OneLineCopy
applied-one_line w None h g = g
applied-one_line w (Some c) h g = cond_both (nat_lt c.ver w.ver) (Some _) (Some c) OneLineCopy (λ _. h) (λ _. g)

-- rewriting a copy by a write whose text stays within a line keeps the copy's text so
pub rewritten_copy-one_line : KeepsOneLine rewritten_copy
unfolding rewritten_copy OneLineCopy
rewritten_copy-one_line w None h g = g
rewritten_copy-one_line w (Some c) h g = h

-- if a change by a write keeps texts within a line, then so do the changes by all writes of a list
pub each_write-one_line : (f : Write → Option Copy → Option Copy) (cs : List (Option Copy)) (ws : List Write) → KeepsOneLine f → OneLineWrites ws → OneLineCopies cs → OneLineCopies (each_write f cs ws)
unfolding each_write
each_write-one_line f cs [] keeps h k = k
each_write-one_line f cs (w ∷ ws) keeps h k =
    let after = f w (nth None cs w.obj) in
    each_write-one_line f (put None cs w.obj after) ws keeps (All-tail OneLineWrite w ws h)
    (nth-put OneLineCopy None cs w.obj after (keeps w (nth None cs w.obj) (All-head OneLineWrite w ws h) (k w.obj)) k)

writes_of-one_line : (ks : List Kept) → All OneLineKept ks → OneLineWrites (writes_of ks)
unfolding writes_of
writes_of-one_line [] h = All-nil OneLineWrite
writes_of-one_line (k ∷ ks) h = All-append OneLineWrite k.writes (writes_of ks) (All-head OneLineKept k ks h) (writes_of-one_line ks (All-tail OneLineKept k ks h))

after_passing-one_line : (n : Node) (ks : List Kept) → All OneLineKept ks → OneLineNode n → OneLineNode (after_passing n ks)
after_passing-one_line n ks h k = with_copies-one_line n (each_write validated n.copies (writes_of ks)) (each_write-one_line validated n.copies (writes_of ks) validated-one_line (writes_of-one_line ks h) k.copies) k

-- ---- entries pass, or are stored

-- if a node's texts stay within a line, then they do after an entry of its own stream passes
pub pass_own-one_line : (n : Node) (s k : ℕ) → OneLineNode n → OneLineNode (pass_own n s k)
pass_own-one_line n s k h =
    let l = h.slots s in
    let ks = take k (map as_kept (slot n s).pending) in
    with_slot-one_line (after_passing n ks) s record { current = (slot n s).current; done = (slot n s).done + k; pending = drop k (slot n s).pending }
    (record { current = l.current; pending = All-drop OneLinePending k (slot n s).pending l.pending })
    (after_passing-one_line n ks (All-take OneLineKept k (map as_kept (slot n s).pending) (All-map OneLineKept as_kept (slot n s).pending l.pending)) h)

-- if a node's texts stay within a line, then they do after an entry of another node's stream passes
pub pass_kept-one_line : (n : Node) (t : Stream) (k : ℕ) → OneLineNode n → OneLineNode (pass_kept n t k)
pass_kept-one_line n t k h =
    let l = h.logs t.node t.slot in
    let ks = take k (log n t).kept in
    with_log-one_line (after_passing n ks) t record { done = (log n t).done + k; kept = drop k (log n t).kept }
    (record { kept = All-drop OneLineKept k (log n t).kept l.kept })
    (after_passing-one_line n ks (All-take OneLineKept k (log n t).kept l.kept) h)

-- if a node's texts stay within a line, then they do after it learns how many entries have passed
pub raise-one_line : (n : Node) (t : Stream) (d : ℕ) → OneLineNode n → OneLineNode (raise n t d)
unfolding raise
raise-one_line n t d h =
    let l = h.logs t.node t.slot in
    let below = d - (log n t).done in
    let ks = take below (log n t).kept in
    let after : StreamLog = record { done = d; kept = drop below (log n t).kept } in
    cond_both (nat_lt (log n t).done d) (with_log (after_passing n ks) t after) n OneLineNode
    (λ _. with_log-one_line (after_passing n ks) t after (record { kept = All-drop OneLineKept below (log n t).kept l.kept })
    (after_passing-one_line n ks (All-take OneLineKept below (log n t).kept l.kept) h))
    (λ _. h)

-- if a node's texts and the writes of an entry stay within a line, then so do they after the entry is stored
pub store-one_line : (n : Node) (r : Invalidation) → OneLineWrites r.writes → OneLineNode n → OneLineNode (store n r)
store-one_line n r h k =
    let l = k.logs r.stream.node r.stream.slot in
    let e : Kept = record { followers = r.followers; writes = r.writes; acks = [] } in
    with_log-one_line (with_copies n (each_write applied n.copies r.writes)) r.stream record { done = (log n r.stream).done; kept = (log n r.stream).kept ++ e ∷ [] }
    (record { kept = All-push OneLineKept (log n r.stream).kept e l.kept h })
    (with_copies-one_line n (each_write applied n.copies r.writes) (each_write-one_line applied n.copies r.writes applied-one_line h k.copies) k)

-- what stands at a place of a list, or the default
pub nth-one_line : {A : Type 0} (P : A → Type 0) (d : A) (xs : List A) (i : ℕ) → P d → All P xs → P (nth d xs i)
unfolding nth
nth-one_line P d [] i none h = none
nth-one_line P d (x ∷ xs) zero none h = All-head P x xs h
nth-one_line P d (x ∷ xs) (suc i) none h = nth-one_line P d xs i none (All-tail P x xs h)

-- another element at a place of a list, which the default fills up
pub put-one_line : {A : Type 0} (P : A → Type 0) (d : A) (xs : List A) (i : ℕ) (v : A) → P d → P v → All P xs → All P (put d xs i v)
unfolding put
put-one_line P d [] zero v none here h = All-cons P v [] here h
put-one_line P d [] (suc i) v none here h = All-cons P d (put d [] i v) none (put-one_line P d [] i v none here h)
put-one_line P d (x ∷ xs) zero v none here h = All-cons P v xs here (All-tail P x xs h)
put-one_line P d (x ∷ xs) (suc i) v none here h = All-cons P x (put d xs i v) (All-head P x xs h) (put-one_line P d xs i v none here (All-tail P x xs h))

-- the texts of no pending entry stay within a line
pub no_pending-one_line : OneLinePending no_pending
no_pending-one_line = All-nil OneLineWrite

-- the texts of no stored entry stay within a line
pub no_kept-one_line : OneLineKept no_kept
no_kept-one_line = All-nil OneLineWrite

-- ---- ownership

gather_above-one_line : (stamp : Stamp) (g : Option Gather) → OneLineGather g → OneLineGather (gather_above stamp g)
unfolding OneLineGather gather_above where_true
gather_above-one_line stamp None h = tt
gather_above-one_line stamp (Some g) h = cond_both (is_below stamp g.proposal.stamp) (Some g) None OneLineGather (λ _. h) (λ _. tt)

-- if a node's texts stay within a line, then they do after it settles an object
pub settle-one_line : (n : Node) (x : ℕ) (stamp : Stamp) (place : Place) → OneLineNode n → OneLineNode (settle n x stamp place)
unfolding settle
settle-one_line n x stamp place k =
    let e = settled_entry (entry n x) stamp place in
    let g = gather_above stamp (gather n x) in
    cond_both (is_below (entry n x).stamp stamp) (with_gather (with_entry n x e) x g) n OneLineNode
    (λ _. with_gather-one_line (with_entry n x e) x g (gather_above-one_line stamp (gather n x) (k.gathers x)) (record { copies = k.copies; gathers = k.gathers; slots = k.slots; logs = k.logs }))
    (λ _. k)

brought-one_line : (want : Want) (c : Content) → IsOneLine c.value → OneLineCopy (brought want c)
unfolding brought OneLineCopy
brought-one_line Own c h = h
brought-one_line Read c h = h
brought-one_line Leave c h = tt

-- if a node's texts and a content stay within a line, then so do they after it brings in the content
pub bring-one_line : (n : Node) (x : ℕ) (p : Proposal) (c : Content) → IsOneLine c.value → OneLineNode n → OneLineNode (bring n x p c)
unfolding bring
bring-one_line n x p c h k =
    cond_both (p.requester == n.me) (with_copy n x (brought p.want c)) n OneLineNode (λ _. with_copy-one_line n x (brought p.want c) (brought-one_line p.want c h) k) (λ _. k)

gather_for-one_line : (p : Proposal) (g : Option Gather) → OneLineGather g → OneLineContent (gather_for p g).content
unfolding gather_for OneLineGather OneLineContent
gather_for-one_line p None h = tt
gather_for-one_line p (Some g) h =
    cond_both (same_stamp g.proposal.stamp p.stamp) g record { proposal = p; acks = []; content = None } (λ (o : Gather). OneLineContent o.content) (λ _. h) (λ _. tt)

or_else-one_line : (a b : Option Content) → OneLineContent a → OneLineContent b → OneLineContent (or_else a b)
unfolding or_else OneLineContent
or_else-one_line None b h g = g
or_else-one_line (Some a) b h g = h

-- an acknowledgement is noted
pub noted-one_line : (p : Proposal) (g : Option Gather) (from : ℕ) (c : Option Content) → OneLineGather g → OneLineContent c → OneLineGather (Some (noted (gather_for p g) from c))
unfolding OneLineGather
noted-one_line p g from c h k = or_else-one_line (gather_for p g).content c (gather_for-one_line p g h) k

content_of-one_line : (c : Option Copy) → OneLineCopy c → OneLineContent (content_of c)
unfolding content_of OneLineCopy OneLineContent
content_of-one_line None h = tt
content_of-one_line (Some c) h = h

-- if a node's texts stay within a line, then so does the content that it sends
pub own_content-one_line : (n : Node) (x : ℕ) (place : Place) → OneLineNode n → OneLineContent (own_content n x place)
unfolding own_content OneLineContent
own_content-one_line n x place k =
    cond_both (is_source n place) (content_of (copy n x)) None OneLineContent (λ _. content_of-one_line (copy n x) (k.copies x)) (λ _. tt)

-- the texts of gathers that were dropped stay within a line
pub dropped-one_line : (gs : List (Option Gather)) (x : ℕ) → OneLineGather (nth None (dropped gs) x)
unfolding dropped nth OneLineGather
dropped-one_line [] x = tt
dropped-one_line (g ∷ gs) zero = tt
dropped-one_line (g ∷ gs) (suc x) = dropped-one_line gs x

-- ---- commits

-- if a copy's text stays within a line, then so does its value
pub value_of-one_line : (c : Option Copy) → OneLineCopy c → IsOneLine (value_of c)
unfolding value_of OneLineCopy
value_of-one_line None h = one_line-num 0 (omega arith)
value_of-one_line (Some c) h = h

-- if the values written stay within a line, then so do the new writes of a node
pub new_writes-one_line : (n : Node) (ws : List (ℕ × Value)) → All OneLinePair ws → OneLineWrites (new_writes n ws)
unfolding new_writes
new_writes-one_line n [] h = All-nil OneLineWrite
new_writes-one_line n (w ∷ ws) h = All-cons OneLineWrite _ (new_writes n ws) (All-head OneLinePair w ws h) (new_writes-one_line n ws (All-tail OneLinePair w ws h))
