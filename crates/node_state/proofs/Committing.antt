-- What the parts of a node make of it, as the definitions of commit say it.
use Rattle.std.specs.Prelude.{if◌then◌else◌, ◌&&◌, ◌==◌, not}
use Rattle.std.proofs.Common.{ℕ, ◌≡◌, ◌<◌, ◌≤◌, ◌-◌, Bool, true, false, List, Option, length, refl, sym, ap, ◌∙◌}
use Rattle.std.proofs.Math.ListN.{get_or, set}
use Rattle.std.proofs.lemmas.Bool.{cond_both}
use Rattle.zeus_base.specs.Nodes.{has}
use Rattle.zeus_base.specs.TableLaws.{nth_read, put-set, set-nth}
use Rattle.zeus_base.specs.declared.order.Stream.{Stream}
use Rattle.zeus_packet.specs.Fits.{inv_fits, stream_fits}
use Rattle.zeus_packet.specs.declared.letter.RInv.{RInv}
use Rattle.zeus_model.specs.declared.answer.Outcome.{Outcome}
use Rattle.zeus_model.specs.declared.answer.Outcome.TheVariants.{Again, Taken}
use Rattle.zeus_model.specs.declared.state.Copy.{Copy}
use Rattle.zeus_model.specs.declared.state.Current.{Current}
use Rattle.zeus_model.specs.Act.{Did, just}
use Rattle.zeus_model.specs.Commit.{acked_pending, advance_kept, advance_own, is_within, no_pending, on_kept_rack, on_own_rack, on_rack, on_rinv, on_rval}
use Rattle.zeus_model.specs.Receive.{on_recovered}
use Rattle.zeus_model.specs.State.{Node, Slot, StreamLog, no_slot, slot, with_slot}
use Rattle.zeus_model.specs.Tables.{nth, put}
use Rattle.commit_pipeline.specs.Pipes.{Waiting, acknowledged, counts}
use Rattle.crash_replay.specs.Replay.{HasStreams, IsNodeWith as IsReplaying}
use Rattle.follower_log.specs.Streams.{IsStreamOf, outcome_of_ack}
use Rattle.reliable_commit.specs.Following.{IsFollowed, IsNodeWith}
use Rattle.reliable_commit.specs.Advancing.{IsMemberWith, IsOwnWith}
use Rattle.reliable_commit.specs.Frames.{advance_kept-frame, advance_own-frame, on_kept_rack-frame, on_rinv-frame, on_rval-frame, replicating}
use Rattle.node_ranges.specs.CommitChanges.{inv_fits-parts, stream_fits-node, stream_fits-slot}
use Rattle.node_ranges.specs.Derived.{stream-followed, stream-there}
use Rattle.node_ranges.specs.SlotChanges.{KeepsRanges-heard}
use Rattle.node_ranges.specs.Ranges.{KeepsRanges, limits_of}

-- ---- what the parts ask for

-- a stream that fits is followed
pub followed : (n : Node) (s : Stream) → stream_fits (limits_of n) s ≡ true → KeepsRanges (limits_of n) n → IsFollowed (length n.copies) n.logs s
followed n s fit k = stream-followed (limits_of n) n s k (stream_fits-node (limits_of n) s fit) (stream_fits-slot (limits_of n) s fit)

-- if a node keeps the ranges and a stream fits, then the stream is one of those that it stores
pub there : (n : Node) (s : Stream) → stream_fits (limits_of n) s ≡ true → KeepsRanges (limits_of n) n → IsStreamOf n.logs s
there n s fit k = stream-there (limits_of n) n s k (stream_fits-node (limits_of n) s fit) (stream_fits-slot (limits_of n) s fit)

-- if a node keeps the ranges and an entry fits, then the entry's stream is followed
pub followed-entry : (n : Node) (r : RInv) → inv_fits (limits_of n) r ≡ true → KeepsRanges (limits_of n) n → IsFollowed (length n.copies) n.logs r.stream
followed-entry n r fit k = let parts = inv_fits-parts (limits_of n) r fit in stream-followed (limits_of n) n r.stream k parts.node parts.slot

-- a node is the one with its copies and streams, and with its members
pub itself : (n : Node) → IsNodeWith n n.copies n.logs n.me
itself n = record { copies = refl; logs = refl; me = refl }

-- a node has its own copies, stored streams, number and members
pub itself-member : (n : Node) → IsMemberWith n n.copies n.logs n.me n.members
itself-member n = record { node = itself n; members = refl }

-- ---- what the node becomes

-- the node with these copies and streams
abbrev pub replicated : Node → List (Option Copy) → List (List StreamLog) → Node
replicated n copies logs = record n { copies = copies; logs = logs }

replicated-as : (n m : Node) (copies : List (Option Copy)) (logs : List (List StreamLog)) → copies ≡ m.copies → logs ≡ m.logs → replicating n m ≡ m → replicated n copies logs ≡ m
replicated-as n m copies logs c l frame = rw (c, l) frame

-- the copies and stored streams after an entry is taken make the node after it
pub on_rinv-node : (n : Node) (from : ℕ) (r : RInv) (copies : List (Option Copy)) (logs : List (List StreamLog)) → copies ≡ (on_rinv n from r).node.copies → logs ≡ (on_rinv n from r).node.logs → replicated n copies logs ≡ (on_rinv n from r).node
on_rinv-node n from r copies logs c l = replicated-as n (on_rinv n from r).node copies logs c l (on_rinv-frame n from r)

-- the copies and stored streams after a letter of passed entries make the node after it
pub on_rval-node : (n : Node) (s : Stream) (d : ℕ) (copies : List (Option Copy)) (logs : List (List StreamLog)) → copies ≡ (on_rval n s d).node.copies → logs ≡ (on_rval n s d).node.logs → replicated n copies logs ≡ (on_rval n s d).node
on_rval-node n s d copies logs c l = replicated-as n (on_rval n s d).node copies logs c l (on_rval-frame n s d)

-- the copies and stored streams after the stored stream of another node advances make the node after it
pub advance_kept-node : (n : Node) (s : Stream) (copies : List (Option Copy)) (logs : List (List StreamLog)) → copies ≡ (advance_kept n s).node.copies → logs ≡ (advance_kept n s).node.logs → replicated n copies logs ≡ (advance_kept n s).node
advance_kept-node n s copies logs c l = replicated-as n (advance_kept n s).node copies logs c l (advance_kept-frame n s)

-- what has become another with its slots has the slots of that
pub slots-of : (k m : Node) → k ≡ m → m.slots ≡ k.slots
slots-of k m e = sym (ap (λ (l : Node). l.slots) e)

-- ---- own slots

-- the slot that was read
pub slot_here : (n : Node) (s i : ℕ) (l m : Slot) → s < length n.slots → i ≡ s → l ≡ get_or n.slots i l → m ≡ l → slot n s ≡ m
slot_here n s i l m within same read is = nth_read no_slot n.slots s l within (rw same at read) ∙ sym is

-- ---- acknowledgements

-- an acknowledgement of an entry of the node's own stream goes to its slot
pub on_rack-own : (n : Node) (from : ℕ) (s : Stream) (number : ℕ) → (s.node == n.me) ≡ true → on_rack n from s number ≡ on_own_rack n from s.slot number
unfolding on_rack
on_rack-own n from s number e = rw e refl

-- an acknowledgement of an entry of another node's stream goes to the stored stream
pub on_rack-kept : (n : Node) (from : ℕ) (s : Stream) (number : ℕ) → (s.node == n.me) ≡ false → on_rack n from s number ≡ on_kept_rack n from s number
unfolding on_rack
on_rack-kept n from s number e = rw e refl

-- an acknowledgement of a foreign stream
pub kept_rack-node : (n : Node) (from : ℕ) (s : Stream) (number : ℕ) (logs : List (List StreamLog)) → (s.node == n.me) ≡ false → logs ≡ (on_kept_rack n from s number).node.logs → record n { logs = logs } ≡ (on_rack n from s number).node
kept_rack-node n from s number logs other e = rw (on_rack-kept n from s number other, e) (on_kept_rack-frame n from s number)

-- an acknowledgement of an own stream, by what its slot is
module _ (n : Node) (from s number : ℕ) (l : Slot) (here : slot n s ≡ l) where
  own_rack-at : on_own_rack n from s number ≡ (if is_within number l.done (length l.pending) && not (has from (nth no_pending l.pending (number - l.done)).acks)
      then just (with_slot n s record { current = l.current; done = l.done; pending = put no_pending l.pending (number - l.done) (acked_pending (nth no_pending l.pending (number - l.done)) from) }) Taken
      else just n Again)
  unfolding on_own_rack
  own_rack-at = rw here refl

module _ (n : Node) (from s number : ℕ) (current : Option Current) (w v : Waiting) (within : s < length n.slots) (here : slot n s ≡ record { current = current; done = w.done; pending = w.pending }) (is : v ≡ (if counts w number from then acknowledged w number from else w)) where
  own_rack-by : (b : Bool) → counts w number from ≡ b → record n { slots = set n.slots s record { current = current; done = v.done; pending = v.pending } } ≡ (on_own_rack n from s number).node
  unfolding counts
  own_rack-by true b = rw (own_rack-at n from s number _ here, is, b) (ap (λ (ls : List Slot). record n { slots = ls }) (sym (put-set no_slot n.slots s _ within)))
  own_rack-by false b = rw (own_rack-at n from s number _ here, is, b) (ap (λ (ls : List Slot). record n { slots = ls }) (ap (set n.slots s) (sym here) ∙ set-nth no_slot n.slots s within))

  pub own_rack-node : (i : ℕ) → i ≡ s → record n { slots = set n.slots i record { current = current; done = v.done; pending = v.pending } } ≡ (on_own_rack n from s number).node
  own_rack-node i e = rw e (own_rack-by (counts w number from) refl)

-- an acknowledgement of an entry of the node's own stream is answered by whether it counts
pub own_rack-answer : (n : Node) (from s number : ℕ) (current : Option Current) (w : Waiting) (counted : Bool) → slot n s ≡ record { current = current; done = w.done; pending = w.pending } → counted ≡ counts w number from → outcome_of_ack counted ≡ (on_own_rack n from s number).answer
unfolding counts
own_rack-answer n from s number current w counted here is =
    rw (own_rack-at n from s number _ here, is)
    (cond_both (is_within number w.done (length w.pending) && not (has from (nth no_pending w.pending (number - w.done)).acks)) _ _
    (λ (d : Did Outcome). outcome_of_ack (counts w number from) ≡ d.answer) (λ e. rw e refl) (λ e. rw e refl))

-- ---- an own stream that advances

-- a slot's own stream is what the slot has pending and passed
pub own_with : (n : Node) (s : ℕ) (current : Option Current) (w : Waiting) → slot n s ≡ record { current = current; done = w.done; pending = w.pending } → IsOwnWith n s n.copies w n.me n.members
own_with n s current w here =
    record {
      copies = refl;
      done = ap (λ (l : Slot). l.done) here;
      pending = ap (λ (l : Slot). l.pending) here;
      me = refl;
      members = refl;
    }

-- the copies and the slot after an own stream advances make the node after it
pub advance_own-node : (n : Node) (s i : ℕ) (l : Slot) (w : Waiting) (copies : List (Option Copy)) → s < length n.slots → i ≡ s → slot n s ≡ l → copies ≡ (advance_own n s).node.copies → w.done ≡ (slot (advance_own n s).node s).done → w.pending ≡ (slot (advance_own n s).node s).pending → record n { copies = copies; slots = set n.slots i record { current = l.current; done = w.done; pending = w.pending } } ≡ (advance_own n s).node
advance_own-node n s i l w copies within same here c d p =
    rw (same, c, d, p, ← here, ← put-set no_slot n.slots s record { current = (slot n s).current; done = (slot (advance_own n s).node s).done; pending = (slot (advance_own n s).node s).pending } within)
    (advance_own-frame n s within)

-- ---- who has reported

-- the reports known after one is taken make the node after it
pub on_recovered-node : (n : Node) (from : ℕ) (reported : List ℕ) → reported ≡ (on_recovered n from).node.reported → record n { reported = reported } ≡ (on_recovered n from).node
unfolding on_recovered
on_recovered-node n from reported e =
    rw e (cond_both (has from n.reported) _ _ (λ (d : Did Outcome). record n { reported = d.node.reported } ≡ d.node) (λ _. refl) (λ _. refl))

-- if a node keeps the ranges and a report is from one of the nodes, then it keeps them after the report
pub on_recovered-keeps : (n : Node) (from : ℕ) → from < length n.logs → KeepsRanges (limits_of n) n → KeepsRanges (limits_of n) (on_recovered n from).node
unfolding on_recovered
on_recovered-keeps n from less k =
    cond_both (has from n.reported) _ _ (λ (d : Did Outcome). KeepsRanges (limits_of n) d.node) (λ _. k) (λ _. KeepsRanges-heard (limits_of n) n from less k)

-- ---- streams to be replayed

-- the streams that a node has
pub has_streams : (n : Node) (nodes slots : ℕ) → nodes ≡ length n.logs → slots ≡ length n.slots → KeepsRanges (limits_of n) n → HasStreams nodes slots n.logs
has_streams n nodes slots a b k =
    record { by_node = sym a; by_slot = λ i h. k.sizes.streams i (rw a at h) ∙ sym b }

-- if a node keeps the ranges, then there are at most 8 nodes
pub few_nodes : (n : Node) (nodes : ℕ) → nodes ≡ length n.logs → KeepsRanges (limits_of n) n → nodes ≤ 8
few_nodes n nodes a k = rw a k.sizes.most.nodes

-- if a node keeps the ranges, then it has at most 8 slots
pub few_slots : (n : Node) (slots : ℕ) → slots ≡ length n.slots → KeepsRanges (limits_of n) n → slots ≤ 8
few_slots n slots a k = rw a k.sizes.most.slots

-- a node replays by its own stored streams, members and slots
pub replaying : (n : Node) (slots : ℕ) → slots ≡ length n.slots → IsReplaying n n.logs n.members slots
replaying n slots a = record { logs = refl; members = refl; slots = sym a }

-- a node that keeps the ranges of another's tables has tables of the same sizes
pub limits_of-kept : (n m : Node) → KeepsRanges (limits_of n) m → limits_of m ≡ limits_of n
limits_of-kept n m k = rw (k.sizes.nodes, k.sizes.slots, k.sizes.entries) refl
