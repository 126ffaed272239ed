-- Commit and replication: entries are stored in order, acknowledged, and passed; copies are invalid until then.
use Rattle.std.specs.Prelude.{ℕ, zero, suc, ◌+◌, ◌-◌, Bool, true, ◌&&◌, not, ◌==◌, nat_lt, List, [], ◌∷◌, ◌++◌, length, take, drop, map, Option, Some, None, if◌then◌else◌}
use Rattle.zeus_base.specs.Nodes.{has, with_node, without, meet, join, is_subset}
use Rattle.zeus_base.specs.declared.order.Stream.{Stream}
use Rattle.zeus_packet.specs.declared.letter.Body.TheVariants.{RAck, RVal, Recovered}
use Rattle.zeus_packet.specs.declared.letter.Cause.TheVariants.{OwnStream, Window}
use Rattle.zeus_packet.specs.declared.letter.RInv.{RInv}
use Rattle.zeus_packet.specs.declared.letter.State.TheVariants.{Valid, Invalid}
use Rattle.zeus_packet.specs.declared.write.Write.{Write}
use Rattle.zeus_model.specs.declared.answer.Outcome.{Outcome}
use Rattle.zeus_model.specs.declared.answer.Outcome.TheVariants.{Taken, Again, Gap, Refused}
use Rattle.zeus_model.specs.declared.state.Copy.{Copy}
use Rattle.zeus_model.specs.declared.state.Kept.{Kept}
use Rattle.zeus_model.specs.declared.state.Pending.{Pending}
use Rattle.zeus_model.specs.Tables.{nth, put, below, front}
use Rattle.zeus_model.specs.State.{Node, StreamLog, slot, log, with_slot, with_log, with_copies, own_stream}
use Rattle.zeus_model.specs.Act.{Act, Did, still, just, sends, and_then, in_turn, letter, to_each}

-- a copy is valid again where its version is that of the write
unfoldable pub validated : Write → Option Copy → Option Copy
validated w None = None
validated w (Some c) = if c.ver == w.ver then Some (record c { state = Valid }) else Some c

-- a follower takes a write where its version is above that of its copy, which is then invalid
unfoldable pub applied : Write → Option Copy → Option Copy
applied w None = None
applied w (Some c) = if nat_lt c.ver w.ver then Some record { value = w.value; ver = w.ver; state = Invalid } else Some c

-- the copies after each of the writes has changed the copy of its object, in order
unfoldable pub each_write : (Write → Option Copy → Option Copy) → List (Option Copy) → List Write → List (Option Copy)
each_write f copies [] = copies
each_write f copies (w ∷ ws) = each_write f (put None copies w.obj (f w (nth None copies w.obj))) ws

-- the writes of the entries, in order
unfoldable pub writes_of : List Kept → List Write
writes_of [] = []
writes_of (k ∷ ks) = k.writes ++ writes_of ks

-- what a pending entry shares with a stored one
abbrev pub as_kept : Pending → Kept
as_kept p = record { followers = p.followers; writes = p.writes; acks = p.acks }

-- all followers of the entries
unfoldable pub followers_of : List Kept → List ℕ
followers_of [] = []
followers_of (k ∷ ks) = join k.followers (followers_of ks)

-- an entry passes at a node, in a view of these members, where every member among its followers other than the node has
-- acknowledged it
unfoldable pub passes_at : ℕ → List ℕ → Kept → Bool
passes_at me members k = is_subset (without me (meet k.followers members)) k.acks

abbrev pub passes : Node → Kept → Bool
passes n k = passes_at n.me n.members k

-- the length of the longest front of entries that pass
abbrev pub passing : Node → List Kept → ℕ
passing n ks = front (passes n) ks

-- the copies after the entries have passed
abbrev pub after_passing : Node → List Kept → Node
after_passing n ks = with_copies n (each_write validated n.copies (writes_of ks))

-- the word that all entries below done have passed goes to the members among the followers of those that did
abbrev pub told : Node → Stream → ℕ → List Kept → Act
told n s first ks =
    record {
      node = n;
      sent = to_each n (without n.me (meet (followers_of ks) n.members)) (RVal s (first + length ks));
      passed = record { stream = s; first = first; after = first + length ks } ∷ [];
    }

-- an own stream passes its longest passing front
abbrev pub pass_own : Node → ℕ → ℕ → Node
pass_own n s k =
    with_slot (after_passing n (take k (map as_kept (slot n s).pending))) s
    record { current = (slot n s).current; done = (slot n s).done + k; pending = drop k (slot n s).pending }

unfoldable pub advance_own_by : Node → ℕ → ℕ → Act
advance_own_by n s zero = still n
advance_own_by n s (suc k) =
    told (pass_own n s (suc k)) (own_stream n s) (slot n s).done (take (suc k) (map as_kept (slot n s).pending))

unfoldable pub advance_own : Node → ℕ → Act
advance_own n s = advance_own_by n s (passing n (map as_kept (slot n s).pending))

-- so does a stream whose node is no member
abbrev pub pass_kept : Node → Stream → ℕ → Node
pass_kept n s k =
    with_log (after_passing n (take k (log n s).kept)) s record { done = (log n s).done + k; kept = drop k (log n s).kept }

unfoldable pub advance_kept_by : Node → Stream → ℕ → Act
advance_kept_by n s zero = still n
advance_kept_by n s (suc k) = told (pass_kept n s (suc k)) s (log n s).done (take (suc k) (log n s).kept)

unfoldable pub advance_kept : Node → Stream → Act
advance_kept n s = advance_kept_by n s (passing n (log n s).kept)

-- stored entries below d have passed elsewhere: they are validated and dropped
unfoldable pub raise : Node → Stream → ℕ → Node
raise n s d =
    if nat_lt (log n s).done d
    then with_log (after_passing n (take (d - (log n s).done) (log n s).kept)) s record { done = d; kept = drop (d - (log n s).done) (log n s).kept }
    else n

-- the number of the next entry that the node can store
abbrev pub next_kept : StreamLog → ℕ
next_kept l = l.done + length l.kept

-- the entry of an R-INV is stored, and its writes are taken
abbrev pub store : Node → RInv → Node
store n r =
    with_log (with_copies n (each_write applied n.copies r.writes)) r.stream
    record { done = (log n r.stream).done; kept = (log n r.stream).kept ++ record { followers = r.followers; writes = r.writes; acks = [] } ∷ [] }

-- an entry for the next number is stored, a lower one was stored before, a higher one comes too early
unfoldable pub stored_rinv : Node → ℕ → RInv → Did Outcome
stored_rinv n from r =
    if nat_lt r.number (next_kept (log n r.stream))
    then sends n Again (letter n from (RAck r.stream r.number) ∷ [])
    else (if nat_lt (next_kept (log n r.stream)) r.number
    then just n (Gap (next_kept (log n r.stream)))
    else (if length (log n r.stream).kept == 16
    then just n (Refused Window)
    else sends (store n r) Taken (letter n from (RAck r.stream r.number) ∷ [])))

-- R-INV: what passed before it is raised first
unfoldable pub on_rinv : Node → ℕ → RInv → Did Outcome
on_rinv n from r =
    if r.stream.node == n.me then just n (Refused OwnStream) else stored_rinv (raise n r.stream r.done) from r

-- whether a number is that of one of so many entries from done on
unfoldable pub is_within : ℕ → ℕ → ℕ → Bool
is_within number done count = not (nat_lt number done) && nat_lt number (done + count)

abbrev pub no_pending : Pending
no_pending = record { id = 0; reply = record { values = []; failed = None }; named = []; followers = []; writes = []; acks = [] }

abbrev pub no_kept : Kept
no_kept = record { followers = []; writes = []; acks = [] }

abbrev pub acked_pending : Pending → ℕ → Pending
acked_pending p from = record p { acks = with_node from p.acks }

abbrev pub acked_kept : Kept → ℕ → Kept
acked_kept k from = record k { acks = with_node from k.acks }

-- an acknowledgement counts where its entry is pending and the sender has not acknowledged it
unfoldable pub on_own_rack : Node → ℕ → ℕ → ℕ → Did Outcome
on_own_rack n from s number =
    if is_within number (slot n s).done (length (slot n s).pending) && not (has from (nth no_pending (slot n s).pending (number - (slot n s).done)).acks)
    then just (with_slot n s record {
      current = (slot n s).current;
      done = (slot n s).done;
      pending = put no_pending (slot n s).pending (number - (slot n s).done) (acked_pending (nth no_pending (slot n s).pending (number - (slot n s).done)) from);
    }) Taken
    else just n Again

-- likewise at a node that stores the entry of a foreign stream
unfoldable pub on_kept_rack : Node → ℕ → Stream → ℕ → Did Outcome
on_kept_rack n from s number =
    if is_within number (log n s).done (length (log n s).kept) && not (has from (nth no_kept (log n s).kept (number - (log n s).done)).acks)
    then just (with_log n s record {
      done = (log n s).done;
      kept = put no_kept (log n s).kept (number - (log n s).done) (acked_kept (nth no_kept (log n s).kept (number - (log n s).done)) from);
    }) Taken
    else just n Again

-- R-ACK
unfoldable pub on_rack : Node → ℕ → Stream → ℕ → Did Outcome
on_rack n from s number = if s.node == n.me then on_own_rack n from s.slot number else on_kept_rack n from s number

-- R-VAL: a higher done raises the stream
unfoldable pub on_rval : Node → Stream → ℕ → Did Outcome
on_rval n s d =
    if s.node == n.me then just n (Refused OwnStream) else (if nat_lt (log n s).done d then just (raise n s d) Taken else just n Again)

-- the streams of a node
unfoldable pub streams_of : ℕ → List ℕ → List Stream
streams_of node [] = []
streams_of node (s ∷ ss) = record { node = node; slot = s } ∷ streams_of node ss

-- the streams of the nodes that are no members, in the order of node and slot
unfoldable pub streams_outside : List ℕ → List ℕ → List ℕ → List Stream
streams_outside members slots [] = []
streams_outside members slots (m ∷ ms) =
    if has m members then streams_outside members slots ms else streams_of m slots ++ streams_outside members slots ms

abbrev pub outside : Node → List Stream
outside n = streams_outside n.members (below (length n.slots)) (below (length n.logs))

-- whether no entry of these streams is stored
unfoldable pub none_stored : Node → List Stream → Bool
none_stored n [] = true
none_stored n (s ∷ ss) = (length (log n s).kept == 0) && none_stored n ss

-- a node that stores no entry of a non-member's stream joins the reported nodes, and says so to the other members
unfoldable pub report_recovered : Node → Act
report_recovered n =
    if not (has n.me n.reported) && none_stored n (outside n)
    then record {
      node = record n { reported = with_node n.me n.reported };
      sent = to_each n (without n.me n.members) Recovered;
      passed = [];
    }
    else still n

-- after each letter that a rule answered and after each install: own streams advance, then those of non-members, then the node reports
unfoldable pub finish : Node → Act
finish n = and_then (in_turn advance_own n (below (length n.slots))) (λ m. and_then (in_turn advance_kept m (outside m)) report_recovered)
