-- What a node that keeps its ranges has: streams and entries that the parts can work on; and its ranges at the limits that it shows itself.
use Rattle.std.specs.Prelude.{ℕ, ◌≡◌, ◌<◌, ◌&&◌, Bool, true, false, nat_lt, nat_le, List, [], ◌∷◌, length, All, Option, Some, None, refl}
use Rattle.std.specs.List.{list_all}
use Rattle.std.proofs.Common.{arith, sym}
use Rattle.std.proofs.lemmas.Bool.{and_parts, and_from}
use Rattle.std.proofs.lemmas.List.Elements.{All-head, All-tail, All-weaker}
use Rattle.zeus_base.specs.declared.config.Limits.{Limits}
use Rattle.zeus_base.specs.declared.order.Stream.{Stream}
use Rattle.zeus_base.specs.declared.value.Value.{Value}
use Rattle.zeus_base.specs.declared.value.Value.TheVariants.{Num, Text}
use Rattle.zeus_packet.specs.Fits.{nodes_fit, stream_fits, stamp_fits, object_fits, place_fits, proposal_fits, value_fits, write_fits, are_once, writes_fit, inv_fits, content_fits, cause_fits, body_fits, fits}
use Rattle.zeus_packet.specs.declared.letter.Body.{Body}
use Rattle.zeus_packet.specs.declared.letter.Body.TheVariants.{RInv, RAck, RVal, OReq, OInv, OAck, ONack, OVal, Recovered}
use Rattle.zeus_packet.specs.declared.letter.Cause.{Cause}
use Rattle.zeus_packet.specs.declared.letter.Cause.TheVariants.{OwnStream, Window, NotDirectory, Proposed, Owns, HasCopy, NotReader, NoSource, Degree, IsSource, WornOut, NoCopy, Held, NotValid, Kept as KeptCause, NotArbiter, NotCollector, OwnPlace}
use Rattle.zeus_packet.specs.declared.letter.Letter.{Letter}
use Rattle.zeus_packet.specs.declared.letter.RInv.{RInv as Invalidation}
use Rattle.zeus_packet.specs.declared.place.Proposal.{Proposal}
use Rattle.zeus_packet.specs.declared.write.Content.{Content}
use Rattle.zeus_packet.specs.declared.write.Write.{Write}
use Rattle.zeus_txn.specs.declared.ops.Op.{Op}
use Rattle.zeus_txn.specs.declared.ops.Op.TheVariants.{Get, Put, Add, Need, Same}
use Rattle.zeus_model.specs.declared.state.Current.{Current}
use Rattle.zeus_model.specs.declared.state.Entry.{Entry}
use Rattle.zeus_model.specs.declared.state.Gather.{Gather}
use Rattle.zeus_model.specs.declared.state.Kept.{Kept}
use Rattle.zeus_model.specs.declared.state.Pending.{Pending}
use Rattle.zeus_model.specs.Commit.{as_kept, writes_of}
use Rattle.zeus_model.specs.State.{Node, Slot, StreamLog, entry, copy, gather, slot, log, value_of}
use Rattle.zeus_model.specs.Tables.{nth}
use Rattle.object_table.specs.Entries.{AreEntriesWithin}
use Rattle.object_table.specs.Table.{AreWithin}
use Rattle.follower_log.specs.Streams.{IsStreamOf}
use Rattle.reliable_commit.specs.Following.{IsFollowed}
use Rattle.node_ranges.specs.CommitChanges.{write_fits-object, writes_of-fit, inv_fits-parts, stream_fits-node, stream_fits-slot}
use Rattle.node_ranges.specs.Ranges.{limits_of, FitsHeld, FitsEntry, FitsGather, FitsKept, FitsPending, OpFits, FitsCurrent, FitsSlot, FitsLog, KeepsRanges}

-- ---- what the parts ask for

-- writes that fit are of objects that there are
pub within-writes : (limits : Limits) (ws : List Write) → list_all (write_fits limits) ws ≡ true → AreWithin limits.objects ws
unfolding AreWithin
within-writes limits [] h = tt
within-writes limits (w ∷ ws) h =
    let both = and_parts (write_fits limits w) (list_all (write_fits limits) ws) h in
    (write_fits-object limits w both.0, within-writes limits ws both.1)

-- so are those of a letter that fits, at a node that keeps the ranges
pub within-letter : (limits : Limits) (n : Node) (r : Invalidation) → KeepsRanges limits n → inv_fits limits r ≡ true → AreWithin (length n.copies) r.writes
within-letter limits n r k h = rw k.sizes.copies (within-writes limits r.writes (inv_fits-parts limits r h).writes)

within-pending : (limits : Limits) (me : ℕ) (ps : List Pending) → All (FitsPending limits me) ps → AreEntriesWithin limits.objects ps
unfolding AreEntriesWithin
within-pending limits me [] h = tt
within-pending limits me (p ∷ ps) h =
    let first = All-head (FitsPending limits me) p ps h in
    (record { writes = within-writes limits p.writes first.entry.writes; named = first.named }, within-pending limits me ps (All-tail (FitsPending limits me) p ps h))

-- the pending entries of each slot are of objects that there are
pub entries-within : (limits : Limits) (n : Node) (s : ℕ) → KeepsRanges limits n → AreEntriesWithin (length n.copies) (slot n s).pending
entries-within limits n s k = rw k.sizes.copies (within-pending limits n.me (slot n s).pending (k.slots s).pending)

-- each stream of a node and a slot is there
pub stream-there : (limits : Limits) (n : Node) (s : Stream) → KeepsRanges limits n → s.node < limits.nodes → s.slot < limits.slots → IsStreamOf n.logs s
stream-there limits n s k node within =
    record {
      node = omega (arith, k.sizes.nodes);
      slot = let row : length (nth [] n.logs s.node) ≡ limits.slots = k.sizes.streams s.node node in omega arith;
    }

-- each stream that fits is there
pub stream-at : (limits : Limits) (n : Node) (s : Stream) → KeepsRanges limits n → stream_fits limits s ≡ true → IsStreamOf n.logs s
stream-at limits n s k fit = stream-there limits n s k (stream_fits-node limits s fit) (stream_fits-slot limits s fit)

-- and its stored entries are of objects that there are
pub stream-followed : (limits : Limits) (n : Node) (s : Stream) → KeepsRanges limits n → s.node < limits.nodes → s.slot < limits.slots → IsFollowed (length n.copies) n.logs s
stream-followed limits n s k node within =
    record {
      stream = stream-there limits n s k node within;
      within = rw k.sizes.copies (within-writes limits (writes_of (log n s).kept) (writes_of-fit limits (log n s).kept (k.logs s).kept));
    }

-- ---- limits of version 2 take more values

-- the same limits with texts among the values
abbrev pub with_texts : Limits → Limits
with_texts limits = record { version = 2; nodes = limits.nodes; slots = limits.slots; objects = limits.objects }

-- a value that fits does so where there are texts too
pub value_fits-texts : (limits : Limits) (v : Value) → value_fits limits v ≡ true → value_fits (with_texts limits) v ≡ true
unfolding value_fits
value_fits-texts limits (Num n) h = refl
value_fits-texts limits (Text t) h = refl

write_fits-texts : (limits : Limits) (w : Write) → write_fits limits w ≡ true → write_fits (with_texts limits) w ≡ true
unfolding write_fits object_fits
write_fits-texts limits w h =
    let both = and_parts (nat_lt w.obj limits.objects) (value_fits limits w.value) h in
    and_from (nat_lt w.obj limits.objects) (value_fits (with_texts limits) w.value) both.0 (value_fits-texts limits w.value both.1)

all_writes-texts : (limits : Limits) (ws : List Write) → list_all (write_fits limits) ws ≡ true → list_all (write_fits (with_texts limits)) ws ≡ true
all_writes-texts limits [] h = refl
all_writes-texts limits (w ∷ ws) h =
    let both = and_parts (write_fits limits w) (list_all (write_fits limits) ws) h in
    and_from (write_fits (with_texts limits) w) (list_all (write_fits (with_texts limits)) ws) (write_fits-texts limits w both.0) (all_writes-texts limits ws both.1)

content_fits-texts : (limits : Limits) (c : Option Content) → content_fits limits c ≡ true → content_fits (with_texts limits) c ≡ true
unfolding content_fits
content_fits-texts limits None h = refl
content_fits-texts limits (Some c) h = value_fits-texts limits c.value h

proposal_fits-texts : (limits : Limits) (p : Proposal) → proposal_fits limits p ≡ true → proposal_fits (with_texts limits) p ≡ true
unfolding proposal_fits stamp_fits place_fits nodes_fit
proposal_fits-texts limits p h = h

FitsHeld-texts : (limits : Limits) (p : Option Proposal) → FitsHeld limits p → FitsHeld (with_texts limits) p
unfolding FitsHeld
FitsHeld-texts limits None h = tt
FitsHeld-texts limits (Some p) h = proposal_fits-texts limits p h

FitsEntry-texts : (limits : Limits) (e : Entry) → FitsEntry limits e → FitsEntry (with_texts limits) e
unfolding stamp_fits place_fits nodes_fit
FitsEntry-texts limits e h = record { stamp = h.stamp; place = h.place; proposal = FitsHeld-texts limits e.proposal h.proposal }

FitsGather-texts : (limits : Limits) (g : Option Gather) → FitsGather limits g → FitsGather (with_texts limits) g
unfolding FitsGather
FitsGather-texts limits None h = tt
FitsGather-texts limits (Some g) h = (proposal_fits-texts limits g.proposal h.0, content_fits-texts limits g.content h.1)

FitsKept-texts : (limits : Limits) (k : Kept) → FitsKept limits k → FitsKept (with_texts limits) k
unfolding nodes_fit
FitsKept-texts limits k h = record { followers = h.followers; some = h.some; few = h.few; writes = all_writes-texts limits k.writes h.writes; once = h.once }

FitsPending-texts : (limits : Limits) (me : ℕ) (p : Pending) → FitsPending limits me p → FitsPending (with_texts limits) me p
FitsPending-texts limits me p h = record { entry = FitsKept-texts limits (as_kept p) h.entry; others = h.others; named = h.named }

OpFits-texts : (limits : Limits) (op : Op) → OpFits limits op → OpFits (with_texts limits) op
unfolding OpFits
OpFits-texts limits (Get x) h = tt
OpFits-texts limits (Put x v) h = value_fits-texts limits v h
OpFits-texts limits (Add x d) h = tt
OpFits-texts limits (Need x n) h = tt
OpFits-texts limits (Same x v) h = value_fits-texts limits v h

FitsCurrent-texts : (limits : Limits) (c : Option Current) → FitsCurrent limits c → FitsCurrent (with_texts limits) c
unfolding FitsCurrent
FitsCurrent-texts limits None h = tt
FitsCurrent-texts limits (Some c) h =
    record { made = h.made; named = h.named; values = All-weaker (OpFits limits) (OpFits (with_texts limits)) (OpFits-texts limits) c.tx h.values }

FitsSlot-texts : (limits : Limits) (me : ℕ) (l : Slot) → FitsSlot limits me l → FitsSlot (with_texts limits) me l
FitsSlot-texts limits me l h =
    record {
      current = FitsCurrent-texts limits l.current h.current;
      few = h.few;
      numbered = h.numbered;
      pending = All-weaker (FitsPending limits me) (FitsPending (with_texts limits) me) (FitsPending-texts limits me) l.pending h.pending;
    }

FitsLog-texts : (limits : Limits) (l : StreamLog) → FitsLog limits l → FitsLog (with_texts limits) l
FitsLog-texts limits l h =
    record { few = h.few; numbered = h.numbered; kept = All-weaker (FitsKept limits) (FitsKept (with_texts limits)) (FitsKept-texts limits) l.kept h.kept }

KeepsRanges-texts : (limits : Limits) (n : Node) → KeepsRanges limits n → KeepsRanges (with_texts limits) n
unfolding nodes_fit
KeepsRanges-texts limits n k =
    let z = k.sizes in
    let o = k.nodes in
    record {
      sizes = record {
        most = record { nodes = z.most.nodes; slots = z.most.slots; objects = z.most.objects };
        entries = z.entries;
        copies = z.copies;
        gathers = z.gathers;
        slots = z.slots;
        nodes = z.nodes;
        streams = z.streams;
      };
      nodes = record { me = o.me; epoch = o.epoch; members = o.members; directory = o.directory; reported = o.reported };
      entries = λ x less. FitsEntry-texts limits (entry n x) (k.entries x less);
      copies = λ x. value_fits-texts limits (value_of (copy n x)) (k.copies x);
      gathers = λ x. FitsGather-texts limits (gather n x) (k.gathers x);
      slots = λ s. FitsSlot-texts limits n.me (slot n s) (k.slots s);
      logs = λ s. FitsLog-texts limits (log n s) (k.logs s);
    }

-- ---- the limits that a node shows

-- a node that keeps some ranges shows their limits
pub limits_of-kept : (limits : Limits) (n : Node) → KeepsRanges limits n → with_texts limits ≡ limits_of n
limits_of-kept limits n k =
    let nodes = sym k.sizes.nodes in
    let slots = sym k.sizes.slots in
    let objects = sym k.sizes.entries in
    λ i. record { version = 2; nodes = nodes i; slots = slots i; objects = objects i }

-- a node that keeps some ranges keeps those that it shows
pub KeepsRanges-shown : (limits : Limits) (n : Node) → KeepsRanges limits n → KeepsRanges (limits_of n) n
KeepsRanges-shown limits n k = rw (← limits_of-kept limits n k) (KeepsRanges-texts limits n k)

-- ---- letters

inner_and : (a p w v o : Bool) → (w ≡ true → v ≡ true) → (a && (p && w && o)) ≡ true → (a && (p && v && o)) ≡ true
inner_and true true true v o h g = rw (h refl) g
inner_and true true false v o h g = absurd cc
inner_and true false w v o h g = absurd cc
inner_and false p w v o h g = absurd cc

inv_fits-texts : (limits : Limits) (r : Invalidation) → inv_fits limits r ≡ true → inv_fits (with_texts limits) r ≡ true
unfolding inv_fits writes_fit stream_fits nodes_fit
inv_fits-texts limits r h =
    inner_and (stream_fits limits r.stream && nat_lt r.number 4294967295 && nat_le r.done r.number && nodes_fit limits r.followers)
    (nat_le 1 (length r.writes) && nat_le (length r.writes) 8) (list_all (write_fits limits) r.writes) (list_all (write_fits (with_texts limits)) r.writes) (are_once r.writes)
    (all_writes-texts limits r.writes) h

cause_fits-texts : (limits : Limits) (c : Cause) → cause_fits limits c ≡ true → cause_fits (with_texts limits) c ≡ true
unfolding cause_fits stamp_fits
cause_fits-texts limits OwnStream h = refl
cause_fits-texts limits Window h = refl
cause_fits-texts limits NotDirectory h = refl
cause_fits-texts limits (Proposed s) h = h
cause_fits-texts limits Owns h = refl
cause_fits-texts limits HasCopy h = refl
cause_fits-texts limits NotReader h = refl
cause_fits-texts limits NoSource h = refl
cause_fits-texts limits Degree h = refl
cause_fits-texts limits IsSource h = refl
cause_fits-texts limits WornOut h = refl
cause_fits-texts limits NoCopy h = refl
cause_fits-texts limits (Held s) h = h
cause_fits-texts limits (NotValid s) h = refl
cause_fits-texts limits (KeptCause s) h = h
cause_fits-texts limits NotArbiter h = refl
cause_fits-texts limits NotCollector h = refl
cause_fits-texts limits OwnPlace h = refl

last_and : (a b c : Bool) → (b ≡ true → c ≡ true) → (a && b) ≡ true → (a && c) ≡ true
last_and true b c h g = h g
last_and false b c h g = absurd cc

body_fits-texts : (limits : Limits) (b : Body) → body_fits limits b ≡ true → body_fits (with_texts limits) b ≡ true
unfolding body_fits stream_fits object_fits stamp_fits place_fits nodes_fit
body_fits-texts limits (RInv r) h = inv_fits-texts limits r h
body_fits-texts limits (RAck s number) h = h
body_fits-texts limits (RVal s done) h = h
body_fits-texts limits (OReq x want) h = h
body_fits-texts limits (OInv x p) h = last_and (object_fits limits x) (proposal_fits limits p) (proposal_fits (with_texts limits) p) (proposal_fits-texts limits p) h
body_fits-texts limits (OAck x p content) h =
    let parts = and_parts (object_fits limits x && proposal_fits limits p) (content_fits limits content) h in
    and_from (object_fits limits x && proposal_fits (with_texts limits) p) (content_fits (with_texts limits) content)
    (last_and (object_fits limits x) (proposal_fits limits p) (proposal_fits (with_texts limits) p) (proposal_fits-texts limits p) parts.0) (content_fits-texts limits content parts.1)
body_fits-texts limits (ONack x stamp cause) h = last_and (object_fits limits x && stamp_fits limits stamp) (cause_fits limits cause) (cause_fits (with_texts limits) cause) (cause_fits-texts limits cause) h
body_fits-texts limits (OVal x stamp place) h = h
body_fits-texts limits Recovered h = refl

fits-texts : (limits : Limits) (l : Letter) → fits l limits ≡ true → fits l (with_texts limits) ≡ true
unfolding fits
fits-texts limits l h =
    last_and (nat_lt l.from limits.nodes && nat_lt l.to limits.nodes && nat_le 1 l.epoch) (body_fits limits l.body) (body_fits (with_texts limits) l.body) (body_fits-texts limits l.body) h

-- a letter that fits the limits whose ranges a node keeps fits those that the node shows
pub fits-shown : (limits : Limits) (n : Node) (l : Letter) → KeepsRanges limits n → fits l limits ≡ true → fits l (limits_of n) ≡ true
fits-shown limits n l k h = rw (← limits_of-kept limits n k) (fits-texts limits l h)
