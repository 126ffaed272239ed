-- Ownership: a directory node drives a request, the arbiters hold the proposal and acknowledge it, and the collector decides.
use Rattle.std.specs.Prelude.{ℕ, ◌+◌, ◌-◌, ◌^◌, Bool, false, ◌&&◌, ◌||◌, not, ◌==◌, nat_lt, List, [], ◌∷◌, ◌++◌, length, Option, Some, None, is_none, is_some, if◌then◌else◌}
use Rattle.zeus_base.specs.Nodes.{has, with_node, without, meet, is_subset, least}
use Rattle.zeus_base.specs.declared.order.Stamp.{Stamp}
use Rattle.zeus_base.specs.Order.{is_below, same_stamp}
use Rattle.zeus_packet.specs.Place.{same_proposal, source, arbiters, new_place}
use Rattle.zeus_packet.specs.declared.letter.Body.TheVariants.{OInv, OAck, ONack, OVal}
use Rattle.zeus_packet.specs.declared.letter.Cause.{Cause}
use Rattle.zeus_packet.specs.declared.letter.Cause.TheVariants.{NotDirectory, Proposed, Owns, HasCopy, NotReader, NoSource, Degree, IsSource, WornOut, NoCopy, Held, NotValid, Kept, NotArbiter, NotCollector, OwnPlace}
use Rattle.zeus_packet.specs.declared.letter.Letter.{Letter}
use Rattle.zeus_packet.specs.declared.letter.State.{State}
use Rattle.zeus_packet.specs.declared.letter.State.TheVariants.{Valid, Invalid, Write}
use Rattle.zeus_packet.specs.declared.place.Place.{Place}
use Rattle.zeus_packet.specs.declared.place.Proposal.{Proposal}
use Rattle.zeus_packet.specs.declared.place.Want.{Want}
use Rattle.zeus_packet.specs.declared.place.Want.TheVariants.{Own, Read, Leave}
use Rattle.zeus_packet.specs.declared.write.Content.{Content}
use Rattle.zeus_txn.specs.Ops.{mentions, named, is_write}
use Rattle.zeus_model.specs.declared.answer.Outcome.{Outcome}
use Rattle.zeus_model.specs.declared.answer.Outcome.TheVariants.{Taken, Again, Older, Settled, Refused}
use Rattle.zeus_model.specs.declared.state.Copy.{Copy}
use Rattle.zeus_model.specs.declared.state.Current.{Current}
use Rattle.zeus_model.specs.declared.state.Entry.{Entry}
use Rattle.zeus_model.specs.declared.state.Gather.{Gather}
use Rattle.zeus_model.specs.Tables.{or_else, where_true, first_of, below}
use Rattle.zeus_model.specs.State.{Node, entry, copy, gather, slot, with_entry, with_copy, with_gather, holder}
use Rattle.zeus_model.specs.Act.{Act, Did, still, just, sends, did_then, letter, to_each}

-- a proposal stays where its stamp is above the settled one
unfoldable pub proposal_above : Stamp → Option Proposal → Option Proposal
proposal_above stamp None = None
proposal_above stamp (Some p) = where_true (is_below stamp p.stamp) p

-- so does a gather
unfoldable pub gather_above : Stamp → Option Gather → Option Gather
gather_above stamp None = None
gather_above stamp (Some g) = where_true (is_below stamp g.proposal.stamp) g

-- the entry with a settled stamp and placement
abbrev pub settled_entry : Entry → Stamp → Place → Entry
settled_entry e stamp place = record { stamp = stamp; place = place; proposal = proposal_above stamp e.proposal }

-- to settle a stamp and its placement, where the stamp is above the settled one, drops a proposal and a gather that are not above
unfoldable pub settle : Node → ℕ → Stamp → Place → Node
settle n x stamp place =
    if is_below (entry n x).stamp stamp
    then with_gather (with_entry n x (settled_entry (entry n x) stamp place)) x (gather_above stamp (gather n x))
    else n

-- the node holds the proposal for the object
abbrev pub holding : Node → ℕ → Proposal → Node
holding n x p = with_entry n x record { stamp = (entry n x).stamp; place = (entry n x).place; proposal = Some p }

-- whether a node is there and is this one
unfoldable pub is_node : Option ℕ → ℕ → Bool
is_node None m = false
is_node (Some n) m = n == m

-- whether the node is the source of the placement
abbrev pub is_source : Node → Place → Bool
is_source n place = is_node (source place n.members) n.me

unfoldable pub content_of : Option Copy → Option Content
content_of None = None
content_of (Some c) = Some record { ver = c.ver; value = c.value }

-- the source alone adds the content of its copy to its acknowledgement
unfoldable pub own_content : Node → ℕ → Place → Option Content
own_content n x place = if is_source n place then content_of (copy n x) else None

-- whether the slot's current transaction is a write transaction that names the object
unfoldable pub keeps : ℕ → Option Current → Bool
keeps x None = false
keeps x (Some c) = is_write c.tx && mentions x (named c.tx)

-- the least slot whose current write transaction names the object
unfoldable pub keeper : Node → ℕ → Option ℕ
keeper n x = first_of (λ s. where_true (keeps x (slot n s).current) s) (below (length n.slots))

-- the source has to have a copy
unfoldable pub missing_cause : Option Copy → Option Cause
missing_cause None = Some NoCopy
missing_cause (Some c) = None

-- no slot of the source may hold the object
unfoldable pub held_cause : Option ℕ → Option Cause
held_cause None = None
held_cause (Some s) = Some (Held s)

unfoldable pub not_valid : State → Option State
not_valid Valid = None
not_valid Invalid = Some Invalid
not_valid Write = Some Write

unfoldable pub state_refused : Option State → Option Cause
state_refused None = None
state_refused (Some s) = Some (NotValid s)

-- the source's copy has to be valid
unfoldable pub state_cause : Option Copy → Option Cause
state_cause None = None
state_cause (Some c) = state_refused (not_valid c.state)

unfoldable pub kept_by : Option ℕ → Option Cause
kept_by None = None
kept_by (Some s) = Some (Kept s)

-- a source keeps an object that a write transaction of its own waits for from requesters with a greater number
unfoldable pub kept_cause : Node → ℕ → ℕ → Option Cause
kept_cause n x requester = if nat_lt n.me requester then kept_by (keeper n x) else None

-- the source's causes but for the last, that it keeps the object
unfoldable pub unready_cause : Node → ℕ → Option Cause
unready_cause n x = or_else (missing_cause (copy n x)) (or_else (held_cause (holder n x)) (state_cause (copy n x)))

-- the first of the source's causes
unfoldable pub source_cause : Node → ℕ → ℕ → Option Cause
source_cause n x requester = or_else (unready_cause n x) (kept_cause n x requester)

unfoldable pub proposed_cause : Option Proposal → Option Cause
proposed_cause None = None
proposed_cause (Some p) = Some (Proposed p.stamp)

-- a wish that the settled placement fulfils, or does not allow, is refused
unfoldable pub want_cause : Want → ℕ → Place → Option Cause
want_cause Own requester place = where_true (place.owner == requester) Owns
want_cause Read requester place = where_true (has requester place.replicas) HasCopy
want_cause Leave requester place = where_true ((place.owner == requester) || not (has requester place.replicas)) NotReader

-- whether more member replicas are there than a degree, where one is given
unfoldable pub exceeds : Option ℕ → ℕ → Bool
exceeds None count = false
exceeds (Some d) count = nat_lt d count

-- a reader leaves only where more than the degree of member replicas are there, and where it is not the source
unfoldable pub leave_cause : Want → Node → ℕ → Place → Option Cause
leave_cause Own n requester place = None
leave_cause Read n requester place = None
leave_cause Leave n requester place =
    or_else (where_true (not (exceeds n.degree (length (meet place.replicas n.members)))) Degree)
    (where_true (is_node (source place n.members) requester) IsSource)

-- why a node may not drive a request: the first cause that holds
unfoldable pub drive_cause : Node → ℕ → ℕ → Want → Option Cause
drive_cause n x requester want =
    or_else (where_true (not (has n.me n.directory)) NotDirectory)
    (or_else (proposed_cause (entry n x).proposal)
    (or_else (want_cause want requester (entry n x).place)
    (or_else (where_true (is_none (source (entry n x).place n.members)) NoSource)
    (or_else (leave_cause want n requester (entry n x).place)
    (where_true ((entry n x).stamp.ver == 2 ^ 64 - 1) WornOut)))))

-- a driver that is the source has the source's causes too
unfoldable pub request_cause : Node → ℕ → ℕ → Want → Option Cause
request_cause n x requester want =
    or_else (drive_cause n x requester want) (if is_source n (entry n x).place then source_cause n x requester else None)

-- the proposal that a driver makes of a request: the next version, on its settled placement
abbrev pub driven : Node → ℕ → ℕ → Want → Proposal
driven n x requester want =
    record {
      stamp = record { ver = (entry n x).stamp.ver + 1; driver = n.me };
      requester = requester;
      base = (entry n x).stamp;
      base_place = (entry n x).place;
      want = want;
    }

-- the invalidations of a proposal go to the other arbiters of its base
abbrev pub invalidations : Node → ℕ → Proposal → List Letter
invalidations n x p = to_each n (without n.me (arbiters p.base_place n.members n.directory)) (OInv x p)

-- the node's own acknowledgement of a proposal
abbrev pub acknowledgement : Node → ℕ → ℕ → Proposal → Letter
acknowledgement n to x p = letter n to (OAck x p (own_content n x p.base_place))

abbrev pub drive : Node → ℕ → ℕ → Proposal → Did Outcome
drive n requester x p = sends (holding n x p) Taken (invalidations n x p ++ acknowledgement n requester x p ∷ [])

unfoldable pub answer_request : Node → ℕ → ℕ → Want → Option Cause → Did Outcome
answer_request n requester x want (Some cause) = sends n (Refused cause) (letter n requester (ONack x (entry n x).stamp cause) ∷ [])
answer_request n requester x want None = drive n requester x (driven n x requester want)

-- OReq: a request that nothing stands against is driven
unfoldable pub on_oreq : Node → ℕ → ℕ → Want → Did Outcome
on_oreq n from x want = answer_request n from x want (request_cause n x from want)

-- a proposal that is not above the settled stamp is answered with the settled placement
abbrev pub answer_settled : Node → ℕ → ℕ → Did Outcome
answer_settled n from x = sends n (Settled (entry n x).stamp) (letter n from (OVal x (entry n x).stamp (entry n x).place) ∷ [])

-- whether a placement would make the node the owner, which its settled placement does not name
unfoldable pub takes_over : Node → ℕ → Place → Bool
takes_over n x place = (place.owner == n.me) && not ((entry n x).place.owner == n.me)

-- a proposal's base that is above the settled stamp is settled first; none: it would make the node the owner
unfoldable pub rebased : Node → ℕ → Proposal → Option Node
rebased n x p =
    if is_below (entry n x).stamp p.base
    then (if takes_over n x p.base_place then None else Some (settle n x p.base p.base_place))
    else Some n

-- a proposal with a greater stamp that is held stands against
unfoldable pub greater_cause : Stamp → Option Proposal → Option Cause
greater_cause stamp None = None
greater_cause stamp (Some q) = where_true (is_below stamp q.stamp) (Proposed q.stamp)

-- whether this proposal is held already
unfoldable pub is_held : Proposal → Option Proposal → Bool
is_held p None = false
is_held p (Some q) = same_proposal p q

-- the source's causes at an invalidation; that it keeps the object counts only where the proposal is not held yet
unfoldable pub accept_cause : Node → ℕ → Proposal → Option Cause
accept_cause n x p = or_else (unready_cause n x) (if is_held p (entry n x).proposal then None else kept_cause n x p.requester)

-- why a node does not hold a proposal: the first cause that holds
unfoldable pub hold_cause : Node → ℕ → Proposal → Option Cause
hold_cause n x p =
    or_else (where_true (not (has n.me n.directory) && not (is_source n p.base_place)) NotArbiter)
    (or_else (greater_cause p.stamp (entry n x).proposal)
    (if is_source n p.base_place then accept_cause n x p else None))

-- a greater proposal makes the letter's one older; any other cause refuses it
unfoldable pub refusal : Cause → Outcome
refusal (Proposed stamp) = Older stamp
refusal cause = Refused cause

-- the cause is told to the requester where that is a member
unfoldable pub advice : Node → ℕ → Proposal → Cause → List Letter
advice n x p cause = if has p.requester n.members then letter n p.requester (ONack x p.stamp cause) ∷ [] else []

abbrev pub refuse_proposal : Node → ℕ → Proposal → Cause → Did Outcome
refuse_proposal n x p cause = sends n (refusal cause) (advice n x p cause)

-- acknowledgements go to the collector: the requester where that is a member, else the given node
unfoldable pub collector : Node → Proposal → ℕ → ℕ
collector n p other = if has p.requester n.members then p.requester else other

unfoldable pub hold_or_refuse : Node → ℕ → ℕ → Proposal → Option Cause → Did Outcome
hold_or_refuse n from x p (Some cause) = refuse_proposal n x p cause
hold_or_refuse n from x p None =
    sends (holding n x p) (if is_held p (entry n x).proposal then Again else Taken) (acknowledgement n (collector n p from) x p ∷ [])

unfoldable pub oinv_on_base : Node → ℕ → ℕ → Proposal → Option Node → Did Outcome
oinv_on_base n from x p None = refuse_proposal n x p OwnPlace
oinv_on_base n from x p (Some m) = hold_or_refuse m from x p (hold_cause m x p)

-- OInv: an arbiter holds the proposal, in place of a lesser one, and acknowledges it
unfoldable pub on_oinv : Node → ℕ → ℕ → Proposal → Did Outcome
on_oinv n from x p =
    if is_below (entry n x).stamp p.stamp then oinv_on_base n from x p (rebased n x p) else answer_settled n from x

-- a proposal can be decided where a member directory node, a source of the base and a member of the new placement
-- are there, the content has come, and every arbiter of the base has acknowledged
unfoldable pub is_decidable : Node → Gather → Bool
is_decidable n g =
    is_some (least (meet n.directory n.members)) && is_some (source g.proposal.base_place n.members)
    && is_some (least (meet (new_place g.proposal).replicas n.members)) && is_some g.content
    && is_subset (arbiters g.proposal.base_place n.members n.directory) g.acks

-- the requester takes the content as its copy, valid; one that leaves drops its copy
unfoldable pub brought : Want → Content → Option Copy
brought Own c = Some record { value = c.value; ver = c.ver; state = Valid }
brought Read c = Some record { value = c.value; ver = c.ver; state = Valid }
brought Leave c = None

unfoldable pub bring : Node → ℕ → Proposal → Content → Node
bring n x p c = if p.requester == n.me then with_copy n x (brought p.want c) else n

-- a decision settles the proposal's stamp and new placement, and is told to the other members
abbrev pub decide_with : Node → ℕ → Proposal → Content → Act
decide_with n x p c =
    record {
      node = bring (settle n x p.stamp (new_place p)) x p c;
      sent = to_each n (without n.me n.members) (OVal x p.stamp (new_place p));
      passed = [];
    }

unfoldable pub decide_on : Node → ℕ → Proposal → Option Content → Act
decide_on n x p None = still n
decide_on n x p (Some c) = decide_with n x p c

unfoldable pub decide_gathered : Node → ℕ → Option Gather → Act
decide_gathered n x None = still n
decide_gathered n x (Some g) = if is_decidable n g then decide_on n x g.proposal g.content else still n

-- a node decides what it has gathered, if it can
abbrev pub decide : ℕ → Node → Act
decide x n = decide_gathered n x (gather n x)

-- the gather of this stamp, or an empty one in place of a lesser one
unfoldable pub gather_for : Proposal → Option Gather → Gather
gather_for p None = record { proposal = p; acks = []; content = None }
gather_for p (Some g) = if same_stamp g.proposal.stamp p.stamp then g else record { proposal = p; acks = []; content = None }

-- a gather with a greater stamp stands against
unfoldable pub greater_gather : Stamp → Option Gather → Option Stamp
greater_gather stamp None = None
greater_gather stamp (Some g) = where_true (is_below stamp g.proposal.stamp) g.proposal.stamp

-- the sender and the content are noted; the content that came first stays
abbrev pub noted : Gather → ℕ → Option Content → Gather
noted g from content = record { proposal = g.proposal; acks = with_node from g.acks; content = or_else g.content content }

-- whether the gather has the sender, and a content where one came
unfoldable pub is_noted : Gather → ℕ → Option Content → Bool
is_noted g from content = has from g.acks && (is_none content || is_some g.content)

unfoldable pub take_ack : Node → ℕ → ℕ → Option Content → Gather → Did Outcome
take_ack n from x content g =
    did_then (just (with_gather n x (Some (noted g from content))) (if is_noted g from content then Again else Taken)) (decide x)

unfoldable pub gather_or_older : Node → ℕ → ℕ → Proposal → Option Content → Option Stamp → Did Outcome
gather_or_older n from x p content (Some stamp) = just n (Older stamp)
gather_or_older n from x p content None = take_ack n from x content (gather_for p (gather n x))

-- only the requester collects, where it is a member; and only a requester may become the owner so
unfoldable pub collect_cause : Node → ℕ → Proposal → Option Cause
collect_cause n x p =
    or_else (where_true (has p.requester n.members && not (p.requester == n.me)) NotCollector)
    (where_true (takes_over n x (new_place p) && not (p.requester == n.me)) OwnPlace)

unfoldable pub collect_or_refuse : Node → ℕ → ℕ → Proposal → Option Content → Option Cause → Did Outcome
collect_or_refuse n from x p content (Some cause) = just n (Refused cause)
collect_or_refuse n from x p content None = gather_or_older n from x p content (greater_gather p.stamp (gather n x))

unfoldable pub oack_on_base : Node → ℕ → ℕ → Proposal → Option Content → Option Node → Did Outcome
oack_on_base n from x p content None = just n (Refused OwnPlace)
oack_on_base n from x p content (Some m) = collect_or_refuse m from x p content (collect_cause m x p)

-- OAck: the collector notes the sender and the content, and decides if it can
unfoldable pub on_oack : Node → ℕ → ℕ → Proposal → Option Content → Did Outcome
on_oack n from x p content =
    if is_below (entry n x).stamp p.stamp then oack_on_base n from x p content (rebased n x p) else answer_settled n from x

-- OVal: a decided placement above the settled one is settled
unfoldable pub on_oval : Node → ℕ → Stamp → Place → Did Outcome
on_oval n x stamp place =
    if is_below (entry n x).stamp stamp
    then (if takes_over n x place then just n (Refused OwnPlace) else just (settle n x stamp place) Taken)
    else just n Again
