-- The rules of ownership keep the ranges, and send letters that fit: requests, proposals, acknowledgements and decisions.
use Rattle.std.specs.Prelude.{ℕ, ◌≡◌, ◌+◌, ◌<◌, ◌==◌, ◌||◌, ◌&&◌, not, Bool, true, false, [], ◌∷◌, Option, Some, None, if◌then◌else◌, refl}
use Rattle.std.proofs.lemmas.Bool.{and_from, cond_both}
use Rattle.zeus_base.specs.Nodes.{has, without}
use Rattle.zeus_base.specs.Order.{is_below}
use Rattle.zeus_base.specs.declared.config.Limits.{Limits}
use Rattle.zeus_base.specs.declared.order.Stamp.{Stamp}
use Rattle.zeus_packet.specs.Fits.{object_fits, stamp_fits, place_fits, proposal_fits, want_fits, value_fits, content_fits, cause_fits, body_fits}
use Rattle.zeus_packet.specs.Place.{arbiters, new_place}
use Rattle.zeus_packet.specs.declared.letter.Body.TheVariants.{OInv, OAck, ONack, OVal}
use Rattle.zeus_packet.specs.declared.letter.Cause.{Cause}
use Rattle.zeus_packet.specs.declared.letter.Cause.TheVariants.{OwnPlace}
use Rattle.zeus_packet.specs.declared.place.Place.{Place}
use Rattle.zeus_packet.specs.declared.place.Proposal.{Proposal}
use Rattle.zeus_packet.specs.declared.place.Want.{Want}
use Rattle.zeus_packet.specs.declared.place.Want.TheVariants.{Own, Read, Leave}
use Rattle.zeus_packet.specs.declared.write.Content.{Content}
use Rattle.zeus_model.specs.declared.answer.Outcome.{Outcome}
use Rattle.zeus_model.specs.declared.answer.Outcome.TheVariants.{Taken, Again, Refused}
use Rattle.zeus_model.specs.declared.state.Copy.{Copy}
use Rattle.zeus_model.specs.declared.state.Gather.{Gather}
use Rattle.zeus_model.specs.Act.{Act, Did, still, just, letter}
use Rattle.zeus_model.specs.Ownership.{settle, is_source, content_of, own_content, drive_cause, want_cause, request_cause, driven, invalidations, acknowledgement, answer_request, on_oreq, answer_settled, takes_over, rebased, hold_cause, advice, collector, hold_or_refuse, oinv_on_base, on_oinv, is_decidable, decide_with, decide_on, decide_gathered, decide, gather_for, greater_gather, noted, is_noted, take_ack, gather_or_older, collect_cause, collect_or_refuse, oack_on_base, on_oack, on_oval}
use Rattle.zeus_model.specs.State.{Node, entry, copy, gather, value_of, with_gather}
use Rattle.node_ranges.specs.Acts.{letter-fits, to_nodes-fit, Keeping, KeepsAndFits-still, KeepsAndFits-did_then}
use Rattle.node_ranges.specs.Causes.{CauseFits, request-fits, hold-fits}
use Rattle.node_ranges.specs.Options.{or_else-none, where_true-none}
use Rattle.node_ranges.specs.NodeSets.{nodes_fit-without}
use Rattle.node_ranges.specs.OwnershipChanges.{KeepsRanges-settle, KeepsRanges-rebased, KeepsRanges-holding, KeepsRanges-gathered, KeepsRanges-bring, FitsGathered, FitsGathered-for, FitsGathered-noted, FitsGathered-at}
use Rattle.node_ranges.specs.Places.{AllFit-none, AllFit-one, AllFit-append, object_fits-from, stamp_fits-from, proposal_fits-parts, proposal_fits-from, new_place-fits, arbiters-fit}
use Rattle.node_ranges.specs.Ranges.{AllFit, KeepsRanges, KeepsAndFits}

-- ---- letters of ownership

content_of-fits : (limits : Limits) (c : Option Copy) → value_fits limits (value_of c) ≡ true → content_fits limits (content_of c) ≡ true
unfolding content_of value_of content_fits
content_of-fits limits None h = refl
content_of-fits limits (Some c) h = h

own_content-fits : (limits : Limits) (n : Node) (x : ℕ) (place : Place) → KeepsRanges limits n → content_fits limits (own_content n x place) ≡ true
unfolding own_content content_fits
own_content-fits limits n x place k =
    cond_both (is_source n place) (content_of (copy n x)) None (λ o. content_fits limits o ≡ true) (λ _. content_of-fits limits (copy n x) (k.copies x)) (λ _. refl)

-- the invalidations of a proposal that fits
pub invalidations-fit : (limits : Limits) (n : Node) (x : ℕ) (p : Proposal) → x < limits.objects → proposal_fits limits p ≡ true → KeepsRanges limits n → AllFit limits (invalidations n x p)
unfolding body_fits
invalidations-fit limits n x p less fit k =
    let nodes = arbiters p.base_place n.members n.directory in
    to_nodes-fit limits n (without n.me nodes) (OInv x p) k.nodes (nodes_fit-without limits n.me nodes (arbiters-fit limits p.base_place n.members n.directory k.nodes.members))
    (and_from (object_fits limits x) (proposal_fits limits p) (object_fits-from limits x less) fit)

-- the acknowledgement of a proposal that fits
pub acknowledgement-fits : (limits : Limits) (n : Node) (to x : ℕ) (p : Proposal) → to < limits.nodes → x < limits.objects → proposal_fits limits p ≡ true → KeepsRanges limits n → AllFit limits (acknowledgement n to x p ∷ [])
unfolding body_fits
acknowledgement-fits limits n to x p less within fit k =
    let content = own_content n x p.base_place in
    AllFit-one limits (acknowledgement n to x p) (letter-fits limits n to (OAck x p content) k.nodes less
    (and_from (object_fits limits x && proposal_fits limits p) (content_fits limits content)
    (and_from (object_fits limits x) (proposal_fits limits p) (object_fits-from limits x within) fit) (own_content-fits limits n x p.base_place k)))

nack-fits : (limits : Limits) (n : Node) (to x : ℕ) (stamp : Stamp) (cause : Cause) → to < limits.nodes → x < limits.objects → stamp_fits limits stamp ≡ true → cause_fits limits cause ≡ true → KeepsRanges limits n → AllFit limits (letter n to (ONack x stamp cause) ∷ [])
unfolding body_fits
nack-fits limits n to x stamp cause less within fit c k =
    AllFit-one limits (letter n to (ONack x stamp cause)) (letter-fits limits n to (ONack x stamp cause) k.nodes less
    (and_from (object_fits limits x && stamp_fits limits stamp) (cause_fits limits cause) (and_from (object_fits limits x) (stamp_fits limits stamp) (object_fits-from limits x within) fit) c))

placement-fits : (limits : Limits) (x : ℕ) (stamp : Stamp) (place : Place) → x < limits.objects → stamp_fits limits stamp ≡ true → place_fits limits place ≡ true → body_fits limits (OVal x stamp place) ≡ true
unfolding body_fits
placement-fits limits x stamp place within s p =
    and_from (object_fits limits x && stamp_fits limits stamp) (place_fits limits place) (and_from (object_fits limits x) (stamp_fits limits stamp) (object_fits-from limits x within) s) p

-- ---- a request

leave_fits : (owner reader : Bool) → (owner || not reader) ≡ false → (not owner && reader) ≡ true
leave_fits true reader h = absurd cc
leave_fits false true h = refl
leave_fits false false h = absurd cc

want_fits-asked : (want : Want) (requester : ℕ) (place : Place) → want_cause want requester place ≡ None → want_fits want requester place ≡ true
unfolding want_cause want_fits
want_fits-asked Own requester place h = refl
want_fits-asked Read requester place h = refl
want_fits-asked Leave requester place h = leave_fits (place.owner == requester) (has requester place.replicas) (where_true-none _ _ h)

-- a request that nothing stands against has a wish that the settled placement allows
pub request-wants : (n : Node) (x requester : ℕ) (want : Want) → request_cause n x requester want ≡ None → want_cause want requester (entry n x).place ≡ None
unfolding request_cause drive_cause
request-wants n x requester want h =
    let one = or_else-none _ _ (or_else-none _ _ h).0 in
    let two = or_else-none _ _ one.1 in
    (or_else-none _ _ two.1).0

-- what a node drives of a request of a node fits
pub driven-fits : (limits : Limits) (n : Node) (x requester : ℕ) (want : Want) → x < limits.objects → requester < limits.nodes → want_cause want requester (entry n x).place ≡ None → KeepsRanges limits n → proposal_fits limits (driven n x requester want) ≡ true
driven-fits limits n x requester want within less none k =
    let e = k.entries x within in
    proposal_fits-from limits (driven n x requester want) (record {
      stamp = stamp_fits-from limits (record { ver = (entry n x).stamp.ver + 1; driver = n.me }) k.nodes.me;
      requester = less;
      base = e.stamp;
      place = e.place;
      want = want_fits-asked want requester (entry n x).place none;
    })

answer_request-keeps : (limits : Limits) (n : Node) (requester x : ℕ) (want : Want) (cause : Option Cause) → requester < limits.nodes → x < limits.objects → CauseFits limits cause → request_cause n x requester want ≡ cause → KeepsRanges limits n →
    KeepsAndFits limits (answer_request n requester x want cause).node (answer_request n requester x want cause).sent
unfolding answer_request CauseFits
answer_request-keeps limits n requester x want (Some cause) less within fit is k =
    record { node = k; sent = nack-fits limits n requester x (entry n x).stamp cause less within (k.entries x within).stamp fit k }
answer_request-keeps limits n requester x want None less within fit is k =
    let p = driven n x requester want in
    let fits = driven-fits limits n x requester want within less (request-wants n x requester want is) k in
    record {
      node = KeepsRanges-holding limits n x p within fits k;
      sent = AllFit-append limits (invalidations n x p) (acknowledgement n requester x p ∷ []) (invalidations-fit limits n x p within fits k) (acknowledgement-fits limits n requester x p less within fits k);
    }

-- OReq
pub on_oreq-keeps : (limits : Limits) (n : Node) (from x : ℕ) (want : Want) → from < limits.nodes → x < limits.objects → KeepsRanges limits n → KeepsAndFits limits (on_oreq n from x want).node (on_oreq n from x want).sent
unfolding on_oreq
on_oreq-keeps limits n from x want less within k = answer_request-keeps limits n from x want (request_cause n x from want) less within (request-fits limits n x from want within k) refl k

-- ---- a proposal

answer_settled-keeps : (limits : Limits) (n : Node) (from x : ℕ) → from < limits.nodes → x < limits.objects → KeepsRanges limits n → KeepsAndFits limits (answer_settled n from x).node (answer_settled n from x).sent
answer_settled-keeps limits n from x less within k =
    let e = k.entries x within in
    let body = OVal x (entry n x).stamp (entry n x).place in
    record { node = k; sent = AllFit-one limits (letter n from body) (letter-fits limits n from body k.nodes less (placement-fits limits x (entry n x).stamp (entry n x).place within e.stamp e.place)) }

advice-fits : (limits : Limits) (n : Node) (x : ℕ) (p : Proposal) (cause : Cause) → x < limits.objects → proposal_fits limits p ≡ true → cause_fits limits cause ≡ true → KeepsRanges limits n → AllFit limits (advice n x p cause)
unfolding advice
advice-fits limits n x p cause within fit c k =
    let parts = proposal_fits-parts limits p fit in
    cond_both (has p.requester n.members) (letter n p.requester (ONack x p.stamp cause) ∷ []) [] (λ ls. AllFit limits ls)
    (λ _. nack-fits limits n p.requester x p.stamp cause parts.requester within parts.stamp c k) (λ _. AllFit-none limits)

-- the collector is a node
pub collector-within : (limits : Limits) (n : Node) (p : Proposal) (other : ℕ) → proposal_fits limits p ≡ true → other < limits.nodes → collector n p other < limits.nodes
unfolding collector
collector-within limits n p other fit less =
    cond_both (has p.requester n.members) p.requester other (λ m. m < limits.nodes) (λ _. (proposal_fits-parts limits p fit).requester) (λ _. less)

hold_or_refuse-keeps : (limits : Limits) (n : Node) (from x : ℕ) (p : Proposal) (cause : Option Cause) → from < limits.nodes → x < limits.objects → proposal_fits limits p ≡ true → CauseFits limits cause → KeepsRanges limits n →
    KeepsAndFits limits (hold_or_refuse n from x p cause).node (hold_or_refuse n from x p cause).sent
unfolding hold_or_refuse CauseFits
hold_or_refuse-keeps limits n from x p (Some cause) less within fit c k = record { node = k; sent = advice-fits limits n x p cause within fit c k }
hold_or_refuse-keeps limits n from x p None less within fit c k =
    record {
      node = KeepsRanges-holding limits n x p within fit k;
      sent = acknowledgement-fits limits n (collector n p from) x p (collector-within limits n p from fit less) within fit k;
    }

oinv_on_base-keeps : (limits : Limits) (n : Node) (from x : ℕ) (p : Proposal) (base : Option Node) → from < limits.nodes → x < limits.objects → proposal_fits limits p ≡ true → ((m : Node) → base ≡ Some m → KeepsRanges limits m) → KeepsRanges limits n →
    KeepsAndFits limits (oinv_on_base n from x p base).node (oinv_on_base n from x p base).sent
unfolding oinv_on_base cause_fits
oinv_on_base-keeps limits n from x p None less within fit h k = record { node = k; sent = advice-fits limits n x p OwnPlace within fit refl k }
oinv_on_base-keeps limits n from x p (Some m) less within fit h k =
    let kept = h m refl in hold_or_refuse-keeps limits m from x p (hold_cause m x p) less within fit (hold-fits limits m x p within kept) kept

-- OInv
pub on_oinv-keeps : (limits : Limits) (n : Node) (from x : ℕ) (p : Proposal) → from < limits.nodes → x < limits.objects → proposal_fits limits p ≡ true → KeepsRanges limits n → KeepsAndFits limits (on_oinv n from x p).node (on_oinv n from x p).sent
unfolding on_oinv
on_oinv-keeps limits n from x p less within fit k =
    cond_both (is_below (entry n x).stamp p.stamp) (oinv_on_base n from x p (rebased n x p)) (answer_settled n from x) (λ (d : Did Outcome). KeepsAndFits limits d.node d.sent)
    (λ _. oinv_on_base-keeps limits n from x p (rebased n x p) less within fit (λ m is. KeepsRanges-rebased limits n m x p within fit is k) k)
    (λ _. answer_settled-keeps limits n from x less within k)

-- ---- an acknowledgement

-- a node keeps its ranges where it decides a proposal that fits, with a content that does
pub decide_with-keeps : (limits : Limits) (n : Node) (x : ℕ) (p : Proposal) (c : Content) → x < limits.objects → proposal_fits limits p ≡ true → value_fits limits c.value ≡ true → KeepsRanges limits n → KeepsAndFits limits (decide_with n x p c).node (decide_with n x p c).sent
decide_with-keeps limits n x p c within fit value k =
    let parts = proposal_fits-parts limits p fit in
    let place = new_place-fits limits p fit in
    record {
      node = KeepsRanges-bring limits (settle n x p.stamp (new_place p)) x p c within value (KeepsRanges-settle limits n x p.stamp (new_place p) within parts.stamp place k);
      sent = to_nodes-fit limits n (without n.me n.members) (OVal x p.stamp (new_place p)) k.nodes (nodes_fit-without limits n.me n.members k.nodes.members)
          (placement-fits limits x p.stamp (new_place p) within parts.stamp place);
    }

decide_on-keeps : (limits : Limits) (n : Node) (x : ℕ) (p : Proposal) (o : Option Content) → x < limits.objects → proposal_fits limits p ≡ true → content_fits limits o ≡ true → KeepsRanges limits n → KeepsAndFits limits (decide_on n x p o).node (decide_on n x p o).sent
unfolding decide_on content_fits
decide_on-keeps limits n x p None within fit value k = KeepsAndFits-still limits n k
decide_on-keeps limits n x p (Some c) within fit value k = decide_with-keeps limits n x p c within fit value k

decide_gathered-keeps : (limits : Limits) (n : Node) (x : ℕ) (o : Option Gather) → x < limits.objects → gather n x ≡ o → KeepsRanges limits n → KeepsAndFits limits (decide_gathered n x o).node (decide_gathered n x o).sent
unfolding decide_gathered
decide_gathered-keeps limits n x None within is k = KeepsAndFits-still limits n k
decide_gathered-keeps limits n x (Some g) within is k =
    let fit = FitsGathered-at limits n x g is k in
    cond_both (is_decidable n g) (decide_on n x g.proposal g.content) (still n) (λ (a : Act). KeepsAndFits limits a.node a.sent)
    (λ _. decide_on-keeps limits n x g.proposal g.content within fit.proposal fit.content k) (λ _. KeepsAndFits-still limits n k)

-- a node decides what it has gathered
pub decide-keeps : (limits : Limits) (x : ℕ) → x < limits.objects → Keeping limits (decide x)
decide-keeps limits x within n k = decide_gathered-keeps limits n x (gather n x) within refl k

take_ack-keeps : (limits : Limits) (n : Node) (from x : ℕ) (content : Option Content) (g : Gather) → x < limits.objects → FitsGathered limits (noted g from content) → KeepsRanges limits n → KeepsAndFits limits (take_ack n from x content g).node (take_ack n from x content g).sent
unfolding take_ack
take_ack-keeps limits n from x content g within fit k =
    let m = with_gather n x (Some (noted g from content)) in
    let first : Did Outcome = just m (if is_noted g from content then Again else Taken) in
    KeepsAndFits-did_then limits first (decide x) (KeepsAndFits-still limits m (KeepsRanges-gathered limits n x (noted g from content) within fit k)) (decide-keeps limits x within)

gather_or_older-keeps : (limits : Limits) (n : Node) (from x : ℕ) (p : Proposal) (content : Option Content) (o : Option Stamp) → x < limits.objects → proposal_fits limits p ≡ true → content_fits limits content ≡ true → KeepsRanges limits n →
    KeepsAndFits limits (gather_or_older n from x p content o).node (gather_or_older n from x p content o).sent
unfolding gather_or_older
gather_or_older-keeps limits n from x p content (Some stamp) within fit c k = KeepsAndFits-still limits n k
gather_or_older-keeps limits n from x p content None within fit c k =
    let g = gather_for p (gather n x) in
    take_ack-keeps limits n from x content g within (FitsGathered-noted limits g from content c (FitsGathered-for limits p (gather n x) fit (k.gathers x))) k

collect_or_refuse-keeps : (limits : Limits) (n : Node) (from x : ℕ) (p : Proposal) (content : Option Content) (cause : Option Cause) → x < limits.objects → proposal_fits limits p ≡ true → content_fits limits content ≡ true → KeepsRanges limits n →
    KeepsAndFits limits (collect_or_refuse n from x p content cause).node (collect_or_refuse n from x p content cause).sent
unfolding collect_or_refuse
collect_or_refuse-keeps limits n from x p content (Some cause) within fit c k = KeepsAndFits-still limits n k
collect_or_refuse-keeps limits n from x p content None within fit c k = gather_or_older-keeps limits n from x p content (greater_gather p.stamp (gather n x)) within fit c k

oack_on_base-keeps : (limits : Limits) (n : Node) (from x : ℕ) (p : Proposal) (content : Option Content) (base : Option Node) → x < limits.objects → proposal_fits limits p ≡ true → content_fits limits content ≡ true → ((m : Node) → base ≡ Some m → KeepsRanges limits m) → KeepsRanges limits n →
    KeepsAndFits limits (oack_on_base n from x p content base).node (oack_on_base n from x p content base).sent
unfolding oack_on_base
oack_on_base-keeps limits n from x p content None within fit c h k = KeepsAndFits-still limits n k
oack_on_base-keeps limits n from x p content (Some m) within fit c h k = collect_or_refuse-keeps limits m from x p content (collect_cause m x p) within fit c (h m refl)

-- OAck
pub on_oack-keeps : (limits : Limits) (n : Node) (from x : ℕ) (p : Proposal) (content : Option Content) → from < limits.nodes → x < limits.objects → proposal_fits limits p ≡ true → content_fits limits content ≡ true → KeepsRanges limits n →
    KeepsAndFits limits (on_oack n from x p content).node (on_oack n from x p content).sent
unfolding on_oack
on_oack-keeps limits n from x p content less within fit c k =
    cond_both (is_below (entry n x).stamp p.stamp) (oack_on_base n from x p content (rebased n x p)) (answer_settled n from x) (λ (d : Did Outcome). KeepsAndFits limits d.node d.sent)
    (λ _. oack_on_base-keeps limits n from x p content (rebased n x p) within fit c (λ m is. KeepsRanges-rebased limits n m x p within fit is k) k)
    (λ _. answer_settled-keeps limits n from x less within k)

-- ---- a decision

-- OVal
pub on_oval-keeps : (limits : Limits) (n : Node) (x : ℕ) (stamp : Stamp) (place : Place) → x < limits.objects → stamp_fits limits stamp ≡ true → place_fits limits place ≡ true → KeepsRanges limits n → KeepsAndFits limits (on_oval n x stamp place).node (on_oval n x stamp place).sent
unfolding on_oval
on_oval-keeps limits n x stamp place within s p k =
    let settles = just (settle n x stamp place) Taken in
    let refuses = just n (Refused OwnPlace) in
    cond_both (is_below (entry n x).stamp stamp) (if takes_over n x place then refuses else settles) (just n Again) (λ (d : Did Outcome). KeepsAndFits limits d.node d.sent)
    (λ _. cond_both (takes_over n x place) refuses settles (λ (d : Did Outcome). KeepsAndFits limits d.node d.sent)
    (λ _. KeepsAndFits-still limits n k)
    (λ _. KeepsAndFits-still limits (settle n x stamp place) (KeepsRanges-settle limits n x stamp place within s p k)))
    (λ _. KeepsAndFits-still limits n k)
