-- The letters by which proposals are made and held.
use Rattle.std.specs.Prelude.{ℕ, suc, ◌≡◌, ◌<◌, ◌≤◌, true, false, List, [], ◌∷◌, ◌++◌, length, take, Option, Some, None, if◌then◌else◌}
use Rattle.std.proofs.Common.{arith, refl, sym, ap, ◌∙◌, inl, inr, subst}
use Rattle.std.proofs.lemmas.Bool.{cond_both, cond-true}
use Rattle.zeus_base.specs.Nodes.{has, without}
use Rattle.zeus_base.specs.Order.{is_below}
use Rattle.zeus_base.specs.OrderLaws.{is_below-irrefl}
use Rattle.zeus_base.specs.declared.order.Stamp.{Stamp}
use Rattle.zeus_packet.specs.Place.{arbiters}
use Rattle.zeus_packet.specs.declared.letter.Body.{Body}
use Rattle.zeus_packet.specs.declared.letter.Body.TheVariants.{OReq, OInv, ONack, OVal}
use Rattle.zeus_packet.specs.declared.letter.Cause.{Cause}
use Rattle.zeus_packet.specs.declared.letter.Cause.TheVariants.{OwnPlace}
use Rattle.zeus_packet.specs.declared.letter.Letter.{Letter}
use Rattle.zeus_packet.specs.declared.place.Place.{Place}
use Rattle.zeus_packet.specs.declared.place.Proposal.{Proposal}
use Rattle.zeus_packet.specs.declared.place.Want.{Want}
use Rattle.zeus_model.specs.In.{In, here, there}
use Rattle.zeus_model.specs.Tables.{nth}
use Rattle.zeus_model.specs.declared.answer.Outcome.{Outcome}
use Rattle.zeus_model.specs.State.{Node, entry, is_open, with_entry, with_gather}
use Rattle.zeus_model.specs.Act.{Did, letter, to_each}
use Rattle.zeus_model.specs.Ownership.{settle, settled_entry, gather_above, holding, is_source, unready_cause, driven, invalidations, acknowledgement, drive, answer_request, request_cause, on_oreq, answer_settled, takes_over, rebased, hold_cause, advice as advice_letters, refuse_proposal, collector, hold_or_refuse, oinv_on_base, on_oinv}
use Rattle.zeus_model.specs.InLaws.{In-append}
use Rattle.machine_moves.specs.SystemState.{SystemState, IsReceivable}
use Rattle.machine_moves.specs.Move.{advice, placement, to_arbiter, to_collector, IsTellable, IsAboutProposal, drives, accepts, settles, IsSettling, by_invalidation}
use Rattle.machine_moves.specs.Plain.{IsPlain}
use Rattle.machine_moves.proofs.Lists.{In-take, In-take_last}
use Rattle.machine_moves.proofs.Within.{entry-with_entry_same, Keeps-settle, Keeps-holding}
use Rattle.machine_moves.proofs.Steady.{fair_proposal}
use Rattle.machine_moves.proofs.Reach.{Became-changed, Changes-became, changed, PlainReaches as Reaches, PlainAnswered as Answered, IsReady, known, still_reaches, move_reaches, plain_reaches, then_reaches, cut_none, cut_tells}
use Rattle.machine_moves.proofs.Passing.{to_each-each, without-member}
use Rattle.machine_moves.proofs.Entries.{Received, received_after}
use Rattle.machine_moves.proofs.Causes.{arbiters-length, request_cause-none, hold_cause-none}

-- the sender of a letter of the node's epoch is a member of its view
pub sender_member : (s : SystemState) (n from : ℕ) (body : Body) → IsReady s n → Received s n from body → has from (s.node n).members ≡ true
sender_member s n from body ready got =
    let me = known s n ready in
    let l = got.letter in
    let steady = ready.steady in
    let fair = steady.letters l got.at.2 in
    rw (me.members) (rw (got.by, got.at.1) at fair.member)

-- ---- letters about a proposal

length-to_each : (n : Node) (tos : List ℕ) (body : Body) → length (to_each n tos body) ≡ length tos
unfolding to_each
length-to_each n [] body = refl
length-to_each n (to ∷ tos) body = ap suc (length-to_each n tos body)

-- each letter that spreads a proposal is one that a node may send about it
pub invalidation_about : (m : Node) (x : ℕ) (p : Proposal) (l : Letter) → In l (invalidations m x p) → IsAboutProposal m x p l
invalidation_about m x p =
    let nodes = arbiters p.base_place m.members m.directory in
    to_each-each (IsAboutProposal m x p) m (without m.me nodes) (OInv x p) (λ to h. to_arbiter to (without-member to m.me nodes h))

-- an acknowledgement to where it may go
pub acknowledgement_about : (m : Node) (x to : ℕ) (p : Proposal) → (has p.requester m.members ≡ true → to ≡ p.requester) → (is_source m p.base_place ≡ true → unready_cause m x ≡ None) → (l : Letter) → In l (acknowledgement m to x p ∷ []) → IsAboutProposal m x p l
acknowledgement_about m x to p collects ready l (here _ _ e) = rw e (to_collector to collects ready)
acknowledgement_about m x to p collects ready l (there _ _ i) = elim i [ ]

proposal_about : (m : Node) (x to : ℕ) (p : Proposal) → (has p.requester m.members ≡ true → to ≡ p.requester) → (is_source m p.base_place ≡ true → unready_cause m x ≡ None) → (l : Letter) → In l (invalidations m x p ++ acknowledgement m to x p ∷ []) → IsAboutProposal m x p l
proposal_about m x to p collects ready l i =
    elim (In-append l (invalidations m x p) (acknowledgement m to x p ∷ []) i) [
      | inl left ↦ invalidation_about m x p l left
      | inr right ↦ acknowledgement_about m x to p collects ready l right
    ]

-- the refusal of a request or of a proposal is advice
advice_letter : (m : Node) (to x : ℕ) (stamp : Stamp) (cause : Cause) (l : Letter) → In l (letter m to (ONack x stamp cause) ∷ []) → IsTellable m l
advice_letter m to x stamp cause l (here _ _ e) = rw e (advice to x stamp cause)
advice_letter m to x stamp cause l (there _ _ i) = elim i [ ]

-- ---- a request

drives_request : (s : SystemState) (n from k x : ℕ) (want : Want) → IsReady s n → Received s n from (OReq x want) → is_open (s.node n) ≡ true → length (s.node n).directory ≤ 8 → 10 ≤ k → request_cause (s.node n) x from want ≡ None → Answered s n k (drive (s.node n) from x (driven (s.node n) x from want))
unfolding IsPlain
drives_request s n from k x want ready got opened few room none =
    let m = s.node n in
    let me = known s n ready in
    let may = request_cause-none m x from want none in
    let p = driven m x from want in
    let sent = take k (invalidations m x p ++ acknowledgement m from x p ∷ []) in
    let b = Became-changed s n (holding m x p) sent in
    let small : length (invalidations m x p) < k =
    omega (arith, length-to_each m (without m.me (arbiters p.base_place m.members m.directory)) (OInv x p), arbiters-length m.me p.base_place m.members m.directory) in
    let about = proposal_about m x from p (λ _. refl) may.ready in
    move_reaches s n (holding m x p) sent (Keeps-holding m x p)
    (drives n x from want record {
      directory = rw (me.me) at may.directory;
      member = sender_member s n from (OReq x want) ready got;
      opened = opened;
      free = may.free;
      sourced = may.sourced;
      may_want = may.may_want;
      ready = may.ready;
    }
    (Changes-became s (changed s n (holding m x p) sent) n (holding m x p) sent (IsAboutProposal m x p) ready.live b (λ l i. about l (In-take l k _ i)))
    (from, b.new _ (In-take_last (acknowledgement m from x p) k (invalidations m x p) [] small))) (λ _. tt)

answer_request-answered : (cause : Option Cause) (s : SystemState) (n from k x : ℕ) (want : Want) → IsReady s n → Received s n from (OReq x want) → is_open (s.node n) ≡ true → length (s.node n).directory ≤ 8 → 10 ≤ k → request_cause (s.node n) x from want ≡ cause → Answered s n k (answer_request (s.node n) from x want cause)
unfolding answer_request
answer_request-answered None s n from k x want ready got opened few room is = drives_request s n from k x want ready got opened few room is
answer_request-answered (Some cause) s n from k x want ready got opened few room is =
    let m = s.node n in
    cut_tells s n k (letter m from (ONack x (entry m x).stamp cause) ∷ []) ready.live (advice_letter m from x (entry m x).stamp cause)

-- if an open node received a request, and 10 letters may go out, then plain moves lead to what it does with it
pub on_oreq-answered : (s : SystemState) (n from k x : ℕ) (want : Want) → IsReady s n → Received s n from (OReq x want) → is_open (s.node n) ≡ true → length (s.node n).directory ≤ 8 → 10 ≤ k → Answered s n k (on_oreq (s.node n) from x want)
unfolding on_oreq
on_oreq-answered s n from k x want ready got opened few room =
    answer_request-answered (request_cause (s.node n) x from want) s n from k x want ready got opened few room refl

-- ---- the base of a proposal is settled first

is_open-settle : (m : Node) (x : ℕ) (stamp : Stamp) (place : Place) → is_open (settle m x stamp place) ≡ is_open m
unfolding is_open settle
is_open-settle m x stamp place =
    let after = with_gather (with_entry m x (settled_entry (entry m x) stamp place)) x (gather_above stamp (nth None m.gathers x)) in
    cond_both (is_below (entry m x).stamp stamp) after m (λ y. is_open y ≡ is_open m) (λ _. refl) (λ _. refl)

-- if a stamp is above the settled one, then settling it makes the entry the settled one of this stamp and placement
pub settle-entry : (m : Node) (x : ℕ) (stamp : Stamp) (place : Place) → is_below (entry m x).stamp stamp ≡ true → entry (settle m x stamp place) x ≡ settled_entry (entry m x) stamp place
unfolding settle
settle-entry m x stamp place below = rw below (entry-with_entry_same m x (settled_entry (entry m x) stamp place))

-- what a node is where the base of a proposal is no longer above its settled stamp
pub record Rebased (s : SystemState) (n x : ℕ) (p : Proposal) (m : Node) : Type 0 where
  pub reaches : Reaches s n m []
  pub opened : is_open m ≡ is_open (s.node n)
  pub not_below : is_below (entry m x).stamp p.base ≡ false
  pub below : is_below (entry m x).stamp p.stamp ≡ true

-- if settling the base of a proposal leaves a node, then plain moves reach it, and the proposal fits above its settled stamp
unfoldable pub IsRebased : SystemState → ℕ → ℕ → Proposal → Option Node → Type 0
IsRebased s n x p None = Unit {0}
IsRebased s n x p (Some m) = Rebased s n x p m

rebased_settled : (s : SystemState) (n x : ℕ) (p : Proposal) (l : Letter) → IsReady s n → IsReceivable s n l → IsSettling x p.base p.base_place l → is_below p.base p.stamp ≡ true → is_below (entry (s.node n) x).stamp p.base ≡ true → Rebased s n x p (settle (s.node n) x p.base p.base_place)
unfolding IsPlain
rebased_settled s n x p l ready at says above below =
    let m = s.node n in
    let after = settle m x p.base p.base_place in
    let is = settle-entry m x p.base p.base_place below in
    record {
      reaches = plain_reaches s n after ready.live (Keeps-settle m x p.base p.base_place) (λ ch. settles n x p.base p.base_place l at says below ch) (λ _. tt);
      opened = is_open-settle m x p.base p.base_place;
      not_below = rw is (is_below-irrefl p.base);
      below = rw is above;
    }

-- if a proposal above the settled stamp was received, then settling its base leads to a node that the proposal fits
pub rebased-is : (s : SystemState) (n x : ℕ) (p : Proposal) (l : Letter) → IsReady s n → IsReceivable s n l → IsSettling x p.base p.base_place l → is_below p.base p.stamp ≡ true → is_below (entry (s.node n) x).stamp p.stamp ≡ true → IsRebased s n x p (rebased (s.node n) x p)
unfolding rebased IsRebased IsPlain
rebased-is s n x p l ready at says above below =
    let m = s.node n in
    let settled : Option Node = Some (settle m x p.base p.base_place) in
    let over : Option Node = if takes_over m x p.base_place then None else settled in
    cond_both (is_below (entry m x).stamp p.base) over (Some m) (λ (o : Option Node). IsRebased s n x p o)
    (λ base. cond_both (takes_over m x p.base_place) None settled (λ (o : Option Node). IsRebased s n x p o) (λ _. tt) (λ _. rebased_settled s n x p l ready at says above base))
    (λ base. record { reaches = still_reaches s n; opened = refl; not_below = base; below = below })

-- ---- a proposal

settling_invalidation : (l : Letter) (x : ℕ) (p : Proposal) → l.body ≡ OInv x p → IsSettling x p.base p.base_place l
settling_invalidation l x p is =
    subst (λ (b : Body). IsSettling x p.base p.base_place record { from = l.from; to = l.to; epoch = l.epoch; body = b }) (sym is) (by_invalidation l.from l.to l.epoch p refl refl)

-- the settled placement is told
pub answers_settled : (s : SystemState) (n from k x : ℕ) → IsReady s n → Answered s n k (answer_settled (s.node n) from x)
answers_settled s n from k x ready =
    let m = s.node n in
    cut_tells s n k (letter m from (OVal x (entry m x).stamp (entry m x).place) ∷ []) ready.live (tells_placement m)
  where
    tells_placement : (m : Node) (l : Letter) → In l (letter m from (OVal x (entry m x).stamp (entry m x).place) ∷ []) → IsTellable m l
    tells_placement m l (here _ _ e) = rw e (placement from x)
    tells_placement m l (there _ _ i) = elim i [ ]

refuses_proposal : (s : SystemState) (n k x : ℕ) (p : Proposal) (cause : Cause) → IsReady s n → Answered s n k (refuse_proposal (s.node n) x p cause)
unfolding advice_letters
refuses_proposal s n k x p cause ready =
    let m = s.node n in
    cond_both (has p.requester m.members) (letter m p.requester (ONack x p.stamp cause) ∷ []) [] (λ (ls : List Letter). Reaches s n m (take k ls))
    (λ _. cut_tells s n k (letter m p.requester (ONack x p.stamp cause) ∷ []) ready.live (advice_letter m p.requester x p.stamp cause))
    (λ _. cut_none s n m k (still_reaches s n))

-- if the requester is a member, then it is the collector of its proposal
pub collector-requester : (m : Node) (p : Proposal) (other : ℕ) → has p.requester m.members ≡ true → collector m p other ≡ p.requester
unfolding collector
collector-requester m p other h = cond-true (has p.requester m.members) p.requester other h

holds_proposal : (s : SystemState) (n from k x : ℕ) (p : Proposal) → IsReady s n → Received s n from (OInv x p) → is_open (s.node n) ≡ true → 10 ≤ k → is_below (entry (s.node n) x).stamp p.base ≡ false → is_below (entry (s.node n) x).stamp p.stamp ≡ true → hold_cause (s.node n) x p ≡ None → Reaches s n (holding (s.node n) x p) (take k (acknowledgement (s.node n) (collector (s.node n) p from) x p ∷ []))
unfolding IsPlain
holds_proposal s n from k x p ready got opened room not_below below none =
    let m = s.node n in
    let me = known s n ready in
    let may = hold_cause-none m x p none in
    let to = collector m p from in
    let sent = take k (acknowledgement m to x p ∷ []) in
    let b = Became-changed s n (holding m x p) sent in
    let about = acknowledgement_about m x to p (collector-requester m p from) may.ready in
    move_reaches s n (holding m x p) sent (Keeps-holding m x p)
    (accepts n x p record {
      sent = (got.letter, got.is, got.at);
      opened = opened;
      arbiter = elim may.arbiter [ inl directory ↦ inl (rw (me.me) at directory) | inr at_source ↦ inr at_source ];
      not_below_base = not_below;
      below = below;
      greatest = may.greatest;
      ready = may.ready;
    }
    (Changes-became s (changed s n (holding m x p) sent) n (holding m x p) sent (IsAboutProposal m x p) ready.live b (λ l i. about l (In-take l k _ i)))
    (to, b.new _ (In-take_last (acknowledgement m to x p) k [] [] (omega arith)))) (λ _. tt)

hold_or_refuse-answered : (cause : Option Cause) (s : SystemState) (n from k x : ℕ) (p : Proposal) → IsReady s n → Received s n from (OInv x p) → is_open (s.node n) ≡ true → 10 ≤ k → is_below (entry (s.node n) x).stamp p.base ≡ false → is_below (entry (s.node n) x).stamp p.stamp ≡ true → hold_cause (s.node n) x p ≡ cause → Answered s n k (hold_or_refuse (s.node n) from x p cause)
unfolding hold_or_refuse
hold_or_refuse-answered None s n from k x p ready got opened room not_below below is = holds_proposal s n from k x p ready got opened room not_below below is
hold_or_refuse-answered (Some cause) s n from k x p ready got opened room not_below below is = refuses_proposal s n k x p cause ready

oinv_on_base-answered : (base : Option Node) (s : SystemState) (n from k x : ℕ) (p : Proposal) → IsReady s n → Received s n from (OInv x p) → is_open (s.node n) ≡ true → 10 ≤ k → IsRebased s n x p base → Answered s n k (oinv_on_base (s.node n) from x p base)
unfolding oinv_on_base IsRebased
oinv_on_base-answered None s n from k x p ready got opened room r = refuses_proposal s n k x p OwnPlace ready
oinv_on_base-answered (Some m) s n from k x p ready got opened room r =
    let first = r.reaches in
    then_reaches s n m _ [] _ ready first
    (λ t rt b.
    subst (λ (y : Node). is_open y ≡ true → is_below (entry y x).stamp p.base ≡ false → is_below (entry y x).stamp p.stamp ≡ true → Answered t n k (hold_or_refuse y from x p (hold_cause y x p))) b.node
    (λ o nb be. hold_or_refuse-answered (hold_cause (t.node n) x p) t n from k x p rt (received_after s t n from (OInv x p) m [] got b (let keeps = first.keeps in rw (b.node) keeps)) o room nb be refl)
    (r.opened ∙ opened) r.not_below r.below)

-- if an open node received a proposal, and 10 letters may go out, then plain moves lead to what it does with it
pub on_oinv-answered : (s : SystemState) (n from k x : ℕ) (p : Proposal) → IsReady s n → Received s n from (OInv x p) → is_open (s.node n) ≡ true → 10 ≤ k → Answered s n k (on_oinv (s.node n) from x p)
unfolding on_oinv
on_oinv-answered s n from k x p ready got opened room =
    let m = s.node n in
    let l = got.letter in
    let steady = ready.steady in
    let above = fair_proposal s.config s.views l x p got.is (steady.letters l got.at.2) in
    cond_both (is_below (entry m x).stamp p.stamp) (oinv_on_base m from x p (rebased m x p)) (answer_settled m from x) (λ (d : Did Outcome). Answered s n k d)
    (λ below. oinv_on_base-answered (rebased m x p) s n from k x p ready got opened room (rebased-is s n x p l ready got.at (settling_invalidation l x p got.is) above below))
    (λ _. answers_settled s n from k x ready)
