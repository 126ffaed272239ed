-- What a node answers a letter that it may expect: no cause that never stands.
use Rattle.std.specs.Prelude.{ℕ, ◌≡◌, ◌≢◌, ◌+◌, ◌-◌, ◌<◌, Bool, true, false, ◌&&◌, not, ◌==◌, nat_lt, length, take, drop, Option, Some, None, ◌⊎◌, if◌then◌else◌}
use Rattle.std.proofs.Common.{arith, refl, sym, ap, ◌∙◌, inl, inr, eq-eqb}
use Rattle.std.proofs.lemmas.Bool.{cond_both, cases_Bool, ltb-false, eqb-true, eqb-false}
use Rattle.zeus_base.specs.Nodes.{has}
use Rattle.zeus_base.specs.Order.{is_below}
use Rattle.zeus_base.specs.declared.order.Stamp.{Stamp}
use Rattle.zeus_base.specs.declared.order.Stream.{Stream}
use Rattle.zeus_packet.specs.Place.{new_place}
use Rattle.zeus_packet.specs.declared.letter.Body.{Body}
use Rattle.zeus_packet.specs.declared.letter.Body.TheVariants.{RInv, RAck, RVal, OReq, OInv, OAck, ONack, OVal, Recovered}
use Rattle.zeus_packet.specs.declared.letter.Cause.{Cause}
use Rattle.zeus_packet.specs.declared.letter.Cause.TheVariants.{OwnStream, Window, NotDirectory, Proposed, Owns, HasCopy, NotReader, NoSource, Degree, IsSource, WornOut, NoCopy, Held, NotValid, Kept, NotArbiter, NotCollector, OwnPlace}
use Rattle.zeus_packet.specs.declared.letter.RInv.{RInv as Invalidation}
use Rattle.zeus_packet.specs.declared.place.Place.{Place}
use Rattle.zeus_packet.specs.declared.place.Proposal.{Proposal}
use Rattle.zeus_packet.specs.declared.place.Want.{Want}
use Rattle.zeus_packet.specs.declared.write.Content.{Content}
use Rattle.zeus_model.specs.declared.answer.Outcome.{Outcome}
use Rattle.zeus_model.specs.declared.answer.Outcome.TheVariants.{Taken, Again, Gap, Older, Settled, Refused}
use Rattle.zeus_model.specs.declared.state.Gather.{Gather}
use Rattle.zeus_model.specs.Tables.{or_else, where_true}
use Rattle.zeus_model.specs.State.{Node, StreamLog, entry, gather, slot, log, with_log}
use Rattle.zeus_model.specs.Act.{Did}
use Rattle.zeus_model.specs.Commit.{after_passing, raise, next_kept, stored_rinv, on_rinv, on_rack, on_own_rack, on_kept_rack, on_rval, is_within}
use Rattle.zeus_model.specs.Ownership.{settle, is_held, answer_request, request_cause, on_oreq, takes_over, rebased, refusal, hold_cause, hold_or_refuse, oinv_on_base, on_oinv, greater_gather, gather_for, is_noted, take_ack, gather_or_older, collect_cause, collect_or_refuse, oack_on_base, on_oack, on_oval}
use Rattle.zeus_model.specs.Receive.{on_recovered, row}
use Rattle.machine_moves.proofs.Within.{Keeps, Keeps-refl, Keeps-settle, log-with_log_same}
use Rattle.machine_moves.proofs.Proposals.{settle-entry}
use Rattle.ownership_safety.proofs.Arbiters.{new_place-owner}
use Rattle.soundness.specs.Refusals.{IsNeverRefused}
use Rattle.soundness.proofs.NeverCauses.{MayStand, IsArbiterOf, request-may, hold-may}
use Rattle.zeus_model.specs.declared.state.Entry.{Entry}

-- a stamp and a placement, above the settled ones, that name the node as owner only where these do
abbrev pub KeepsOwner : Node → ℕ → Stamp → Place → Type 0
KeepsOwner n x stamp place = is_below (entry n x).stamp stamp ≡ true → place.owner ≡ n.me → (entry n x).place.owner ≡ n.me

-- so it is with the placement that a proposal makes, where its base is not above the settled stamp and the node is not the requester
abbrev pub KeepsOwnerIn : Node → ℕ → Proposal → Type 0
KeepsOwnerIn n x p =
    is_below (entry n x).stamp p.base ≡ false → is_below (entry n x).stamp p.stamp ≡ true → (new_place p).owner ≡ n.me → p.requester ≢ n.me
    → (entry n x).place.owner ≡ n.me

-- the node collects the proposal's acknowledgements
abbrev pub IsCollectorOf : Node → Proposal → Type 0
IsCollectorOf n p = (p.requester ≡ n.me) ⊎ (has p.requester n.members ≡ false)

-- what a node may expect of a letter of its epoch
unfoldable pub Expected : Node → Body → Type 0
Expected n (RInv r) = (r.stream.node ≢ n.me) × (r.number < r.done + 16)
Expected n (RVal s done) = s.node ≢ n.me
Expected n (OInv x p) = IsArbiterOf n p.base_place × KeepsOwner n x p.base p.base_place
Expected n (OAck x p c) = IsCollectorOf n p × KeepsOwner n x p.base p.base_place × KeepsOwnerIn n x p
Expected n (OVal x stamp place) = KeepsOwner n x stamp place
Expected n _ = Unit {0}

-- the outcome is no refusal that never comes
unfoldable pub MayCome : Outcome → Type 0
MayCome outcome = IsNeverRefused outcome → ⊥

taken-may : MayCome Taken
unfolding MayCome IsNeverRefused
taken-may b = b

again-may : MayCome Again
unfolding MayCome IsNeverRefused
again-may b = b

gap-may : (k : ℕ) → MayCome (Gap k)
unfolding MayCome IsNeverRefused
gap-may k b = b

older-may : (t : Stamp) → MayCome (Older t)
unfolding MayCome IsNeverRefused
older-may t b = b

settled-may : (t : Stamp) → MayCome (Settled t)
unfolding MayCome IsNeverRefused
settled-may t b = b

refused-may : (c : Cause) → MayStand (Some c) → MayCome (Refused c)
unfolding MayCome IsNeverRefused MayStand
refused-may c h = h

-- ---- entries

-- a raise leaves no entry behind that the letter does not know
raise-room : (n : Node) (t : Stream) (d k : ℕ) → k < d + 16 → next_kept (log (raise n t d) t) ≡ k → length (log (raise n t d) t).kept ≡ 16 → ⊥
unfolding raise
raise-room n t d k near =
    let done = (log n t).done in
    let x = after_passing n (take (d - done) (log n t).kept) in
    let l : StreamLog = record { done = d; kept = drop (d - done) (log n t).kept } in
    cond_both (nat_lt done d) (with_log x t l) n (λ (y : Node). next_kept (log y t) ≡ k → length (log y t).kept ≡ 16 → ⊥)
    (λ _. rw (log-with_log_same x t l) (λ next full. absurd (omega arith)))
    (λ h next full. absurd (omega (arith, ltb-false done d h)))

stored-may : (n : Node) (from : ℕ) (r : Invalidation) → (next_kept (log n r.stream) ≡ r.number → length (log n r.stream).kept ≡ 16 → ⊥) → MayCome (stored_rinv n from r).answer
unfolding stored_rinv
stored-may n from r room =
    let next = next_kept (log n r.stream) in
    cond_both (nat_lt r.number next) _ _ (λ (d : Did Outcome). MayCome d.answer)
    (λ _. again-may)
    (λ not_less. cond_both (nat_lt next r.number) _ _ (λ (d : Did Outcome). MayCome d.answer)
    (λ _. gap-may next)
    (λ not_more. cond_both (length (log n r.stream).kept == 16) _ _ (λ (d : Did Outcome). MayCome d.answer)
    (λ full. absurd (room (omega (arith, ltb-false r.number next not_less, ltb-false next r.number not_more)) (eqb-true (length (log n r.stream).kept) 16 full)))
    (λ _. taken-may)))

rinv-may : (n : Node) (from : ℕ) (r : Invalidation) → r.stream.node ≢ n.me → r.number < r.done + 16 → MayCome (on_rinv n from r).answer
unfolding on_rinv
rinv-may n from r foreign near =
    cond_both (r.stream.node == n.me) _ _ (λ (d : Did Outcome). MayCome d.answer)
    (λ own. absurd (foreign (eqb-true r.stream.node n.me own)))
    (λ _. stored-may (raise n r.stream r.done) from r (raise-room n r.stream r.done r.number near))

own_rack-may : (n : Node) (from s number : ℕ) → MayCome (on_own_rack n from s number).answer
unfolding on_own_rack
own_rack-may n from s number = cond_both (is_within number (slot n s).done (length (slot n s).pending) && _) _ _ (λ (d : Did Outcome). MayCome d.answer) (λ _. taken-may) (λ _. again-may)

kept_rack-may : (n : Node) (from : ℕ) (s : Stream) (number : ℕ) → MayCome (on_kept_rack n from s number).answer
unfolding on_kept_rack
kept_rack-may n from s number = cond_both (is_within number (log n s).done (length (log n s).kept) && _) _ _ (λ (d : Did Outcome). MayCome d.answer) (λ _. taken-may) (λ _. again-may)

rack-may : (n : Node) (from : ℕ) (s : Stream) (number : ℕ) → MayCome (on_rack n from s number).answer
unfolding on_rack
rack-may n from s number = cond_both (s.node == n.me) _ _ (λ (d : Did Outcome). MayCome d.answer) (λ _. own_rack-may n from s.slot number) (λ _. kept_rack-may n from s number)

rval-may : (n : Node) (s : Stream) (d : ℕ) → s.node ≢ n.me → MayCome (on_rval n s d).answer
unfolding on_rval
rval-may n s d foreign =
    cond_both (s.node == n.me) _ _ (λ (x : Did Outcome). MayCome x.answer)
    (λ own. absurd (foreign (eqb-true s.node n.me own)))
    (λ _. cond_both (nat_lt (log n s).done d) _ _ (λ (x : Did Outcome). MayCome x.answer) (λ _. taken-may) (λ _. again-may))

-- ---- requests

request_answer-may : (n : Node) (from x : ℕ) (want : Want) (cause : Option Cause) → MayStand cause → MayCome (answer_request n from x want cause).answer
unfolding answer_request
request_answer-may n from x want (Some c) h = refused-may c h
request_answer-may n from x want None h = taken-may

oreq-may : (n : Node) (from x : ℕ) (want : Want) → MayCome (on_oreq n from x want).answer
unfolding on_oreq
oreq-may n from x want = request_answer-may n from x want (request_cause n x from want) (request-may n x from want)

-- ---- the base of a proposal is settled on the way

takes_over-not : (n : Node) (x : ℕ) (place : Place) → (place.owner ≡ n.me → (entry n x).place.owner ≡ n.me) → takes_over n x place ≡ false
unfolding takes_over
takes_over-not n x place h =
    elim (cases_Bool (place.owner == n.me)) [
      | inl same ↦ rw (same, eq-eqb (entry n x).place.owner n.me (h (eqb-true place.owner n.me same))) refl
      | inr other ↦ rw other refl
    ]

-- what a node is where the base of a proposal is no longer above its settled stamp
pub record IsOnBase (n : Node) (x : ℕ) (p : Proposal) (m : Node) : Type 0 where
  pub keeps : Keeps n m
  pub either : ((m ≡ n) × (is_below (entry n x).stamp p.base ≡ false)) ⊎ ((entry m x).place ≡ p.base_place)

unfoldable IsRebased : Node → ℕ → Proposal → Option Node → Type 0
IsRebased n x p None = ⊥
IsRebased n x p (Some m) = IsOnBase n x p m

rebased-some : (n : Node) (x : ℕ) (p : Proposal) → KeepsOwner n x p.base p.base_place → IsRebased n x p (rebased n x p)
unfolding rebased IsRebased
rebased-some n x p owner =
    let settled : Option Node = Some (settle n x p.base p.base_place) in
    cond_both (is_below (entry n x).stamp p.base) (if takes_over n x p.base_place then None else settled) (Some n) (λ (o : Option Node). IsRebased n x p o)
    (λ below. rw (takes_over-not n x p.base_place (owner below)) record { keeps = Keeps-settle n x p.base p.base_place; either = inr (ap (λ (e : Entry). e.place) (settle-entry n x p.base p.base_place below)) })
    (λ not_below. record { keeps = Keeps-refl n; either = inl (refl, not_below) })

-- ---- a proposal at an arbiter

refusal-may : (cause : Cause) → MayStand (Some cause) → MayCome (refusal cause)
unfolding refusal
refusal-may (Proposed stamp) h = older-may stamp
refusal-may OwnStream h = refused-may OwnStream h
refusal-may Window h = refused-may Window h
refusal-may NotDirectory h = refused-may NotDirectory h
refusal-may Owns h = refused-may Owns h
refusal-may HasCopy h = refused-may HasCopy h
refusal-may NotReader h = refused-may NotReader h
refusal-may NoSource h = refused-may NoSource h
refusal-may Degree h = refused-may Degree h
refusal-may IsSource h = refused-may IsSource h
refusal-may WornOut h = refused-may WornOut h
refusal-may NoCopy h = refused-may NoCopy h
refusal-may (Held s) h = refused-may (Held s) h
refusal-may (NotValid state) h = refused-may (NotValid state) h
refusal-may (Kept s) h = refused-may (Kept s) h
refusal-may NotArbiter h = refused-may NotArbiter h
refusal-may NotCollector h = refused-may NotCollector h
refusal-may OwnPlace h = refused-may OwnPlace h

hold_or_refuse-may : (n : Node) (from x : ℕ) (p : Proposal) (cause : Option Cause) → MayStand cause → MayCome (hold_or_refuse n from x p cause).answer
unfolding hold_or_refuse
hold_or_refuse-may n from x p (Some c) h = refusal-may c h
hold_or_refuse-may n from x p None h = cond_both (is_held p (entry n x).proposal) Again Taken (λ (o : Outcome). MayCome o) (λ _. again-may) (λ _. taken-may)

arbiter-kept : (n m : Node) (place : Place) → Keeps n m → IsArbiterOf n place → IsArbiterOf m place
arbiter-kept n m place k a = rw (k.me, k.directory, k.members) a

oinv_on_base-may : (n : Node) (from x : ℕ) (p : Proposal) (base : Option Node) → IsArbiterOf n p.base_place → IsRebased n x p base → MayCome (oinv_on_base n from x p base).answer
unfolding oinv_on_base IsRebased
oinv_on_base-may n from x p None arbiter r = absurd r
oinv_on_base-may n from x p (Some m) arbiter r = hold_or_refuse-may m from x p (hold_cause m x p) (hold-may m x p (arbiter-kept n m p.base_place r.keeps arbiter))

oinv-may : (n : Node) (from x : ℕ) (p : Proposal) → IsArbiterOf n p.base_place → KeepsOwner n x p.base p.base_place → MayCome (on_oinv n from x p).answer
unfolding on_oinv
oinv-may n from x p arbiter owner =
    cond_both (is_below (entry n x).stamp p.stamp) _ _ (λ (d : Did Outcome). MayCome d.answer)
    (λ _. oinv_on_base-may n from x p (rebased n x p) arbiter (rebased-some n x p owner))
    (λ _. settled-may (entry n x).stamp)

-- ---- a decided placement

oval-may : (n : Node) (x : ℕ) (stamp : Stamp) (place : Place) → KeepsOwner n x stamp place → MayCome (on_oval n x stamp place).answer
unfolding on_oval
oval-may n x stamp place owner =
    cond_both (is_below (entry n x).stamp stamp) _ _ (λ (d : Did Outcome). MayCome d.answer)
    (λ below. rw (takes_over-not n x place (owner below)) taken-may)
    (λ _. again-may)

-- ---- an acknowledgement at the collector

and_false : (a b : Bool) → (a ≡ false) ⊎ (b ≡ false) → (a && b) ≡ false
and_false false b h = refl
and_false true false h = refl
and_false true true h = elim h [ inl e ↦ absurd cc | inr e ↦ absurd cc ]

both_none : (a b : Bool) (c d : Cause) → a ≡ false → b ≡ false → or_else (where_true a c) (where_true b d) ≡ None
unfolding or_else where_true
both_none a b c d e f = rw (e, f) refl

collects : (n : Node) (p : Proposal) → IsCollectorOf n p → (has p.requester n.members && not (p.requester == n.me)) ≡ false
collects n p (inl mine) = and_false (has p.requester n.members) (not (p.requester == n.me)) (inr (rw (eq-eqb p.requester n.me mine) refl))
collects n p (inr out) = and_false (has p.requester n.members) (not (p.requester == n.me)) (inl out)

takes_nothing : (n : Node) (x : ℕ) (p : Proposal) → ((new_place p).owner ≡ n.me → p.requester ≢ n.me → (entry n x).place.owner ≡ n.me)
    → (takes_over n x (new_place p) && not (p.requester == n.me)) ≡ false
takes_nothing n x p h =
    elim (cases_Bool (p.requester == n.me)) [
      | inl mine ↦ and_false (takes_over n x (new_place p)) (not (p.requester == n.me)) (inr (rw mine refl))
      | inr other ↦ and_false (takes_over n x (new_place p)) (not (p.requester == n.me))
          (inl (takes_over-not n x (new_place p) (λ named. h named (eqb-false p.requester n.me other))))
    ]

collect_cause-none : (n : Node) (x : ℕ) (p : Proposal) → IsCollectorOf n p → ((new_place p).owner ≡ n.me → p.requester ≢ n.me → (entry n x).place.owner ≡ n.me)
    → collect_cause n x p ≡ None
unfolding collect_cause
collect_cause-none n x p collector owner = both_none _ _ NotCollector OwnPlace (collects n p collector) (takes_nothing n x p owner)

collector-kept : (n m : Node) (p : Proposal) → Keeps n m → IsCollectorOf n p → IsCollectorOf m p
collector-kept n m p k a = rw (k.me, k.members) a

-- the owner of the placement that the proposal makes, where the base is settled
pub owner-settled : (place : Place) (p : Proposal) (me : ℕ) → place ≡ p.base_place → (new_place p).owner ≡ me → p.requester ≢ me → place.owner ≡ me
owner-settled place p me is named other =
    elim (new_place-owner p) [
      | inl requester ↦ absurd (other (sym requester ∙ named))
      | inr owner ↦ ap (λ (q : Place). q.owner) is ∙ sym owner ∙ named
    ]

owner-same : (n m : Node) (x : ℕ) (p : Proposal) → m ≡ n → is_below (entry n x).stamp p.base ≡ false → is_below (entry n x).stamp p.stamp ≡ true → KeepsOwnerIn n x p
    → (new_place p).owner ≡ m.me → p.requester ≢ m.me → (entry m x).place.owner ≡ m.me
owner-same n m x p is not_below below owner = rw is (λ named other. owner not_below below named other)

owner-on_base : (n m : Node) (x : ℕ) (p : Proposal) → IsOnBase n x p m → is_below (entry n x).stamp p.stamp ≡ true → KeepsOwnerIn n x p
    → (new_place p).owner ≡ m.me → p.requester ≢ m.me → (entry m x).place.owner ≡ m.me
owner-on_base n m x p r below owner named other =
    elim r.either [
      | inl same ↦ owner-same n m x p same.0 same.1 below owner named other
      | inr settled ↦ owner-settled (entry m x).place p m.me settled named other
    ]

take_ack-may : (n : Node) (from x : ℕ) (c : Option Content) (g : Gather) → MayCome (take_ack n from x c g).answer
unfolding take_ack
take_ack-may n from x c g = cond_both (is_noted g from c) Again Taken (λ (o : Outcome). MayCome o) (λ _. again-may) (λ _. taken-may)

gather_or_older-may : (n : Node) (from x : ℕ) (p : Proposal) (c : Option Content) (older : Option Stamp) → MayCome (gather_or_older n from x p c older).answer
unfolding gather_or_older
gather_or_older-may n from x p c (Some stamp) = older-may stamp
gather_or_older-may n from x p c None = take_ack-may n from x c (gather_for p (gather n x))

collect-may : (n : Node) (from x : ℕ) (p : Proposal) (c : Option Content) (cause : Option Cause) → cause ≡ None → MayCome (collect_or_refuse n from x p c cause).answer
unfolding collect_or_refuse
collect-may n from x p c (Some cause) h = absurd cc
collect-may n from x p c None h = gather_or_older-may n from x p c (greater_gather p.stamp (gather n x))

oack_on_base-may : (n : Node) (from x : ℕ) (p : Proposal) (c : Option Content) (base : Option Node) → IsCollectorOf n p → KeepsOwnerIn n x p → is_below (entry n x).stamp p.stamp ≡ true
    → IsRebased n x p base → MayCome (oack_on_base n from x p c base).answer
unfolding oack_on_base IsRebased
oack_on_base-may n from x p c None collector owner below r = absurd r
oack_on_base-may n from x p c (Some m) collector owner below r =
    collect-may m from x p c (collect_cause m x p) (collect_cause-none m x p (collector-kept n m p r.keeps collector) (owner-on_base n m x p r below owner))

oack-may : (n : Node) (from x : ℕ) (p : Proposal) (c : Option Content) → IsCollectorOf n p → KeepsOwner n x p.base p.base_place → KeepsOwnerIn n x p
    → MayCome (on_oack n from x p c).answer
unfolding on_oack
oack-may n from x p c collector base_owner owner =
    cond_both (is_below (entry n x).stamp p.stamp) _ _ (λ (d : Did Outcome). MayCome d.answer)
    (λ below. oack_on_base-may n from x p c (rebased n x p) collector owner below (rebased-some n x p base_owner))
    (λ _. settled-may (entry n x).stamp)

recovered-may : (n : Node) (from : ℕ) → MayCome (on_recovered n from).answer
unfolding on_recovered
recovered-may n from = cond_both (has from n.reported) _ _ (λ (d : Did Outcome). MayCome d.answer) (λ _. again-may) (λ _. taken-may)

-- ---- each letter

-- if a node may expect a letter, then what it answers may come
pub row-may : (body : Body) (n : Node) (from : ℕ) → Expected n body → MayCome (row n from body).answer
unfolding row Expected
row-may (RInv r) n from e = rinv-may n from r e.0 e.1
row-may (RAck s number) n from e = rack-may n from s number
row-may (RVal s done) n from e = rval-may n s done e
row-may (OReq x want) n from e = oreq-may n from x want
row-may (OInv x p) n from e = oinv-may n from x p e.0 e.1
row-may (OAck x p c) n from e = oack-may n from x p c e.0 e.1 e.2
row-may (ONack x stamp cause) n from e = taken-may
row-may (OVal x stamp place) n from e = oval-may n x stamp place e
row-may Recovered n from e = recovered-may n from
