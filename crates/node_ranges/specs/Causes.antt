-- The causes of refusals fit: a stamp that they name is of a node, and a slot is one that there is.
use Rattle.std.specs.Prelude.{ℕ, zero, suc, ◌≡◌, ◌+◌, ◌<◌, ◌==◌, ◌||◌, ◌&&◌, ◌^◌, ◌-◌, not, nat_lt, Bool, true, false, length, Option, Some, None, is_none, refl}
use Rattle.std.proofs.Common.{arith}
use Rattle.std.proofs.lemmas.Bool.{cond_both, lt-ltb}
use Rattle.zeus_base.specs.Nodes.{has, meet}
use Rattle.zeus_base.specs.Order.{is_below}
use Rattle.zeus_base.specs.Tables.{numbers_from}
use Rattle.zeus_base.specs.declared.config.Limits.{Limits}
use Rattle.zeus_base.specs.declared.order.Stamp.{Stamp}
use Rattle.zeus_packet.specs.Fits.{cause_fits}
use Rattle.zeus_packet.specs.Place.{source}
use Rattle.zeus_packet.specs.declared.letter.Cause.{Cause}
use Rattle.zeus_packet.specs.declared.letter.Cause.TheVariants.{NotDirectory, Proposed, Owns, HasCopy, NotReader, NoSource, Degree, IsSource, WornOut, NotArbiter}
use Rattle.zeus_packet.specs.declared.letter.State.{State}
use Rattle.zeus_packet.specs.declared.place.Place.{Place}
use Rattle.zeus_packet.specs.declared.place.Proposal.{Proposal}
use Rattle.zeus_packet.specs.declared.place.Want.{Want}
use Rattle.zeus_packet.specs.declared.place.Want.TheVariants.{Own, Read, Leave}
use Rattle.zeus_model.specs.declared.state.Copy.{Copy}
use Rattle.zeus_model.specs.Ownership.{is_node, is_source, keeps, keeper, missing_cause, held_cause, not_valid, state_refused, state_cause, kept_by, kept_cause, unready_cause, source_cause, proposed_cause, want_cause, exceeds, leave_cause, drive_cause, request_cause, greater_cause, is_held, accept_cause, hold_cause}
use Rattle.zeus_model.specs.State.{Node, entry, copy, slot, pending_names, holder}
use Rattle.zeus_model.specs.Tables.{or_else, where_true, first_of}
use Rattle.node_ranges.specs.Places.{proposal_fits-parts}
use Rattle.node_ranges.specs.Ranges.{FitsHeld, KeepsRanges}

-- a cause fits, where there is one
unfoldable pub CauseFits : Limits → Option Cause → Type 0
CauseFits limits None = Unit {0}
CauseFits limits (Some c) = cause_fits limits c ≡ true

-- the first of two causes fits where both do
pub CauseFits-or_else : (limits : Limits) (a b : Option Cause) → CauseFits limits a → CauseFits limits b → CauseFits limits (or_else a b)
unfolding or_else
CauseFits-or_else limits None b h g = g
CauseFits-or_else limits (Some c) b h g = h

-- a cause that stands where a test holds fits where the cause does
pub CauseFits-where : (limits : Limits) (test : Bool) (c : Cause) → cause_fits limits c ≡ true → CauseFits limits (where_true test c)
unfolding where_true CauseFits
CauseFits-where limits true c h = h
CauseFits-where limits false c h = tt

-- ---- slots

-- a slot that a search among the first slots finds is one of them
first_slot : (test : ℕ → Bool) (i k s : ℕ) → first_of (λ t. where_true (test t) t) (numbers_from i k) ≡ Some s → s < i + k
unfolding first_of or_else where_true numbers_from
first_slot test i zero s h = absurd cc
first_slot test i (suc k) s h =
    elim (test i) as (λ b. or_else (where_true b i) (first_of (λ t. where_true (test t) t) (numbers_from (suc i) k)) ≡ Some s → s < i + suc k) [
      | true ↦ λ here. let same : i ≡ s = cc in omega arith
      | false ↦ λ later. omega (arith, first_slot test (suc i) k s later)
    ] h

-- the slot that holds an object is one that there is
pub holder-within : (limits : Limits) (n : Node) (x s : ℕ) → KeepsRanges limits n → holder n x ≡ Some s → s < limits.slots
unfolding holder
holder-within limits n x s k h =
    let found = first_slot (λ t. pending_names x (slot n t).pending) 0 (length n.slots) s h in
    omega (arith, k.sizes.slots)

-- so is the one that keeps it
pub keeper-within : (limits : Limits) (n : Node) (x s : ℕ) → KeepsRanges limits n → keeper n x ≡ Some s → s < limits.slots
unfolding keeper
keeper-within limits n x s k h =
    let found = first_slot (λ t. keeps x (slot n t).current) 0 (length n.slots) s h in
    omega (arith, k.sizes.slots)

-- ---- the causes of a source

missing-fits : (limits : Limits) (c : Option Copy) → CauseFits limits (missing_cause c)
unfolding CauseFits missing_cause cause_fits
missing-fits limits None = refl
missing-fits limits (Some c) = tt

held-fits : (limits : Limits) (o : Option ℕ) → ((s : ℕ) → o ≡ Some s → s < limits.slots) → CauseFits limits (held_cause o)
unfolding CauseFits held_cause cause_fits
held-fits limits None h = tt
held-fits limits (Some s) h = lt-ltb s limits.slots (h s refl)

kept-fits : (limits : Limits) (o : Option ℕ) → ((s : ℕ) → o ≡ Some s → s < limits.slots) → CauseFits limits (kept_by o)
unfolding CauseFits kept_by cause_fits
kept-fits limits None h = tt
kept-fits limits (Some s) h = lt-ltb s limits.slots (h s refl)

state_refused-fits : (limits : Limits) (s : Option State) → CauseFits limits (state_refused s)
unfolding CauseFits state_refused cause_fits
state_refused-fits limits None = tt
state_refused-fits limits (Some s) = refl

state-fits : (limits : Limits) (c : Option Copy) → CauseFits limits (state_cause c)
unfolding CauseFits state_cause
state-fits limits None = tt
state-fits limits (Some c) = state_refused-fits limits (not_valid c.state)

kept_cause-fits : (limits : Limits) (n : Node) (x requester : ℕ) → KeepsRanges limits n → CauseFits limits (kept_cause n x requester)
unfolding kept_cause CauseFits
kept_cause-fits limits n x requester k =
    cond_both (nat_lt n.me requester) (kept_by (keeper n x)) None (λ o. CauseFits limits o) (λ _. kept-fits limits (keeper n x) (λ s is. keeper-within limits n x s k is)) (λ _. tt)

unready-fits : (limits : Limits) (n : Node) (x : ℕ) → KeepsRanges limits n → CauseFits limits (unready_cause n x)
unfolding unready_cause
unready-fits limits n x k =
    CauseFits-or_else limits (missing_cause (copy n x)) (or_else (held_cause (holder n x)) (state_cause (copy n x))) (missing-fits limits (copy n x))
    (CauseFits-or_else limits (held_cause (holder n x)) (state_cause (copy n x)) (held-fits limits (holder n x) (λ s is. holder-within limits n x s k is)) (state-fits limits (copy n x)))

source-fits : (limits : Limits) (n : Node) (x requester : ℕ) → KeepsRanges limits n → CauseFits limits (source_cause n x requester)
unfolding source_cause
source-fits limits n x requester k =
    CauseFits-or_else limits (unready_cause n x) (kept_cause n x requester) (unready-fits limits n x k) (kept_cause-fits limits n x requester k)

-- ---- the causes of a driver

proposed-fits : (limits : Limits) (p : Option Proposal) → FitsHeld limits p → CauseFits limits (proposed_cause p)
unfolding CauseFits proposed_cause cause_fits FitsHeld
proposed-fits limits None h = tt
proposed-fits limits (Some p) h = (proposal_fits-parts limits p h).stamp

want-fits : (limits : Limits) (want : Want) (requester : ℕ) (place : Place) → CauseFits limits (want_cause want requester place)
unfolding want_cause cause_fits
want-fits limits Own requester place = CauseFits-where limits (place.owner == requester) Owns refl
want-fits limits Read requester place = CauseFits-where limits (has requester place.replicas) HasCopy refl
want-fits limits Leave requester place = CauseFits-where limits ((place.owner == requester) || not (has requester place.replicas)) NotReader refl

leave-fits : (limits : Limits) (want : Want) (n : Node) (requester : ℕ) (place : Place) → CauseFits limits (leave_cause want n requester place)
unfolding leave_cause CauseFits cause_fits
leave-fits limits Own n requester place = tt
leave-fits limits Read n requester place = tt
leave-fits limits Leave n requester place =
    CauseFits-or_else limits (where_true (not (exceeds n.degree (length (meet place.replicas n.members)))) Degree) (where_true (is_node (source place n.members) requester) IsSource)
    (CauseFits-where limits _ Degree refl) (CauseFits-where limits _ IsSource refl)

drive-fits : (limits : Limits) (n : Node) (x requester : ℕ) (want : Want) → x < limits.objects → KeepsRanges limits n → CauseFits limits (drive_cause n x requester want)
unfolding drive_cause cause_fits
drive-fits limits n x requester want less k =
    let e = entry n x in
    CauseFits-or_else limits _ _ (CauseFits-where limits (not (has n.me n.directory)) NotDirectory refl)
    (CauseFits-or_else limits _ _ (proposed-fits limits e.proposal (k.entries x less).proposal)
    (CauseFits-or_else limits _ _ (want-fits limits want requester e.place)
    (CauseFits-or_else limits _ _ (CauseFits-where limits (is_none (source e.place n.members)) NoSource refl)
    (CauseFits-or_else limits _ _ (leave-fits limits want n requester e.place) (CauseFits-where limits (e.stamp.ver == 2 ^ 64 - 1) WornOut refl)))))

-- the cause that a request is refused for fits
pub request-fits : (limits : Limits) (n : Node) (x requester : ℕ) (want : Want) → x < limits.objects → KeepsRanges limits n → CauseFits limits (request_cause n x requester want)
unfolding request_cause CauseFits
request-fits limits n x requester want less k =
    CauseFits-or_else limits (drive_cause n x requester want) _ (drive-fits limits n x requester want less k)
    (cond_both (is_source n (entry n x).place) (source_cause n x requester) None (λ o. CauseFits limits o) (λ _. source-fits limits n x requester k) (λ _. tt))

-- ---- the causes of an arbiter

greater-fits : (limits : Limits) (stamp : Stamp) (p : Option Proposal) → FitsHeld limits p → CauseFits limits (greater_cause stamp p)
unfolding CauseFits greater_cause FitsHeld cause_fits
greater-fits limits stamp None h = tt
greater-fits limits stamp (Some q) h = CauseFits-where limits (is_below stamp q.stamp) (Proposed q.stamp) (proposal_fits-parts limits q h).stamp

accept-fits : (limits : Limits) (n : Node) (x : ℕ) (p : Proposal) → KeepsRanges limits n → CauseFits limits (accept_cause n x p)
unfolding accept_cause CauseFits
accept-fits limits n x p k =
    CauseFits-or_else limits (unready_cause n x) _ (unready-fits limits n x k)
    (cond_both (is_held p (entry n x).proposal) None (kept_cause n x p.requester) (λ o. CauseFits limits o) (λ _. tt) (λ _. kept_cause-fits limits n x p.requester k))

-- the cause that a proposal is refused for fits
pub hold-fits : (limits : Limits) (n : Node) (x : ℕ) (p : Proposal) → x < limits.objects → KeepsRanges limits n → CauseFits limits (hold_cause n x p)
unfolding hold_cause CauseFits cause_fits
hold-fits limits n x p less k =
    CauseFits-or_else limits _ _ (CauseFits-where limits (not (has n.me n.directory) && not (is_source n p.base_place)) NotArbiter refl)
    (CauseFits-or_else limits _ _ (greater-fits limits p.stamp (entry n x).proposal (k.entries x less).proposal)
    (cond_both (is_source n p.base_place) (accept_cause n x p) None (λ o. CauseFits limits o) (λ _. accept-fits limits n x p k) (λ _. tt)))
