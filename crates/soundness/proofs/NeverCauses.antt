-- The causes for which a node does refuse requests and proposals.
use Rattle.std.specs.Prelude.{ℕ, ◌≡◌, Bool, true, false, ◌&&◌, ◌||◌, not, ◌==◌, nat_lt, length, Option, Some, None, ◌⊎◌, if◌then◌else◌}
use Rattle.std.proofs.Common.{refl, inl, inr}
use Rattle.zeus_base.specs.Nodes.{has, meet}
use Rattle.zeus_base.specs.Order.{is_below}
use Rattle.zeus_base.specs.declared.order.Stamp.{Stamp}
use Rattle.zeus_packet.specs.Place.{source}
use Rattle.zeus_packet.specs.declared.letter.Cause.{Cause}
use Rattle.zeus_packet.specs.declared.letter.Cause.TheVariants.{NotDirectory, Proposed, Owns, HasCopy, NotReader, NoSource, Degree, IsSource, WornOut, NotArbiter}
use Rattle.zeus_packet.specs.declared.letter.State.{State}
use Rattle.zeus_packet.specs.declared.place.Place.{Place}
use Rattle.zeus_packet.specs.declared.place.Proposal.{Proposal}
use Rattle.zeus_packet.specs.declared.place.Want.{Want}
use Rattle.zeus_packet.specs.declared.place.Want.TheVariants.{Own, Read, Leave}
use Rattle.zeus_model.specs.declared.state.Copy.{Copy}
use Rattle.zeus_model.specs.Tables.{or_else, where_true}
use Rattle.zeus_model.specs.State.{Node, entry, copy, holder}
use Rattle.zeus_model.specs.Ownership.{is_source, is_held, keeper, missing_cause, held_cause, not_valid, state_refused, state_cause, kept_by, kept_cause, unready_cause, source_cause, proposed_cause, want_cause, exceeds, is_node, leave_cause, drive_cause, request_cause, greater_cause, accept_cause, hold_cause}
use Rattle.soundness.specs.Refusals.{NeverStands}

-- where there is a cause, it may stand
unfoldable pub MayStand : Option Cause → Type 0
MayStand None = Unit {0}
MayStand (Some cause) = NeverStands cause → ⊥

or_else-may : (a b : Option Cause) → MayStand a → MayStand b → MayStand (or_else a b)
unfolding or_else MayStand
or_else-may None b f g = g
or_else-may (Some c) b f g = f

where_true-may : (test : Bool) (cause : Cause) → (NeverStands cause → ⊥) → MayStand (where_true test cause)
unfolding where_true MayStand
where_true-may true cause h = h
where_true-may false cause h = tt

if-may : (test : Bool) (a b : Option Cause) → MayStand a → MayStand b → MayStand (if test then a else b)
if-may true a b f g = f
if-may false a b f g = g

none-may : MayStand None
unfolding MayStand
none-may = tt

-- ---- the causes of a source

missing-may : (c : Option Copy) → MayStand (missing_cause c)
unfolding missing_cause MayStand NeverStands
missing-may None = λ b. b
missing-may (Some c) = tt

held-may : (s : Option ℕ) → MayStand (held_cause s)
unfolding held_cause MayStand NeverStands
held-may None = tt
held-may (Some s) = λ b. b

refused-may : (s : Option State) → MayStand (state_refused s)
unfolding state_refused MayStand NeverStands
refused-may None = tt
refused-may (Some s) = λ b. b

state-may : (c : Option Copy) → MayStand (state_cause c)
unfolding state_cause
state-may None = none-may
state-may (Some c) = refused-may (not_valid c.state)

kept_by-may : (s : Option ℕ) → MayStand (kept_by s)
unfolding kept_by MayStand NeverStands
kept_by-may None = tt
kept_by-may (Some s) = λ b. b

kept-may : (n : Node) (x requester : ℕ) → MayStand (kept_cause n x requester)
unfolding kept_cause
kept-may n x requester = if-may (nat_lt n.me requester) (kept_by (keeper n x)) None (kept_by-may (keeper n x)) none-may

unready-may : (n : Node) (x : ℕ) → MayStand (unready_cause n x)
unfolding unready_cause
unready-may n x =
    or_else-may (missing_cause (copy n x)) (or_else (held_cause (holder n x)) (state_cause (copy n x))) (missing-may (copy n x))
    (or_else-may (held_cause (holder n x)) (state_cause (copy n x)) (held-may (holder n x)) (state-may (copy n x)))

source-may : (n : Node) (x requester : ℕ) → MayStand (source_cause n x requester)
unfolding source_cause
source-may n x requester = or_else-may (unready_cause n x) (kept_cause n x requester) (unready-may n x) (kept-may n x requester)

-- ---- the causes against a request

proposed-may : (p : Option Proposal) → MayStand (proposed_cause p)
unfolding proposed_cause MayStand NeverStands
proposed-may None = tt
proposed-may (Some p) = λ b. b

directory_stands : NeverStands NotDirectory → ⊥
unfolding NeverStands
directory_stands b = b

owns_stands : NeverStands Owns → ⊥
unfolding NeverStands
owns_stands b = b

copy_stands : NeverStands HasCopy → ⊥
unfolding NeverStands
copy_stands b = b

reader_stands : NeverStands NotReader → ⊥
unfolding NeverStands
reader_stands b = b

no_source_stands : NeverStands NoSource → ⊥
unfolding NeverStands
no_source_stands b = b

degree_stands : NeverStands Degree → ⊥
unfolding NeverStands
degree_stands b = b

source_stands : NeverStands IsSource → ⊥
unfolding NeverStands
source_stands b = b

worn_stands : NeverStands WornOut → ⊥
unfolding NeverStands
worn_stands b = b

want-may : (want : Want) (requester : ℕ) (place : Place) → MayStand (want_cause want requester place)
unfolding want_cause
want-may Own requester place = where_true-may (place.owner == requester) Owns owns_stands
want-may Read requester place = where_true-may (has requester place.replicas) HasCopy copy_stands
want-may Leave requester place = where_true-may ((place.owner == requester) || not (has requester place.replicas)) NotReader reader_stands

leave-may : (want : Want) (n : Node) (requester : ℕ) (place : Place) → MayStand (leave_cause want n requester place)
unfolding leave_cause
leave-may Own n requester place = none-may
leave-may Read n requester place = none-may
leave-may Leave n requester place =
    or_else-may (where_true (not (exceeds n.degree (length (meet place.replicas n.members)))) Degree) (where_true (is_node (source place n.members) requester) IsSource)
    (where_true-may (not (exceeds n.degree (length (meet place.replicas n.members)))) Degree degree_stands)
    (where_true-may (is_node (source place n.members) requester) IsSource source_stands)

-- the cause for which a node refuses a request is one that may stand
pub request-may : (n : Node) (x requester : ℕ) (want : Want) → MayStand (request_cause n x requester want)
unfolding request_cause drive_cause
request-may n x requester want =
    or_else-may _ _
    (or_else-may _ _ (where_true-may _ NotDirectory directory_stands)
    (or_else-may _ _ (proposed-may (entry n x).proposal)
    (or_else-may _ _ (want-may want requester (entry n x).place)
    (or_else-may _ _ (where_true-may _ NoSource no_source_stands)
    (or_else-may _ _ (leave-may want n requester (entry n x).place) (where_true-may _ WornOut worn_stands))))))
    (if-may (is_source n (entry n x).place) (source_cause n x requester) None (source-may n x requester) none-may)

-- ---- the causes against a proposal at an arbiter

proposed_stands : (s : Stamp) → NeverStands (Proposed s) → ⊥
unfolding NeverStands
proposed_stands s b = b

greater-may : (stamp : Stamp) (p : Option Proposal) → MayStand (greater_cause stamp p)
unfolding greater_cause
greater-may stamp None = none-may
greater-may stamp (Some q) = where_true-may (is_below stamp q.stamp) (Proposed q.stamp) (proposed_stands q.stamp)

accept-may : (n : Node) (x : ℕ) (p : Proposal) → MayStand (accept_cause n x p)
unfolding accept_cause
accept-may n x p =
    or_else-may (unready_cause n x) (if is_held p (entry n x).proposal then None else kept_cause n x p.requester) (unready-may n x)
    (if-may (is_held p (entry n x).proposal) None (kept_cause n x p.requester) none-may (kept-may n x p.requester))

-- a directory node, or the source of the base
abbrev pub IsArbiterOf : Node → Place → Type 0
IsArbiterOf n place = (has n.me n.directory ≡ true) ⊎ (is_source n place ≡ true)

no_arbiter : (directory at_source : Bool) → (directory ≡ true) ⊎ (at_source ≡ true) → (not directory && not at_source) ≡ false
no_arbiter true at_source h = refl
no_arbiter false true h = refl
no_arbiter false false h = elim h [ inl e ↦ absurd cc | inr e ↦ absurd cc ]

where_false-may : (test : Bool) (cause : Cause) → test ≡ false → MayStand (where_true test cause)
unfolding where_true MayStand
where_false-may true cause h = absurd cc
where_false-may false cause h = tt

-- if a node is an arbiter of a proposal's base, then the cause for which it does not hold the proposal is one that may stand
pub hold-may : (n : Node) (x : ℕ) (p : Proposal) → IsArbiterOf n p.base_place → MayStand (hold_cause n x p)
unfolding hold_cause
hold-may n x p arbiter =
    or_else-may _ _
    (where_false-may (not (has n.me n.directory) && not (is_source n p.base_place)) NotArbiter (no_arbiter (has n.me n.directory) (is_source n p.base_place) arbiter))
    (or_else-may (greater_cause p.stamp (entry n x).proposal) (if is_source n p.base_place then accept_cause n x p else None) (greater-may p.stamp (entry n x).proposal)
    (if-may (is_source n p.base_place) (accept_cause n x p) None (accept-may n x p) none-may))
