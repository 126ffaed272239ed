-- What the rules of letters let pass, and what may stand against a commit.
use Rattle.std.specs.Prelude.{ℕ, ◌≡◌, Bool, true, false, List, [], ◌∷◌, Option, Some, None}
use Rattle.std.proofs.Common.{arith, refl}
use Rattle.zeus_base.specs.declared.order.Stamp.{Stamp}
use Rattle.zeus_base.specs.declared.order.Stream.{Stream}
use Rattle.zeus_base.specs.declared.step.Passed.{Passed}
use Rattle.zeus_packet.specs.declared.letter.Body.{Body}
use Rattle.zeus_packet.specs.declared.letter.Body.TheVariants.{RInv, RAck, RVal, OReq, OInv, OAck, ONack, OVal, Recovered}
use Rattle.zeus_packet.specs.declared.letter.Cause.{Cause}
use Rattle.zeus_packet.specs.declared.letter.RInv.{RInv as Invalidation}
use Rattle.zeus_packet.specs.declared.place.Place.{Place}
use Rattle.zeus_packet.specs.declared.place.Proposal.{Proposal}
use Rattle.zeus_packet.specs.declared.place.Want.{Want}
use Rattle.zeus_packet.specs.declared.write.Content.{Content}
use Rattle.zeus_txn.specs.declared.ops.Op.{Op}
use Rattle.zeus_model.specs.Tables.{or_else, where_true, first_of}
use Rattle.zeus_model.specs.declared.answer.Outcome.{Outcome}
use Rattle.zeus_model.specs.declared.answer.Tried.{Tried}
use Rattle.zeus_model.specs.declared.answer.Tried.TheVariants.{NoCopy, Read, PipeFull, NotOwner, Held, WornOut, Committed}
use Rattle.zeus_model.specs.declared.state.Gather.{Gather}
use Rattle.zeus_model.specs.State.{Node, holder}
use Rattle.zeus_model.specs.Act.{Did}
use Rattle.zeus_model.specs.Commit.{stored_rinv, on_rinv, on_rack, on_own_rack, on_kept_rack, on_rval, raise}
use Rattle.zeus_model.specs.Local.{full_cause, owner_cause, held_elsewhere, holder_cause, worn_cause, write_cause}
use Rattle.zeus_model.specs.Ownership.{answer_request, on_oreq, rebased, hold_cause, hold_or_refuse, oinv_on_base, on_oinv, decide_on, decide_gathered, take_ack, gather_or_older, collect_cause, collect_or_refuse, oack_on_base, on_oack, on_oval, request_cause}
use Rattle.zeus_model.specs.Receive.{on_recovered, row}

-- ---- no rule of a letter lets an entry pass

abbrev IsSilent : Did Outcome → Type 0
IsSilent d = ◌≡◌ {A = List Passed} d.passed []

stored_rinv-silent : (m : Node) (from : ℕ) (r : Invalidation) → IsSilent (stored_rinv m from r)
unfolding stored_rinv
stored_rinv-silent m from r = grind arith

on_rinv-silent : (m : Node) (from : ℕ) (r : Invalidation) → IsSilent (on_rinv m from r)
unfolding on_rinv
on_rinv-silent m from r = grind (arith, stored_rinv-silent (raise m r.stream r.done) from r)

on_rack-silent : (m : Node) (from : ℕ) (t : Stream) (number : ℕ) → IsSilent (on_rack m from t number)
unfolding on_rack on_own_rack on_kept_rack
on_rack-silent m from t number = grind arith

on_rval-silent : (m : Node) (t : Stream) (d : ℕ) → IsSilent (on_rval m t d)
unfolding on_rval
on_rval-silent m t d = grind arith

answer_request-silent : (cause : Option Cause) (m : Node) (from x : ℕ) (want : Want) → IsSilent (answer_request m from x want cause)
unfolding answer_request
answer_request-silent None m from x want = refl
answer_request-silent (Some cause) m from x want = refl

hold_or_refuse-silent : (cause : Option Cause) (m : Node) (from x : ℕ) (p : Proposal) → IsSilent (hold_or_refuse m from x p cause)
unfolding hold_or_refuse
hold_or_refuse-silent None m from x p = refl
hold_or_refuse-silent (Some cause) m from x p = refl

oinv_on_base-silent : (base : Option Node) (m : Node) (from x : ℕ) (p : Proposal) → IsSilent (oinv_on_base m from x p base)
unfolding oinv_on_base
oinv_on_base-silent None m from x p = refl
oinv_on_base-silent (Some k) m from x p = hold_or_refuse-silent (hold_cause k x p) k from x p

on_oinv-silent : (m : Node) (from x : ℕ) (p : Proposal) → IsSilent (on_oinv m from x p)
unfolding on_oinv
on_oinv-silent m from x p = grind (arith, oinv_on_base-silent (rebased m x p) m from x p)

decide_on-silent : (c : Option Content) (m : Node) (x : ℕ) (p : Proposal) → ◌≡◌ {A = List Passed} (decide_on m x p c).passed []
unfolding decide_on
decide_on-silent None m x p = refl
decide_on-silent (Some c) m x p = refl

decide_gathered-silent : (g : Option Gather) (m : Node) (x : ℕ) → ◌≡◌ {A = List Passed} (decide_gathered m x g).passed []
unfolding decide_gathered
decide_gathered-silent None m x = refl
decide_gathered-silent (Some g) m x = grind (arith, decide_on-silent g.content m x g.proposal)

gather_or_older-silent : (older : Option Stamp) (m : Node) (from x : ℕ) (p : Proposal) (c : Option Content) → IsSilent (gather_or_older m from x p c older)
unfolding gather_or_older take_ack
gather_or_older-silent (Some stamp) m from x p c = refl
gather_or_older-silent None m from x p c = decide_gathered-silent _ _ x

collect_or_refuse-silent : (cause : Option Cause) (m : Node) (from x : ℕ) (p : Proposal) (c : Option Content) → IsSilent (collect_or_refuse m from x p c cause)
unfolding collect_or_refuse
collect_or_refuse-silent (Some cause) m from x p c = refl
collect_or_refuse-silent None m from x p c = gather_or_older-silent _ m from x p c

oack_on_base-silent : (base : Option Node) (m : Node) (from x : ℕ) (p : Proposal) (c : Option Content) → IsSilent (oack_on_base m from x p c base)
unfolding oack_on_base
oack_on_base-silent None m from x p c = refl
oack_on_base-silent (Some k) m from x p c = collect_or_refuse-silent (collect_cause k x p) k from x p c

on_oack-silent : (m : Node) (from x : ℕ) (p : Proposal) (c : Option Content) → IsSilent (on_oack m from x p c)
unfolding on_oack
on_oack-silent m from x p c = grind (arith, oack_on_base-silent (rebased m x p) m from x p c)

on_oval-silent : (m : Node) (x : ℕ) (stamp : Stamp) (place : Place) → IsSilent (on_oval m x stamp place)
unfolding on_oval
on_oval-silent m x stamp place = grind arith

on_recovered-silent : (m : Node) (from : ℕ) → IsSilent (on_recovered m from)
unfolding on_recovered
on_recovered-silent m from = grind arith

-- no letter lets an entry pass before the finish
pub row-silent : (body : Body) (m : Node) (from : ℕ) → ◌≡◌ {A = List Passed} (row m from body).passed []
unfolding row on_oreq
row-silent (RInv r) m from = on_rinv-silent m from r
row-silent (RAck t number) m from = on_rack-silent m from t number
row-silent (RVal t done) m from = on_rval-silent m t done
row-silent (OReq x want) m from = answer_request-silent (request_cause m x from want) m from x want
row-silent (OInv x p) m from = on_oinv-silent m from x p
row-silent (OAck x p c) m from = on_oack-silent m from x p c
row-silent (ONack x stamp cause) m from = refl
row-silent (OVal x stamp place) m from = on_oval-silent m x stamp place
row-silent Recovered m from = on_recovered-silent m from

-- ---- what may stand against a commit

-- none of what a commit, a read or a missing copy is answered with
unfoldable pub IsObstacle : Tried → Type 0
IsObstacle (NoCopy id x) = ⊥
IsObstacle (Read id reply) = ⊥
IsObstacle (Committed id number reply) = ⊥
IsObstacle _ = Unit {0}

-- what is answered, if anything, is an obstacle
abbrev Obstructs : Option Tried → Type 0
Obstructs o = (a : Tried) → o ≡ Some a → IsObstacle a

nothing_obstructs : Obstructs None
nothing_obstructs a h = absurd cc

some_obstructs : (a : Tried) → IsObstacle a → Obstructs (Some a)
some_obstructs a is b h = let same : a ≡ b = cc in rw (← same) is

or_else-obstructs : (a b : Option Tried) → Obstructs a → Obstructs b → Obstructs (or_else a b)
unfolding or_else
or_else-obstructs None b h g = g
or_else-obstructs (Some a) b h g = h

where_true-obstructs : (test : Bool) (a : Tried) → IsObstacle a → Obstructs (where_true test a)
unfolding where_true
where_true-obstructs true a is = some_obstructs a is
where_true-obstructs false a is = nothing_obstructs

first_of-obstructs : (f : ℕ → Option Tried) (xs : List ℕ) → ((x : ℕ) → Obstructs (f x)) → Obstructs (first_of f xs)
unfolding first_of
first_of-obstructs f [] h = nothing_obstructs
first_of-obstructs f (x ∷ xs) h = or_else-obstructs (f x) (first_of f xs) (h x) (first_of-obstructs f xs h)

held-obstructs : (holding : Option ℕ) (s x : ℕ) → Obstructs (held_elsewhere s x holding)
unfolding held_elsewhere IsObstacle
held-obstructs None s x = nothing_obstructs
held-obstructs (Some other) s x = where_true-obstructs _ (Held x other) tt

-- what stands against a commit is neither a commit nor a read nor a missing copy
pub write_cause-obstructs : (m : Node) (s : ℕ) (tx : List Op) (a : Tried) → write_cause m s tx ≡ Some a → IsObstacle a
unfolding write_cause full_cause owner_cause holder_cause worn_cause IsObstacle
write_cause-obstructs m s tx =
    or_else-obstructs _ _ (where_true-obstructs _ PipeFull tt)
    (or_else-obstructs _ _ (first_of-obstructs _ _ (λ x. where_true-obstructs _ (NotOwner x) tt))
    (or_else-obstructs _ _ (first_of-obstructs _ _ (λ x. held-obstructs (holder m x) s x))
    (or_else-obstructs _ _ (where_true-obstructs _ WornOut tt) (first_of-obstructs _ _ (λ x. where_true-obstructs _ WornOut tt)))))
