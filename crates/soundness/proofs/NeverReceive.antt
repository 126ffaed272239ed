-- No letter of a run is ever refused for a cause that never stands.
use Rattle.std.specs.Prelude.{ℕ, ◌≡◌, Bool, true, false, ◌&&◌, not, ◌==◌, nat_lt, List, length, All, Option, Some, None, is_some, is_none, ◌⊎◌}
use Rattle.std.proofs.Common.{refl, sym, ◌∙◌, inl, inr}
use Rattle.std.proofs.lemmas.Bool.{cond_both, cases_Bool, cases_lt, not-false, eqb-true}
use Rattle.zeus_base.specs.Limits.{KeepsLimits}
use Rattle.zeus_base.specs.Nodes.{has}
use Rattle.zeus_base.specs.declared.config.Config.{Config}
use Rattle.zeus_base.specs.declared.order.Stamp.{Stamp}
use Rattle.zeus_base.specs.declared.order.Stream.{Stream}
use Rattle.zeus_base.specs.declared.step.Step.{Step}
use Rattle.zeus_base.specs.declared.step.Step.TheVariants.{Begin, Try, Deliver, Tick, Stop, View, Install}
use Rattle.zeus_packet.specs.Place.{arbiters}
use Rattle.zeus_packet.specs.declared.letter.Body.{Body}
use Rattle.zeus_packet.specs.declared.letter.Body.TheVariants.{RInv, RAck, RVal, OReq, OInv, OAck, ONack, OVal, Recovered}
use Rattle.zeus_packet.specs.declared.letter.Letter.{Letter}
use Rattle.zeus_packet.specs.declared.place.Place.{Place}
use Rattle.zeus_packet.specs.declared.place.Proposal.{Proposal}
use Rattle.zeus_packet.specs.declared.write.Content.{Content}
use Rattle.zeus_txn.specs.declared.tx.TxDecl.{TxDecl}
use Rattle.zeus_model.specs.In.{In}
use Rattle.zeus_model.specs.Tables.{or_else, where_true}
use Rattle.zeus_model.specs.declared.answer.Answer.{Answer}
use Rattle.zeus_model.specs.declared.answer.Answer.TheVariants.{Begin as BeginAnswer, Twice, Waits}
use Rattle.zeus_model.specs.declared.answer.Begin.TheVariants.{Stopped as BeginStopped}
use Rattle.zeus_model.specs.declared.answer.Made.{Made}
use Rattle.zeus_model.specs.declared.answer.Outcome.{Outcome}
use Rattle.zeus_model.specs.declared.answer.Outcome.TheVariants.{Stopped, NotMine, OtherEpoch, NotOpen}
use Rattle.zeus_model.specs.Book.{record_of}
use Rattle.zeus_model.specs.State.{Node, entry, is_open}
use Rattle.zeus_model.specs.Receive.{needs_open, rejection, receive_or_not, receive}
use Rattle.zeus_model.specs.World.{World, Event, node, tx_decl, link, start, run, happens, waits_for, begin_refused, begin_or_not, step_begin, tried_at, nth_letter, received_at, deliver_or_not, ticked_at, stopped_at, installed_at, view_refused, view_or_not, step_install}
use Rattle.machine_moves.specs.Fits.{StepFits}
use Rattle.machine_moves.specs.SystemState.{SystemState, system, IsLive, IsNumbered, IsReceivable, view}
use Rattle.machine_moves.proofs.Causes.{or_else-none, where_true-none}
use Rattle.machine_moves.proofs.Links.{HasEnds, In-from_link, nth_letter-In}
use Rattle.machine_moves.proofs.Runs.{reached_usual, run_numbered}
use Rattle.ownership_safety.specs.Object.{first_stamp}
use Rattle.ownership_safety.proofs.Arbiters.{arbiters-either}
use Rattle.invariants.specs.Streams.{stream_state}
use Rattle.invariants.specs.Objects.{object}
use Rattle.invariants.proofs.StreamKeeps.{IsKept}
use Rattle.invariants.proofs.ObjectKeeps.{IsInOrder}
use Rattle.invariants.proofs.Runs.{run_ownership, run_replication}
use Rattle.soundness.specs.Refusals.{IsNeverRefused, NeverComes}
use Rattle.soundness.proofs.NeverRows.{KeepsOwner, IsCollectorOf, Expected, MayCome, owner-settled, row-may}
use Rattle.soundness.proofs.NeverCauses.{IsArbiterOf}
use Rattle.soundness.proofs.NeverLetters.{arbiter-known, collector-known, rinv_expected, rval_expected, oinv_expected, oack_expected, oval_expected}
use Rattle.soundness.proofs.NeverUndeclared.{SaysUntouched, IsUntouched, never_settled}
use Rattle.soundness.proofs.NeverStart.{run_untouched}

-- ---- letters about undeclared objects

untouched_owner : (s : SystemState) (x n : ℕ) (stamp : Stamp) (place : Place) → IsUntouched s x → stamp ≡ first_stamp → KeepsOwner (s.node n) x stamp place
untouched_owner s x n stamp place h is below named = absurd (never_settled (s.node n) x stamp (h.nodes n) is below)

-- what the letter says, where the node receives it in its epoch
received_untouched : (s : SystemState) (x n : ℕ) (l : Letter) (body : Body) → IsUntouched s x → IsReceivable s n l → l.body ≡ body
    → SaysUntouched s.config.directory (view s (s.node n).epoch) x n body
received_untouched s x n l body h at is = rw (at.0, at.1, is) at (h.letters l at.2)

known_arbiter : (s : SystemState) (n : ℕ) (place : Place) → IsNumbered s → IsLive s n → has n (arbiters place (view s (s.node n).epoch) s.config.directory) ≡ true → IsArbiterOf (s.node n) place
known_arbiter s n place numbered live arbiter =
    arbiter-known s n place numbered live
    (elim (arbiters-either place (view s (s.node n).epoch) s.config.directory n arbiter) [ inl both ↦ inl both.0 | inr at_source ↦ inr at_source ])

untouched_oinv : (s : SystemState) (x n : ℕ) (l : Letter) (p : Proposal) → IsUntouched s x → IsNumbered s → IsLive s n → IsReceivable s n l → l.body ≡ OInv x p → Expected (s.node n) (OInv x p)
unfolding Expected SaysUntouched
untouched_oinv s x n l p h numbered live at is =
    let said = received_untouched s x n l (OInv x p) h at is refl in (
      known_arbiter s n p.base_place numbered live said.1,
      untouched_owner s x n p.base p.base_place h said.0.0,
    )

known_collector : (s : SystemState) (n : ℕ) (p : Proposal) → IsNumbered s → IsLive s n → (has p.requester (view s (s.node n).epoch) ≡ true → n ≡ p.requester) → IsCollectorOf (s.node n) p
known_collector s n p numbered live collects =
    collector-known s n p numbered live
    (elim (cases_Bool (has p.requester (view s (s.node n).epoch))) [ inl member ↦ inl (sym (collects member)) | inr out ↦ inr out ])

untouched_oack : (s : SystemState) (x n : ℕ) (l : Letter) (p : Proposal) (c : Option Content) → IsUntouched s x → IsNumbered s → IsLive s n → IsReceivable s n l → l.body ≡ OAck x p c
    → Expected (s.node n) (OAck x p c)
unfolding Expected SaysUntouched
untouched_oack s x n l p c h numbered live at is =
    let said = received_untouched s x n l (OAck x p c) h at is refl in
    let there = h.nodes n in (
      known_collector s n p numbered live said.2,
      untouched_owner s x n p.base p.base_place h said.0.0,
      λ not_below below named other. owner-settled (entry (s.node n) x).place p (s.node n).me (there.place ∙ sym said.0.1) named other,
    )

untouched_oval : (s : SystemState) (x n : ℕ) (l : Letter) (t : Stamp) (place : Place) → IsUntouched s x → IsReceivable s n l → l.body ≡ OVal x t place → Expected (s.node n) (OVal x t place)
unfolding Expected SaysUntouched
untouched_oval s x n l t place h at is = untouched_owner s x n t place h (received_untouched s x n l (OVal x t place) h at is refl).0

-- ---- each letter

-- what is known of a system: each stream is replicated, and each object is in order, or nothing came of it
record IsForeseen (s : SystemState) : Type 0 where
  numbered : IsNumbered s
  streams : (t : Stream) → IsKept (stream_state s t)
  objects : (x : ℕ) → IsInOrder (object s x) ⊎ IsUntouched s x

expected : (body : Body) (s : SystemState) (n : ℕ) (l : Letter) → IsForeseen s → IsLive s n → IsReceivable s n l → l.body ≡ body → Expected (s.node n) body
unfolding Expected
expected (RInv r) s n l f live at is = rinv_expected s n l r f.numbered live at is (f.streams r.stream)
expected (RAck t number) s n l f live at is = tt
expected (RVal t done) s n l f live at is = rval_expected s n l t done f.numbered live at is (f.streams t)
expected (OReq x want) s n l f live at is = tt
expected (OInv x p) s n l f live at is =
    elim (f.objects x) [
      | inl ownership ↦ oinv_expected s x n l p ownership.0 f.numbered live at is ownership.1
      | inr untouched ↦ untouched_oinv s x n l p untouched f.numbered live at is
    ]
expected (OAck x p c) s n l f live at is =
    elim (f.objects x) [
      | inl ownership ↦ oack_expected s x n l p c ownership.0 f.numbered live at is ownership.1
      | inr untouched ↦ untouched_oack s x n l p c untouched f.numbered live at is
    ]
expected (ONack x stamp cause) s n l f live at is = tt
expected (OVal x t place) s n l f live at is =
    elim (f.objects x) [
      | inl ownership ↦ oval_expected s x n l t place ownership.0 f.numbered live at is ownership.1
      | inr untouched ↦ untouched_oval s x n l t place untouched at is
    ]
expected Recovered s n l f live at is = tt

-- ---- the tests before every letter

unfoldable MayBe : Option Outcome → Type 0
MayBe None = Unit {0}
MayBe (Some outcome) = MayCome outcome

or_else-may_be : (a b : Option Outcome) → MayBe a → MayBe b → MayBe (or_else a b)
unfolding or_else MayBe
or_else-may_be None b f g = g
or_else-may_be (Some o) b f g = f

where_true-may_be : (test : Bool) (o : Outcome) → MayCome o → MayBe (where_true test o)
unfolding where_true MayBe
where_true-may_be true o h = h
where_true-may_be false o h = tt

stopped-may : MayCome Stopped
unfolding MayCome IsNeverRefused
stopped-may b = b

not_mine-may : (n : ℕ) → MayCome (NotMine n)
unfolding MayCome IsNeverRefused
not_mine-may n b = b

other_epoch-may : (e f : ℕ) → MayCome (OtherEpoch e f)
unfolding MayCome IsNeverRefused
other_epoch-may e f b = b

not_open-may : MayCome NotOpen
unfolding MayCome IsNeverRefused
not_open-may b = b

rejection-may : (n : Node) (l : Letter) → MayBe (rejection n l)
unfolding rejection
rejection-may n l =
    or_else-may_be _ _ (where_true-may_be n.stopped Stopped stopped-may)
    (or_else-may_be _ _ (where_true-may_be (not (l.to == n.me)) (NotMine l.to) (not_mine-may l.to))
    (or_else-may_be _ _ (where_true-may_be (not (l.epoch == n.epoch)) (OtherEpoch l.epoch n.epoch) (other_epoch-may l.epoch n.epoch))
    (where_true-may_be (needs_open l.body && not (is_open n)) NotOpen not_open-may)))

-- a letter that no test stands against
record IsTaken (n : Node) (l : Letter) : Type 0 where
  live : n.stopped ≡ false
  epoch : l.epoch ≡ n.epoch

rejection-none : (n : Node) (l : Letter) → rejection n l ≡ None → IsTaken n l
unfolding rejection
rejection-none n l h =
    let first = or_else-none _ _ h in
    let second = or_else-none _ _ first.1 in
    let third = or_else-none _ _ second.1 in
    record { live = where_true-none _ _ first.0; epoch = eqb-true l.epoch n.epoch (not-false (l.epoch == n.epoch) (where_true-none _ _ third.0)) }

receive_or_not-may : (outcome : Option Outcome) (s : SystemState) (n : ℕ) (l : Letter) → IsForeseen s → In l s.letters → l.to ≡ n → MayBe outcome → rejection (s.node n) l ≡ outcome
    → MayCome (receive_or_not (s.node n) l outcome).answer
unfolding receive_or_not MayBe
receive_or_not-may (Some outcome) s n l f i to may is = may
receive_or_not-may None s n l f i to may is =
    let taken = rejection-none (s.node n) l is in
    row-may l.body (s.node n) l.from (expected l.body s n l f taken.live (to, taken.epoch, i) refl)

receive-may : (s : SystemState) (n : ℕ) (l : Letter) → IsForeseen s → In l s.letters → l.to ≡ n → MayCome (receive (s.node n) l).answer
unfolding receive
receive-may s n l f i to = receive_or_not-may (rejection (s.node n) l) s n l f i to (rejection-may (s.node n) l) refl

-- ---- each step

unfoldable MayAnswer : Answer → Type 0
MayAnswer a = NeverComes a → ⊥

unfoldable MayAnswerIf : Option Answer → Type 0
MayAnswerIf None = Unit {0}
MayAnswerIf (Some a) = MayAnswer a

or_else-may_answer : (a b : Option Answer) → MayAnswerIf a → MayAnswerIf b → MayAnswerIf (or_else a b)
unfolding or_else MayAnswerIf
or_else-may_answer None b f g = g
or_else-may_answer (Some o) b f g = f

where_true-may_answer : (test : Bool) (a : Answer) → MayAnswer a → MayAnswerIf (where_true test a)
unfolding where_true MayAnswerIf
where_true-may_answer true o h = h
where_true-may_answer false o h = tt

twice-may : MayAnswer Twice
unfolding MayAnswer NeverComes
twice-may b = b

begin-may : MayAnswer (BeginAnswer BeginStopped)
unfolding MayAnswer NeverComes
begin-may b = b

waits-may : (j : ℕ) → MayAnswer (Waits j)
unfolding MayAnswer NeverComes
waits-may j b = b

waits_for-may : (w : World) (after : Option ℕ) → MayAnswerIf (waits_for w after)
unfolding waits_for MayAnswerIf
waits_for-may w None = tt
waits_for-may w (Some j) = where_true-may_answer (is_none (record_of w.book j).acked) (Waits j) (waits-may j)

begin_refused-may : (w : World) (k : ℕ) → MayAnswerIf (begin_refused w k)
unfolding begin_refused
begin_refused-may w k =
    or_else-may_answer _ _ (where_true-may_answer (is_some (record_of w.book k).begun) Twice twice-may)
    (or_else-may_answer _ _ (where_true-may_answer (node w (tx_decl w k).node).stopped (BeginAnswer BeginStopped) begin-may) (waits_for-may w (tx_decl w k).after))

begin_or_not-may : (w : World) (k : ℕ) (refused : Option Answer) → MayAnswerIf refused → MayAnswer (begin_or_not w k refused).answer
unfolding begin_or_not MayAnswerIf MayAnswer NeverComes
begin_or_not-may w k (Some a) may = may
begin_or_not-may w k None may = λ b. b

view_or_not-may : (w : World) (set : List ℕ) (refused : Option Made) → MayAnswer (view_or_not w set refused).answer
unfolding view_or_not MayAnswer NeverComes
view_or_not-may w set (Some m) = λ b. b
view_or_not-may w set None = λ b. b

install-may : (w : World) (n e : ℕ) → MayAnswer (step_install w n e).answer
unfolding step_install installed_at MayAnswer NeverComes
install-may w n e = cond_both (nat_lt (length w.views) e) _ _ (λ (x : Event). NeverComes x.answer → ⊥) (λ _. λ b. b) (λ _. λ b. b)

deliver_or_not-may : (letter : Option Letter) (w : World) (from to i : ℕ) → IsForeseen (system w) → HasEnds w.links → nth_letter (link w.links from to) i ≡ letter
    → MayAnswer (deliver_or_not w from to letter).answer
unfolding deliver_or_not received_at MayAnswer NeverComes HasEnds system MayCome
deliver_or_not-may None w from to i f ends is = λ b. b
deliver_or_not-may (Some l) w from to i f ends is =
    let at = nth_letter-In (link w.links from to) i l is in
    receive-may (system w) to l f (In-from_link w.links l record { from = from; to = to; is = at }) (ends from to l at).1

happens-may : (w : World) (s : Step) → IsForeseen (system w) → HasEnds w.links → MayAnswer (happens w s).answer
unfolding happens step_begin tried_at ticked_at stopped_at MayAnswer NeverComes
happens-may w (Begin k) f ends = begin_or_not-may w k (begin_refused w k) (begin_refused-may w k)
happens-may w (Try n s) f ends = λ b. b
happens-may w (Deliver from to i) f ends = deliver_or_not-may (nth_letter (link w.links from to) i) w from to i f ends refl
happens-may w (Tick n) f ends = λ b. b
happens-may w (Stop n) f ends = λ b. b
happens-may w (View set) f ends = view_or_not-may w set (view_refused w set)
happens-may w (Install n e) f ends = install-may w n e

-- ---- runs

run_foreseen : (c : Config) (txs : List TxDecl) (steps : List Step) → KeepsLimits c → All (StepFits c txs) steps → IsForeseen (system (run (start c txs) steps))
run_foreseen c txs steps keeps fits =
    record {
      numbered = run_numbered c txs steps keeps fits;
      streams = λ t. run_replication c txs steps t keeps fits;
      objects = λ x. elim (cases_lt x (length c.objects)) [
        | inl declared ↦ inl (run_ownership c txs steps x keeps fits declared)
        | inr undeclared ↦ inr (run_untouched c txs steps x keeps fits undeclared)
      ];
    }

-- if the steps of a run keep the limits, then the next one, whichever it is, gives no answer that never comes
pub run_never_refused : (c : Config) (txs : List TxDecl) (steps : List Step) (s : Step) → KeepsLimits c → All (StepFits c txs) steps
    → NeverComes (happens (run (start c txs) steps) s).answer → ⊥
unfolding MayAnswer
run_never_refused c txs steps s keeps fits =
    let usual = (reached_usual c txs steps keeps fits).0 in
    happens-may (run (start c txs) steps) s (run_foreseen c txs steps keeps fits) usual.ends
