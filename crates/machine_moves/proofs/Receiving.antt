-- A letter that is delivered: what the node does with it is a sequence of moves.
use Rattle.std.specs.Prelude.{ℕ, ◌≡◌, ◌≤◌, true, false, not, ◌==◌, length, Option, Some, None}
use Rattle.std.proofs.Common.{refl, inl, inr}
use Rattle.std.proofs.lemmas.Bool.{not-false, eqb-true, and_cases}
use Rattle.zeus_packet.specs.declared.letter.Body.{Body}
use Rattle.zeus_packet.specs.declared.letter.Body.TheVariants.{RInv, RAck, RVal, OReq, OInv, OAck, ONack, OVal, Recovered}
use Rattle.zeus_packet.specs.declared.letter.Letter.{Letter}
use Rattle.zeus_model.specs.In.{In}
use Rattle.zeus_model.specs.declared.answer.Outcome.{Outcome}
use Rattle.zeus_model.specs.State.{Node, is_open}
use Rattle.zeus_model.specs.Commit.{finish}
use Rattle.zeus_model.specs.Receive.{needs_open, row, rejection, receive_or_not, receive}
use Rattle.machine_moves.specs.SystemState.{SystemState}
use Rattle.machine_moves.proofs.Steady.{IsSteady}
use Rattle.machine_moves.proofs.Reach.{Answered, PlainAnswered, IsReady, known, any_reaches, still_reaches, cut_none, did_then_reaches}
use Rattle.machine_moves.proofs.Finish.{finish-reached}
use Rattle.machine_moves.proofs.Entries.{Received, on_rinv-answered, on_rack-answered, on_rval-answered}
use Rattle.machine_moves.proofs.Causes.{or_else-none, where_true-none}
use Rattle.machine_moves.proofs.Proposals.{on_oreq-answered, on_oinv-answered}
use Rattle.machine_moves.proofs.Decisions.{on_oack-answered, on_oval-answered, on_recovered-answered}

-- the rule of each body is a sequence of moves
pub row-answered : (body : Body) (s : SystemState) (n from k : ℕ) → IsReady s n → Received s n from body → (needs_open body ≡ true → is_open (s.node n) ≡ true) → length (s.node n).directory ≤ 8 → 10 ≤ k → PlainAnswered s n k (row (s.node n) from body)
unfolding row needs_open
row-answered (RInv r) s n from k ready got opened few room = on_rinv-answered s n from k r ready got
row-answered (RAck t number) s n from k ready got opened few room = on_rack-answered s n from k t number ready got
row-answered (RVal t done) s n from k ready got opened few room = on_rval-answered s n from k t done ready got
row-answered (OReq x want) s n from k ready got opened few room = on_oreq-answered s n from k x want ready got (opened refl) few room
row-answered (OInv x p) s n from k ready got opened few room = on_oinv-answered s n from k x p ready got (opened refl) room
row-answered (OAck x p c) s n from k ready got opened few room = on_oack-answered s n from k x p c ready got
row-answered (ONack x stamp cause) s n from k ready got opened few room = cut_none s n (s.node n) k (still_reaches s n)
row-answered (OVal x stamp place) s n from k ready got opened few room = on_oval-answered s n from k x stamp place ready got
row-answered Recovered s n from k ready got opened few room = on_recovered-answered s n from k ready got

-- what it says that a letter is taken
pub record IsTaken (m : Node) (l : Letter) : Type 0 where
  pub live : m.stopped ≡ false
  pub mine : l.to ≡ m.me
  pub epoch : l.epoch ≡ m.epoch
  pub opened : needs_open l.body ≡ true → is_open m ≡ true

-- if there is no ground to reject a letter, then the node takes it
pub rejection-none : (m : Node) (l : Letter) → rejection m l ≡ None → IsTaken m l
unfolding rejection
rejection-none m l h =
    let first = or_else-none _ _ h in
    let second = or_else-none _ _ first.1 in
    let third = or_else-none _ _ second.1 in
    record {
      live = where_true-none _ _ first.0;
      mine = eqb-true l.to m.me (not-false (l.to == m.me) (where_true-none _ _ second.0));
      epoch = eqb-true l.epoch m.epoch (not-false (l.epoch == m.epoch) (where_true-none _ _ third.0));
      opened = λ needs. elim (and_cases (needs_open l.body) (not (is_open m)) (where_true-none _ _ third.1)) [
        | inl never ↦ absurd cc
        | inr open_node ↦ not-false (is_open m) open_node
      ];
    }

receive_or_not-answered : (outcome : Option Outcome) (s : SystemState) (n k : ℕ) (l : Letter) → IsSteady s → In l s.letters → l.to ≡ n → length s.config.directory ≤ 8 → 10 ≤ k → rejection (s.node n) l ≡ outcome → Answered s n k (receive_or_not (s.node n) l outcome)
unfolding receive_or_not
receive_or_not-answered (Some outcome) s n k l steady at to few room is = cut_none s n (s.node n) k (still_reaches s n)
receive_or_not-answered None s n k l steady at to few room is =
    let m = s.node n in
    let taken = rejection-none m l is in
    let ready : IsReady s n = record { steady = steady; live = taken.live } in
    let me = known s n ready in
    let got : Received s n l.from l.body = record { letter = l; is = refl; by = refl; at = (to, taken.epoch, at) } in
    did_then_reaches s n k (row m l.from l.body) finish ready
    (any_reaches s n _ _ (row-answered l.body s n l.from k ready got taken.opened (rw (me.directory) few) room))
    (λ t j rt. finish-reached t n j rt)

-- a delivered letter
pub receive-answered : (s : SystemState) (n k : ℕ) (l : Letter) → IsSteady s → In l s.letters → l.to ≡ n → length s.config.directory ≤ 8 → 10 ≤ k → Answered s n k (receive (s.node n) l)
unfolding receive
receive-answered s n k l steady at to few room = receive_or_not-answered (rejection (s.node n) l) s n k l steady at to few room refl
