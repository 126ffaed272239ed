-- What the rules of streams answer, send and pass.
use Rattle.std.specs.Prelude.{ℕ, ◌≡◌, ◌≤◌, Bool, true, false, not, [], ◌∷◌, length, refl}
use Rattle.std.proofs.Common.{sym, ap, ◌∙◌, arith}
use Rattle.zeus_base.specs.Nodes.{has}
use Rattle.zeus_base.specs.declared.order.Stream.{Stream}
use Rattle.zeus_packet.specs.declared.letter.Body.TheVariants.{RAck}
use Rattle.zeus_packet.specs.declared.letter.RInv.{RInv}
use Rattle.zeus_model.specs.declared.answer.Outcome.{Outcome}
use Rattle.zeus_model.specs.declared.answer.Outcome.TheVariants.{Again, Taken}
use Rattle.zeus_model.specs.Act.{letter}
use Rattle.zeus_model.specs.Commit.{on_kept_rack, on_own_rack, on_rack, on_rinv, on_rval, stored_rinv}
use Rattle.zeus_model.specs.Receive.{on_recovered}
use Rattle.zeus_model.specs.State.{Node}
use Rattle.reliable_commit.specs.Frames.{on_rinv-frame}
use Rattle.node_state.specs.declared.effect.Effect.{Effect}
use Rattle.node_state.specs.Done.{Adds, IsDone, IsQuiet}
use Rattle.node_state.specs.EffectLaws.{adds_nothing}

-- ---- acknowledgements, words of passing and reports neither send nor pass

on_rack-unsent : (n : Node) (from : ℕ) (s : Stream) (number : ℕ) → (on_rack n from s number).sent ≡ []
unfolding on_rack on_own_rack on_kept_rack
on_rack-unsent n from s number = grind arith

on_rack-unpassed : (n : Node) (from : ℕ) (s : Stream) (number : ℕ) → (on_rack n from s number).passed ≡ []
unfolding on_rack on_own_rack on_kept_rack
on_rack-unpassed n from s number = grind arith

-- an acknowledgement of an entry is answered with nothing sent and nothing passed
pub on_rack-quiet : (n m : Node) (from : ℕ) (s : Stream) (number : ℕ) (answer : Outcome) → answer ≡ (on_rack n from s number).answer → m ≡ (on_rack n from s number).node → IsQuiet (on_rack n from s number) answer m
on_rack-quiet n m from s number answer says becomes =
    record { says = says; becomes = becomes; unsent = on_rack-unsent n from s number; unpassed = on_rack-unpassed n from s number }

on_rval-unsent : (n : Node) (s : Stream) (d : ℕ) → (on_rval n s d).sent ≡ []
unfolding on_rval
on_rval-unsent n s d = grind arith

on_rval-unpassed : (n : Node) (s : Stream) (d : ℕ) → (on_rval n s d).passed ≡ []
unfolding on_rval
on_rval-unpassed n s d = grind arith

-- a letter of passed entries is answered with nothing sent and nothing passed
pub on_rval-quiet : (n m : Node) (s : Stream) (d : ℕ) (answer : Outcome) → answer ≡ (on_rval n s d).answer → m ≡ (on_rval n s d).node → IsQuiet (on_rval n s d) answer m
on_rval-quiet n m s d answer says becomes =
    record { says = says; becomes = becomes; unsent = on_rval-unsent n s d; unpassed = on_rval-unpassed n s d }

on_recovered-unsent : (n : Node) (from : ℕ) → (on_recovered n from).sent ≡ []
unfolding on_recovered
on_recovered-unsent n from = grind arith

on_recovered-unpassed : (n : Node) (from : ℕ) → (on_recovered n from).passed ≡ []
unfolding on_recovered
on_recovered-unpassed n from = grind arith

on_recovered-quiet : (n m : Node) (from : ℕ) (answer : Outcome) → answer ≡ (on_recovered n from).answer → m ≡ (on_recovered n from).node → IsQuiet (on_recovered n from) answer m
on_recovered-quiet n m from answer says becomes =
    record { says = says; becomes = becomes; unsent = on_recovered-unsent n from; unpassed = on_recovered-unpassed n from }

-- if the opposite of a test is true, then the test is false
pub not_true : (b : Bool) → true ≡ not b → b ≡ false
not_true true e = cc
not_true false e = refl

-- if the opposite of a test is false, then the test is true
pub not_false : (b : Bool) → false ≡ not b → b ≡ true
not_false true e = refl
not_false false e = cc

answer-news : (n : Node) (from : ℕ) → has from n.reported ≡ false → Taken ≡ (on_recovered n from).answer
unfolding on_recovered
answer-news n from e = rw e refl

answer-known : (n : Node) (from : ℕ) → has from n.reported ≡ true → Again ≡ (on_recovered n from).answer
unfolding on_recovered
answer-known n from e = rw e refl

-- a report that was not noted is taken
pub on_recovered-heard : (n m : Node) (from : ℕ) → true ≡ not (has from n.reported) → m ≡ (on_recovered n from).node → IsQuiet (on_recovered n from) Taken m
on_recovered-heard n m from e becomes =
    on_recovered-quiet n m from Taken (answer-news n from (not_true (has from n.reported) e)) becomes

-- one that was noted changes nothing
pub on_recovered-known : (n m : Node) (from : ℕ) → false ≡ not (has from n.reported) → m ≡ (on_recovered n from).node → IsQuiet (on_recovered n from) Again m
on_recovered-known n m from e becomes =
    on_recovered-quiet n m from Again (answer-known n from (not_false (has from n.reported) e)) becomes

-- ---- entries

stored-unpassed : (n : Node) (from : ℕ) (r : RInv) → (stored_rinv n from r).passed ≡ []
unfolding stored_rinv
stored-unpassed n from r = grind arith

on_rinv-unpassed : (n : Node) (from : ℕ) (r : RInv) → (on_rinv n from r).passed ≡ []
unfolding on_rinv
on_rinv-unpassed n from r = grind (arith, stored-unpassed)

module _ (n m : Node) (from : ℕ) (r : RInv) (answer : Outcome) (says : answer ≡ (on_rinv n from r).answer) (becomes : m ≡ (on_rinv n from r).node) where
  -- the letter of the node as it has become is that of the node as it was
  same_ack : letter m from (RAck r.stream r.number) ≡ letter n from (RAck r.stream r.number)
  same_ack =
      ap (λ (k : Node). letter k from (RAck r.stream r.number)) becomes
      ∙ sym (ap (λ (k : Node). letter k from (RAck r.stream r.number)) (on_rinv-frame n from r))

  -- the entry is acknowledged
  pub on_rinv-acknowledged : (before after : Effect) → letter n from (RAck r.stream r.number) ∷ [] ≡ (on_rinv n from r).sent → Adds (letter m from (RAck r.stream r.number) ∷ []) [] before after → IsDone (on_rinv n from r) answer m before after
  on_rinv-acknowledged before after sent adds =
      record { says = says; becomes = becomes; adds = rw (← sent, on_rinv-unpassed n from r, ← same_ack) adds }

  -- the entry is not stored
  pub on_rinv-unstored : (out : Effect) → [] ≡ (on_rinv n from r).sent → length out.sent ≤ 64 → IsDone (on_rinv n from r) answer m out out
  on_rinv-unstored out sent room =
      record { says = says; becomes = becomes; adds = rw (← sent, on_rinv-unpassed n from r) (adds_nothing out room) }
