-- What a rule leaves in an effect with nothing in it.
use Rattle.std.proofs.Common.{◌≡◌, ◌≤◌, length, take, arith}
use Rattle.zeus_model.specs.Act.{Did}
use Rattle.zeus_model.specs.State.{Node}
use Rattle.node_state.specs.declared.effect.Effect.{Effect}
use Rattle.node_state.specs.Done.{IsDone}
use Rattle.node_state.specs.Effect.{IsCleared}

-- there is room for letters and passes
pub cleared-room : (out : Effect) → IsCleared out → length out.sent ≤ 64
cleared-room out h = rw h.unsent (omega arith)

module _ {A : Type 0} (d : Did A) (answer : A) (node : Node) (before after : Effect) (cleared : IsCleared before) (done : IsDone d answer node before after) where
  -- just its letters are there, the first 64 of them
  pub cleared-sent : after.sent ≡ take 64 d.sent
  cleared-sent = rw cleared.unsent at done.adds.letters

  -- and just its passes
  pub cleared-passed : after.passed ≡ d.passed
  cleared-passed = rw cleared.unpassed at done.adds.passes
