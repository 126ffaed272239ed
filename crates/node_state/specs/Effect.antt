-- What a call leaves of letters and passes.
use Rattle.std.specs.Prelude.{◌≡◌, []}
use Rattle.node_state.specs.declared.effect.Effect.{Effect}

-- nothing is sent and nothing has passed
pub record IsCleared (out : Effect) : Type 0 where
  pub unsent : out.sent ≡ []
  pub unpassed : out.passed ≡ []
