-- What a call does to a node and leaves in an effect, against what the node does by the rules.
use Rattle.std.specs.Prelude.{◌≡◌, List, [], ◌++◌, take}
use Rattle.zeus_base.specs.declared.step.Passed.{Passed}
use Rattle.zeus_packet.specs.declared.letter.Letter.{Letter}
use Rattle.zeus_model.specs.Act.{Act, Did}
use Rattle.zeus_model.specs.State.{Node}
use Rattle.node_state.specs.declared.effect.Effect.{Effect}

-- the first 64 letters are added, and the passes
pub record Adds (sent : List Letter) (passed : List Passed) (before after : Effect) : Type 0 where
  pub letters : after.sent ≡ take 64 (before.sent ++ sent)
  pub passes : after.passed ≡ before.passed ++ passed

-- the node has acted so
pub record IsActed (a : Act) (node : Node) (before after : Effect) : Type 0 where
  pub becomes : node ≡ a.node
  pub adds : Adds a.sent a.passed before after

-- the node has answered and acted so
pub record IsDone {A : Type 0} (d : Did A) (answer : A) (node : Node) (before after : Effect) : Type 0 where
  pub says : answer ≡ d.answer
  pub becomes : node ≡ d.node
  pub adds : Adds d.sent d.passed before after

-- likewise where it neither sends nor passes anything
pub record IsQuiet {A : Type 0} (d : Did A) (answer : A) (node : Node) : Type 0 where
  pub says : answer ≡ d.answer
  pub becomes : node ≡ d.node
  pub unsent : d.sent ≡ []
  pub unpassed : d.passed ≡ []
