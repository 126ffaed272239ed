-- What a node does in one go: the node afterwards, the letters that it sends in order, and the entries that passed.
use Rattle.std.specs.Prelude.{ℕ, List, [], ◌∷◌, ◌++◌}
use Rattle.zeus_base.specs.declared.step.Passed.{Passed}
use Rattle.zeus_packet.specs.declared.letter.Body.{Body}
use Rattle.zeus_packet.specs.declared.letter.Letter.{Letter}
use Rattle.zeus_model.specs.State.{Node}

pub record Act : Type 0 where
  pub node : Node
  pub sent : List Letter
  pub passed : List Passed

-- an act with the answer of a call
pub record Did (A : Type 0) : Type 0 where
  pub node : Node
  pub answer : A
  pub sent : List Letter
  pub passed : List Passed

-- nothing is done
abbrev pub still : Node → Act
still n = record { node = n; sent = []; passed = [] }

-- just this answer
abbrev pub just : {A : Type 0} → Node → A → Did A
just n a = record { node = n; answer = a; sent = []; passed = [] }

-- this answer and these letters
abbrev pub sends : {A : Type 0} → Node → A → List Letter → Did A
sends n a letters = record { node = n; answer = a; sent = letters; passed = [] }

-- one act after another
abbrev pub joined : Act → Act → Act
joined a b = record { node = b.node; sent = a.sent ++ b.sent; passed = a.passed ++ b.passed }

-- an act, and then what the node does next
abbrev pub and_then : Act → (Node → Act) → Act
and_then a next = joined a (next a.node)

-- an answer with what the node did after it
abbrev pub did_joined : {A : Type 0} → Did A → Act → Did A
did_joined d b = record { node = b.node; answer = d.answer; sent = d.sent ++ b.sent; passed = d.passed ++ b.passed }

-- an answer, and then what the node does next
abbrev pub did_then : {A : Type 0} → Did A → (Node → Act) → Did A
did_then d next = did_joined d (next d.node)

-- what the node does for each of the items in turn
unfoldable pub in_turn : {A : Type 0} → (Node → A → Act) → Node → List A → Act
in_turn f n [] = still n
in_turn f n (i ∷ is) = and_then (f n i) (λ m. in_turn f m is)

-- a letter of the node in its epoch
abbrev pub letter : Node → ℕ → Body → Letter
letter n to body = record { from = n.me; to = to; epoch = n.epoch; body = body }

-- the same letter to each of the nodes, in order
unfoldable pub to_each : Node → List ℕ → Body → List Letter
to_each n [] body = []
to_each n (to ∷ tos) body = letter n to body ∷ to_each n tos body
