-- The letters by which a commit goes to its followers.
use Rattle.std.specs.Prelude.{ℕ, List, [], Option, Some, None}
use Rattle.zeus_base.specs.Nodes.{meet}
use Rattle.zeus_packet.specs.declared.letter.Body.TheVariants.{RInv}
use Rattle.zeus_packet.specs.declared.letter.Letter.{Letter}
use Rattle.zeus_packet.specs.declared.letter.RInv.{RInv as Invalidation}
use Rattle.zeus_model.specs.Act.{to_each}
use Rattle.zeus_model.specs.State.{Node, own_stream, slot}
use Rattle.node_state.specs.SlotTries.{newest_of}

-- an entry goes to the members among its followers
unfoldable pub entry_letters : Node → Option Invalidation → List Letter
entry_letters n None = []
entry_letters n (Some r) = to_each n (meet r.followers n.members) (RInv r)

-- the newest entry of a slot goes to the members among its followers
abbrev pub newest_letters : Node → ℕ → List Letter
newest_letters n s = entry_letters n (newest_of (own_stream n s) (slot n s))
