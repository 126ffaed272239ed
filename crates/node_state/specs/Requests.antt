-- The requests for what a slot's current transaction needs.
use Rattle.std.specs.Prelude.{List, [], Option, Some, None}
use Rattle.zeus_packet.specs.declared.letter.Letter.{Letter}
use Rattle.zeus_packet.specs.declared.place.Want.TheVariants.{Own, Read}
use Rattle.zeus_txn.specs.Ops.{named}
use Rattle.zeus_model.specs.declared.state.Current.{Current}
use Rattle.zeus_model.specs.Local.{not_copied, not_owned, requests}
use Rattle.zeus_model.specs.State.{Node}

-- for each object that it names and the node does not own
unfoldable pub requests_to_own : Node → Option Current → List Letter
requests_to_own n None = []
requests_to_own n (Some c) = requests n Own (not_owned n (named c.tx))

-- for a copy of each object that it names and of which the node has none
unfoldable pub requests_for_copies : Node → Option Current → List Letter
requests_for_copies n None = []
requests_for_copies n (Some c) = requests n Read (not_copied n (named c.tx))
