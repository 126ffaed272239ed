-- Changes of a node that are parts of its calls.
use Rattle.std.specs.Prelude.{true, []}
use Rattle.zeus_packet.specs.declared.place.View.{View}
use Rattle.zeus_model.specs.Membership.{dropped}
use Rattle.zeus_model.specs.State.{Node}

-- the node in a later view: nobody has reported in it, and nothing is gathered
abbrev pub in_view : Node → View → Node
in_view n v = record n { epoch = v.epoch; members = v.members; reported = []; gathers = dropped n.gathers }

-- the node has stopped
abbrev pub stopped : Node → Node
stopped n = record n { stopped = true }
