-- The state of a node as the rules see it, and what always holds of it.
use Rattle.std.specs.Prelude.{◌≡◌, length}
use Rattle.zeus_model.specs.State.{Node}
use Rattle.object_table.specs.Holding.{AreHeld}
use Rattle.node_ranges.specs.Ranges.{KeepsRanges, limits_of}
use Rattle.node_state.specs.declared.state.NodeState.TheInside.{Inside}

abbrev pub shown : Inside → Node
shown n =
    record {
      me = n.me;
      epoch = n.epoch;
      members = n.members;
      directory = n.dir.nodes;
      degree = n.dir.degree;
      reported = n.barrier;
      stopped = n.stopped;
      entries = n.dir.entries;
      copies = n.copies.copies;
      gathers = n.gathers;
      slots = n.slots.items;
      logs = n.logs;
    }

-- the state keeps the ranges of its own tables, its slots hold what their pending entries name, and it counts the nodes and
-- slots that there are
pub record IsKept (n : Inside) : Type 0 where
  pub ranges : KeepsRanges (limits_of (shown n)) (shown n)
  pub held : AreHeld (shown n) n.copies.holds
  pub nodes : n.node_count ≡ length n.logs
  pub slots : n.slot_count ≡ length n.slots.items
