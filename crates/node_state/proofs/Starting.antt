-- How a node's state starts.
use Rattle.std.proofs.Common.{ℕ, ◌≡◌, ◌<◌, false, List, Option, None, length, map, refl, sym, ap, ◌∙◌}
use Rattle.std.specs.Prelude.{replicate}
use Rattle.zeus_base.specs.Limits.{KeepsLimits}
use Rattle.zeus_base.specs.declared.config.Config.{Config}
use Rattle.zeus_model.specs.declared.state.Copy.{Copy}
use Rattle.zeus_model.specs.declared.state.Gather.{Gather}
use Rattle.zeus_model.specs.State.{Node, Slot, StreamLog, no_log, no_slot}
use Rattle.zeus_model.specs.Tables.{below}
use Rattle.zeus_model.specs.World.{start_copy, start_entry, start_gather, start_node}
use Rattle.object_table.specs.NodeHolds.{AreHeld-start}
use Rattle.owner_entry.specs.Directory.{Directory}
use Rattle.node_ranges.specs.Derived.{KeepsRanges-shown}
use Rattle.node_ranges.specs.StartRanges.{KeepsRanges-start}
use Rattle.node_state.specs.declared.state.NodeState.TheInside.{Inside}
use Rattle.node_state.specs.Shown.{IsKept, shown}
use Rattle.node_state.proofs.Keeping.{held_at, own_at}

-- a node is put together as the rules start it
pub start_by : (c : Config) (me : ℕ) (all : List ℕ) (d : Directory) (copies : List (Option Copy)) (gathers : List (Option Gather)) (slots : List Slot) (logs : List (List StreamLog)) → all ≡ below c.nodes → d ≡ record { nodes = c.directory; degree = c.degree; entries = map start_entry c.objects } → copies ≡ map (start_copy me) c.objects → gathers ≡ map start_gather c.objects → slots ≡ replicate c.slots no_slot → logs ≡ replicate c.nodes (replicate c.slots no_log) → (let n : Node = record { me = me; epoch = 1; members = all; directory = d.nodes; degree = d.degree; reported = all; stopped = false; entries = d.entries; copies = copies; gathers = gathers; slots = slots; logs = logs } in n) ≡ start_node c me
unfolding start_node
start_by c me all d copies gathers slots logs a e k g s l = rw (a, e, k, g, s, l) refl

-- a state that starts so keeps what always holds
pub IsKept-start : (b : Inside) (c : Config) (me k : ℕ) → KeepsLimits c → me < c.nodes → shown b ≡ start_node c me → b.copies.holds ≡ replicate k None → b.node_count ≡ c.nodes → b.slot_count ≡ c.slots → IsKept b
IsKept-start b c me k keeps less becomes holds nodes slots =
    let ranges = KeepsRanges-start c me keeps less in
    record {
      ranges = own_at (shown b) (start_node c me) becomes (KeepsRanges-shown _ (start_node c me) ranges);
      held = held_at (shown b) (start_node c me) b.copies.holds becomes (rw holds (AreHeld-start c me k));
      nodes = nodes ∙ sym (ap (λ (n : Node). length n.logs) becomes ∙ ranges.sizes.nodes);
      slots = slots ∙ sym (ap (λ (n : Node). length n.slots) becomes ∙ ranges.sizes.slots);
    }
