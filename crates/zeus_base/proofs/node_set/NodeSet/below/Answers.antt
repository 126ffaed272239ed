use Rattle.std.proofs.Common.{◌∙◌, ap}
use Rattle.zeus_base.specs.NodeLaws.{below_none, below_more}
use Rattle.zeus_base.specs.Nodes.{with_node}
use Rattle.zeus_base.proofs.node_set.NodeSet.below.Goals as goal

pub loop-node-init : goal.loop-node-init
loop-node-init c = c.empty-nodes.ensures ∙ below_none

pub loop-node-preserved : goal.loop-node-preserved
loop-node-preserved c = c.insert-nodes.ensures ∙ ap (with_node c.loop-node.node) c.loop-node.invariant ∙ below_more _
