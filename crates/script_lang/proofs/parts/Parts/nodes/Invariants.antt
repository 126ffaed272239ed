use Rattle.std.proofs.Common.{◌≡◌, ◌≤◌, [], length}
use Rattle.script_lang.specs.NodeLists.{nodes_after}
use Rattle.script_lang.proofs.parts.Parts.nodes.Given as goal

abbrev pub invariant-loop-word : goal.invariant-loop-word
invariant-loop-word l = (l.lowest ≤ 8) × (nodes_after l.rule.nodes l.rule.most l.rule.owner l.listed l.lowest l.self ≡ nodes_after l.fn.rule.nodes l.fn.rule.most l.fn.rule.owner [] 0 l.fn.self)

abbrev pub decreases-loop-word : goal.decreases-loop-word
decreases-loop-word l = length l.self
