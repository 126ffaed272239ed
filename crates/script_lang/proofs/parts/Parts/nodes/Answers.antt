use Rattle.std.proofs.Common.{◌≡◌, Ok, Err, arith, add-one, sym}
use Rattle.std.proofs.lemmas.Result.{err_from_is_err_and}
use Rattle.script_lang.specs.NodeLists.{listed_of}
use Rattle.script_lang.proofs.NodeSteps.{nodes_next, nodes_fail, nodes_end}
use Rattle.script_lang.proofs.parts.Parts.nodes.Goals as goal

pub returns-in_err-node : goal.returns-in_err-node
returns-in_err-node c =
    let p = err_from_is_err_and c.from_residual.result c.from_residual.ensures.1 in
    let rule = c.args.rule.now in
    let failed : listed_of rule.nodes rule.most rule.owner c.loop-word.listed c.loop-word.lowest c.in-Some.word.now ≡ Err c.in_err-node.field-0.0 = sym c.in_err-node.ensures in
    rw (p.1, p.2) (nodes_fail rule.nodes rule.most rule.owner c.loop-word.listed c.loop-word.lowest c.loop-word.self _ c.loop-word.invariant.1 c.in_err-node.field-0.0 c.in-Some.word.now c.next_part.new.self c.in-Some.ensures failed)

pub loop-word-preserved : goal.loop-word-preserved
loop-word-preserved c =
    let rule = c.args.rule.now in
    let node : c.node.inside.0 ≡ c.in_ok-node.node = c.node.view_is in
    let went : listed_of rule.nodes rule.most rule.owner c.loop-word.listed c.loop-word.lowest c.in-Some.word.now ≡ Ok c.in_ok-node.node = sym c.in_ok-node.ensures in
    (omega (arith, c.node.invariant), rw (node, add-one, c.insert-listed.ensures) (nodes_next rule.nodes rule.most rule.owner c.loop-word.listed c.loop-word.lowest c.loop-word.self _ c.loop-word.invariant.1 c.in_ok-node.node c.in-Some.word.now c.next_part.new.self c.in-Some.ensures went))

pub returns : goal.returns
returns c =
    let rule = c.args.rule.now in
    nodes_end rule.nodes rule.most rule.owner c.loop-word.listed c.loop-word.lowest c.loop-word.self _ c.loop-word.invariant.1 c.in_default.ensures.0
