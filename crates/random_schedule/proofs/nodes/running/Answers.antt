use Rattle.std.proofs.Common.{◌≡◌, [], ◌∷◌}
use Rattle.random_schedule.proofs.Running.{all_left, looked_at, none_left, rising_shown}
use Rattle.random_schedule.proofs.nodes.running.Goals as goal

pub loop-node-init : goal.loop-node-init
loop-node-init c =
    let rising = rising_shown c.args.nodes c.well_formed.1.0.1.0.0 in
    rw c.into_iter-node-iterator.ensures.into_iter_gives (all_left c.args.world.now c.args.nodes rising)

pub loop-node-preserved : goal.loop-node-preserved
loop-node-preserved c =
    let next : c.loop-node.node-iterator ≡ c.in-Some.node ∷ c.next.new.self = c.in-Some.ensures.steps in
    looked_at c.args.world.now c.args.nodes c.loop-node.running _ c.loop-node.node-iterator c.next.new.self c.in-Some.node c.loop-node.invariant next
    c.if_running-running.ensures

pub returns : goal.returns
returns c =
    let rising = rising_shown c.args.nodes c.well_formed.1.0.1.0.0 in
    let done : c.loop-node.node-iterator ≡ [] = c.in-None.ensures.steps.0 in
    none_left c.args.world.now c.args.nodes c.loop-node.node-iterator c.loop-node.running rising done c.loop-node.invariant
