use Rattle.std.proofs.Common.{◌≡◌, ◌+◌, [], ◌∷◌, ◌∙◌, true, false, length, refl, sym, length-append, arith}
use Rattle.zeus_base.specs.Nodes.{has}
use Rattle.commit_pipeline.proofs.Sends.{few_shown, sends-acked, sends-lacking, sends-none}
use Rattle.commit_pipeline.proofs.due.DueList.add.Goals as goal

pub loop-node-preserved-then-not-has : goal.loop-node-preserved-then-not-has
loop-node-preserved-then-not-has c =
    let next : c.loop-node.node-iterator ≡ c.in-Some.node ∷ c.next.new.self = c.in-Some.ensures.steps in
    let lacks : has c.in-Some.node c.args.acks ≡ false = sym c.has.ensures ∙ c.if-not-has.true in
    let left : length c.loop-node.node-iterator ≡ length c.next.new.self + 1 = rw next (omega arith) in
    record {
      items =
          rw c.push_reserved.ensures.items
          (sends-lacking _ c.args.number c.in-Some.node c.next.new.self _ c.args.acks next lacks ∙ c.loop-node.invariant.items);
      room = rw (c.push_reserved.ensures.items, length-append) (omega (arith, left, c.loop-node.invariant.room));
      capacity = rw c.push_reserved.ensures.capacity c.loop-node.invariant.capacity;
    }

pub loop-node-preserved : goal.loop-node-preserved
loop-node-preserved c =
    let next : c.loop-node.node-iterator ≡ c.in-Some.node ∷ c.next.new.self = c.in-Some.ensures.steps in
    let acked : has c.in-Some.node c.args.acks ≡ true = sym c.has.ensures ∙ c.if-not-has.false in
    let left : length c.loop-node.node-iterator ≡ length c.next.new.self + 1 = rw next (omega arith) in
    record {
      items = sends-acked _ c.args.number c.in-Some.node c.next.new.self _ c.args.acks next acked ∙ c.loop-node.invariant.items;
      room = omega (arith, left, c.loop-node.invariant.room);
      capacity = c.loop-node.invariant.capacity;
    }

pub loop-node-init : goal.loop-node-init
loop-node-init c =
    let few = few_shown c.args.followers c.well_formed.1.1.0.1.0.0 in
    let room = rw (← c.self.view_is) at c.requires in
    record {
      items = rw c.into_iter-node-iterator.ensures.into_iter_gives refl;
      room = rw c.into_iter-node-iterator.ensures.into_iter_gives (omega (arith, few, room));
      capacity = c.self.invariant;
    }

pub returns-clause-few : goal.returns-clause-few
returns-clause-few c = few_shown c.args.followers c.well_formed.1.1.0.1.0.0

pub returns-clause-added : goal.returns-clause-added
returns-clause-added c =
    let done : c.loop-node.node-iterator ≡ [] = c.in-None.ensures.steps.0 in
    rw (← c.self.view_is)
    (sym (sends-none _ c.args.number _ c.args.acks done) ∙ c.loop-node.invariant.items)
