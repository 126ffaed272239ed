-- The numbers of a storm have a word each: if one of the words is none of its range, the words are those of no storm.
use Rattle.std.proofs.Common.{arith, refl}
use Rattle.zeus_cli.proofs.Words.{rest_same}
use Rattle.zeus_cli.proofs.command.take_numbers.Goals as goal

pub returns-in_err-slots-clause-none : goal.returns-in_err-slots-clause-none
returns-in_err-slots-clause-none c = λ _ n r all.
    let behind_nodes = rest_same c.in_ok-nodes.ensures.taken all in
    c.in_err-slots.ensures.none refl n.slots r.slots.0 r.slots.1 _ behind_nodes

pub returns-in_err-objects-clause-none : goal.returns-in_err-objects-clause-none
returns-in_err-objects-clause-none c = λ _ n r all.
    let behind_nodes = rest_same c.in_ok-nodes.ensures.taken all in
    let behind_slots = rest_same c.in_ok-slots.ensures.taken behind_nodes in
    c.in_err-objects.ensures.none refl n.objects r.objects.0 r.objects.1 _ behind_slots

pub returns-in_err-txs-clause-none : goal.returns-in_err-txs-clause-none
returns-in_err-txs-clause-none c = λ _ n r all.
    let behind_nodes = rest_same c.in_ok-nodes.ensures.taken all in
    let behind_slots = rest_same c.in_ok-slots.ensures.taken behind_nodes in
    let behind_objects = rest_same c.in_ok-objects.ensures.taken behind_slots in
    c.in_err-txs.ensures.none refl n.txs (omega arith) r.txs _ behind_objects

pub returns-in_err-steps-clause-none : goal.returns-in_err-steps-clause-none
returns-in_err-steps-clause-none c = λ _ n r all.
    let behind_nodes = rest_same c.in_ok-nodes.ensures.taken all in
    let behind_slots = rest_same c.in_ok-slots.ensures.taken behind_nodes in
    let behind_objects = rest_same c.in_ok-objects.ensures.taken behind_slots in
    let behind_txs = rest_same c.in_ok-txs.ensures.taken behind_objects in
    c.in_err-steps.ensures.none refl n.steps (omega arith) r.steps _ behind_txs

pub returns-in_err-loss-clause-none : goal.returns-in_err-loss-clause-none
returns-in_err-loss-clause-none c = λ _ n r all.
    let behind_nodes = rest_same c.in_ok-nodes.ensures.taken all in
    let behind_slots = rest_same c.in_ok-slots.ensures.taken behind_nodes in
    let behind_objects = rest_same c.in_ok-objects.ensures.taken behind_slots in
    let behind_txs = rest_same c.in_ok-txs.ensures.taken behind_objects in
    let behind_steps = rest_same c.in_ok-steps.ensures.taken behind_txs in
    c.in_err-loss.ensures.none refl n.loss (omega arith) r.loss _ behind_steps

pub returns-in_err-stops-clause-none : goal.returns-in_err-stops-clause-none
returns-in_err-stops-clause-none c = λ _ n r all.
    let behind_nodes = rest_same c.in_ok-nodes.ensures.taken all in
    let behind_slots = rest_same c.in_ok-slots.ensures.taken behind_nodes in
    let behind_objects = rest_same c.in_ok-objects.ensures.taken behind_slots in
    let behind_txs = rest_same c.in_ok-txs.ensures.taken behind_objects in
    let behind_steps = rest_same c.in_ok-steps.ensures.taken behind_txs in
    let behind_loss = rest_same c.in_ok-loss.ensures.taken behind_steps in
    c.in_err-stops.ensures.none refl n.stops (omega arith) r.stops _ behind_loss

pub returns-in_err-start-clause-none : goal.returns-in_err-start-clause-none
returns-in_err-start-clause-none c = λ _ n r all.
    let behind_nodes = rest_same c.in_ok-nodes.ensures.taken all in
    let behind_slots = rest_same c.in_ok-slots.ensures.taken behind_nodes in
    let behind_objects = rest_same c.in_ok-objects.ensures.taken behind_slots in
    let behind_txs = rest_same c.in_ok-txs.ensures.taken behind_objects in
    let behind_steps = rest_same c.in_ok-steps.ensures.taken behind_txs in
    let behind_loss = rest_same c.in_ok-loss.ensures.taken behind_steps in
    let behind_stops = rest_same c.in_ok-stops.ensures.taken behind_loss in
    c.in_err-start.ensures.none refl n.start (omega arith) (omega (arith, r.start)) _ behind_stops
