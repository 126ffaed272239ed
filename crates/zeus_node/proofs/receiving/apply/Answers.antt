use Rattle.std.proofs.Common.{refl}
use Rattle.zeus_model.specs.Receive.{row}
use Rattle.node_ranges.specs.Ranges.{limits_of}
use Rattle.node_state.specs.EffectLaws.{adds_nothing, quiet_done}
use Rattle.zeus_node.proofs.Bodies.{ack-object, ack-proposal, acknowledged-fits, decided-object, decided-place, decided-stamp, entry-fits, passed-fits, proposal-object, proposal-proposal, request-object}
use Rattle.zeus_node.proofs.receiving.apply.Goals as goal

pub on_rinv-requires-clause-fits : goal.on_rinv-requires-clause-fits
on_rinv-requires-clause-fits c = entry-fits (limits_of c.args.state.now) c.in-RInv.r (rw c.in-RInv.is at c.requires.body)

pub on_rack-requires : goal.on_rack-requires
on_rack-requires c = acknowledged-fits (limits_of c.args.state.now) c.in-RAck.stream c.in-RAck.number (rw c.in-RAck.is at c.requires.body)

pub on_rval-requires : goal.on_rval-requires
on_rval-requires c = passed-fits (limits_of c.args.state.now) c.in-RVal.stream c.in-RVal.done (rw c.in-RVal.is at c.requires.body)

pub on_oreq-requires-clause-object : goal.on_oreq-requires-clause-object
on_oreq-requires-clause-object c = request-object (limits_of c.args.state.now) c.in-OReq.obj c.in-OReq.want (rw c.in-OReq.is at c.requires.body)

pub on_oinv-requires-clause-object : goal.on_oinv-requires-clause-object
on_oinv-requires-clause-object c = proposal-object (limits_of c.args.state.now) c.in-OInv.obj c.in-OInv.p (rw c.in-OInv.is at c.requires.body)

pub on_oinv-requires-clause-proposal : goal.on_oinv-requires-clause-proposal
on_oinv-requires-clause-proposal c = proposal-proposal (limits_of c.args.state.now) c.in-OInv.obj c.in-OInv.p (rw c.in-OInv.is at c.requires.body)

pub on_oack-requires-clause-object : goal.on_oack-requires-clause-object
on_oack-requires-clause-object c = ack-object (limits_of c.args.state.now) c.in-OAck.obj c.in-OAck.p c.in-OAck.content (rw c.in-OAck.is at c.requires.body)

pub on_oack-requires-clause-proposal : goal.on_oack-requires-clause-proposal
on_oack-requires-clause-proposal c = ack-proposal (limits_of c.args.state.now) c.in-OAck.obj c.in-OAck.p c.in-OAck.content (rw c.in-OAck.is at c.requires.body)

pub on_oval-requires-clause-object : goal.on_oval-requires-clause-object
on_oval-requires-clause-object c = decided-object (limits_of c.args.state.now) c.in-OVal.obj c.in-OVal.stamp c.in-OVal.place (rw c.in-OVal.is at c.requires.body)

pub on_oval-requires-clause-stamp : goal.on_oval-requires-clause-stamp
on_oval-requires-clause-stamp c = decided-stamp (limits_of c.args.state.now) c.in-OVal.obj c.in-OVal.stamp c.in-OVal.place (rw c.in-OVal.is at c.requires.body)

pub on_oval-requires-clause-place : goal.on_oval-requires-clause-place
on_oval-requires-clause-place c = decided-place (limits_of c.args.state.now) c.in-OVal.obj c.in-OVal.stamp c.in-OVal.place (rw c.in-OVal.is at c.requires.body)

pub returns-in-RInv : goal.returns-in-RInv
unfolding row
returns-in-RInv c = rw c.in-RInv.is c.on_rinv.ensures

pub returns-in-RAck : goal.returns-in-RAck
unfolding row
returns-in-RAck c = rw c.in-RAck.is (quiet_done _ _ _ c.args.out.now c.on_rack.ensures c.requires.room)

pub returns-in-RVal : goal.returns-in-RVal
unfolding row
returns-in-RVal c = rw c.in-RVal.is (quiet_done _ _ _ c.args.out.now c.on_rval.ensures c.requires.room)

pub returns-in-OReq : goal.returns-in-OReq
unfolding row
returns-in-OReq c = rw c.in-OReq.is c.on_oreq.ensures

pub returns-in-OInv : goal.returns-in-OInv
unfolding row
returns-in-OInv c = rw c.in-OInv.is c.on_oinv.ensures

pub returns-in-OAck : goal.returns-in-OAck
unfolding row
returns-in-OAck c = rw c.in-OAck.is c.on_oack.ensures

pub returns-in-ONack : goal.returns-in-ONack
unfolding row
returns-in-ONack c = rw c.in-ONack.is (record { says = refl; becomes = refl; adds = adds_nothing c.args.out.now c.requires.room })

pub returns-in-OVal : goal.returns-in-OVal
unfolding row
returns-in-OVal c = rw c.in-OVal.is (quiet_done _ _ _ c.args.out.now c.on_oval.ensures c.requires.room)

pub returns-in-Recovered : goal.returns-in-Recovered
unfolding row
returns-in-Recovered c = rw c.in-Recovered.is (quiet_done _ _ _ c.args.out.now c.on_recovered.ensures c.requires.room)
