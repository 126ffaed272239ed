use Rattle.std.proofs.Common.{length, arith}
use Rattle.zeus_base.specs.Tables.{below}
use Rattle.zeus_model.specs.Membership.{repeat_kept}
use Rattle.node_ranges.specs.CommitRules.{stream_fits-from}
use Rattle.node_ranges.specs.Ranges.{limits_of}
use Rattle.tick_rules.proofs.Saying.{each-end, each-start, each-step, letters-streams_of}
use Rattle.tick_rules.proofs.entries.repeat_streams.Goals as goal

pub loop-slot-init : goal.loop-slot-init
loop-slot-init c =
    each-start (λ s. repeat_kept c.args.node.now record { node = c.args.other; slot = s }) (length c.args.node.now.slots) _ _
    (letters-streams_of (repeat_kept c.args.node.now) c.args.other (below (length c.args.node.now.slots))) c.requires.room

pub repeat_stream-requires-clause-stream : goal.repeat_stream-requires-clause-stream
repeat_stream-requires-clause-stream c =
    stream_fits-from (limits_of c.args.node.now) (record { node = c.args.other; slot = c.loop-slot.slot }) c.requires.other (omega arith)

pub loop-slot-preserved : goal.loop-slot-preserved
loop-slot-preserved c =
    each-step (λ s. repeat_kept c.args.node.now record { node = c.args.other; slot = s }) (length c.args.node.now.slots) _ c.loop-slot.slot _ _ _ (omega arith) c.loop-slot.invariant c.repeat_stream.ensures

pub returns : goal.returns
returns c = each-end (λ s. repeat_kept c.args.node.now record { node = c.args.other; slot = s }) (length c.args.node.now.slots) _ c.loop-slot.slot _ _ (omega arith) c.loop-slot.invariant
