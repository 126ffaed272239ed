use Rattle.std.proofs.Common.{ap}
use Rattle.zeus_base.specs.declared.config.Limits.{Limits}
use Rattle.node_ranges.specs.Places.{new_place-fits, proposal_fits-parts}
use Rattle.node_ranges.specs.Ranges.{limits_of}
use Rattle.ownership_rules.proofs.Rows.{limits_of-settle}
use Rattle.ownership_rules.proofs.decide.carry_out.Goals as goal

pub settle-requires-clause-stamp : goal.settle-requires-clause-stamp
settle-requires-clause-stamp c = (proposal_fits-parts (limits_of c.args.node.now) c.args.p.now c.requires.proposal).stamp

pub settle-requires-clause-place : goal.settle-requires-clause-place
settle-requires-clause-place c = rw c.new_place.ensures (new_place-fits (limits_of c.args.node.now) c.args.p.now c.requires.proposal)

pub bring-requires : goal.bring-requires
bring-requires c =
    let same = ap (λ (l : Limits). l.objects) (limits_of-settle c.args.node.now c.args.obj c.args.p.now.stamp c.new_place.result c.requires.object) in
    rw (c.settle.ensures, same) c.requires.object
