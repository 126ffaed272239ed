use Rattle.std.proofs.Common.{refl, [], ◌∷◌}
use Rattle.zeus_model.specs.Ownership.{acknowledgement, invalidations}
use Rattle.node_state.specs.EffectLaws.{adds-append}
use Rattle.ownership_rules.proofs.request.drive.Goals as goal

pub returns : goal.returns
returns c =
    record {
      says = refl;
      becomes = c.hold.ensures.after;
      adds =
          adds-append (invalidations c.args.node.now c.args.obj c.args.p.now) (acknowledgement c.args.node.now c.args.requester c.args.obj c.args.p.now ∷ []) [] [] c.args.out.now
          c.send_invalidations.new.out c.acknowledge.new.out c.send_invalidations.ensures c.acknowledge.ensures;
    }
