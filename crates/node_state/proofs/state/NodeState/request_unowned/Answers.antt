use Rattle.std.proofs.Common.{sym, ◌∙◌}
use Rattle.zeus_packet.specs.declared.place.Want.TheVariants.{Own}
use Rattle.node_state.specs.EffectLaws.{adds_passes, adds_room}
use Rattle.node_state.proofs.Requesting.{owned_none, owned_here, letters_end, letters_step, unowned_here}
use Rattle.node_state.proofs.state.NodeState.request_unowned.Goals.{then-not-owns, else-not-owns}
use Rattle.node_state.proofs.state.NodeState.request_unowned.Goals as goal

pub loop-object-preserved : goal.loop-object-preserved
loop-object-preserved c =
    let n = c.args.self.now in
    let xs = c.as_slice-object-items.result.now in
    let i = c.loop-object.object-index in
    let kept = c.loop-object.invariant in
    elim c.if-not-owns.branch [
      | then-not-owns w ↦ record {
        letters = rw w.out-is (letters_step _ _ _ _ _ w.request.ensures (unowned_here n Own xs i _ c.loop-object-test.true c.object-item.is (sym c.owns.ensures ∙ w.if-not-owns.true)) ∙ kept.letters);
        passes = rw w.out-is (adds_passes _ _ _ w.request.ensures ∙ kept.passes);
        room = rw w.out-is (adds_room _ _ _ _ w.request.ensures);
      }
      | else-not-owns w ↦ rw (w.out-is, owned_here n Own xs i _ c.loop-object-test.true c.object-item.is (sym c.owns.ensures ∙ w.if-not-owns.false)) record { letters = kept.letters; passes = kept.passes; room = kept.room }
    ]

pub returns : goal.returns
returns c =
    let kept = c.loop-object.invariant in
    letters_end _ _ _ _ (owned_none c.args.self.now Own c.as_slice-object-items.result.now c.loop-object.object-index c.loop-object-test.false) kept.letters kept.passes kept.room
