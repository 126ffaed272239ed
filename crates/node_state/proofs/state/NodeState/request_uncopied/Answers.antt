use Rattle.std.proofs.Common.{◌∙◌}
use Rattle.zeus_packet.specs.declared.place.Want.TheVariants.{Read}
use Rattle.node_state.specs.EffectLaws.{adds_passes, adds_room}
use Rattle.node_state.proofs.Requesting.{copied_none, copied_here, letters_end, letters_step, uncopied_by, uncopied_here}
use Rattle.node_state.proofs.state.NodeState.request_uncopied.Goals.{then-is_none, else-is_none}
use Rattle.node_state.proofs.state.NodeState.request_uncopied.Goals as goal

pub loop-object-preserved : goal.loop-object-preserved
loop-object-preserved c =
    let n = c.args.self.now in
    let xs = c.as_slice-object-items.result.now in
    let i = c.loop-object.object-index in
    let kept = c.loop-object.invariant in
    elim c.if-is_none.branch [
      | then-is_none w ↦ record {
        letters = rw w.out-is (letters_step _ _ _ _ _ w.request.ensures (uncopied_here n Read xs i _ c.loop-object-test.true c.object-item.is (uncopied_by _ _ _ _ c.is_none.ensures c.copy.ensures w.if-is_none.true)) ∙ kept.letters);
        passes = rw w.out-is (adds_passes _ _ _ w.request.ensures ∙ kept.passes);
        room = rw w.out-is (adds_room _ _ _ _ w.request.ensures);
      }
      | else-is_none w ↦ rw (w.out-is, copied_here n Read xs i _ c.loop-object-test.true c.object-item.is (uncopied_by _ _ _ _ c.is_none.ensures c.copy.ensures w.if-is_none.false)) record { letters = kept.letters; passes = kept.passes; room = kept.room }
    ]

pub returns : goal.returns
returns c =
    let kept = c.loop-object.invariant in
    letters_end _ _ _ _ (copied_none c.args.self.now Read c.as_slice-object-items.result.now c.loop-object.object-index c.loop-object-test.false) kept.letters kept.passes kept.room
