use Rattle.std.proofs.Common.{length, arith, ap, ◌∙◌}
use Rattle.node_state.specs.EffectLaws.{cut_room, cut_full}
use Rattle.node_state.proofs.effect.Letters.push.Goals as goal

pub returns-then-len-lt-ROOM : goal.returns-then-len-lt-ROOM
returns-then-len-lt-ROOM c =
    let e = ap length c.self.view_is in c.push_copy.ensures.items ∙ rw c.self.view_is (cut_room _ _ (omega arith))

pub returns-else-len-lt-ROOM : goal.returns-else-len-lt-ROOM
returns-else-len-lt-ROOM c = let e = ap length c.self.view_is in cut_full _ _ (omega arith) (omega (arith, c.self.invariant))
