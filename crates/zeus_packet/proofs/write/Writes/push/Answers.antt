use Rattle.std.proofs.Common.{arith, ap, sym, ◌∙◌, ◌≡◌, ◌<◌, length}
use Rattle.zeus_packet.specs.Kept.{IsKept-set, length-kept}
use Rattle.zeus_packet.proofs.write.Writes.push.Goals as goal

pub invariant_of-self : goal.invariant_of-self
invariant_of-self c =
    let long : length c.args.self.now ≡ c.self.inside.len = ap length (sym c.self.view_is) ∙ length-kept c.self.inside c.self.invariant in
    let room : c.self.inside.len < 8 = omega (arith, long, c.requires) in
    IsKept-set c.self.inside c.args.write c.self.invariant room
