use Rattle.std.proofs.Common.{arith, refl}
use Rattle.std.proofs.lemmas.Nat.{one_shl}
use Rattle.zeus_packet.specs.Fits.{nodes_fit}
use Rattle.zeus_wire.proofs.Sets.{all_below}
use Rattle.zeus_wire.proofs.reading.fields.are_within.Goals as goal

pub returns : goal.returns
unfolding nodes_fit
returns c =
    rw (all_below c.args.limits.nodes c.args.bits (omega arith), c.from.ensures, one_shl c.args.limits.nodes 32 (omega arith)) refl
