use Rattle.std.proofs.Common.{ap, ◌∙◌, arith}
use Rattle.zeus_wire.specs.Ranges.{AreBytes}
use Rattle.zeus_wire.specs.Reading.{decoded}
use Rattle.zeus_wire.proofs.Decoded.{decoded_again, is_found}
use Rattle.zeus_wire.proofs.reading.decode.Goals as goal

pub returns-clause-found : goal.returns-clause-found
returns-clause-found c =
    let are : AreBytes c.args.bytes.now = λ i. omega (arith, c.type_inv.bytes i) in
    is_found c.args.limits.now c.args.bytes.now c.decode_whole.result are c.decode_whole.ensures

pub returns-clause-only : goal.returns-clause-only
returns-clause-only c =
    λ p is fit spelled. c.decode_whole.ensures ∙ ap (decoded c.args.limits.now) spelled ∙ decoded_again c.args.limits.now p c.requires is fit
