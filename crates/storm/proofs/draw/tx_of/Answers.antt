use Rattle.std.proofs.Common.{arith}
use Rattle.storm.proofs.Making.{few-made}
use Rattle.storm.proofs.draw.tx_of.Goals as goal

pub unwrap-requires : goal.unwrap-requires
unwrap-requires c = let made = few-made c.args.ops.now c.requires.0 c.requires.1 in grind (arith, c.new.ensures)

pub returns : goal.returns
returns c = let made = few-made c.args.ops.now c.requires.0 c.requires.1 in grind (arith, c.new.ensures, c.unwrap.ensures)
