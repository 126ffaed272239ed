use Rattle.std.proofs.Common.{refl, map, decimal}
use Rattle.zeus_base.specs.LoopLaws.{all_done}
use Rattle.zeus_model.specs.Spelling.{spaced}
use Rattle.zeus_lease.proofs.print.write_ticks.Goals as goal

pub returns : goal.returns
unfolding spaced
returns c = all_done (λ ts. spaced (map decimal ts)) refl c.args.ticks.now c.loop-tick.tick-index c.loop-tick.out.items _ c.loop-tick-test.false c.loop-tick.invariant
