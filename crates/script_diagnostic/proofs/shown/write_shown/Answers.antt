use Rattle.std.proofs.Common.{refl}
use Rattle.script_diagnostic.specs.Text.{shown, shown_byte}
use Rattle.zeus_base.specs.LoopLaws.{all_done}
use Rattle.script_diagnostic.proofs.Bytes.{byte_more}
use Rattle.script_diagnostic.proofs.shown.write_shown.Goals as goal

pub loop-byte-preserved : goal.loop-byte-preserved
unfolding shown
loop-byte-preserved c =
    byte_more shown shown_byte (λ b bs. refl) c.args.bytes.now c.loop-byte.byte-index c.loop-byte.out.items c.write_byte.new.out.items _ c.loop-byte-test.true c.loop-byte.invariant c.in_ok-write_byte.ensures

pub returns : goal.returns
unfolding shown
returns c = all_done shown refl c.args.bytes.now c.loop-byte.byte-index c.loop-byte.out.items _ c.loop-byte-test.false c.loop-byte.invariant
