use Rattle.std.proofs.Common.{arith, ◌+◌, add-one}
use Rattle.script_lang.specs.Cut.{parts_left}
use Rattle.script_lang.proofs.Cutting.{Lacks, Lacks-take_more, cut_at, cut_whole, rest_of}
use Rattle.script_lang.proofs.parts.cut_once.Goals as goal

pub loop-place-init : goal.loop-place-init
unfolding Lacks
loop-place-init c = tt

pub returns-then-byte-separator : goal.returns-then-byte-separator
unfolding parts_left
returns-then-byte-separator c =
    let at = cut_at c.args.separator c.loop-place.place c.args.bytes.now (omega arith) c.loop-place.invariant c.if-byte-separator.true in
    rw (rest_of c.args.bytes.now (c.loop-place.place + 1), add-one) at

pub loop-place-preserved : goal.loop-place-preserved
loop-place-preserved c = rw add-one (Lacks-take_more c.args.separator c.loop-place.place c.args.bytes.now (omega arith) c.loop-place.invariant c.if-byte-separator.false)

pub returns : goal.returns
unfolding parts_left
returns c = cut_whole c.args.separator c.loop-place.place c.args.bytes.now (omega arith) c.loop-place.invariant
