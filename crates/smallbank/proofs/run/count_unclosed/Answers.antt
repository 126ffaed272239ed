use Rattle.std.proofs.Common.{◌<◌, ◌≤◌, ap, arith, length}
use Rattle.smallbank.proofs.Counting.{unclosed-few, unclosed-none, unclosed_more}
use Rattle.smallbank.proofs.run.count_unclosed.Goals as goal

pub overflow_add-count : goal.overflow_add-count
overflow_add-count c =
    let w = c.args.world.now in
    let same = ap length c.txs.ensures in
    let end = c.len-number-end.ensures in
    let less : c.loop-number.number < length w.txs = omega arith in
    let more = unclosed_more w c.loop-number.number (length w.txs) less in
    let few = unclosed-few w 0 (length w.txs) in
    let one = c.unclosed_one-count.ensures in
    let left = c.loop-number.invariant in
    omega arith

pub loop-number-preserved : goal.loop-number-preserved
loop-number-preserved c =
    let w = c.args.world.now in
    let same = ap length c.txs.ensures in
    let end = c.len-number-end.ensures in
    let less : c.loop-number.number < length w.txs = omega arith in
    let more = unclosed_more w c.loop-number.number (length w.txs) less in
    let one = c.unclosed_one-count.ensures in
    let left = c.loop-number.invariant in
    omega arith

pub returns : goal.returns
returns c =
    let w = c.args.world.now in
    let same = ap length c.txs.ensures in
    let end = c.len-number-end.ensures in
    let past : length w.txs ≤ c.loop-number.number = omega arith in
    let none = unclosed-none w c.loop-number.number (length w.txs) past in
    let left = c.loop-number.invariant in
    omega arith
