use Rattle.std.proofs.Common.{◌≡◌, ◌==◌, ◌∙◌, true, false, refl, sym, arith}
use Rattle.zeus_txn.proofs.WriteLemmas.{latest-step, latest-end}
use Rattle.zeus_txn.proofs.lists.latest.Goals as goal

pub returns-then-eq : goal.returns-then-eq
returns-then-eq c =
    let step = latest-step c.as_slice-writes.result.now c.loop-write.write-index c.write-item.result c.args.obj c.args.found c.loop-write-test.true c.write-item.is in
    let this : (c.args.obj == c.write-item.result.0) ≡ true = sym c.eq.ensures ∙ c.if-eq.true in
    rw (← c.as_slice-writes.ensures.list, ← c.loop-write.invariant, step, this) refl

pub loop-write-preserved : goal.loop-write-preserved
loop-write-preserved c =
    let step = latest-step c.as_slice-writes.result.now c.loop-write.write-index c.write-item.result c.args.obj c.args.found c.loop-write-test.true c.write-item.is in
    let other : (c.args.obj == c.write-item.result.0) ≡ false = sym c.eq.ensures ∙ c.if-eq.false in
    sym (rw other at step) ∙ c.loop-write.invariant

pub returns : goal.returns
returns c =
    let last = latest-end c.as_slice-writes.result.now c.loop-write.write-index c.args.obj c.args.found (omega arith) in
    rw (← c.as_slice-writes.ensures.list) (sym last ∙ c.loop-write.invariant)
