use Rattle.std.proofs.Common.{◌≡◌, None, sym, ◌∙◌, length}
use Rattle.zeus_lease.specs.Machine.{skewed_beside}
use Rattle.zeus_lease.proofs.Rows.{none_there}
use Rattle.zeus_lease.proofs.Searching.{first_from-some, first_from-none, first_from-passed}
use Rattle.zeus_lease.proofs.state.skew.Goals as goal

pub returns-then-is_some : goal.returns-then-is_some
returns-then-is_some c =
    let ticks = c.args.ticks.now in
    sym (first_from-some (skewed_beside c.args.percent ticks (length ticks)) (length ticks) c.loop-fast.fast c.skewed_beside-skewed.result c.loop-fast-test.true (sym c.skewed_beside-skewed.ensures) (sym c.is_some.ensures ∙ c.if-is_some.true))
    ∙ c.loop-fast.invariant

pub loop-fast-preserved : goal.loop-fast-preserved
loop-fast-preserved c =
    let ticks = c.args.ticks.now in
    let none : c.skewed_beside-skewed.result ≡ None = none_there c.skewed_beside-skewed.result (sym c.is_some.ensures ∙ c.if-is_some.false) in
    sym (first_from-passed (skewed_beside c.args.percent ticks (length ticks)) (length ticks) c.loop-fast.fast c.loop-fast-test.true (sym c.skewed_beside-skewed.ensures ∙ none))
    ∙ c.loop-fast.invariant

pub returns : goal.returns
returns c =
    let ticks = c.args.ticks.now in
    sym (first_from-none (skewed_beside c.args.percent ticks (length ticks)) (length ticks) c.loop-fast.fast c.loop-fast-test.false) ∙ c.loop-fast.invariant
