use Rattle.std.proofs.Common.{ℕ, true, false, sym, ◌∙◌, length}
use Rattle.zeus_model.specs.Tables.{nth, where_true}
use Rattle.zeus_lease.specs.declared.answer.LeaseAnswer.TheVariants.{Skewed}
use Rattle.zeus_lease.specs.Machine.{is_skewed}
use Rattle.zeus_lease.proofs.Rows.{test_made, test_met, test_missed}
use Rattle.zeus_lease.proofs.Searching.{first_from-found, first_from-none, first_from-passed}
use Rattle.zeus_lease.proofs.state.skewed_beside.Goals as goal

pub returns-then-is_skewed : goal.returns-then-is_skewed
returns-then-is_skewed c =
    let ticks = c.args.ticks.now in
    let test = test_made c.args.percent ticks c.args.fast c.loop-slow.slow c.from.result c.from-in-loop-slow.result c.is_skewed.result true c.is_skewed.ensures c.from.ensures c.from-in-loop-slow.ensures c.if-is_skewed.true in
    sym (first_from-found (λ (slow : ℕ). where_true (is_skewed c.args.percent (nth 0 ticks c.args.fast) (nth 0 ticks slow)) (Skewed c.args.fast slow)) (length ticks) c.loop-slow.slow _ c.loop-slow-test.true (test_met _ _ test))
    ∙ c.loop-slow.invariant

pub loop-slow-preserved : goal.loop-slow-preserved
loop-slow-preserved c =
    let ticks = c.args.ticks.now in
    let test = test_made c.args.percent ticks c.args.fast c.loop-slow.slow c.from.result c.from-in-loop-slow.result c.is_skewed.result false c.is_skewed.ensures c.from.ensures c.from-in-loop-slow.ensures c.if-is_skewed.false in
    sym (first_from-passed (λ (slow : ℕ). where_true (is_skewed c.args.percent (nth 0 ticks c.args.fast) (nth 0 ticks slow)) (Skewed c.args.fast slow)) (length ticks) c.loop-slow.slow c.loop-slow-test.true (test_missed _ _ test))
    ∙ c.loop-slow.invariant

pub returns : goal.returns
returns c =
    let ticks = c.args.ticks.now in
    sym (first_from-none (λ (slow : ℕ). where_true (is_skewed c.args.percent (nth 0 ticks c.args.fast) (nth 0 ticks slow)) (Skewed c.args.fast slow)) (length ticks) c.loop-slow.slow c.loop-slow-test.false)
    ∙ c.loop-slow.invariant
