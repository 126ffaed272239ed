use Rattle.std.proofs.Common.{◌≡◌, length}
use Rattle.zeus_model.specs.Tables.{nth, where_true}
use Rattle.zeus_lease.specs.declared.answer.LeaseAnswer.TheVariants.{Skewed}
use Rattle.zeus_lease.specs.Machine.{is_skewed, skewed_beside}
use Rattle.zeus_lease.proofs.Searching.{first_from}
use Rattle.zeus_lease.proofs.state.skewed_beside.Given as goal

-- the clocks that are left have the same first one
abbrev pub invariant-loop-slow : goal.invariant-loop-slow
invariant-loop-slow l =
    first_from (λ slow. where_true (is_skewed l.percent (nth 0 l.ticks l.fast) (nth 0 l.ticks slow)) (Skewed l.fast slow)) (length l.ticks) l.slow ≡ skewed_beside l.percent l.ticks (length l.ticks) l.fast
