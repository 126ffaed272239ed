use Rattle.std.proofs.Common.{◌≡◌, true, false, arith}
use Rattle.zeus_model.specs.Ownership.{is_decidable}
use Rattle.arbitration.proofs.Noting.{decision-made, decision-not}
use Rattle.arbitration.proofs.gathers.decision_of.Goals as goal

pub returns-then-not-is_decidable : goal.returns-then-not-is_decidable
returns-then-not-is_decidable c = λ n m d.
    let is = c.is_decidable.ensures n m d in
    let not_now : is_decidable n c.args.gather.now ≡ false = grind arith in
    decision-not n _ not_now

pub returns : goal.returns
returns c = λ n m d.
    let is = c.is_decidable.ensures n m d in
    let now : is_decidable n c.args.gather.now ≡ true = grind arith in
    rw c.decision_with.ensures (decision-made n _ now)
