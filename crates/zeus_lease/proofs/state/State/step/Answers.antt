use Rattle.std.proofs.Common.{refl}
use Rattle.zeus_lease.specs.Kept.{shown}
use Rattle.zeus_lease.proofs.Rows.{counted_row}
use Rattle.zeus_lease.proofs.state.State.step.Goals as goal

pub returns-clause-after : goal.returns-clause-after
returns-clause-after c = counted_row (shown c.args.self.now) (shown c.happen.new.self) c.args.step.now c.in_ok-answer.answer _ c.in_ok-answer.ensures.did refl
