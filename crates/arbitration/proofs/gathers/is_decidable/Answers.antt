use Rattle.std.proofs.Common.{rules}
use Rattle.arbitration.proofs.Noting.{is_decidable-known}
use Rattle.arbitration.proofs.gathers.is_decidable.Goals as goal

pub returns-then-is_some-4 : goal.returns-then-is_some-4
returns-then-is_some-4 c = λ n m d. rw (is_decidable-known n _ _ _ m d) (search rules)

pub returns-else-is_some-4 : goal.returns-else-is_some-4
returns-else-is_some-4 c = λ n m d. rw (is_decidable-known n _ _ _ m d) (search rules)
