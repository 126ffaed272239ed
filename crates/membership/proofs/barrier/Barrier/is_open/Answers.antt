use Rattle.membership.proofs.Reporting.{is_open-known}
use Rattle.membership.proofs.barrier.Barrier.is_open.Goals as goal

pub returns-clause-open : goal.returns-clause-open
returns-clause-open c = λ n members reported.
    rw (c.is_subset.ensures, c.self.view_is) (is_open-known n _ _ members reported)
