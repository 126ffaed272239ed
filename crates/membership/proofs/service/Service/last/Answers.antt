use Rattle.membership.proofs.Making.{last_view_read}
use Rattle.membership.proofs.service.Service.last.Goals as goal

pub returns : goal.returns
returns c =
    rw (← c.self.view_is) (last_view_read _ _ c.self.invariant.some (rw c.as_slice-views.ensures.value at c.index-views-views.is))
