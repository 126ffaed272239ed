use Rattle.std.proofs.Common.{ℕ, ◌-◌, List, [], refl}
use Rattle.zeus_base.specs.TableLaws.{nth-get_or}
use Rattle.membership.proofs.service.Service.get.Goals as goal

pub returns-clause-view : goal.returns-clause-view
returns-clause-view c =
    rw (← c.self.view_is, nth-get_or {A = List ℕ} [] c.self.inside.views.items (c.args.epoch - 1), ← c.deref.ensures.value, ← c.in_ok-members.ensures.lookup.3.1 []) refl
