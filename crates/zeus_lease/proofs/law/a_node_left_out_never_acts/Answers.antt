use Rattle.zeus_lease.specs.Machine.{run, start}
use Rattle.zeus_lease.proofs.Safe.{law_never, law_stays, law_view}
use Rattle.zeus_lease.proofs.law.a_node_left_out_never_acts.Goals as goal

pub returns-clause-never : goal.returns-clause-never
returns-clause-never c = law_never

pub returns-clause-stays : goal.returns-clause-stays
returns-clause-stays c = law_stays

pub returns-clause-view : goal.returns-clause-view
returns-clause-view c = λ nodes term percent before. law_view (run (start nodes term percent) before)
