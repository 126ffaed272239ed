use Rattle.zeus_base.specs.declared.step.Step.TheVariants.{View as ViewStep}
use Rattle.zeus_model.specs.World.{happens}
use Rattle.zeus_lease.specs.Kept.{shown}
use Rattle.zeus_lease.specs.Machine.{seen}
use Rattle.zeus_lease.proofs.Rows.{seen_with, viewed_row}
use Rattle.zeus_lease.proofs.state.State.view.Goals as goal

pub returns-clause-did : goal.returns-clause-did
returns-clause-did c =
    let m = shown c.args.self.now in
    let with = seen_with m c.stopped-stopped.result c.stopped-stopped.ensures c.requires.kept.safe.members in
    viewed_row m (happens (seen m) (ViewStep c.args.members)) c.in_ok-view.field-0 c.view.new.self (c.in_ok-view.ensures.answer (seen m) with) (c.in_ok-view.ensures.after (seen m) with)
