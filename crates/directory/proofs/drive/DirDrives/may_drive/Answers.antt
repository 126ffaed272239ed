use Rattle.std.proofs.Common.{◌≡◌, refl, sym}
use Rattle.zeus_model.specs.State.{entry}
use Rattle.directory.specs.Driving.{answered}
use Rattle.directory.proofs.drive.DirDrives.may_drive.Goals as goal

pub returns-in-Some : goal.returns-in-Some
unfolding answered
returns-in-Some c = λ n is. rw (← c.in-Some.ensures.cause n is) refl

pub returns-in-None : goal.returns-in-None
unfolding answered
returns-in-None c = λ n is.
    let here : entry n c.args.obj ≡ c.entry.result.now = rw is.entries (sym c.entry.ensures) in
    rw (← c.in-None.ensures.cause n is, c.driven.ensures n c.args.obj here is.me) refl
