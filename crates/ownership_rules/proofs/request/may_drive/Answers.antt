use Rattle.std.proofs.Common.{refl, sym, ◌∙◌}
use Rattle.directory.specs.Driving.{answered}
use Rattle.zeus_model.specs.Ownership.{drive_cause}
use Rattle.ownership_rules.proofs.Rows.{answered-no, answered-yes_none, request-refused, request-source}
use Rattle.ownership_rules.proofs.request.may_drive.Goals as goal

pub returns-in-No-clause-answer : goal.returns-in-No-clause-answer
returns-in-No-clause-answer c =
    let no = answered-no (drive_cause c.args.node.now c.args.obj c.args.requester c.args.want) _ c.in-No.field-0 (sym c.in-No.is ∙ c.may_drive-drive.ensures.answer) in
    c.may_drive-drive.ensures.answer ∙ rw (no, request-refused c.args.node.now c.args.obj c.args.requester c.args.want c.in-No.field-0 no) refl

pub returns-in-None-clause-answer : goal.returns-in-None-clause-answer
returns-in-None-clause-answer c =
    let none = answered-yes_none (drive_cause c.args.node.now c.args.obj c.args.requester c.args.want) _ c.in-Yes.field-0 (sym c.in-Yes.is ∙ c.may_drive-drive.ensures.answer) in
    c.may_drive-drive.ensures.answer ∙ rw (none, request-source c.args.node.now c.args.obj c.args.requester c.args.want none, ← c.in-None.ensures) refl

pub returns-in-Some-clause-answer : goal.returns-in-Some-clause-answer
unfolding answered
returns-in-Some-clause-answer c =
    let none = answered-yes_none (drive_cause c.args.node.now c.args.obj c.args.requester c.args.want) _ c.in-Yes.field-0 (sym c.in-Yes.is ∙ c.may_drive-drive.ensures.answer) in
    rw (request-source c.args.node.now c.args.obj c.args.requester c.args.want none, ← c.in-Some.ensures) refl
