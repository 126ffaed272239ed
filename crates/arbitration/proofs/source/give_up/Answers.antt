use Rattle.std.proofs.Common.{◌≡◌, ◌∙◌}
use Rattle.arbitration.specs.Giving.{give_up_cause, told_cause}
use Rattle.arbitration.proofs.Causes.{give_up_cause-kept, give_up_cause-known, give_up_cause-unkept}
use Rattle.arbitration.proofs.source.give_up.Goals as goal

pub returns-clause-cause : goal.returns-clause-cause
returns-clause-cause c = λ n is.
    rw (c.answer.ensures.cause, c.copy-copy.ensures, c.holder.ensures, c.kept_from-kept.ensures)
    (give_up_cause-known n c.args.obj c.args.copies.now c.args.me c.args.requester c.args.keeper is)

pub returns-clause-content : goal.returns-clause-content
returns-clause-content c = λ n is. rw (is.copy, ← c.copy-copy.ensures) c.answer.ensures.content

pub returns-clause-kept : goal.returns-clause-kept
returns-clause-kept c = λ n is kept.
    let cause : told_cause c.answer.result ≡ give_up_cause n c.args.obj c.args.requester c.args.keeper =
    rw (c.answer.ensures.cause, c.copy-copy.ensures, c.holder.ensures, c.kept_from-kept.ensures)
    (give_up_cause-known n c.args.obj c.args.copies.now c.args.me c.args.requester c.args.keeper is)
    in
    cause ∙ give_up_cause-kept n c.args.obj c.args.requester c.args.keeper kept

pub returns-clause-unkept : goal.returns-clause-unkept
returns-clause-unkept c = λ n is none.
    let cause : told_cause c.answer.result ≡ give_up_cause n c.args.obj c.args.requester c.args.keeper =
    rw (c.answer.ensures.cause, c.copy-copy.ensures, c.holder.ensures, c.kept_from-kept.ensures)
    (give_up_cause-known n c.args.obj c.args.copies.now c.args.me c.args.requester c.args.keeper is)
    in
    cause ∙ give_up_cause-unkept n c.args.obj c.args.requester c.args.keeper none
