use Rattle.std.proofs.Common.{refl, sym, ◌∙◌}
use Rattle.zeus_model.specs.Ownership.{answer_request, on_oreq, request_cause}
use Rattle.node_ranges.specs.OwnershipRules.{driven-fits, request-wants}
use Rattle.node_ranges.specs.Ranges.{limits_of}
use Rattle.ownership_rules.proofs.Rows.{answered-no, answered-yes, answered-yes_none}
use Rattle.ownership_rules.proofs.request.on_oreq.Goals as goal

pub drive-requires-clause-proposal : goal.drive-requires-clause-proposal
drive-requires-clause-proposal c =
    let n = c.args.node.now in
    let told = sym c.in-Yes.is ∙ c.may_drive.ensures.answer in
    let none = answered-yes_none (request_cause n c.args.obj c.args.from c.args.want) _ c.in-Yes.p told in
    rw (answered-yes (request_cause n c.args.obj c.args.from c.args.want) _ c.in-Yes.p told)
    (driven-fits (limits_of n) n c.args.obj c.args.from c.args.want c.requires.object c.requires.from (request-wants n c.args.obj c.args.from c.args.want none) c.may_drive.ensures.ranges)

pub returns-in-Yes : goal.returns-in-Yes
unfolding on_oreq answer_request
returns-in-Yes c =
    let n = c.args.node.now in
    let told = sym c.in-Yes.is ∙ c.may_drive.ensures.answer in
    let none = answered-yes_none (request_cause n c.args.obj c.args.from c.args.want) _ c.in-Yes.p told in
    let driven = answered-yes (request_cause n c.args.obj c.args.from c.args.want) _ c.in-Yes.p told in
    rw none (rw driven at c.drive.ensures)

pub returns-in-No : goal.returns-in-No
unfolding on_oreq answer_request
returns-in-No c =
    let n = c.args.node.now in
    let told = sym c.in-No.is ∙ c.may_drive.ensures.answer in
    let refused = answered-no (request_cause n c.args.obj c.args.from c.args.want) _ c.in-No.cause told in
    rw refused (record { says = refl; becomes = refl; adds = rw c.entry.ensures at c.send.ensures })
