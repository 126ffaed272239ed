use Rattle.std.proofs.Common.{refl}
use Rattle.membership.proofs.Making.{refused-empty, refused-none, refused-running, refused-stranger}
use Rattle.membership.proofs.service.view_refused.Goals as goal

pub returns-then-is_empty : goal.returns-then-is_empty
returns-then-is_empty c = λ w last stops.
    refused-empty w c.args.last c.args.members c.args.stopped last stops (c.if-is_empty.ensures.0 refl)

pub returns-in-Some : goal.returns-in-Some
returns-in-Some c = λ w last stops.
    refused-stranger w c.args.last c.args.members c.args.stopped last stops c.in-Some.stranger c.if-is_empty.ensures.1 c.in-Some.ensures

pub returns-in-Some-least_apart : goal.returns-in-Some-least_apart
returns-in-Some-least_apart c = λ w last stops.
    let found = rw c.join.ensures at c.in-Some-least_apart.ensures in
    refused-running w c.args.last c.args.members c.args.stopped last stops c.in-Some-least_apart.running c.if-is_empty.ensures.1 c.in_default.ensures found

pub returns-in-None : goal.returns-in-None
returns-in-None c = λ w last stops.
    let none = rw c.join.ensures at c.in-None.ensures in
    refused-none w c.args.last c.args.members c.args.stopped last stops c.if-is_empty.ensures.1 c.in_default.ensures none
