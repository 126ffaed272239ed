use Rattle.std.proofs.Common.{◌≡◌, true, false, ◌==◌, Some, None, refl, sym, arith}
use Rattle.std.specs.Prelude.{◌^◌, ◌-◌, is_none}
use Rattle.zeus_base.specs.Nodes.{has}
use Rattle.zeus_packet.specs.Place.{source}
use Rattle.zeus_model.specs.Ownership.{drive_cause, leave_cause, proposed_cause}
use Rattle.zeus_model.specs.State.{entry}
use Rattle.zeus_model.specs.Tables.{or_else, where_true}
use Rattle.directory.proofs.drive.drive_cause.Goals as goal

pub returns-then-not-has-clause-cause : goal.returns-then-not-has-clause-cause
unfolding drive_cause or_else where_true
returns-then-not-has-clause-cause c = λ n is.
    let out : has c.args.me c.args.dir.now.nodes ≡ false = grind arith in
    rw (is.me, is.directory, out) refl

pub returns-in-Some-clause-cause : goal.returns-in-Some-clause-cause
unfolding drive_cause or_else where_true proposed_cause
returns-in-Some-clause-cause c = λ n is.
    let here : entry n c.args.obj ≡ c.entry-entry.result.now = rw is.entries (sym c.entry-entry.ensures) in
    let within : has c.args.me c.args.dir.now.nodes ≡ true = grind arith in
    rw (is.me, is.directory, within, here, c.in-Some.is) refl

pub returns-in-Some-want_cause-clause-cause : goal.returns-in-Some-want_cause-clause-cause
unfolding drive_cause or_else where_true proposed_cause
returns-in-Some-want_cause-clause-cause c = λ n is.
    let here : entry n c.args.obj ≡ c.entry-entry.result.now = rw is.entries (sym c.entry-entry.ensures) in
    let within : has c.args.me c.args.dir.now.nodes ≡ true = grind arith in
    rw (is.me, is.directory, within, here, c.in_default.is, ← c.in-Some-want_cause.ensures) refl

pub returns-then-is_none-clause-cause : goal.returns-then-is_none-clause-cause
unfolding drive_cause or_else where_true proposed_cause
returns-then-is_none-clause-cause c = λ n is.
    let here : entry n c.args.obj ≡ c.entry-entry.result.now = rw is.entries (sym c.entry-entry.ensures) in
    let within : has c.args.me c.args.dir.now.nodes ≡ true = grind arith in
    let none : is_none (source c.entry-entry.result.now.place c.args.members) ≡ true = grind arith in
    rw
    (is.me, is.directory, within, here, c.in_default.is, ← c.in_default-want_cause.ensures, is.members, none)
    refl

pub returns-in-Some-leave_cause-clause-cause : goal.returns-in-Some-leave_cause-clause-cause
unfolding drive_cause or_else where_true proposed_cause
returns-in-Some-leave_cause-clause-cause c = λ n is.
    let here : entry n c.args.obj ≡ c.entry-entry.result.now = rw is.entries (sym c.entry-entry.ensures) in
    let within : has c.args.me c.args.dir.now.nodes ≡ true = grind arith in
    let some : is_none (source c.entry-entry.result.now.place c.args.members) ≡ false = grind arith in
    let leave : leave_cause c.args.want n c.args.requester (entry n c.args.obj).place ≡ Some c.in-Some-leave_cause.cause =
    rw here (sym (c.in-Some-leave_cause.ensures n is.members (rw c.degree.ensures is.degree)))
    in
    rw
    (leave, is.me, is.directory, within, here, c.in_default.is, ← c.in_default-want_cause.ensures, is.members, some)
    refl

pub returns-then-entry-clause-cause : goal.returns-then-entry-clause-cause
unfolding drive_cause or_else where_true proposed_cause
returns-then-entry-clause-cause c = λ n is.
    let here : entry n c.args.obj ≡ c.entry-entry.result.now = rw is.entries (sym c.entry-entry.ensures) in
    let within : has c.args.me c.args.dir.now.nodes ≡ true = grind arith in
    let some : is_none (source c.entry-entry.result.now.place c.args.members) ≡ false = grind arith in
    let worn : (c.entry-entry.result.now.stamp.ver == 2 ^ 64 - 1) ≡ true = grind arith in
    let leave : leave_cause c.args.want n c.args.requester (entry n c.args.obj).place ≡ None =
    rw here (sym (c.in_default-leave_cause.ensures n is.members (rw c.degree.ensures is.degree)))
    in
    rw
    (leave, is.me, is.directory, within, here, c.in_default.is, ← c.in_default-want_cause.ensures, is.members, some, worn)
    refl

pub returns-clause-cause : goal.returns-clause-cause
unfolding drive_cause or_else where_true proposed_cause
returns-clause-cause c = λ n is.
    let here : entry n c.args.obj ≡ c.entry-entry.result.now = rw is.entries (sym c.entry-entry.ensures) in
    let within : has c.args.me c.args.dir.now.nodes ≡ true = grind arith in
    let some : is_none (source c.entry-entry.result.now.place c.args.members) ≡ false = grind arith in
    let fresh : (c.entry-entry.result.now.stamp.ver == 2 ^ 64 - 1) ≡ false = grind arith in
    let leave : leave_cause c.args.want n c.args.requester (entry n c.args.obj).place ≡ None =
    rw here (sym (c.in_default-leave_cause.ensures n is.members (rw c.degree.ensures is.degree)))
    in
    rw
    (leave, is.me, is.directory, within, here, c.in_default.is, ← c.in_default-want_cause.ensures, is.members, some, fresh)
    refl
