use Rattle.std.proofs.Common.{sym, ◌∙◌}
use Rattle.std.proofs.lemmas.List.{append-nil}
use Rattle.smallbank.proofs.Declaring.{objects_more, objects-none}
use Rattle.smallbank.proofs.script.bank_objects.Goals as goal

pub loop-account-preserved : goal.loop-account-preserved
loop-account-preserved c =
    let more = objects_more c.loop-account.objects.items c.loop-account.account c.args.accounts c.loop-account-test.true in
    rw (c.in_ok-push_object-2.ensures, c.in_ok-push_object.ensures) (more ∙ c.loop-account.invariant)

pub returns : goal.returns
returns c =
    let none = objects-none c.loop-account.account c.args.accounts c.loop-account-test.false in
    let all = rw none at c.loop-account.invariant in
    c.from_vec.ensures ∙ (sym (append-nil c.loop-account.objects.items) ∙ all)
