use Rattle.std.proofs.Common.{sym, ◌∙◌}
use Rattle.std.proofs.lemmas.List.{append-nil}
use Rattle.bank_report.proofs.Lines.{lines_more, lines-none}
use Rattle.bank_report.proofs.text.write_accounts.Goals as goal

pub loop-account-preserved : goal.loop-account-preserved
loop-account-preserved c =
    let more = lines_more c.args.map.now c.loop-account.out.items c.loop-account.account c.args.accounts c.loop-account-test.true in
    rw c.in_ok-write_account.ensures (more ∙ c.loop-account.invariant)

pub returns : goal.returns
returns c =
    let none = lines-none c.args.map.now c.loop-account.account c.args.accounts c.loop-account-test.false in
    let all = rw none at c.loop-account.invariant in
    sym (append-nil c.loop-account.out.items) ∙ all
