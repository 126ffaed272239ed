use Rattle.std.proofs.Common.{sym, ◌∙◌}
use Rattle.zeus_txn.specs.Ops.{named}
use Rattle.local_tests.proofs.Below.{below_all}
use Rattle.local_tests.proofs.tests.local_txn_calls.transaction.Goals as goal

pub returns-then-are_known : goal.returns-then-are_known
returns-then-are_known c =
    let list = c.as_slice-2.ensures.list ∙ c.named.ensures in
    let known = sym c.are_known.ensures ∙ c.if-are_known.true in
    below_all 3 (named c.in_ok-tx.tx) (rw list at known)
