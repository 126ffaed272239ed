use Rattle.std.proofs.Common.{None, ap, ◌∙◌}
use Rattle.zeus_model.specs.State.{value_of}
use Rattle.zeus_model.specs.Tables.{nth}
use Rattle.zeus_txn.specs.Ops.{named}
use Rattle.zeus_txn.specs.Run.{run, value_at}
use Rattle.zeus_txn.specs.RunLaws.{run-value_at}
use Rattle.replica_reads.proofs.run.run_on.Goals as goal

pub returns : goal.returns
returns c = λ n same.
    rw same
    (c.run_ops.ensures ∙ ap (λ vs. run (value_at (named c.args.tx.now) vs) c.args.tx.now) (c.as_slice.ensures.list ∙ c.values-found.ensures)
    ∙ run-value_at (λ x. value_of (nth None c.args.copies.now.copies x)) c.args.tx.now)
