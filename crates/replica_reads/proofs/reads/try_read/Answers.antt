use Rattle.std.proofs.Common.{ap, ◌∙◌}
use Rattle.zeus_model.specs.Local.{run_here}
use Rattle.zeus_txn.specs.declared.reply.Ran.{Ran}
use Rattle.replica_reads.specs.declared.reads.ReadTry.TheVariants.{Read}
use Rattle.replica_reads.proofs.Hindering.{told, told_read}
use Rattle.replica_reads.proofs.reads.try_read.Goals as goal

pub returns-in-Some : goal.returns-in-Some
returns-in-Some c = λ n same.
    let reply = (run_here n c.args.tx.now).reply in
    c.answer.ensures reply ∙ told n _ _ _ reply same c.in-Some.ensures

pub returns-in-None : goal.returns-in-None
returns-in-None c = λ n same.
    let reply = ap (λ (r : Ran). r.reply) (c.run_on.ensures n same) in
    ap Read (c.into_reply.ensures ∙ reply) ∙ told_read n _ _ _ same c.in-None.ensures
