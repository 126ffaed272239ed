use Rattle.zeus_txn.specs.OpLaws.{is_write-any}
use Rattle.zeus_txn.proofs.tx.Tx.is_write.Goals as goal

pub returns : goal.returns
returns c = let any = is_write-any c.args.self.now in cc
