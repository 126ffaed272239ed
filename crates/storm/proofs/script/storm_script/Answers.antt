use Rattle.std.proofs.Common.{List, ap}
use Rattle.zeus_txn.specs.declared.tx.TxDecl.{TxDecl}
use Rattle.storm.specs.Script.{Drawn}
use Rattle.storm.proofs.Drawing.{drawn-fit}
use Rattle.storm.proofs.Objects.{storm_limits}
use Rattle.storm.proofs.script.storm_script.Goals as goal

pub returns-clause-limits : goal.returns-clause-limits
returns-clause-limits c = rw c.in_ok-config.ensures (storm_limits c.args.numbers.now c.requires)

pub returns-clause-fits : goal.returns-clause-fits
returns-clause-fits c =
    let drawn = ap (λ (d : Drawn (List TxDecl)). d.0) c.in_ok-draw_txs.ensures in
    rw (c.in_ok-config.ensures, drawn) (drawn-fit c.args.numbers.now c.args.words.now c.requires)
