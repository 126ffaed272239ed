use Rattle.zeus_base.specs.TableLaws.{nth-get_or, nth-past}
use Rattle.bank_ledger.specs.declared.bank_tx.BankTx.TheVariants.{Balance}
use Rattle.bank_report.proofs.totals.tx_at.Goals as goal

pub returns-in-Some : goal.returns-in-Some
returns-in-Some c =
    let e = nth-get_or (Balance 0) c.args.txs.now c.place.result in
    let f = c.in-Some.ensures.lookup.3.1 (Balance 0) in
    let v = c.place.ensures in
    cc (e, f, v)

pub returns-in-None : goal.returns-in-None
returns-in-None c =
    let e = nth-past (Balance 0) c.args.txs.now c.place.result c.in-None.ensures.lookup.3 in
    let v = c.place.ensures in
    cc (e, v)
