use Rattle.std.proofs.Common.{refl, map}
use Rattle.zeus_base.specs.LoopLaws.{one_more, all_done}
use Rattle.zeus_model.specs.Spelling.{lines_text, tx_words}
use Rattle.script_lang.specs.Lines.{tx_line}
use Rattle.script_lang.proofs.Printing.{lines_text-cons}
use Rattle.script_lang.proofs.print.transactions.write_txs.Goals as goal

pub loop-decl-preserved : goal.loop-decl-preserved
loop-decl-preserved c =
    let names = c.args.names.now in
    one_more (λ ts. lines_text (map (tx_words names) ts)) (tx_line names) (λ t ts. lines_text-cons (tx_words names t) (map (tx_words names) ts))
    c.args.txs.now c.loop-decl.decl-index c.decl-item.result c.loop-decl.out.items c.write_tx.new.out.items _
    c.loop-decl-test.true c.decl-item.is c.loop-decl.invariant (c.in_ok-write_tx.ensures)

pub returns : goal.returns
unfolding lines_text
returns c = all_done (λ ts. lines_text (map (tx_words c.args.names.now) ts)) refl c.args.txs.now c.loop-decl.decl-index c.loop-decl.out.items _ c.loop-decl-test.false c.loop-decl.invariant
