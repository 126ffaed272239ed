-- What is written and the lines of the transactions that are left stay the lines of all.
use Rattle.std.proofs.Common.{◌≡◌, ◌++◌, drop, map}
use Rattle.zeus_model.specs.Spelling.{lines_text, tx_words}
use Rattle.script_lang.proofs.print.transactions.write_txs.Given as goal

abbrev pub invariant-loop-decl : goal.invariant-loop-decl
invariant-loop-decl l = l.out.items ++ lines_text (map (tx_words l.names) (drop l.decl-index l.txs)) ≡ l.fn.out.items ++ lines_text (map (tx_words l.names) l.txs)
