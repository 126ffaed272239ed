-- What is drawn, with the transactions that are left, stays the transactions of all.
use Rattle.std.proofs.Common.{◌≡◌, ◌-◌, ◌++◌, vec_capacity, vec_len}
use Rattle.storm.specs.Script.{drawn_txs}
use Rattle.storm.proofs.script.draw_txs.Given as goal

abbrev pub invariant-loop-tx : goal.invariant-loop-tx
invariant-loop-tx l = record {
  drawn : (l.txs.items ++ (drawn_txs l.numbers (l.numbers.txs - l._tx) l.words).0, (drawn_txs l.numbers (l.numbers.txs - l._tx) l.words).1) ≡ drawn_txs l.numbers l.numbers.txs l.fn.words;
  size : vec_len l.txs ≡ l._tx;
  room : vec_capacity l.txs ≡ l.numbers.txs;
}
