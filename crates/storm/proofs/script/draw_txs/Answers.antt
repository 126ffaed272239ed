use Rattle.std.proofs.Common.{rules, ◌≡◌, ◌∙◌, ◌+◌, [], arith, ap, vec_capacity, vec_len}
use Rattle.std.proofs.lemmas.List.{append-nil}
use Rattle.storm.proofs.Drawing.{drawn_more, drawn_none, drawn_start}
use Rattle.storm.proofs.script.draw_txs.Goals as goal

pub loop-tx-init : goal.loop-tx-init
loop-tx-init c =
    let none : c.in_ok-txs.txs.items ≡ [] = search rules in
    let size : vec_len c.in_ok-txs.txs ≡ 0 = search rules in
    let room : vec_capacity c.in_ok-txs.txs ≡ c.args.numbers.now.txs = search rules in
    record { drawn = drawn_start c.args.numbers.now c.args.numbers.now.txs c.args.words.now c.in_ok-txs.txs.items none; size = size; room = room }

pub push_reserved-requires : goal.push_reserved-requires
push_reserved-requires c =
    let size = c.loop-tx.invariant.size in
    let room = c.loop-tx.invariant.room in
    omega (arith, c.loop-tx-test.true)

pub loop-tx-preserved : goal.loop-tx-preserved
loop-tx-preserved c = record {
  drawn = drawn_more c.args.numbers.now c.loop-tx._tx c.args.numbers.now.txs c.loop-tx.txs.items _ _ c.loop-tx.words _ _ c.loop-tx-test.true c.draw_tx.ensures c.push_reserved.ensures.items c.loop-tx.invariant.drawn;
  size = c.push_reserved.ensures.len ∙ ap (λ n. n + 1) c.loop-tx.invariant.size;
  room = c.push_reserved.ensures.capacity ∙ c.loop-tx.invariant.room;
}

pub returns : goal.returns
returns c =
    let none = drawn_none c.args.numbers.now c.loop-tx._tx c.args.numbers.now.txs c.loop-tx.words c.loop-tx-test.false in
    let all = rw (none, append-nil c.loop-tx.txs.items) at c.loop-tx.invariant.drawn in
    rw c.from_vec.ensures all
