use Rattle.std.proofs.Common.{◌≡◌, ◌≤◌, ◌<◌, ◌∙◌, ap, arith, length}
use Rattle.zeus_txn.specs.Map.{content}
use Rattle.bank_ledger.specs.Money.{amount}
use Rattle.bank_report.proofs.Tallies.{held_from, held-none}
use Rattle.bank_report.proofs.totals.held.Goals as goal

pub overflow_add-sum : goal.overflow_add-sum
overflow_add-sum c =
    let less : c.loop-object.object < length c.args.map.now = omega arith in
    let more = held_from c.args.map.now c.loop-object.object less in
    let is : c.amount-sum.result ≡ amount (content c.args.map.now c.loop-object.object).value = c.amount-sum.ensures ∙ ap amount c.value.ensures in
    omega arith

pub loop-object-preserved : goal.loop-object-preserved
loop-object-preserved c =
    let less : c.loop-object.object < length c.args.map.now = omega arith in
    let more = held_from c.args.map.now c.loop-object.object less in
    let is : c.amount-sum.result ≡ amount (content c.args.map.now c.loop-object.object).value = c.amount-sum.ensures ∙ ap amount c.value.ensures in
    omega arith

pub returns : goal.returns
returns c =
    let past : length c.args.map.now ≤ c.loop-object.object = omega arith in
    let none = held-none c.args.map.now c.loop-object.object past in
    omega arith
