use Rattle.std.proofs.Common.{List, ◌≤◌, ◌<◌, ◌^◌, ◌+◌, ◌∙◌, ap, sym, subst, arith, drop, length}
use Rattle.std.proofs.lemmas.List.{drop_all}
use Rattle.zeus_model.specs.Book.{Point}
use Rattle.bank_ledger.specs.declared.bank_tx.BankTx.{BankTx}
use Rattle.bank_report.specs.Totals.{CanNote, noted}
use Rattle.bank_report.specs.declared.totals.Tally.{Tally}
use Rattle.bank_report.proofs.Tallies.{IsTallied, tallied_all, tallied_can, tallied_next}
use Rattle.bank_report.proofs.totals.Tally.of.Goals as goal
use Rattle.bank_report.proofs.totals.Tally.of.Goals.{in-Some, in_default}

pub note-requires : goal.note-requires
note-requires c =
    let size : length c.args.book.now.book.points < 2 ^ 32 = omega arith in
    let p : Point = record { id = c.in-Some.point.0; reply = c.in-Some.point.1.now } in
    let can = tallied_can c.args.txs.now c.loop-place.tally p c.loop-place.place c.args.book.now.book.points c.in-Some.ensures size c.requires.paid_in c.requires.paid_out c.loop-place.invariant in
    subst (λ (tx : BankTx). CanNote tx c.loop-place.tally p.reply.failed) (sym c.tx_at.ensures) can

pub loop-place-preserved : goal.loop-place-preserved
loop-place-preserved c =
    elim c.match-point.branch [
      | in-Some w ↦
          let points = c.args.book.now.book.points in
          let p : Point = record { id = w.in-Some.point.0; reply = w.in-Some.point.1.now } in
          let tx = ap (λ (tx : BankTx). noted tx c.loop-place.tally p.reply.failed) w.tx_at.ensures in
          subst (λ (t : Tally). IsTallied c.args.txs.now t (drop (c.loop-place.place + 1) points) points) (sym (w.tally-is ∙ w.note.ensures ∙ tx))
          (tallied_next c.args.txs.now c.loop-place.tally p c.loop-place.place points w.in-Some.ensures c.loop-place.invariant)
      | in_default w ↦ absurd (omega (arith, w.in_default.ensures))
    ]

pub returns : goal.returns
returns c =
    let points = c.args.book.now.book.points in
    let past : length points ≤ c.loop-place.place = omega arith in
    tallied_all c.args.txs.now c.loop-place.tally points
    (subst (λ (rest : List Point). IsTallied c.args.txs.now c.loop-place.tally rest points) (drop_all c.loop-place.place points past) c.loop-place.invariant)
