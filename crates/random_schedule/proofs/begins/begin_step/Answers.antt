use Rattle.std.proofs.Common.{ℕ, ◌≡◌, ◌<◌, length, subst, sym}
use Rattle.std.specs.Prelude.{IfSome, Option}
use Rattle.random_schedule.specs.Choices.{chosen, ready_txs}
use Rattle.random_schedule.proofs.Begun.{chosen_tx}
use Rattle.random_schedule.proofs.begins.begin_step.Goals as goal

pub begin_at-requires-clause-id : goal.begin_at-requires-clause-id
begin_at-requires-clause-id c =
    let w = c.args.world.now in
    let list = c.as_slice.ensures.value in
    let made = c.in_ok-ready.ensures.ready in
    let told = c.chosen.ensures in
    let is : c.chosen.result ≡ chosen c.args.u (ready_txs w) = cc (list, made, told) in
    let P : Option ℕ → Type 0 = λ o. IfSome o (λ k. k < length w.txs) in
    subst P (sym is) (chosen_tx w c.args.u)
