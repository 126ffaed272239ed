use Rattle.std.proofs.Common.{ℕ, ◌≡◌, List, length, arith, subst, sym, ap, ◌∙◌}
use Rattle.std.specs.Prelude.{replicate}
use Rattle.zeus_model.specs.World.{start}
use Rattle.random_schedule.specs.Ready.{AreAllBegun, AreLinks}
use Rattle.random_schedule.specs.declared.fresh.FreshPacket.{FreshPacket}
use Rattle.random_schedule.proofs.Begun.{none_begun}
use Rattle.random_schedule.proofs.Elements.{start_links}
use Rattle.random_schedule.proofs.chooser.Chooser.new.Goals as goal

pub returns-clause-keeps : goal.returns-clause-keeps
unfolding start
returns-clause-keeps c =
    let config = c.args.config.now in
    let slots = c.in_ok-slots.ensures in
    let list = c.as_slice.ensures.value in
    let made = c.in_ok-queues.ensures in
    let queues = c.in_ok-queues.queues.items in
    let count : c.len.result ≡ length queues = omega (arith, c.len.ensures, c.in_ok-queues.queues.ok) in
    let none : c.in_ok-begun.begun.items ≡ replicate (length queues) 0 = c.in_ok-begun.ensures ∙ ap (λ n. replicate n 0) count in
    let book = (start config c.args.txs.now).book in
    let B : List ℕ → Type 0 = λ l. AreAllBegun book queues l in
    let F : List FreshPacket → Type 0 = λ l. AreLinks config l in
    record {
      slots = slots;
      queues = record { slots = made.slots ∙ (list ∙ slots); each = made.each };
      begun = subst B (sym none) (none_begun book queues);
      fresh = subst F (sym c.in_ok-fresh.ensures) (start_links config);
    }
