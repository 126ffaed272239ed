use Rattle.std.proofs.Common.{ap, refl, ◌∙◌, ◌≡◌, ◌<◌}
use Rattle.std.specs.Prelude.{ℕ}
use Rattle.zeus_base.specs.Nodes.{has}
use Rattle.zeus_model.specs.World.{node}
use Rattle.history_book.specs.Books.{BookState}
use Rattle.zeus_world.specs.Shown.{shown}
use Rattle.zeus_world.proofs.Keeping.{kept_after, known}
use Rattle.zeus_world.proofs.Viewing.{is_world_with, view_taken}
use Rattle.zeus_world.proofs.world.World.view.Goals as goal

pub invariant_of-self-2 : goal.invariant_of-self-2
invariant_of-self-2 c =
    let w = shown c.self.inside in
    let fits = rw (← c.self.view_is) at c.requires.fits in
    let stopped = rw (← c.self.view_is) at c.stopped-stopped.ensures in
    let with = is_world_with w c.stopped-stopped.result (known _ _ c.self.invariant).ranged stopped in
    let taken = view_taken w c.args.members c.in_ok-made.made c.view.new.self c.answer_alone.new.book.book c.answer_alone.new.event (c.in_ok-made.ensures.answer w with) (c.in_ok-made.ensures.after w with)
    (ap (λ (b : BookState). b.book) c.answer_alone.ensures.book) c.answer_alone.ensures.event in
    kept_after w _ _ c.self.inside.book c.answer_alone.new.book c.self.invariant fits taken.becomes (ap (λ (b : BookState). b.nodes) c.answer_alone.ensures.book) (ap (λ (b : BookState). b.slots) c.answer_alone.ensures.book)

pub returns-clause-ok : goal.returns-clause-ok
returns-clause-ok c =
    let w = shown c.self.inside in
    let stopped = rw (← c.self.view_is) at c.stopped-stopped.ensures in
    let with = is_world_with w c.stopped-stopped.result (known _ _ c.self.invariant).ranged stopped in
    rw (← c.self.view_is)
    (view_taken w c.args.members c.in_ok-made.made c.view.new.self c.answer_alone.new.book.book c.answer_alone.new.event (c.in_ok-made.ensures.answer w with) (c.in_ok-made.ensures.after w with)
    (ap (λ (b : BookState). b.book) c.answer_alone.ensures.book) c.answer_alone.ensures.event)
