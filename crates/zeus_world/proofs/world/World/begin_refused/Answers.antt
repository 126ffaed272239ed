use Rattle.std.proofs.Common.{sym, ◌∙◌}
use Rattle.zeus_world.proofs.Refusing.{live_of, refused_else, refused_stopped, refused_twice, stopped_of}
use Rattle.zeus_world.proofs.world.World.begin_refused.Goals as goal

pub returns-then-is_begun : goal.returns-then-is_begun
returns-then-is_begun c = rw (← c.self.view_is) (refused_twice _ _ (sym c.is_begun.ensures ∙ c.if-is_begun.true))

pub returns-then-not-is_live : goal.returns-then-not-is_live
returns-then-not-is_live c =
    let tx = rw (← c.self.view_is) at c.declared-tx.ensures in
    let live = rw (← c.self.view_is, tx) at c.is_live.ensures in
    rw (← c.self.view_is) (refused_stopped _ _ (sym c.is_begun.ensures ∙ c.if-is_begun.false) (stopped_of _ (sym live ∙ c.if-not-is_live.true)))

pub returns : goal.returns
returns c =
    let tx = rw (← c.self.view_is) at c.declared-tx.ensures in
    let live = rw (← c.self.view_is, tx) at c.is_live.ensures in
    let waits = rw (← c.self.view_is, tx) at c.waits_for.ensures in
    rw (← c.self.view_is) (waits ∙ refused_else _ _ (sym c.is_begun.ensures ∙ c.if-is_begun.false) (live_of _ (sym live ∙ c.if-not-is_live.false)))
