use Rattle.std.proofs.Common.{refl, sym, ◌∙◌}
use Rattle.zeus_world.proofs.Refusing.{live_of, stopped_of}
use Rattle.zeus_world.proofs.world.World.with_stopped.Goals as goal

pub returns-then-is_live : goal.returns-then-is_live
returns-then-is_live c = rw (live_of _ (sym c.is_live.ensures ∙ c.if-is_live.true)) refl

pub returns-else-is_live : goal.returns-else-is_live
returns-else-is_live c = rw (stopped_of _ (sym c.is_live.ensures ∙ c.if-is_live.false), c.insert.ensures) refl
