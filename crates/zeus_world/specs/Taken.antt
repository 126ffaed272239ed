-- A step that was taken.
use Rattle.std.specs.Prelude.{◌≡◌, []}
use Rattle.zeus_model.specs.World.{Event, World}
use Rattle.zeus_model.specs.declared.answer.Answer.{Answer}
use Rattle.zeus_world.specs.Reports.{Tells}
use Rattle.zeus_world.specs.declared.event.StepEvent.{StepEvent}

-- what is told is what happens in the step, and the world is the one after it
pub record IsTaken (s : StepEvent) (after : World) (e : Event) : Type 0 where
  pub tells : Tells s e
  pub becomes : after ≡ e.world

-- this answer is told, and nothing else
pub record IsAlone (answer : Answer) (s : StepEvent) : Type 0 where
  pub says : s.answer ≡ answer
  pub points : s.points.ids ≡ []
  pub acked : s.acked.ids ≡ []
  pub sent : s.sent ≡ []
