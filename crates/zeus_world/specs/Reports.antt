-- What a step reports.
use Rattle.std.specs.Prelude.{ℕ, ◌≡◌, ◌≤◌, ◌+◌, ◌++◌, List}
use Rattle.zeus_packet.specs.declared.letter.Packet.{Packet}
use Rattle.zeus_model.specs.World.{Event}
use Rattle.zeus_world.specs.declared.event.StepEvent.{StepEvent}
use Rattle.zeus_world.specs.declared.report.Report.{Report}

-- the report of a step is of what happens in it
pub record Reports (r : Report) (e : Event) : Type 0 where
  pub answer : r.answer ≡ e.answer
  pub points : r.points.ids ≡ e.points
  pub acked : r.acked.ids ≡ e.acked
  pub sent : r.sent.packets ≡ e.sent

-- the report says the same; its lists may have other room
pub record SaysSame (r s : Report) : Type 0 where
  pub answer : s.answer ≡ r.answer
  pub points : s.points.ids ≡ r.points.ids
  pub acked : s.acked.ids ≡ r.acked.ids
  pub sent : s.sent.packets ≡ r.sent.packets

-- what is told of a step is what happens in it
pub record Tells (s : StepEvent) (e : Event) : Type 0 where
  pub answer : s.answer ≡ e.answer
  pub points : s.points.ids ≡ e.points
  pub acked : s.acked.ids ≡ e.acked
  pub sent : s.sent ≡ e.sent

-- the same is told; the lists may have other room
pub record TellsSame (s t : StepEvent) : Type 0 where
  pub answer : t.answer ≡ s.answer
  pub points : t.points.ids ≡ s.points.ids
  pub acked : t.acked.ids ≡ s.acked.ids
  pub sent : t.sent ≡ s.sent

-- the lists have room for so many transactions
pub record HasSpace (count : ℕ) (s : StepEvent) : Type 0 where
  pub points : count ≤ s.points.room
  pub acked : count ≤ s.acked.room

-- the report says what is told
pub record IsOf (r : Report) (s : StepEvent) : Type 0 where
  pub answer : r.answer ≡ s.answer
  pub points : r.points.ids ≡ s.points.ids
  pub acked : r.acked.ids ≡ s.acked.ids
  pub sent : r.sent.packets ≡ s.sent
