-- The whole promise of a run, in one record.
use Rattle.std.specs.Prelude.{ℕ, ◌≡◌, ◌≢◌, List, Some}
use Rattle.zeus_base.specs.declared.step.Step.{Step}
use Rattle.zeus_packet.specs.declared.letter.Cause.TheVariants.{OwnStream, Window, NotArbiter, NotCollector, OwnPlace}
use Rattle.zeus_model.specs.declared.answer.Answer.{Answer}
use Rattle.zeus_model.specs.declared.answer.Answer.TheVariants.{Receive}
use Rattle.zeus_model.specs.declared.answer.Outcome.TheVariants.{Refused}
use Rattle.zeus_model.specs.Book.{Point, record_of}
use Rattle.zeus_model.specs.In.{In}
use Rattle.zeus_model.specs.Sound.{Sound}
use Rattle.zeus_model.specs.World.{World, Event, run, start}
use Rattle.soundness.specs.History.{IsInOrder}
use Rattle.soundness.specs.Placements.{IsPlaced}
use Rattle.soundness.specs.Telling.{Does, IsOnce, IsTold}

-- no letter is refused because the stream is the receiver's own, because its window for the stream is full, because it is no
-- arbiter or no collector of the proposal, or because the placement would make it the owner without its own request
pub record IsNoRefusal (answer : Answer) : Type 0 where
  pub own_stream : answer ≢ Receive (Refused OwnStream)
  pub window : answer ≢ Receive (Refused Window)
  pub arbiter : answer ≢ Receive (Refused NotArbiter)
  pub collector : answer ≢ Receive (Refused NotCollector)
  pub own_place : answer ≢ Receive (Refused OwnPlace)

-- what holds after these steps from a world on
pub record KeepsPromise (w : World) (steps : List Step) : Type 0 where
  -- one live owner, one history, the replies of a serial run, and copies that are up to date
  pub sound : Sound (run w steps)
  -- the history is in the order of the steps and of real time, with the replies that the records keep
  pub in_order : IsInOrder (run w steps)
  -- each object has one latest placement, and live copies just where it places them
  pub placed : IsPlaced (run w steps)
  -- what the steps tell is what the book has
  pub told : IsTold w steps
  -- the reply that a transaction has when a step tells its point, which a report prints there, is that of the history
  pub told_replies : (id k : ℕ) (e : Event) → Does w steps k e → In id e.points
      → (p : Point) × In p (run w steps).book.points × (p.id ≡ id) × ((record_of e.world.book id).reply ≡ Some p.reply)
  -- what happens to a transaction happens once
  pub once : IsOnce w steps
  -- no step answers a refusal that never comes
  pub never : (k : ℕ) (e : Event) → Does w steps k e → IsNoRefusal e.answer

-- some steps lead to the world from its start, and their run keeps the promise
pub record HasPromise (w : World) : Type 0 where
  pub steps : List Step
  pub leads : w ≡ run (start w.config w.txs) steps
  pub kept : KeepsPromise (start w.config w.txs) steps
