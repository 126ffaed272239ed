-- What the steps of a run tell of its transactions, and that the book has just that.
use Rattle.std.specs.Prelude.{ℕ, suc, ◌≡◌, ◌≤◌, ◌==◌, List, [], ◌∷◌, ◌++◌, length, Some, slice_get, if◌then◌else◌, ◌↔◌}
use Rattle.zeus_base.specs.declared.order.Stream.{Stream}
use Rattle.zeus_base.specs.declared.step.Step.{Step}
use Rattle.zeus_base.specs.declared.step.Step.TheVariants.{Begin, Try}
use Rattle.zeus_txn.specs.declared.reply.Reply.{Reply}
use Rattle.zeus_model.specs.declared.answer.Answer.TheVariants.{Begin as BeginAnswer, Try as TryAnswer}
use Rattle.zeus_model.specs.declared.answer.Begin.TheVariants.{Begun}
use Rattle.zeus_model.specs.declared.answer.Tried.{Tried}
use Rattle.zeus_model.specs.declared.answer.Tried.TheVariants.{Read, Committed}
use Rattle.zeus_model.specs.Book.{Point, record_of}
use Rattle.zeus_model.specs.In.{In}
use Rattle.zeus_model.specs.World.{World, Event, events, run}

-- the transactions of points, in order
unfoldable pub ids_of : List Point → List ℕ
ids_of [] = []
ids_of (p ∷ ps) = p.id ∷ ids_of ps

-- the transactions that have their points in the steps, in order
unfoldable pub told_points : List Event → List ℕ
told_points [] = []
told_points (e ∷ es) = e.points ++ told_points es

-- the transactions that the steps acknowledge, in order
unfoldable pub told_acks : List Event → List ℕ
told_acks [] = []
told_acks (e ∷ es) = e.acked ++ told_acks es

-- how often a transaction is in the list
unfoldable pub how_often : ℕ → List ℕ → ℕ
how_often id [] = 0
how_often id (j ∷ js) = if j == id then suc (how_often id js) else how_often id js

-- step k of a run does this
abbrev pub Does : World → List Step → ℕ → Event → Type 0
Does w steps k e = slice_get (events w steps) k ≡ Some e

-- step k of a run begins the transaction
pub record Begins (w : World) (steps : List Step) (k id : ℕ) : Type 0 where
  pub step : slice_get steps k ≡ Some (Begin id)
  pub answer : (e : Event) × Does w steps k e × (e.answer ≡ BeginAnswer Begun)

-- step k of a run tries the slot, with this answer
pub record Tries (w : World) (steps : List Step) (k : ℕ) (t : Stream) (a : Tried) : Type 0 where
  pub step : slice_get steps k ≡ Some (Try t.node t.slot)
  pub answer : (e : Event) × Does w steps k e × (e.answer ≡ TryAnswer a)

-- the answer gives the transaction this reply
pub data Replies (id : ℕ) (reply : Reply) : Tried → Type 0 where
  commits : (number : ℕ) → Replies id reply (Committed id number reply)
  reads : Replies id reply (Read id reply)

-- step k of a run commits the transaction as the entry of this number of the stream
abbrev pub Commits : World → List Step → ℕ → Stream → ℕ → ℕ → Type 0
Commits w steps k t number id = (reply : Reply) × Tries w steps k t (Committed id number reply)

-- step k of a run answers the transaction with this reply
abbrev pub Answers : World → List Step → ℕ → ℕ → Reply → Type 0
Answers w steps k id reply = (t : Stream) × (a : Tried) × Tries w steps k t a × Replies id reply a

-- the book after a run has what the steps of the run tell
pub record IsTold (w : World) (steps : List Step) : Type 0 where
  -- it counts the steps
  pub counted : (run w steps).book.steps ≡ length steps
  -- a transaction is begun at the step that begins it
  pub begun : (id k : ℕ) → ((record_of (run w steps).book id).begun ≡ Some k) ↔ Begins w steps k id
  -- the points that the steps tell, joined in order, are the history
  pub points : ids_of (run w steps).book.points ≡ told_points (events w steps)
  -- a transaction has its point at the step that tells it
  pub point : (id k : ℕ) → ((record_of (run w steps).book id).point ≡ Some k) ↔ ((e : Event) × Does w steps k e × In id e.points)
  -- a transaction is acknowledged at the step that tells it
  pub acked : (id k : ℕ) → ((record_of (run w steps).book id).acked ≡ Some k) ↔ ((e : Event) × Does w steps k e × In id e.acked)
  -- no acknowledgement is told twice
  pub acked_once : (id : ℕ) → how_often id (told_acks (events w steps)) ≤ 1
  -- a transaction has the entry as which a step commits it
  pub entry : (id number : ℕ) (t : Stream) → ((record_of (run w steps).book id).entry ≡ Some record { stream = t; number = number })
      ↔ ((k : ℕ) × Commits w steps k t number id)
  -- a transaction has the reply that a step answers
  pub reply : (id : ℕ) (reply : Reply) → ((record_of (run w steps).book id).reply ≡ Some reply) ↔ ((k : ℕ) × Answers w steps k id reply)

-- what happens to a transaction of a run happens once
pub record IsOnce (w : World) (steps : List Step) : Type 0 where
  -- no transaction is committed or read twice
  pub answered : (id k l : ℕ) (p q : Reply) → Answers w steps k id p → Answers w steps l id q → k ≡ l
  -- no two transactions have one entry
  pub entries : (t : Stream) (number k l a b : ℕ) → Commits w steps k t number a → Commits w steps l t number b → a ≡ b
