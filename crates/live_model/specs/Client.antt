-- A client: it hands its slot's transactions over in number order, and takes answers and notes.
use Rattle.std.specs.Prelude.{ℕ, suc, ◌≡◌, ◌≢◌, ◌<◌, ◌≤◌, max, true, List, [], ◌∷◌, IfSome, ◌⊎◌}
use Rattle.zeus_txn.specs.declared.tx.TxDecl.{TxDecl}
use Rattle.zeus_model.specs.In.{In}
use Rattle.live_model.specs.Items.{Job, Answered, Note, Acked}
use Rattle.live_model.specs.Cell.{declared}
use Rattle.live_model.specs.Ends.{ClientId, is_of, waits_behind}

-- what a client has put into its rings and taken from them, the number up to which its transactions are handed over or passed over,
-- and the greatest clock of its answers
pub record ClientView : Type 0 where
  pub next : ℕ
  pub best : ℕ
  pub jobs : List Job
  pub answers : List Answered
  -- by the node that they come from
  pub notes : ℕ → List Note

-- jobs of the client, in number order, all below a bound
unfoldable pub AreJobs : List TxDecl → ClientId → ℕ → ℕ → List Job → Type 0
AreJobs txs id first next [] = Unit {0}
AreJobs txs id first next (j ∷ js) =
    (first ≤ j.tx) × (j.tx < next) × (is_of txs id j.tx ≡ true) × AreJobs txs id (suc j.tx) next js

-- the client knows that the transaction was acknowledged, at a clock that the job has seen
pub record KnowsAcked (txs : List TxDecl) (v : ClientView) (j : Job) (k : ℕ) : Type 0 where
  pub note : Note
  pub known : In note (v.notes (declared txs k).node)
  pub tx : note.tx ≡ k
  pub acked : note.end ≡ Acked
  pub seen : note.clock ≤ j.seen

-- the client knows of a transaction that will never be acknowledged, behind which this one waits
pub record IsGone (txs : List TxDecl) (v : ClientView) (k : ℕ) : Type 0 where
  pub note : Note
  pub known : In note (v.notes (declared txs note.tx).node)
  pub ended : note.end ≢ Acked
  pub behind : waits_behind txs k note.tx ≡ true

-- a job of the transaction was put in
pub record IsHandedOver (v : ClientView) (k : ℕ) : Type 0 where
  pub job : Job
  pub is : In job v.jobs
  pub tx : job.tx ≡ k

-- the greatest clock of some answers, 0 where there are none
unfoldable pub greatest_clock : List Answered → ℕ
greatest_clock [] = 0
greatest_clock (a ∷ rest) = max a.clock (greatest_clock rest)

-- what a client keeps by its own doing
pub record IsClient (txs : List TxDecl) (id : ClientId) (v : ClientView) : Type 0 where
  pub jobs : AreJobs txs id 0 v.next v.jobs
  -- what is declared behind another is handed over only once the client knows that one's acknowledgement
  pub behind : (j : Job) → In j v.jobs → IfSome (declared txs j.tx).after (λ k. KnowsAcked txs v j k)
  -- each transaction below the next is handed over, or gone
  pub each : (k : ℕ) → k < v.next → is_of txs id k ≡ true → IsHandedOver v k ⊎ IsGone txs v k
  pub best : v.best ≡ greatest_clock v.answers
