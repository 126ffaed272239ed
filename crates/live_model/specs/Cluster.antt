-- A whole cluster as its cells, clients and service see it, each by its own ends of the rings; and what the rings say where they meet.
use Rattle.std.specs.Prelude.{ℕ, ◌≡◌, ◌<◌, ◌≤◌, List, [], ◌∷◌, ◌++◌, length, map, Option}
use Rattle.zeus_base.specs.declared.config.Config.{Config}
use Rattle.zeus_txn.specs.declared.tx.TxDecl.{TxDecl}
use Rattle.live_model.specs.Items.{Stamped, Job, Answered, Note, Sight}
use Rattle.live_model.specs.Cell.{CellEvent, Core, Entry, Kill, entry, core, start_core, AreClocks, BeginFresh, HaltsOnly, DeedsFit, takes, jobs, sights_seen, sends, travelling, halts}
use Rattle.live_model.specs.Ends.{ClientId, answers, notes}
use Rattle.live_model.specs.Service.{ServiceEvent, service_entry, AreServiceClocks, AreViews, HaltsFit, halts_taken, sights, start_views, views_made}
use Rattle.live_model.specs.Client.{ClientView, IsClient}

-- what a live run is started with
pub record Plan : Type 0 where
  pub config : Config
  pub txs : List TxDecl
  pub kill : Option Kill

-- the first list is the front of the second
pub record IsFront {A : Type 0} (xs ys : List A) : Type 0 where
  pub rest : List A
  pub is : xs ++ rest ≡ ys

-- the first list has some of the elements of the second, in its order
pub data IsPart {A : Type 0} : List A → List A → Type 0 where
  none : IsPart [] []
  left_out : (x : A) (xs ys : List A) → IsPart xs ys → IsPart xs (x ∷ ys)
  kept : (x : A) (xs ys : List A) → IsPart xs ys → IsPart (x ∷ xs) (x ∷ ys)

-- ---- cells

-- a cell's state, journal, and what it has put into its rings and taken from them
pub record CellView : Type 0 where
  pub core : Core
  pub journal : List Entry
  -- packets put on the link to each node, and taken from the link from each
  pub sent : ℕ → List Stamped
  pub received : ℕ → List Stamped
  -- jobs taken and answers put, by slot
  pub jobs : ℕ → List Job
  pub answers : ℕ → List Answered
  -- notes put, by client
  pub notes : ClientId → List Note
  -- the clock of its stop, put into the ring to the service, and the views taken from it
  pub halts : List ℕ
  pub sights : List Sight

-- what a cell keeps by its own doing: its state, its journal and its rings are those of a list of events
pub record IsCell (p : Plan) (me : ℕ) (es : List CellEvent) (v : CellView) : Type 0 where
  pub core : v.core ≡ core me p.config p.txs es
  pub journal : v.journal ≡ map (entry me) es
  pub few : length es ≤ 5000000
  pub clocks : AreClocks 0 es
  pub fit : DeedsFit p.config p.txs es
  pub begins : BeginFresh me p.config p.txs (start_core me p.config p.txs) es
  pub halting : HaltsOnly p.kill me 0 es
  -- what was taken is what the events say, no more and no less
  pub received : (sender : ℕ) → v.received sender ≡ takes sender es
  pub jobs : (s : ℕ) → v.jobs s ≡ jobs p.txs s es
  pub sights : v.sights ≡ sights_seen es
  -- packets may be left out; answers, notes and the stop are all put in
  pub sent : (receiver : ℕ) → IsPart (v.sent receiver) (travelling (sends me p.config p.txs receiver es))
  pub answers : (s : ℕ) → v.answers s ≡ answers me p.config p.txs s es
  pub notes : (client : ClientId) → v.notes client ≡ notes me p.config p.txs client es
  pub halts : v.halts ≡ halts es

-- ---- the service

-- the service's journal, its views, and what it has taken from its rings and put into them
pub record ServiceView : Type 0 where
  pub journal : List Entry
  pub views : List (List ℕ)
  -- by node
  pub halts : ℕ → List ℕ
  pub sights : ℕ → List Sight

-- what the service keeps by its own doing
pub record IsService (p : Plan) (es : List ServiceEvent) (v : ServiceView) : Type 0 where
  pub journal : v.journal ≡ map service_entry es
  pub views : v.views ≡ views_made p.config es
  pub clocks : AreServiceClocks 0 es
  pub fit : HaltsFit p.config es
  pub made : AreViews (start_views p.config) es
  pub halts : (n : ℕ) → v.halts n ≡ halts_taken n es
  pub sights : (n : ℕ) → v.sights n ≡ sights n p.config es

-- ---- the whole

-- what each cell, each client and the service have
pub record Cluster : Type 0 where
  -- by node
  pub cells : ℕ → CellView
  pub clients : ClientId → ClientView
  pub service : ServiceView

-- the events that cells and service have made
pub record Events : Type 0 where
  -- by node
  pub cells : ℕ → List CellEvent
  pub service : List ServiceEvent

-- a client of the configuration
pub record IsThere (c : Config) (id : ClientId) : Type 0 where
  pub node : id.node < c.nodes
  pub slot : id.slot < c.slots

-- in each ring, what was taken is the front of what was put in
pub record Meets (p : Plan) (k : Cluster) : Type 0 where
  pub packets : (sender receiver : ℕ) → sender < p.config.nodes → receiver < p.config.nodes
      → IsFront ((k.cells receiver).received sender) ((k.cells sender).sent receiver)
  pub jobs : (id : ClientId) → IsThere p.config id → IsFront ((k.cells id.node).jobs id.slot) (k.clients id).jobs
  pub answers : (id : ClientId) → IsThere p.config id → IsFront (k.clients id).answers ((k.cells id.node).answers id.slot)
  pub notes : (id : ClientId) (n : ℕ) → IsThere p.config id → n < p.config.nodes → IsFront ((k.clients id).notes n) ((k.cells n).notes id)
  pub halts : (n : ℕ) → n < p.config.nodes → IsFront (k.service.halts n) (k.cells n).halts
  pub sights : (n : ℕ) → n < p.config.nodes → IsFront (k.cells n).sights (k.service.sights n)

-- cells, clients and service keep their facts, and their rings meet
pub record IsCluster (p : Plan) (k : Cluster) (es : Events) : Type 0 where
  pub cells : (n : ℕ) → n < p.config.nodes → IsCell p n (es.cells n) (k.cells n)
  pub clients : (id : ClientId) → IsThere p.config id → IsClient p.txs id (k.clients id)
  pub service : IsService p es.service k.service
  pub meets : Meets p k
