-- What the run of the merged journals gives, clause by clause.
use Rattle.std.specs.Prelude.{ℕ, suc, ◌≡◌, ◌<◌, true, List, [], ◌∷◌, ◌++◌, map, All, IfSome, is_some}
use Rattle.std.proofs.Common.{append_assoc, refl, sym, ap, ◌∙◌, subst, append-nil}
use Rattle.std.proofs.lemmas.List.Elements.{All-nil, All-cons}
use Rattle.std.proofs.lemmas.Option.{IfSome_then}
use Rattle.zeus_packet.specs.declared.letter.Letter.{Letter}
use Rattle.zeus_txn.specs.declared.tx.TxDecl.{TxDecl}
use Rattle.zeus_model.specs.declared.answer.Answer.TheVariants.{Begin as BeginAnswer}
use Rattle.zeus_model.specs.declared.answer.Begin.TheVariants.{Begun}
use Rattle.zeus_model.specs.Book.{Book, record_of}
use Rattle.zeus_model.specs.Sound.{Sound}
use Rattle.zeus_model.specs.State.{Node}
use Rattle.zeus_model.specs.World.{node, link, happens, run, start}
use Rattle.machine_moves.specs.Fits.{StepFits}
use Rattle.soundness.proofs.Runs.{reached-sound}
use Rattle.live_model.specs.Items.{Stamped, Job, Answered}
use Rattle.live_model.specs.Cell.{CellEvent, Core, Deed, Began, Tried, Took, Ticked, Halted, Saw, Posted, core, declared, does, jobs, posts, numbered, sends, BeginsFresh, IsFresh, DeedFits, stamp}
use Rattle.live_model.specs.Ends.{ClientId, answers}
use Rattle.live_model.specs.Service.{views_made, ServiceEvent}
use Rattle.live_model.specs.Cluster.{Plan, Cluster, Events, IsThere, IsFront}
use Rattle.live_model.specs.Merge.{Turn, cell_turn, service_turn, entry_of, turn_step, turn_clock, turns, merged}
use Rattle.live_replay.specs.Parts.{cell_part, service_part}
use Rattle.live_replay.specs.Replayed.{IsLive, world_after, core_of, given, acknowledged, IsMissed, SameRun, Rises}
use Rattle.live_replay.proofs.Causes.{after-noted}
use Rattle.live_replay.proofs.Mirrors.{Mirrors}
use Rattle.live_replay.proofs.Orders.{turns-order, merged-turns}
use Rattle.live_replay.proofs.Posting.{letters}
use Rattle.live_replay.proofs.Replay.{IsOrder, AtCell, at-event, at-deed, at-fresh, noted-acked}
use Rattle.live_replay.proofs.Turns.{HasFollowed, order-mirrors, turn-answer, turn-acked, at-cell, turn-fits}

-- a split of the turns is an order, and its front has led to what it is
abbrev pub Split : Plan → Events → List Turn → List Turn → Type 0
Split p es past future = past ++ future ≡ turns p.config es

-- the turns of a live run before and after a place are an order of all events
pub split-order : (p : Plan) (k : Cluster) (es : Events) (past future : List Turn) → IsLive p k es → Split p es past future → IsOrder p.config es (past ++ future)
split-order p k es past future h is = subst (λ (ts : List Turn). IsOrder p.config es ts) (sym is) (turns-order p k es h.cluster)

-- the world after the first turns of a live run is what these turns have made of it
pub split-mirrors : (p : Plan) (k : Cluster) (es : Events) (past future : List Turn) → IsLive p k es → Split p es past future → Mirrors p.config p.txs past (world_after p past)
split-mirrors p k es past future h is =
    let txs = h.txs in order-mirrors p k es past future h.limits txs.each h.cluster (split-order p k es past future h is)

-- the world after the first turns of a live run has followed them
followed : (p : Plan) (k : Cluster) (es : Events) (past future : List Turn) → IsLive p k es → Split p es past future → HasFollowed p k es past future (world_after p past)
followed p k es past future h is =
    let txs = h.txs in
    record { cluster = h.cluster; fit = txs.each; order = split-order p k es past future h is; mirrors = split-mirrors p k es past future h is }

-- the world after all steps of a live run is what all its turns have made of it
pub whole-mirrors : (p : Plan) (k : Cluster) (es : Events) → IsLive p k es → Mirrors p.config p.txs (turns p.config es) (run (start p.config p.txs) (merged p.config k))
whole-mirrors p k es h =
    rw (merged-turns p k es h.cluster) (split-mirrors p k es (turns p.config es) [] h (append-nil (turns p.config es)))

-- ---- the steps

-- the merged journals of a live run are the steps of its turns
pub replay-steps : (p : Plan) (k : Cluster) (es : Events) → IsLive p k es → merged p.config k ≡ map turn_step (turns p.config es)
replay-steps p k es h = merged-turns p k es h.cluster

-- the events of each cell of a live run are its part of the turns
pub replay-cells : (p : Plan) (k : Cluster) (es : Events) (n : ℕ) → IsLive p k es → n < p.config.nodes → cell_part n (turns p.config es) ≡ es.cells n
replay-cells p k es n h less = let o = turns-order p k es h.cluster in o.cells n less

-- the events of the service of a live run are its part of the turns
pub replay-service : (p : Plan) (k : Cluster) (es : Events) → IsLive p k es → service_part (turns p.config es) ≡ es.service
replay-service p k es h = let o = turns-order p k es h.cluster in o.service

-- the clocks of the turns of a live run rise
pub replay-clocks : (p : Plan) (k : Cluster) (es : Events) → IsLive p k es → Rises turn_clock (turns p.config es)
replay-clocks p k es h = let o = turns-order p k es h.cluster in o.rises

each-fits : (p : Plan) (k : Cluster) (es : Events) (past future : List Turn) → IsLive p k es → Split p es past future → All (StepFits p.config p.txs) (map turn_step future)
each-fits p k es past [] h is = All-nil (StepFits p.config p.txs)
each-fits p k es past (t ∷ ts) h is =
    All-cons (StepFits p.config p.txs) (turn_step t) (map turn_step ts)
    (turn-fits t p k es past ts (world_after p past) (followed p k es past (t ∷ ts) h is))
    (each-fits p k es (past ++ t ∷ []) ts h (append_assoc past (t ∷ []) ts ∙ is))

-- the merged steps of a live run fit its configuration and transactions
pub replay-fits : (p : Plan) (k : Cluster) (es : Events) → IsLive p k es → All (StepFits p.config p.txs) (merged p.config k)
replay-fits p k es h = rw (merged-turns p k es h.cluster) (each-fits p k es [] (turns p.config es) h refl)

-- ---- the answers

-- each step of the replay answers what the cell or the service answered
pub replay-answer : (p : Plan) (k : Cluster) (es : Events) (past : List Turn) (t : Turn) (future : List Turn) → IsLive p k es → Split p es past (t ∷ future)
    → (happens (world_after p past) (turn_step t)).answer ≡ given p past t
replay-answer p k es past t future h is = turn-answer t p k es past future (world_after p past) (followed p k es past (t ∷ future) h is)

-- each step of the replay acknowledges what the cell acknowledged
pub replay-acked : (p : Plan) (k : Cluster) (es : Events) (past : List Turn) (t : Turn) (future : List Turn) → IsLive p k es → Split p es past (t ∷ future)
    → (happens (world_after p past) (turn_step t)).acked ≡ acknowledged p past t
replay-acked p k es past t future h is = turn-acked t p k es past future (world_after p past) (followed p k es past (t ∷ future) h is)

deed-hits : (d : Deed) (txs : List TxDecl) (n : Node) → IsMissed (does txs n d).answer → ⊥
unfolding does IsMissed
deed-hits (Began j) txs n h = h
deed-hits (Tried s) txs n h = h
deed-hits (Took sender q) txs n h = h
deed-hits Ticked txs n h = h
deed-hits Halted txs n h = h
deed-hits (Saw v) txs n h = h

given-hits : (t : Turn) (p : Plan) (past : List Turn) → IsMissed (given p past t) → ⊥
unfolding given IsMissed
given-hits (cell_turn n e) p past h = deed-hits e.deed p.txs (core_of p.config p.txs n past).node h
given-hits (service_turn e) p past h = h

-- no step of the replay misses
pub replay-hits : (p : Plan) (k : Cluster) (es : Events) (past : List Turn) (t : Turn) (future : List Turn) → IsLive p k es → Split p es past (t ∷ future)
    → IsMissed (happens (world_after p past) (turn_step t)).answer → ⊥
replay-hits p k es past t future h is missed = given-hits t p past (subst IsMissed (replay-answer p k es past t future h is) missed)

-- ---- begins

-- where a cell's event stands in a live run, what holds at a cell's events holds in the world before it
pub at-begin : (p : Plan) (k : Cluster) (es : Events) (past : List Turn) (n : ℕ) (e : CellEvent) (future : List Turn) → IsLive p k es → Split p es past (cell_turn n e ∷ future)
    → AtCell p k es past n e future (world_after p past)
at-begin p k es past n e future h is = at-cell p k es past n e future (world_after p past) (followed p k es past (cell_turn n e ∷ future) h is)

begun-answer : (p : Plan) (n : ℕ) (core : Core) (d : Deed) (j : Job) → d ≡ Began j → BeginsFresh n p.txs core d → (does p.txs core.node d).answer ≡ BeginAnswer Begun
unfolding BeginsFresh does
begun-answer p n core d j is fresh =
    let f : BeginsFresh n p.txs core (Began j) = subst (λ (x : Deed). BeginsFresh n p.txs core x) is fresh in
    rw is (ap BeginAnswer f.begun)

-- if a cell of a live run began a job, then the step of the replay begins the transaction
pub replay-begun : (p : Plan) (k : Cluster) (es : Events) (past : List Turn) (n : ℕ) (e : CellEvent) (future : List Turn) (j : Job) → IsLive p k es
    → Split p es past (cell_turn n e ∷ future) → e.deed ≡ Began j → (happens (world_after p past) (turn_step (cell_turn n e))).answer ≡ BeginAnswer Begun
unfolding given
replay-begun p k es past n e future j h is began =
    replay-answer p k es past (cell_turn n e) future h is
    ∙ begun-answer p n (core_of p.config p.txs n past) e.deed j began (at-fresh p k es past n e future (world_after p past) (at-begin p k es past n e future h is))

-- a transaction is begun behind the acknowledgement of the one that it is declared behind
pub replay-after : (p : Plan) (k : Cluster) (es : Events) (past : List Turn) (n : ℕ) (e : CellEvent) (future : List Turn) (j : Job) → IsLive p k es
    → Split p es past (cell_turn n e ∷ future) → e.deed ≡ Began j → IfSome (declared p.txs j.tx).after (λ i. is_some (record_of (world_after p past).book i).acked ≡ true)
unfolding entry_of BeginsFresh DeedFits stamp
replay-after p k es past n e future j h is began =
    let w = world_after p past in
    let a = at-begin p k es past n e future h is in
    let deed = at-deed p k es past n e future w (Began j) a began in
    let fresh : IsFresh n p.txs (core_of p.config p.txs n past) j = deed.fresh in
    IfSome_then (declared p.txs j.tx).after
    (after-noted p k es n j e (at-event p k es past n e future w a) a.fit began fresh.own deed.fits)
    (λ i noted. noted-acked p es past (cell_turn n e) future w j i (record { at = a.at; mirrors = a.mirrors }) deed.above noted)

-- ---- the last world

-- the replay of a live run ends with the nodes of the cells
pub replay-node : (p : Plan) (k : Cluster) (es : Events) (n : ℕ) → IsLive p k es → n < p.config.nodes
    → node (run (start p.config p.txs) (merged p.config k)) n ≡ ((k.cells n).core).node
replay-node p k es n h less =
    let m = whole-mirrors p k es h in
    let cluster = h.cluster in
    let cell = cluster.cells n less in
    m.nodes n less ∙ (ap (λ (zs : List CellEvent). (core n p.config p.txs zs).node) (replay-cells p k es n h less) ∙ ap (λ (c : Core). c.node) (sym cell.core))

numbered-letters : (number : ℕ) (ps : List Posted) → map (λ (q : Stamped). q.letter) (numbered number ps) ≡ letters ps
unfolding numbered letters
numbered-letters number [] = refl
numbered-letters number (x ∷ xs) = ap (λ (ls : List Letter). x.letter ∷ ls) (numbered-letters (suc number) xs)

-- the replay of a live run ends with the letters on each link that its sender's cell sent
pub replay-link : (p : Plan) (k : Cluster) (es : Events) (sender receiver : ℕ) → IsLive p k es → sender < p.config.nodes
    → link (run (start p.config p.txs) (merged p.config k)).links sender receiver ≡ map (λ (q : Stamped). q.letter) (sends sender p.config p.txs receiver (es.cells sender))
unfolding sends
replay-link p k es sender receiver h less =
    let m = whole-mirrors p k es h in
    m.links sender receiver less
    ∙ (ap (λ (zs : List CellEvent). letters (posts sender p.config p.txs receiver zs)) (replay-cells p k es sender h less)
    ∙ sym (numbered-letters 0 (posts sender p.config p.txs receiver (es.cells sender))))

-- the replay of a live run ends with the views of the service
pub replay-views : (p : Plan) (k : Cluster) (es : Events) → IsLive p k es → (run (start p.config p.txs) (merged p.config k)).views ≡ k.service.views
replay-views p k es h =
    let m = whole-mirrors p k es h in
    let cluster = h.cluster in
    let service = cluster.service in
    m.views ∙ (ap (λ (zs : List ServiceEvent). views_made p.config zs) (replay-service p k es h) ∙ sym service.views)

-- the replay of a live run ends with the records that the cells have of their own transactions
pub replay-book : (p : Plan) (k : Cluster) (es : Events) (n id : ℕ) → IsLive p k es → n < p.config.nodes → (declared p.txs id).node ≡ n
    → SameRun (record_of (run (start p.config p.txs) (merged p.config k)).book id) (record_of ((k.cells n).core).book id)
replay-book p k es n id h less own =
    let m = whole-mirrors p k es h in
    let cluster = h.cluster in
    let cell = cluster.cells n less in
    let agree = m.books n less in
    subst (λ (b : Book). SameRun (record_of (run (start p.config p.txs) (merged p.config k)).book id) (record_of b id))
    (ap (λ (zs : List CellEvent). (core n p.config p.txs zs).book) (replay-cells p k es n h less) ∙ ap (λ (c : Core). c.book) (sym cell.core))
    (agree.own id own)

-- the world after any number of turns of a live run is sound
pub replay-sound : (p : Plan) (k : Cluster) (es : Events) (past future : List Turn) → IsLive p k es → Split p es past future → Sound (world_after p past)
replay-sound p k es past future h is = let m = split-mirrors p k es past future h is in reached-sound (world_after p past) m.reached

-- ---- clients

-- the jobs that a cell of a live run began for a client are the earliest ones of the client's, in order
pub replay-jobs : (p : Plan) (k : Cluster) (es : Events) (id : ClientId) → IsLive p k es → IsThere p.config id → IsFront (jobs p.txs id.slot (es.cells id.node)) (k.clients id).jobs
replay-jobs p k es id h there =
    let cluster = h.cluster in
    let meets = cluster.meets in
    let cell = cluster.cells id.node there.node in
    subst (λ (js : List Job). IsFront js (k.clients id).jobs) (cell.jobs id.slot) (meets.jobs id there)

-- the answers that a client of a live run has are the earliest ones of the cell's, in order
pub replay-answers : (p : Plan) (k : Cluster) (es : Events) (id : ClientId) → IsLive p k es → IsThere p.config id
    → IsFront (k.clients id).answers (answers id.node p.config p.txs id.slot (es.cells id.node))
replay-answers p k es id h there =
    let cluster = h.cluster in
    let meets = cluster.meets in
    let cell = cluster.cells id.node there.node in
    subst (λ (zs : List Answered). IsFront (k.clients id).answers zs) (cell.answers id.slot) (meets.answers id there)
