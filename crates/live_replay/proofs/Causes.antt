-- What the facts of cells, clients and service, and their rings, say of the cause of each event.
use Rattle.std.specs.Prelude.{ℕ, zero, suc, ◌≡◌, ◌+◌, ◌<◌, ◌≤◌, ◌==◌, List, [], ◌∷◌, ◌++◌, length, IfSome, Option, Some, None}
use Rattle.std.proofs.Common.{arith, refl, sym, subst, eq-eqb}
use Rattle.std.proofs.lemmas.Bool.{cond_both}
use Rattle.zeus_base.specs.Nodes.{without}
use Rattle.zeus_base.specs.declared.config.Config.{Config}
use Rattle.zeus_txn.specs.declared.tx.TxDecl.{TxDecl}
use Rattle.zeus_model.specs.In.{In, here, there}
use Rattle.zeus_model.specs.Scripts.{FitTxs, FitsTx}
use Rattle.zeus_model.specs.Tables.{nth}
use Rattle.zeus_model.specs.World.{last_view, no_tx}
use Rattle.zeus_model.specs.InLaws.{In-append_left, In-append_right}
use Rattle.live_model.specs.Items.{Stamped, Job, Note, Acked, Sight, travels}
use Rattle.live_model.specs.Cell.{CellEvent, Core, Began, Took, Saw, stamp, declared, after, core_from, AreClocks, BeginsFresh, BeginFresh, DeedFits, DeedsFit, taken_from, takes, job_of, jobs, seen_in, sights_seen, sends, travelling, halts}
use Rattle.live_model.specs.Ends.{ClientId, notes}
use Rattle.live_model.specs.Service.{ServiceEvent, viewed, views_from, AreServiceClocks, AreViews, HaltsFit, halts_taken, sights}
use Rattle.live_model.specs.Client.{KnowsAcked}
use Rattle.live_model.specs.Cluster.{Plan, Cluster, Events, IsCluster, IsThere, IsFront, IsPart, none, left_out, kept}

-- ---- members

-- an element between two lists is in the whole list
pub In-middle : {A : Type 0} (x : A) (xs ys : List A) → In x (xs ++ x ∷ ys)
In-middle x xs ys = In-append_right x xs (x ∷ ys) (here x ys refl)

-- if an element is in a front of a list, then it is in the list
pub front-In : {A : Type 0} (xs ys : List A) (x : A) → IsFront xs ys → In x xs → In x ys
front-In xs ys x f is = subst (λ (zs : List _). In x zs) f.is (In-append_left x xs f.rest is)

part_kept : {A : Type 0} (y : A) (xs ys : List A) (x : A) → (In x xs → In x ys) → In x (y ∷ xs) → In x (y ∷ ys)
part_kept y xs ys x h (here _ _ e) = here y ys e
part_kept y xs ys x h (there _ _ is) = there y ys (h is)

-- if an element is in a part of a list, then it is in the list
pub part-In : {A : Type 0} (xs ys : List A) (x : A) → IsPart xs ys → In x xs → In x ys
part-In [] [] x none is = is
part-In (y ∷ xs) [] x h is = elim h [ ]
part-In xs (y ∷ ys) x (left_out _ _ _ h) is = there y ys (part-In xs ys x h is)
part-In (y ∷ xs) (_ ∷ ys) x (kept _ _ _ h) is = part_kept y xs ys x (part-In xs ys x h) is

-- if a packet travels, then it is among those posted
pub travelling-In : (ps : List Stamped) (p : Stamped) → In p (travelling ps) → In p ps
unfolding travelling
travelling-In [] p is = is
travelling-In (q ∷ qs) p is =
    cond_both (travels q.clock) (q ∷ travelling qs) (travelling qs) (λ (ps : List Stamped). In p ps → In p (q ∷ qs))
    (λ _ at. part_kept q (travelling qs) qs p (travelling-In qs p) at) (λ _ at. there q qs (travelling-In qs p at)) is

-- ---- the item that an event took

-- if a cell took a packet in an event, then the packet is among those that it took from this sender
pub took-In : (sender : ℕ) (p : Stamped) (xs ys : List CellEvent) (e : CellEvent) → e.deed ≡ Took sender p → In p (takes sender (xs ++ e ∷ ys))
unfolding takes taken_from
took-In sender p [] ys e is = rw (is, eq-eqb sender sender refl) (here p (takes sender ys) refl)
took-In sender p (x ∷ xs) ys e is = In-append_right p (taken_from sender x.deed) (takes sender (xs ++ e ∷ ys)) (took-In sender p xs ys e is)

-- if a cell began a job in an event, then the job is among those of its slot
pub began-In : (txs : List TxDecl) (j : Job) (xs ys : List CellEvent) (e : CellEvent) → e.deed ≡ Began j → In j (jobs txs (declared txs j.tx).slot (xs ++ e ∷ ys))
unfolding jobs job_of
began-In txs j [] ys e is = rw (is, eq-eqb (declared txs j.tx).slot (declared txs j.tx).slot refl) (here j (jobs txs (declared txs j.tx).slot ys) refl)
began-In txs j (x ∷ xs) ys e is =
    In-append_right j (job_of txs (declared txs j.tx).slot x.deed) (jobs txs (declared txs j.tx).slot (xs ++ e ∷ ys)) (began-In txs j xs ys e is)

-- if a cell saw a view in an event, then the sight is among those that it saw
pub saw-In : (v : Sight) (xs ys : List CellEvent) (e : CellEvent) → e.deed ≡ Saw v → In v (sights_seen (xs ++ e ∷ ys))
unfolding sights_seen seen_in
saw-In v [] ys e is = rw is (here v (sights_seen ys) refl)
saw-In v (x ∷ xs) ys e is = In-append_right v (seen_in x.deed) (sights_seen (xs ++ e ∷ ys)) (saw-In v xs ys e is)

-- if the service took a halt in an event, then the halt is among those that it took of this node
pub halt-In : (xs ys : List ServiceEvent) (e : ServiceEvent) → In e.halt (halts_taken e.node (xs ++ e ∷ ys))
unfolding halts_taken
halt-In [] ys e = rw (eq-eqb e.node e.node refl) (here e.halt (halts_taken e.node ys) refl)
halt-In (x ∷ xs) ys e =
    cond_both (x.node == e.node) (x.halt ∷ halts_taken e.node (xs ++ e ∷ ys)) (halts_taken e.node (xs ++ e ∷ ys)) (λ (hs : List ℕ). In e.halt hs)
    (λ _. there x.halt (halts_taken e.node (xs ++ e ∷ ys)) (halt-In xs ys e)) (λ _. halt-In xs ys e)

-- ---- what holds at an event

-- the clock of a cell's event is above the stamp of what it took in
pub clock-above : (before : ℕ) (xs ys : List CellEvent) (e : CellEvent) → AreClocks before (xs ++ e ∷ ys) → stamp e.deed < e.clock
unfolding AreClocks
clock-above before [] ys e h = let is = h.0 in omega arith
clock-above before (x ∷ xs) ys e h = clock-above x.clock xs ys e h.1

-- the clock of an event of the service is above that of the halt that it took
pub service_clock-above : (before : ℕ) (xs ys : List ServiceEvent) (e : ServiceEvent) → AreServiceClocks before (xs ++ e ∷ ys) → e.halt < e.clock
unfolding AreServiceClocks
service_clock-above before [] ys e h = let is = h.0 in omega arith
service_clock-above before (x ∷ xs) ys e h = service_clock-above x.clock xs ys e h.1

-- if the deeds of all events of a cell fit, then so does that of each event
pub fits-at : (c : Config) (txs : List TxDecl) (xs ys : List CellEvent) (e : CellEvent) → DeedsFit c txs (xs ++ e ∷ ys) → DeedFits c txs e.deed
unfolding DeedsFit
fits-at c txs [] ys e h = h.0
fits-at c txs (x ∷ xs) ys e h = fits-at c txs xs ys e h.1

-- if each begin of a cell is of a fresh job, then so is that of each event, after the events before it
pub fresh-at : (me : ℕ) (c : Config) (txs : List TxDecl) (core : Core) (xs ys : List CellEvent) (e : CellEvent) → BeginFresh me c txs core (xs ++ e ∷ ys)
    → BeginsFresh me txs (core_from me c txs core xs) e.deed
unfolding BeginFresh core_from
fresh-at me c txs core [] ys e h = h.0
fresh-at me c txs core (x ∷ xs) ys e h = fresh-at me c txs (after me c txs core x) xs ys e h.1

-- the members of each view are those of the view before it without the node that halted
pub views-at : (views : List (List ℕ)) (xs ys : List ServiceEvent) (e : ServiceEvent) → AreViews views (xs ++ e ∷ ys) → e.members ≡ without e.node (last_view (views_from views xs))
unfolding AreViews views_from
views-at views [] ys e h = h.0
views-at views (x ∷ xs) ys e h = views-at (viewed views x.members) xs ys e h.1

-- if the halts of all events of the service fit, then so does that of each event
pub halts-fit-at : (c : Config) (xs ys : List ServiceEvent) (e : ServiceEvent) → HaltsFit c (xs ++ e ∷ ys) → e.node < c.nodes
unfolding HaltsFit
halts-fit-at c [] ys e h = h.0
halts-fit-at c (x ∷ xs) ys e h = halts-fit-at c xs ys e h.1

declared-fits : (c : Config) (first : ℕ) (txs : List TxDecl) (k : ℕ) → FitTxs c first txs → k < length txs → FitsTx c (first + k) (nth no_tx txs k)
unfolding FitTxs nth
declared-fits c first [] k fit less = absurd (omega arith)
declared-fits c first (t ∷ ts) zero fit less = let same : first + 0 ≡ first = omega arith in rw same fit.0
declared-fits c first (t ∷ ts) (suc k) fit less =
    let same : suc first + k ≡ first + suc k = omega arith in rw (← same) (declared-fits c (suc first) ts k fit.1 (omega arith))

-- if transactions fit, then so does each of them at its number
pub tx-fits : (c : Config) (txs : List TxDecl) (k : ℕ) → FitTxs c 0 txs → k < length txs → FitsTx c k (declared txs k)
tx-fits c txs k fit less = let same : 0 + k ≡ k = omega arith in subst (λ (i : ℕ). FitsTx c i (declared txs k)) same (declared-fits c 0 txs k fit less)

-- ---- the causes

-- a cell of a cluster made an event, after its earlier events and before its later ones
pub record IsCellEvent (p : Plan) (k : Cluster) (es : Events) (me : ℕ) (e : CellEvent) : Type 0 where
  pub cluster : IsCluster p k es
  pub there : me < p.config.nodes
  pub earlier : List CellEvent
  pub later : List CellEvent
  pub split : es.cells me ≡ earlier ++ e ∷ later

-- the packet of a delivery was sent
pub packet-sent : (p : Plan) (k : Cluster) (es : Events) (me sender : ℕ) (q : Stamped) (e : CellEvent) → IsCellEvent p k es me e → sender < p.config.nodes → e.deed ≡ Took sender q
    → In q (sends sender p.config p.txs me (es.cells sender))
packet-sent p k es me sender q e at there_sender took =
    let h = at.cluster in
    let me_cell = h.cells me at.there in
    let other_cell = h.cells sender there_sender in
    let meets = h.meets in
    let received : In q ((k.cells me).received sender) =
    rw (me_cell.received sender) (subst (λ (zs : List CellEvent). In q (takes sender zs)) (sym at.split) (took-In sender q at.earlier at.later e took)) in
    travelling-In (sends sender p.config p.txs me (es.cells sender)) q
    (part-In ((k.cells sender).sent me) (travelling (sends sender p.config p.txs me (es.cells sender))) q (other_cell.sent me)
    (front-In ((k.cells me).received sender) ((k.cells sender).sent me) q (meets.packets sender me there_sender at.there) received))

-- the view of an install was sent
pub view-sent : (p : Plan) (k : Cluster) (es : Events) (me : ℕ) (v : Sight) (e : CellEvent) → IsCellEvent p k es me e → e.deed ≡ Saw v → In v (sights me p.config es.service)
view-sent p k es me v e at saw =
    let h = at.cluster in
    let me_cell = h.cells me at.there in
    let service = h.service in
    let meets = h.meets in
    let seen : In v (k.cells me).sights =
    rw (me_cell.sights) (subst (λ (zs : List CellEvent). In v (sights_seen zs)) (sym at.split) (saw-In v at.earlier at.later e saw)) in
    subst (λ (zs : List Sight). In v zs) (service.sights me) (front-In (k.cells me).sights (k.service.sights me) v (meets.sights me at.there) seen)

-- the stop behind a view was made
pub stop-made : (p : Plan) (k : Cluster) (es : Events) (xs ys : List ServiceEvent) (e : ServiceEvent) → IsCluster p k es → e.node < p.config.nodes
    → es.service ≡ xs ++ e ∷ ys → In e.halt (halts (es.cells e.node))
stop-made p k es xs ys e h there_node is =
    let cell = h.cells e.node there_node in
    let service = h.service in
    let meets = h.meets in
    let taken : In e.halt (k.service.halts e.node) =
    rw (service.halts e.node) (subst (λ (zs : List ServiceEvent). In e.halt (halts_taken e.node zs)) (sym is) (halt-In xs ys e)) in
    subst (λ (zs : List ℕ). In e.halt zs) cell.halts (front-In (k.service.halts e.node) (k.cells e.node).halts e.halt (meets.halts e.node there_node) taken)

-- the acknowledgement that a begun transaction waited for was noted
pub record WasNoted (p : Plan) (es : Events) (j : Job) (i : ℕ) : Type 0 where
  pub there : (declared p.txs i).node < p.config.nodes
  pub client : ClientId
  pub note : Note
  pub is : In note (notes (declared p.txs i).node p.config p.txs client (es.cells (declared p.txs i).node))
  pub tx : note.tx ≡ i
  pub acked : note.end ≡ Acked
  pub seen : note.clock ≤ j.seen

-- if a client knows that a transaction is acknowledged, then its node's cell noted that before
pub known-noted : (p : Plan) (k : Cluster) (es : Events) (id : ClientId) (j : Job) (i : ℕ) → IsCluster p k es → IsThere p.config id → (declared p.txs i).node < p.config.nodes
    → KnowsAcked p.txs (k.clients id) j i → WasNoted p es j i
known-noted p k es id j i h at there_i known =
    let n = (declared p.txs i).node in
    let cell = h.cells n there_i in
    let meets = h.meets in
    record {
      there = there_i;
      client = id;
      note = known.note;
      is = subst (λ (zs : List Note). In known.note zs) (cell.notes id) (front-In ((k.clients id).notes n) ((k.cells n).notes id) known.note (meets.notes id n at there_i) known.known);
      tx = known.tx;
      acked = known.acked;
      seen = known.seen;
    }

after-there : (c : Config) (txs : List TxDecl) (k : ℕ) (o : Option ℕ) → FitTxs c 0 txs → k < length txs → IfSome o (λ i. i < k) → IfSome o (λ i. (declared txs i).node < c.nodes)
after-there c txs k None fit less h = tt
after-there c txs k (Some i) fit less h = let f = tx-fits c txs i fit (omega arith) in f.node

both_some : (o : Option ℕ) (P Q R : ℕ → Type 0) → IfSome o P → IfSome o Q → ((i : ℕ) → P i → Q i → R i) → IfSome o R
both_some None P Q R p q f = tt
both_some (Some i) P Q R p q f = f i p q

-- if a transaction was begun that waits for another, then the acknowledgement of the other was noted
pub after-noted : (p : Plan) (k : Cluster) (es : Events) (me : ℕ) (j : Job) (e : CellEvent) → IsCellEvent p k es me e → FitTxs p.config 0 p.txs → e.deed ≡ Began j → (declared p.txs j.tx).node ≡ me → j.tx < length p.txs
    → IfSome (declared p.txs j.tx).after (λ i. WasNoted p es j i)
after-noted p k es me j e at fit began own less =
    let s = (declared p.txs j.tx).slot in
    let id : ClientId = record { node = me; slot = s } in
    let f = tx-fits p.config p.txs j.tx fit less in
    let id_there : IsThere p.config id = record { node = at.there; slot = f.slot } in
    let h = at.cluster in
    let cell = h.cells me at.there in
    let client = h.clients id id_there in
    let meets = h.meets in
    let taken : In j ((k.cells me).jobs s) =
    rw (cell.jobs s) (subst (λ (zs : List CellEvent). In j (jobs p.txs s zs)) (sym at.split) (began-In p.txs j at.earlier at.later e began)) in
    let put_in : In j (k.clients id).jobs = front-In ((k.cells me).jobs s) (k.clients id).jobs j (meets.jobs id id_there) taken in
    both_some (declared p.txs j.tx).after (λ i. KnowsAcked p.txs (k.clients id) j i) (λ i. (declared p.txs i).node < p.config.nodes) (λ i. WasNoted p es j i)
    (client.behind j put_in) (after-there p.config p.txs j.tx (declared p.txs j.tx).after fit less f.after)
    (λ i known there_i. known-noted p k es id j i h id_there there_i known)
