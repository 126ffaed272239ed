-- Events of cells and service in an order of rising clocks are a run of the machine, step by step.
use Rattle.std.specs.Prelude.{ℕ, ◌≡◌, ◌-◌, ◌<◌, ◌≤◌, Bool, true, false, ◌==◌, List, [], ◌∷◌, ◌++◌, IfSome, Option, Some, None, is_some, is_none, if◌then◌else◌}
use Rattle.std.proofs.Common.{eq-eqb, arith, refl, sym, ap, ◌∙◌, subst}
use Rattle.zeus_base.specs.declared.config.Config.{Config}
use Rattle.zeus_txn.specs.declared.tx.TxDecl.{TxDecl}
use Rattle.zeus_model.specs.declared.answer.Answer.TheVariants.{Twice, Waits, Begin as BeginAnswer}
use Rattle.zeus_model.specs.declared.answer.Begin.TheVariants.{Begun, Stopped}
use Rattle.zeus_model.specs.In.{In, here, there}
use Rattle.zeus_model.specs.Scripts.{FitTxs}
use Rattle.zeus_model.specs.State.{slot, Node}
use Rattle.zeus_model.specs.Tables.{or_else, where_true}
use Rattle.zeus_model.specs.Act.{Did, just}
use Rattle.zeus_model.specs.Book.{record_of}
use Rattle.zeus_model.specs.Local.{begin_free, begin}
use Rattle.zeus_model.specs.World.{World, node, link, nth_letter, waits_for, begin_refused}
use Rattle.live_model.specs.Items.{Job, Stamped, Sight}
use Rattle.live_model.specs.Cell.{Posted, DeedsFit, BeginFresh, CellEvent, Deed, Began, Took, Saw, stamp, declared, start_core, posts, posts_from, numbered, sends, AreClocks, BeginsFresh, IsFresh, DeedFits}
use Rattle.live_model.specs.Service.{sights, ServiceEvent, start_views}
use Rattle.live_model.specs.Cluster.{Plan, Cluster, Events, IsCluster}
use Rattle.live_model.specs.Merge.{Turn, cell_turn, service_turn, entry_of, turn_clock}
use Rattle.live_replay.specs.Parts.{part, of_cell, of_service, cell_part, service_part}
use Rattle.live_replay.proofs.Causes.{clock-above, fits-at, fresh-at, IsCellEvent, packet-sent, view-sent, WasNoted, after-noted}
use Rattle.live_replay.proofs.Early.{noted-early, NoneServedBefore, HasView, seen-early}
use Rattle.live_replay.specs.Replayed.{Rises}
use Rattle.live_replay.proofs.Merging.{part-append}
use Rattle.live_replay.specs.Replayed.{core_of}
use Rattle.live_replay.proofs.Mirrors.{Mirrors}
use Rattle.live_replay.proofs.Posting.{NoneBefore, numbered-early, posts_from-append, posts_from-late}
use Rattle.zeus_model.specs.declared.answer.Begin.{Begin as BeginOutcome}
use Rattle.std.proofs.lemmas.Option.{IfSome_then}
use Rattle.zeus_txn.specs.declared.ops.Op.{Op}
use Rattle.live_model.specs.Ends.{notes}

-- the turns have the events of each cell and of the service, each in their order, and their clocks rise
pub record IsOrder (c : Config) (es : Events) (ts : List Turn) : Type 0 where
  pub cells : (n : ℕ) → n < c.nodes → cell_part n ts ≡ es.cells n
  pub service : service_part ts ≡ es.service
  pub places : (n : ℕ) (e : CellEvent) → In (cell_turn n e) ts → n < c.nodes
  pub rises : Rises turn_clock ts

-- ---- what stands at a turn

rises-behind : {A : Type 0} (clock : A → ℕ) (xs ys : List A) → Rises clock (xs ++ ys) → Rises clock ys
unfolding Rises
rises-behind clock [] ys h = h
rises-behind clock (x ∷ xs) ys h = rises-behind clock xs ys h.1

late-In : {A : Type 0} (clock : A → ℕ) (x : A) (xs : List A) (y : A) → ((z : A) → In z xs → clock x ≤ clock z) → In y (x ∷ xs) → clock x ≤ clock y
late-In clock x xs y h (here _ _ e) = let same : clock y ≡ clock x = ap clock e in omega arith
late-In clock x xs y h (there _ _ is) = h y is

-- nothing from a turn on is earlier
rises-late : {A : Type 0} (clock : A → ℕ) (past : List A) (x : A) (future : List A) → Rises clock (past ++ x ∷ future) → (y : A) → In y (x ∷ future) → clock x ≤ clock y
unfolding Rises
rises-late clock past x future h y is = late-In clock x future y (rises-behind clock past (x ∷ future) h).0 is

cell_late : (b : Bool) (bound : ℕ) (e : CellEvent) (rest : List CellEvent) → bound ≤ e.clock → NoneBefore bound rest → NoneBefore bound ((if b then e ∷ [] else []) ++ rest)
unfolding NoneBefore
cell_late true bound e rest low h = (low, h)
cell_late false bound e rest low h = h

cell_part-late : (n bound : ℕ) (ts : List Turn) → ((t : Turn) → In t ts → bound ≤ turn_clock t) → NoneBefore bound (cell_part n ts)
unfolding part of_cell entry_of NoneBefore
cell_part-late n bound [] h = tt
cell_part-late n bound (cell_turn m e ∷ ts) h = cell_late (m == n) bound e (cell_part n ts) (h (cell_turn m e) (here _ ts refl)) (cell_part-late n bound ts (λ t is. h t (there _ ts is)))
cell_part-late n bound (service_turn e ∷ ts) h = cell_part-late n bound ts (λ t is. h t (there _ ts is))

service_part-late : (bound : ℕ) (ts : List Turn) → ((t : Turn) → In t ts → bound ≤ turn_clock t) → NoneServedBefore bound (service_part ts)
unfolding part of_service entry_of NoneServedBefore
service_part-late bound [] h = tt
service_part-late bound (cell_turn m e ∷ ts) h = service_part-late bound ts (λ t is. h t (there _ ts is))
service_part-late bound (service_turn e ∷ ts) h = (h (service_turn e) (here _ ts refl), service_part-late bound ts (λ t is. h t (there _ ts is)))

-- a turn among the others: what was before it, and what comes
pub record IsAt (c : Config) (es : Events) (past : List Turn) (t : Turn) (future : List Turn) : Type 0 where
  pub cells : (n : ℕ) → n < c.nodes → es.cells n ≡ cell_part n past ++ cell_part n (t ∷ future)
  pub service : es.service ≡ service_part past ++ service_part (t ∷ future)
  pub late : (n : ℕ) → NoneBefore (turn_clock t) (cell_part n (t ∷ future))
  pub served_late : NoneServedBefore (turn_clock t) (service_part (t ∷ future))

-- where a turn stands in an order of all events, each journal is what came before the turn, and what comes from it on
pub order-at : (c : Config) (es : Events) (past : List Turn) (t : Turn) (future : List Turn) → IsOrder c es (past ++ t ∷ future) → IsAt c es past t future
order-at c es past t future o =
    let late = rises-late turn_clock past t future o.rises in
    record {
      cells = λ n less. sym (o.cells n less) ∙ part-append (of_cell n) past (t ∷ future);
      service = sym o.service ∙ part-append of_service past (t ∷ future);
      late = λ n. cell_part-late n (turn_clock t) (t ∷ future) late;
      served_late = service_part-late (turn_clock t) (t ∷ future) late;
    }

own-part : (me : ℕ) (e : CellEvent) (future : List Turn) → cell_part me (cell_turn me e ∷ future) ≡ e ∷ cell_part me future
unfolding part of_cell
own-part me e future = rw (eq_same me) refl
  where
    eq_same : (n : ℕ) → (n == n) ≡ true
    eq_same n = eq-eqb n n refl

-- an event of the service is the next one of the service's part
pub served-part : (e : ServiceEvent) (future : List Turn) → service_part (service_turn e ∷ future) ≡ e ∷ service_part future
unfolding part of_service
served-part e future = refl

-- ---- what the world finds

begun-live : (n : Node) (s id : ℕ) (tx : List Op) → (begin n s id tx).answer ≡ Begun → n.stopped ≡ false
unfolding begin
begun-live n s id tx h = live n.stopped (begin_free n s record { id = id; tx = tx } (slot n s).current) h
  where
    live : (b : Bool) (d : Did BeginOutcome) → (if b then just n Stopped else d).answer ≡ Begun → b ≡ false
    live true d h = absurd cc
    live false d h = refl

-- if a test is false, then there is nothing where it must be true
pub where_false : {A : Type 0} (b : Bool) (a : A) → b ≡ false → where_true b a ≡ None
unfolding where_true
where_false b a h = rw h refl

-- if three places have nothing, then the search in all three finds nothing
pub three_none : {A : Type 0} (a b c : Option A) → a ≡ None → b ≡ None → c ≡ None → or_else a (or_else b c) ≡ None
unfolding or_else
three_none a b c ha hb hc = rw (ha, hb, hc) refl

not_none : {A : Type 0} (o : Option A) → is_some o ≡ true → is_none o ≡ false
not_none None h = absurd cc
not_none (Some a) h = refl

none_some : {A : Type 0} (o : Option A) → is_none o ≡ true → is_some o ≡ false
none_some None h = refl
none_some (Some a) h = absurd cc

waits-none : (o : Option ℕ) (w : World) → IfSome o (λ i. is_some (record_of w.book i).acked ≡ true) → waits_for w o ≡ None
unfolding waits_for
waits-none None w h = refl
waits-none (Some i) w h = where_false (is_none (record_of w.book i).acked) (Waits i) (not_none (record_of w.book i).acked h)

-- what holds at a turn: it stands between the others, and the world mirrors those before it
pub record AtTurn (p : Plan) (es : Events) (past : List Turn) (t : Turn) (future : List Turn) (w : World) : Type 0 where
  pub at : IsAt p.config es past t future
  pub mirrors : Mirrors p.config p.txs past w

-- an acknowledgement that was noted before the turn stands in the world
pub noted-acked : (p : Plan) (es : Events) (past : List Turn) (t : Turn) (future : List Turn) (w : World) (j : Job) (i : ℕ) → AtTurn p es past t future w
    → j.seen < turn_clock t → WasNoted p es j i → is_some (record_of w.book i).acked ≡ true
noted-acked p es past t future w j i a less noted =
    let n = (declared p.txs i).node in
    let m = a.mirrors in
    let at = a.at in
    let seen = noted.seen in
    let split : In noted.note (notes n p.config p.txs noted.client (cell_part n past ++ cell_part n (t ∷ future))) =
    subst (λ (zs : List CellEvent). In noted.note (notes n p.config p.txs noted.client zs)) (at.cells n noted.there) noted.is in
    let here_acked = noted-early n p.config p.txs noted.client (start_core n p.config p.txs) (cell_part n past) (cell_part n (t ∷ future)) noted.note
    (record { bound = turn_clock t; late = at.late n; early = omega arith; acked = noted.acked }) split in
    let agree = m.books n noted.there in
    let run_state = agree.own i refl in
    run_state.acked ∙ subst (λ (x : ℕ). is_some (record_of (core_of p.config p.txs n past).book x).acked ≡ true) noted.tx here_acked

-- what holds at the events of a cell
pub record AtCell (p : Plan) (k : Cluster) (es : Events) (past : List Turn) (me : ℕ) (e : CellEvent) (future : List Turn) (w : World) : Type 0 where
  pub cluster : IsCluster p k es
  pub fit : FitTxs p.config 0 p.txs
  pub there : me < p.config.nodes
  pub at : IsAt p.config es past (cell_turn me e) future
  pub mirrors : Mirrors p.config p.txs past w

abbrev pub Split : Plan → Cluster → Events → List Turn → ℕ → CellEvent → List Turn → World → Type 0
Split p k es past me e future w = AtCell p k es past me e future w → es.cells me ≡ cell_part me past ++ e ∷ cell_part me future

-- where a cell's event stands in the order, its journal is the part before it, the event, and the part to come
pub at-split : (p : Plan) (k : Cluster) (es : Events) (past : List Turn) (me : ℕ) (e : CellEvent) (future : List Turn) (w : World) → Split p k es past me e future w
at-split p k es past me e future w a =
    let at = a.at in at.cells me a.there ∙ ap (λ (zs : List CellEvent). cell_part me past ++ zs) (own-part me e future)

-- where a cell's event stands in the order, the cell made it behind its part of the order before it
pub at-event : (p : Plan) (k : Cluster) (es : Events) (past : List Turn) (me : ℕ) (e : CellEvent) (future : List Turn) (w : World) → AtCell p k es past me e future w → IsCellEvent p k es me e
at-event p k es past me e future w a =
    record { cluster = a.cluster; there = a.there; earlier = cell_part me past; later = cell_part me future; split = at-split p k es past me e future w a }

-- where a cell's event stands in the order, its clock is above the stamp of what it took in
pub at-stamp : (p : Plan) (k : Cluster) (es : Events) (past : List Turn) (me : ℕ) (e : CellEvent) (future : List Turn) (w : World) → AtCell p k es past me e future w → stamp e.deed < e.clock
at-stamp p k es past me e future w a =
    let h = a.cluster in
    let cell = h.cells me a.there in
    clock-above 0 (cell_part me past) (cell_part me future) e (subst (λ (zs : List CellEvent). AreClocks 0 zs) (at-split p k es past me e future w a) cell.clocks)

-- where a cell's event stands in the order, its deed fits
pub at-fits : (p : Plan) (k : Cluster) (es : Events) (past : List Turn) (me : ℕ) (e : CellEvent) (future : List Turn) (w : World) → AtCell p k es past me e future w → DeedFits p.config p.txs e.deed
at-fits p k es past me e future w a =
    let h = a.cluster in
    let cell = h.cells me a.there in
    fits-at p.config p.txs (cell_part me past) (cell_part me future) e
    (subst (λ (zs : List CellEvent). DeedsFit p.config p.txs zs) (at-split p k es past me e future w a) cell.fit)

-- where a cell's event stands in the order and begins a job, the job is fresh
pub at-fresh : (p : Plan) (k : Cluster) (es : Events) (past : List Turn) (me : ℕ) (e : CellEvent) (future : List Turn) (w : World) → AtCell p k es past me e future w
    → BeginsFresh me p.txs (core_of p.config p.txs me past) e.deed
at-fresh p k es past me e future w a =
    let h = a.cluster in
    let cell = h.cells me a.there in
    fresh-at me p.config p.txs (start_core me p.config p.txs) (cell_part me past) (cell_part me future) e
    (subst (λ (zs : List CellEvent). BeginFresh me p.config p.txs (start_core me p.config p.txs) zs) (at-split p k es past me e future w a) cell.begins)

-- what holds of a deed where a cell did it: it fits, a begin is of a fresh job, and the clock is above the stamp of what it took in
pub record IsDeedAt (p : Plan) (past : List Turn) (me clock : ℕ) (d : Deed) : Type 0 where
  pub fits : DeedFits p.config p.txs d
  pub fresh : BeginsFresh me p.txs (core_of p.config p.txs me past) d
  pub above : stamp d < clock

-- where a cell's event stands in the order, its deed is one that holds there
pub at-deed : (p : Plan) (k : Cluster) (es : Events) (past : List Turn) (me : ℕ) (e : CellEvent) (future : List Turn) (w : World) (d : Deed) → AtCell p k es past me e future w → e.deed ≡ d
    → IsDeedAt p past me e.clock d
at-deed p k es past me e future w d a is =
    record {
      fits = subst (λ (x : Deed). DeedFits p.config p.txs x) is (at-fits p k es past me e future w a);
      fresh = subst (λ (x : Deed). BeginsFresh me p.txs (core_of p.config p.txs me past) x) is (at-fresh p k es past me e future w a);
      above = subst (λ (x : Deed). stamp x < e.clock) is (at-stamp p k es past me e future w a);
    }

-- if a cell began a job, then its begin is not refused in the world
pub finds-begin : (p : Plan) (k : Cluster) (es : Events) (past : List Turn) (me : ℕ) (e : CellEvent) (future : List Turn) (w : World) (j : Job) → AtCell p k es past me e future w
    → e.deed ≡ Began j → begin_refused w j.tx ≡ None
unfolding begin_refused entry_of BeginsFresh DeedFits stamp
finds-begin p k es past me e future w j a began =
    let deed = at-deed p k es past me e future w (Began j) a began in
    let fresh : IsFresh me p.txs (core_of p.config p.txs me past) j = deed.fresh in
    let m = a.mirrors in
    let agree = m.books me a.there in
    let run_state = agree.own j.tx fresh.own in
    let core = core_of p.config p.txs me past in
    let unbegun : is_some (record_of w.book j.tx).begun ≡ false = run_state.begun ∙ none_some (record_of core.book j.tx).begun fresh.new in
    let live : core.node.stopped ≡ false = begun-live core.node _ _ _ fresh.begun in
    let running : (node w (declared w.txs j.tx).node).stopped ≡ false =
    rw (m.declared, fresh.own) (ap (λ (n : Node). n.stopped) (m.nodes me a.there) ∙ live) in
    let noted : IfSome (declared p.txs j.tx).after (λ i. WasNoted p es j i) =
    after-noted p k es me j e (at-event p k es past me e future w a) a.fit began fresh.own deed.fits in
    let acked : IfSome (declared p.txs j.tx).after (λ i. is_some (record_of w.book i).acked ≡ true) =
    IfSome_then (declared p.txs j.tx).after noted (λ i n. noted-acked p es past (cell_turn me e) future w j i (record { at = a.at; mirrors = m }) deed.above n) in
    three_none _ _ _ (where_false _ Twice unbegun) (where_false _ (BeginAnswer Stopped) running)
    (waits-none (declared w.txs j.tx).after w (subst (λ (ts : List TxDecl). IfSome (declared ts j.tx).after (λ i. is_some (record_of w.book i).acked ≡ true)) (sym m.declared) acked))

-- the event takes a packet of a sender
pub record TakesPacket (e : CellEvent) : Type 0 where
  pub sender : ℕ
  pub packet : Stamped
  pub took : e.deed ≡ Took sender packet

-- if a cell took a packet, then its letter is on the link in the world, at its number
pub finds-packet : (p : Plan) (k : Cluster) (es : Events) (past : List Turn) (me : ℕ) (e : CellEvent) (future : List Turn) (w : World) → AtCell p k es past me e future w
    → (t : TakesPacket e) → nth_letter (link w.links t.sender me) t.packet.number ≡ Some t.packet.letter
unfolding sends entry_of DeedFits stamp
finds-packet p k es past me e future w a t =
    let sender : ℕ = t.sender in
    let q : Stamped = t.packet in
    let took : e.deed ≡ Took sender q = t.took in
    let deed = at-deed p k es past me e future w (Took sender q) a took in
    let there_sender : sender < p.config.nodes = deed.fits in
    let less : q.clock < e.clock = deed.above in
    let m = a.mirrors in
    let at = a.at in
    let c = p.config in
    let sent = packet-sent p k es me sender q e (at-event p k es past me e future w a) there_sender took in
    let later = cell_part sender (cell_turn me e ∷ future) in
    let split : In q (numbered 0 (posts sender c p.txs me (cell_part sender past) ++ posts_from sender c p.txs me (core_of c p.txs sender past) later)) =
    subst (λ (ps : List Posted). In q (numbered 0 ps)) (posts_from-append sender c p.txs me (start_core sender c p.txs) (cell_part sender past) later)
    (subst (λ (zs : List CellEvent). In q (numbered 0 (posts sender c p.txs me zs))) (at.cells sender there_sender) sent) in
    let early = numbered-early 0 e.clock (posts sender c p.txs me (cell_part sender past)) (posts_from sender c p.txs me (core_of c p.txs sender past) later) q
    (posts_from-late sender c p.txs me e.clock (core_of c p.txs sender past) later (at.late sender)) less split in
    let place : q.number - 0 ≡ q.number = omega arith in
    rw (m.links sender me there_sender) (rw place at early.1)

-- if a cell saw a view, then the world has it
pub finds-view : (p : Plan) (k : Cluster) (es : Events) (past : List Turn) (me : ℕ) (e : CellEvent) (future : List Turn) (w : World) (v : Sight) → AtCell p k es past me e future w
    → e.deed ≡ Saw v → HasView w.views v
unfolding entry_of stamp
finds-view p k es past me e future w v a saw =
    let deed = at-deed p k es past me e future w (Saw v) a saw in
    let less : v.clock < e.clock = deed.above in
    let m = a.mirrors in
    let at = a.at in
    let sent = view-sent p k es me v e (at-event p k es past me e future w a) saw in
    rw (m.views)
    (seen-early me e.clock (start_views p.config) (service_part past) (service_part (cell_turn me e ∷ future)) v at.served_late less
    (subst (λ (zs : List ServiceEvent). In v (sights me p.config zs)) at.service sent))
