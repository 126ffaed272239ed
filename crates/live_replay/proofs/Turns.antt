-- Each turn of an order finds in the world what its cell or the service found, so the world follows the whole order.
use Rattle.std.specs.Prelude.{ℕ, ◌≡◌, ◌<◌, true, false, nat_lt, List, [], ◌∷◌, ◌++◌, length, map}
use Rattle.std.proofs.Common.{arith, refl, sym, ap, ◌∙◌, subst, append_assoc, append-nil}
use Rattle.std.proofs.lemmas.Bool.{ltb-true, false_from_ne_true}
use Rattle.zeus_base.specs.Limits.{KeepsLimits}
use Rattle.zeus_base.specs.NodeLaws.{RisesFrom-without, IsBelow-without}
use Rattle.zeus_base.specs.Nodes.{without}
use Rattle.zeus_base.specs.declared.config.Config.{Config}
use Rattle.zeus_txn.specs.declared.tx.TxDecl.{TxDecl}
use Rattle.zeus_model.specs.declared.answer.Answer.TheVariants.{View as ViewAnswer}
use Rattle.zeus_model.specs.In.{In}
use Rattle.zeus_model.specs.Scripts.{FitTxs}
use Rattle.zeus_model.specs.State.{Node}
use Rattle.zeus_model.specs.World.{World, Event, node, last_view, happens, stepped, run, start}
use Rattle.machine_moves.specs.Fits.{StepFits}
use Rattle.live_model.specs.Cell.{CellEvent, Deed, Began, Tried, Took, Ticked, Halted, Saw, step_of, declared, start_core, BeginsFresh, DeedFits, halts}
use Rattle.live_model.specs.Service.{ServiceEvent, AreServiceClocks, AreViews, HaltsFit, made, start_views, views_made}
use Rattle.live_model.specs.Cluster.{Plan, Cluster, Events, IsCluster}
use Rattle.live_model.specs.Merge.{Turn, cell_turn, service_turn, entry_of, turn_step}
use Rattle.live_replay.specs.Parts.{cell_part, service_part}
use Rattle.live_replay.proofs.Acts.{Finds, NamesOwn, happens-acts}
use Rattle.live_replay.proofs.Causes.{In-middle, service_clock-above, views-at, halts-fit-at, stop-made}
use Rattle.live_replay.proofs.Early.{halted-early, HasView}
use Rattle.live_replay.specs.Replayed.{core_of, given, acknowledged}
use Rattle.live_replay.proofs.Mirrors.{Mirrors, CellStep, cell-mirrors, acted_answer, acted_acked}
use Rattle.live_replay.proofs.Reached.{reached-current}
use Rattle.live_replay.proofs.Replay.{IsOrder, order-at, served-part, AtCell, at-fits, at-fresh, at-deed, finds-begin, finds-packet, finds-view}
use Rattle.live_replay.proofs.Serving.{ServiceStep, service-mirrors, start-mirrors, happens-serves}
use Rattle.live_replay.proofs.Tries.{own-try_slot}
use Rattle.live_model.specs.Items.{Sight}

-- ---- an event of a cell

step-fits : (d : Deed) (c : Config) (txs : List TxDecl) (me : ℕ) → me < c.nodes → DeedFits c txs d → StepFits c txs (step_of me d)
unfolding DeedFits StepFits step_of
step-fits (Began j) c txs me there fits = fits
step-fits (Tried s) c txs me there fits = (there, fits)
step-fits (Took sender q) c txs me there fits = (fits, there)
step-fits Ticked c txs me there fits = there
step-fits Halted c txs me there fits = there
step-fits (Saw v) c txs me there fits = (there, fits)

deed-names : (d : Deed) (p : Plan) (past : List Turn) (w : World) (me : ℕ) → Mirrors p.config p.txs past w → BeginsFresh me p.txs (core_of p.config p.txs me past) d → NamesOwn p.txs me (node w me) d
unfolding BeginsFresh NamesOwn
deed-names (Began j) p past w me m fresh = fresh.own
deed-names (Tried s) p past w me m fresh =
    own-try_slot (node w me) s p.txs me
    (λ c is. subst (λ (ts : List TxDecl). (declared ts c.id).node ≡ me) m.declared (reached-current w me s c m.reached is))
deed-names (Took sender q) p past w me m fresh = tt
deed-names Ticked p past w me m fresh = tt
deed-names Halted p past w me m fresh = tt
deed-names (Saw v) p past w me m fresh = tt

view-there : (w : World) (v : Sight) → HasView w.views v → nat_lt (length w.views) v.epoch ≡ false
view-there w v h =
    let made = h.made in
    false_from_ne_true (nat_lt (length w.views) v.epoch) (λ less. let past : length w.views < v.epoch = ltb-true (length w.views) v.epoch less in absurd (omega arith))

deed-finds : (d : Deed) (p : Plan) (k : Cluster) (es : Events) (past : List Turn) (me : ℕ) (e : CellEvent) (future : List Turn) (w : World) → AtCell p k es past me e future w → e.deed ≡ d → Finds w me d
unfolding BeginsFresh Finds
deed-finds (Began j) p k es past me e future w a is =
    let m = a.mirrors in
    let deed = at-deed p k es past me e future w (Began j) a is in
    (subst (λ (ts : List TxDecl). (declared ts j.tx).node ≡ me) (sym m.declared) deed.fresh.own, finds-begin p k es past me e future w j a is)
deed-finds (Tried s) p k es past me e future w a is = tt
deed-finds (Took sender q) p k es past me e future w a is = finds-packet p k es past me e future w a (record { sender = sender; packet = q; took = is })
deed-finds Ticked p k es past me e future w a is = tt
deed-finds Halted p k es past me e future w a is = tt
deed-finds (Saw v) p k es past me e future w a is =
    let h = finds-view p k es past me e future w v a is in (view-there w v h, h.is)

-- where a cell's event stands in the order, the world has what it needs
pub cell-step : (p : Plan) (k : Cluster) (es : Events) (past : List Turn) (me : ℕ) (e : CellEvent) (future : List Turn) (w : World) → AtCell p k es past me e future w → CellStep p.config p.txs past w me e
cell-step p k es past me e future w a =
    let fits = at-fits p k es past me e future w a in
    let fresh = at-fresh p k es past me e future w a in
    record {
      there = a.there;
      finds = deed-finds e.deed p k es past me e future w a refl;
      fits = step-fits e.deed p.config p.txs me a.there fits;
      names = deed-names e.deed p past w me a.mirrors fresh;
    }

-- ---- an event of the service

-- some turns and those behind them are an order of a cluster's events, and the world mirrors the former
pub record HasFollowed (p : Plan) (k : Cluster) (es : Events) (past future : List Turn) (w : World) : Type 0 where
  pub cluster : IsCluster p k es
  pub fit : FitTxs p.config 0 p.txs
  pub order : IsOrder p.config es (past ++ future)
  pub mirrors : Mirrors p.config p.txs past w

-- if the world mirrors the events before one of the service, then it has what that event needs
pub service-step : (p : Plan) (k : Cluster) (es : Events) (past : List Turn) (e : ServiceEvent) (future : List Turn) (w : World) → HasFollowed p k es past (service_turn e ∷ future) w
    → ServiceStep p.config past w e
unfolding entry_of
service-step p k es past e future w f =
    let h = f.cluster in
    let m = f.mirrors in
    let at = order-at p.config es past (service_turn e) future f.order in
    let service = h.service in
    let split : es.service ≡ service_part past ++ e ∷ service_part future = at.service ∙ ap (λ (zs : List ServiceEvent). service_part past ++ zs) (served-part e future) in
    let there : e.node < p.config.nodes =
    halts-fit-at p.config (service_part past) (service_part future) e (subst (λ (zs : List ServiceEvent). HaltsFit p.config zs) split service.fit) in
    let less : e.halt < e.clock =
    service_clock-above 0 (service_part past) (service_part future) e (subst (λ (zs : List ServiceEvent). AreServiceClocks 0 zs) split service.clocks) in
    let members : e.members ≡ without e.node (last_view (views_made p.config (service_part past))) =
    views-at (start_views p.config) (service_part past) (service_part future) e (subst (λ (zs : List ServiceEvent). AreViews (start_views p.config) zs) split service.made) in
    let halt = subst (λ (zs : List CellEvent). In e.halt (halts zs)) (at.cells e.node there) (stop-made p k es (service_part past) (service_part future) e h there split) in
    let stopped : (core_of p.config p.txs e.node past).node.stopped ≡ true =
    halted-early e.node p.config p.txs e.clock (start_core e.node p.config p.txs) (cell_part e.node past) (cell_part e.node (service_turn e ∷ future)) e.halt (at.late e.node) less halt in
    record {
      members = members ∙ ap (λ (vs : List (List ℕ)). without e.node (last_view vs)) (sym m.views);
      stopped = ap (λ (n : Node). n.stopped) (m.nodes e.node there) ∙ stopped;
    }

-- ---- the whole order

-- if the world mirrors the events before one of a cell, then what holds at a cell's events holds in it
pub at-cell : (p : Plan) (k : Cluster) (es : Events) (past : List Turn) (me : ℕ) (e : CellEvent) (future : List Turn) (w : World) → HasFollowed p k es past (cell_turn me e ∷ future) w
    → AtCell p k es past me e future w
at-cell p k es past me e future w f =
    let o = f.order in
    record { cluster = f.cluster; fit = f.fit; there = o.places me e (In-middle (cell_turn me e) past future); at = order-at p.config es past (cell_turn me e) future o; mirrors = f.mirrors }

turn-mirrors : (t : Turn) (p : Plan) (k : Cluster) (es : Events) (past future : List Turn) (w : World) → HasFollowed p k es past (t ∷ future) w
    → Mirrors p.config p.txs (past ++ t ∷ []) (stepped w (turn_step t))
unfolding entry_of
turn-mirrors (cell_turn me e) p k es past future w f =
    cell-mirrors p.config p.txs past w me e f.mirrors (cell-step p k es past me e future w (at-cell p k es past me e future w f))
turn-mirrors (service_turn e) p k es past future w f = service-mirrors p.config p.txs past w e f.mirrors (service-step p k es past e future w f)

run-mirrors : (mid : List Turn) (p : Plan) (k : Cluster) (es : Events) (past future : List Turn) (w : World) → HasFollowed p k es past (mid ++ future) w
    → Mirrors p.config p.txs (past ++ mid) (run w (map turn_step mid))
unfolding run
run-mirrors [] p k es past future w f = rw (append-nil past) f.mirrors
run-mirrors (t ∷ ts) p k es past future w f =
    let next = turn-mirrors t p k es past (ts ++ future) w f in
    let order : IsOrder p.config es ((past ++ t ∷ []) ++ (ts ++ future)) = subst (λ (zs : List Turn). IsOrder p.config es zs) (sym (append_assoc past (t ∷ []) (ts ++ future))) f.order in
    subst (λ (zs : List Turn). Mirrors p.config p.txs zs (run (stepped w (turn_step t)) (map turn_step ts))) (append_assoc past (t ∷ []) ts)
    (run-mirrors ts p k es (past ++ t ∷ []) future (stepped w (turn_step t)) (record { cluster = f.cluster; fit = f.fit; order = order; mirrors = next }))

-- after the first turns of an order the world is what they have made of it
pub order-mirrors : (p : Plan) (k : Cluster) (es : Events) (past future : List Turn) → KeepsLimits p.config → FitTxs p.config 0 p.txs → IsCluster p k es
    → IsOrder p.config es (past ++ future) → Mirrors p.config p.txs past (run (start p.config p.txs) (map turn_step past))
order-mirrors p k es past future keeps fit h o =
    run-mirrors past p k es [] future (start p.config p.txs) (record { cluster = h; fit = fit; order = o; mirrors = start-mirrors p.config p.txs keeps fit })

-- if the world mirrors the events before a turn, then the step of the turn fits
pub turn-fits : (t : Turn) (p : Plan) (k : Cluster) (es : Events) (past future : List Turn) (w : World) → HasFollowed p k es past (t ∷ future) w → StepFits p.config p.txs (turn_step t)
unfolding entry_of StepFits
turn-fits (cell_turn me e) p k es past future w f =
    let s = cell-step p k es past me e future w (at-cell p k es past me e future w f) in s.fits
turn-fits (service_turn e) p k es past future w f =
    let m = f.mirrors in
    let s = service-step p k es past e future w f in
    rw (s.members) (RisesFrom-without 0 e.node (last_view w.views) m.last.0, IsBelow-without p.config.nodes e.node (last_view w.views) m.last.1)

-- if the world mirrors the events before a turn, then the step of the turn answers what the cell or the service answered
pub turn-answer : (t : Turn) (p : Plan) (k : Cluster) (es : Events) (past future : List Turn) (w : World) → HasFollowed p k es past (t ∷ future) w
    → (happens w (turn_step t)).answer ≡ given p past t
unfolding entry_of given
turn-answer (cell_turn me e) p k es past future w f =
    let a = at-cell p k es past me e future w f in
    let s = cell-step p k es past me e future w a in
    ap (λ (x : Event). x.answer) (happens-acts e.deed w me s.finds) ∙ acted_answer p.config p.txs past w me e f.mirrors a.there
turn-answer (service_turn e) p k es past future w f =
    let m = f.mirrors in
    let s = service-step p k es past e future w f in
    ap (λ (x : Event). x.answer) (happens-serves w e.node e.members s.members s.stopped) ∙ ap (λ (vs : List (List ℕ)). ViewAnswer (made vs e.members)) m.views

-- if the world mirrors the events before a turn, then the step of the turn acknowledges what the cell acknowledged
pub turn-acked : (t : Turn) (p : Plan) (k : Cluster) (es : Events) (past future : List Turn) (w : World) → HasFollowed p k es past (t ∷ future) w
    → (happens w (turn_step t)).acked ≡ acknowledged p past t
unfolding entry_of acknowledged
turn-acked (cell_turn me e) p k es past future w f =
    let s = cell-step p k es past me e future w (at-cell p k es past me e future w f) in
    ap (λ (x : Event). x.acked) (happens-acts e.deed w me s.finds) ∙ acted_acked p.config p.txs past w me e f.mirrors s
turn-acked (service_turn e) p k es past future w f =
    let s = service-step p k es past e future w f in
    ap (λ (x : Event). x.acked) (happens-serves w e.node e.members s.members s.stopped)
