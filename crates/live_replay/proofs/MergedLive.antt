-- The steps of merged journals are those of a live run.
use Rattle.std.specs.Prelude.{ℕ, suc, ◌≡◌, ◌+◌, ◌<◌, ◌≤◌, Bool, true, false, ◌||◌, ◌&&◌, ◌==◌, List, [], ◌∷◌, ◌++◌, length, map, Option, Some, None, ◌⊎◌, if◌then◌else◌}
use Rattle.std.proofs.Common.{arith, refl, sym, ap, ◌∙◌, inl, inr, subst, append_assoc, append-nil, length-append}
use Rattle.std.proofs.lemmas.Bool.{cases_eq, ne_eqb}
use Rattle.zeus_base.specs.declared.step.Step.{Step}
use Rattle.zeus_txn.specs.declared.tx.TxDecl.{TxDecl}
use Rattle.zeus_model.specs.In.{In}
use Rattle.zeus_model.specs.World.{World, stepped, run, start}
use Rattle.zeus_model.specs.InLaws.{In-append_left, In-append_right, In-append}
use Rattle.machine_moves.proofs.Lists.{In-nothing}
use Rattle.live_model.specs.Items.{Sight, travels}
use Rattle.live_model.specs.Cell.{CellEvent, Core, Deed, Began, Tried, Took, Ticked, Halted, Saw, Kill, step_of, stamp, is_halt, is_killed, HaltsOnly, BeginsFresh, halts, halt_of}
use Rattle.live_model.specs.Service.{sights, HaltsFit, AreServiceClocks, ServiceEvent, sights_from, start_views}
use Rattle.live_model.specs.Cluster.{Plan, Cluster, Events}
use Rattle.live_model.specs.Drive.{is_step_of, is_due, counts_as}
use Rattle.live_model.specs.Merge.{Turn, cell_turn, service_turn, entry_of, turn_step, turns, merged}
use Rattle.live_replay.specs.LiveRun.{NoneMissed, is_stop, needs_stop, StopsAtKill, IsLiveRun}
use Rattle.live_replay.specs.Parts.{part, of_cell, of_service, cell_part, service_part}
use Rattle.live_replay.specs.Replayed.{IsLive, world_after, core_of}
use Rattle.live_replay.proofs.Causes.{service_clock-above, halts-fit-at, stop-made, view-sent}
use Rattle.live_replay.proofs.Early.{halts-late, sights-late}
use Rattle.live_replay.proofs.LiveRuns.{run-more}
use Rattle.live_replay.proofs.Mirrors.{part-one}
use Rattle.live_replay.proofs.Replay.{IsAt, order-at, served-part, at-event, at-deed, at-split, at-fresh}
use Rattle.live_replay.proofs.Results.{Split, split-order, at-begin, replay-hits, replay-fits, replay-steps}

-- ---- nothing is missed

map-one : (past : List Turn) (t : Turn) → map turn_step (past ++ t ∷ []) ≡ map turn_step past ++ turn_step t ∷ []
map-one [] t = refl
map-one (x ∷ xs) t = ap (λ (ss : List Step). turn_step x ∷ ss) (map-one xs t)

after-one : (p : Plan) (past : List Turn) (t : Turn) → world_after p (past ++ t ∷ []) ≡ stepped (world_after p past) (turn_step t)
after-one p past t = ap (λ (ss : List Step). run (start p.config p.txs) ss) (map-one past t) ∙ run-more (start p.config p.txs) (map turn_step past) (turn_step t)

none_missed : (p : Plan) (k : Cluster) (es : Events) (past future : List Turn) → IsLive p k es → Split p es past future → NoneMissed (world_after p past) (map turn_step future)
unfolding NoneMissed
none_missed p k es past [] h is = tt
none_missed p k es past (t ∷ ts) h is =
    let next : Split p es (past ++ t ∷ []) ts = append_assoc past (t ∷ []) ts ∙ is in
    let world : world_after p (past ++ t ∷ []) ≡ stepped (world_after p past) (turn_step t) = after-one p past t in
    (replay-hits p k es past t ts h is, subst (λ (w : World). NoneMissed w (map turn_step ts)) world (none_missed p k es (past ++ t ∷ []) ts h next))

-- ---- the steps of a node

-- a step of an event of a cell is one of its node, and of no other
cell-step_of : (d : Deed) (txs : List TxDecl) (core : Core) (n me : ℕ) → BeginsFresh me txs core d → is_step_of txs n (step_of me d) ≡ (me == n)
unfolding is_step_of step_of BeginsFresh
cell-step_of (Began j) txs core n me fresh = ap (λ (m : ℕ). m == n) fresh.own
cell-step_of (Tried s) txs core n me fresh = refl
cell-step_of (Took sender q) txs core n me fresh = refl
cell-step_of Ticked txs core n me fresh = refl
cell-step_of Halted txs core n me fresh = refl
cell-step_of (Saw v) txs core n me fresh = refl

-- it is a stop just where the event is
halt-stop : (d : Deed) (me : ℕ) → is_stop (step_of me d) ≡ is_halt d
unfolding is_stop step_of is_halt
halt-stop (Began j) me = refl
halt-stop (Tried s) me = refl
halt-stop (Took sender q) me = refl
halt-stop Ticked me = refl
halt-stop Halted me = refl
halt-stop (Saw v) me = refl

-- how many events of the node to be killed are among the turns
killed_events : Option Kill → List Turn → ℕ
killed_events None ts = 0
killed_events (Some k) ts = length (cell_part k.node ts)

counts-cell : (kill : Option Kill) (txs : List TxDecl) (core : Core) (me : ℕ) (e : CellEvent) (past : List Turn) → BeginsFresh me txs core e.deed
    → counts_as kill txs (turn_step (cell_turn me e)) + killed_events kill past ≡ killed_events kill (past ++ cell_turn me e ∷ [])
unfolding counts_as killed_events entry_of of_cell
counts-cell None txs core me e past fresh = omega arith
counts-cell (Some k) txs core me e past fresh =
    let own = cell-step_of e.deed txs core k.node me fresh in
    let more : cell_part k.node (past ++ cell_turn me e ∷ []) ≡ cell_part k.node past ++ (if me == k.node then e ∷ [] else []) = part-one (of_cell k.node) past (cell_turn me e) in
    ap (λ (b : Bool). (if b then 1 else 0) + length (cell_part k.node past)) own
    ∙ (one_more (me == k.node) e (cell_part k.node past) ∙ ap (λ (es : List CellEvent). length es) (sym more))
  where
    one_more : (b : Bool) (e : CellEvent) (es : List CellEvent) → (if b then 1 else 0) + length es ≡ length (es ++ (if b then e ∷ [] else []))
    one_more true e es = let h : length (es ++ e ∷ []) ≡ length es + 1 = length-append es (e ∷ []) in omega arith
    one_more false e es = let h : length (es ++ []) ≡ length es = ap (λ (zs : List CellEvent). length zs) (append-nil es) in omega arith

counts-service : (kill : Option Kill) (txs : List TxDecl) (e : ServiceEvent) (past : List Turn)
    → counts_as kill txs (turn_step (service_turn e)) + killed_events kill past ≡ killed_events kill (past ++ service_turn e ∷ [])
unfolding counts_as killed_events entry_of is_step_of of_cell
counts-service None txs e past = refl
counts-service (Some k) txs e past =
    let h : length (cell_part k.node (past ++ service_turn e ∷ [])) ≡ length (cell_part k.node past) =
    ap (λ (es : List CellEvent). length es) (part-one (of_cell k.node) past (service_turn e) ∙ append-nil (cell_part k.node past)) in
    omega arith

-- the event at a place of a journal is a stop just where the kill is due there
halts-at : (kill : Option Kill) (me place : ℕ) (xs ys : List CellEvent) (e : CellEvent) → HaltsOnly kill me place (xs ++ e ∷ ys) → is_halt e.deed ≡ is_killed kill me (place + length xs)
unfolding HaltsOnly
halts-at kill me place [] ys e h = let same : place + 0 ≡ place = omega arith in rw same h.0
halts-at kill me place (x ∷ xs) ys e h = let same : suc place + length xs ≡ place + suc (length xs) = omega arith in rw (← same) (halts-at kill me (suc place) xs ys e h.2)

same_test : (a b : ℕ) → (a == b) ≡ (b == a)
same_test a b =
    elim (cases_eq a b) [
      | inl is ↦ rw is refl
      | inr other ↦ ne_eqb a b other ∙ sym (ne_eqb b a (λ is. other (sym is)))
    ]

due-cell : (kill : Option Kill) (txs : List TxDecl) (core : Core) (me : ℕ) (e : CellEvent) (past : List Turn) → BeginsFresh me txs core e.deed
    → is_killed kill me (length (cell_part me past)) ≡ is_due kill txs (killed_events kill past) (turn_step (cell_turn me e))
unfolding is_killed is_due killed_events entry_of
due-cell None txs core me e past fresh = refl
due-cell (Some k) txs core me e past fresh =
    let own = cell-step_of e.deed txs core k.node me fresh in
    rw own (elim (cases_eq me k.node) [
      | inl same ↦ rw same (ap (λ (b : Bool). (k.node == k.node) && b) (same_test k.event (length (cell_part k.node past))))
      | inr other ↦ rw (ne_eqb me k.node other, ne_eqb k.node me (λ is. other (sym is))) refl
    ])

due-service : (kill : Option Kill) (txs : List TxDecl) (e : ServiceEvent) (count : ℕ) → is_stop (turn_step (service_turn e)) ≡ is_due kill txs count (turn_step (service_turn e))
unfolding is_stop is_due is_step_of entry_of
due-service None txs e count = refl
due-service (Some k) txs e count = refl

-- ---- views and installs come of stops

-- a stop is among the turns
unfoldable has_halt : List Turn → Bool
has_halt [] = false
has_halt (t ∷ ts) = is_stop (turn_step t) || has_halt ts

or_true : (a : Bool) → (a || true) ≡ true
or_true true = refl
or_true false = refl

true_or : (a b : Bool) → a ≡ true → (a || b) ≡ true
true_or a b h = rw h refl

halt_of-stop : (b : Bool) (c h : ℕ) (later : Bool) → In h (if b then c ∷ [] else []) → b ≡ true
halt_of-stop true c h later is = refl
halt_of-stop false c h later is = In-nothing h is

left_true : (a b : Bool) → (a && b) ≡ true → a ≡ true
left_true true b h = refl
left_true false b h = h

halted_here : (h m : ℕ) (e : CellEvent) (rest : List CellEvent) (later : Bool) → (In h (halts rest) → later ≡ true) → In h (halt_of e ++ halts rest) → (is_stop (step_of m e.deed) || later) ≡ true
unfolding halt_of
halted_here h m e rest later next is =
    elim (In-append h (halt_of e) (halts rest) is) [
      | inl own ↦ true_or (is_stop (step_of m e.deed)) later (halt-stop e.deed m ∙ left_true (is_halt e.deed) (travels e.clock) (halt_of-stop (is_halt e.deed && travels e.clock) e.clock h later own))
      | inr other ↦ rw (next other) (or_true (is_stop (step_of m e.deed)))
    ]

halted_one : (b : Bool) (h m : ℕ) (e : CellEvent) (rest : List CellEvent) (later : Bool) → (In h (halts rest) → later ≡ true) → In h (halts ((if b then e ∷ [] else []) ++ rest))
    → (is_stop (step_of m e.deed) || later) ≡ true
unfolding halts
halted_one true h m e rest later next is = halted_here h m e rest later next is
halted_one false h m e rest later next is = rw (next is) (or_true (is_stop (step_of m e.deed)))

no_halts : {P : Type 0} (h : ℕ) → In h (halts []) → P
unfolding halts
no_halts h is = In-nothing h is

halted-part : (n h : ℕ) (ts : List Turn) → In h (halts (cell_part n ts)) → has_halt ts ≡ true
unfolding part of_cell has_halt entry_of
halted-part n h [] is = no_halts h is
halted-part n h (cell_turn m e ∷ ts) is = halted_one (m == n) h m e (cell_part n ts) (has_halt ts) (halted-part n h ts) is
halted-part n h (service_turn e ∷ ts) is = rw (halted-part n h ts is) (or_true (is_stop (turn_step (service_turn e))))

halts-append : (h : ℕ) (xs ys : List CellEvent) → In h (halts (xs ++ ys)) → In h (halts xs) ⊎ In h (halts ys)
unfolding halts
halts-append h [] ys is = inr is
halts-append h (x ∷ xs) ys is =
    elim (In-append h (halt_of x) (halts (xs ++ ys)) is) [
      | inl own ↦ inl (In-append_left h (halt_of x) (halts xs) own)
      | inr other ↦ elim (halts-append h xs ys other) [ inl l ↦ inl (In-append_right h (halt_of x) (halts xs) l) | inr r ↦ inr r ]
    ]

-- before an event of the service a node has stopped
service-behind : (p : Plan) (k : Cluster) (es : Events) (past : List Turn) (e : ServiceEvent) (future : List Turn) → IsLive p k es → Split p es past (service_turn e ∷ future) → has_halt past ≡ true
unfolding entry_of
service-behind p k es past e future h is =
    let cluster = h.cluster in
    let service = cluster.service in
    let at = order-at p.config es past (service_turn e) future (split-order p k es past (service_turn e ∷ future) h is) in
    let split : es.service ≡ service_part past ++ e ∷ service_part future = at.service ∙ ap (λ (zs : List ServiceEvent). service_part past ++ zs) (served-part e future) in
    let there : e.node < p.config.nodes =
    halts-fit-at p.config (service_part past) (service_part future) e (subst (λ (zs : List ServiceEvent). HaltsFit p.config zs) split service.fit) in
    let less : e.halt < e.clock =
    service_clock-above 0 (service_part past) (service_part future) e (subst (λ (zs : List ServiceEvent). AreServiceClocks 0 zs) split service.clocks) in
    let halt = subst (λ (zs : List CellEvent). In e.halt (halts zs)) (at.cells e.node there) (stop-made p k es (service_part past) (service_part future) e cluster there split) in
    elim (halts-append e.halt (cell_part e.node past) (cell_part e.node (service_turn e ∷ future)) halt) [
      | inl early ↦ halted-part e.node e.halt past early
      | inr late ↦ let low : e.clock ≤ e.halt = halts-late e.clock (cell_part e.node (service_turn e ∷ future)) e.halt (at.late e.node) late in absurd (omega arith)
    ]

-- the service has made no event yet, or a node has stopped
abbrev Quiet : List Turn → Type 0
Quiet past = (service_part past ≡ []) ⊎ (has_halt past ≡ true)

needs-saw : (d : Deed) (me : ℕ) → needs_stop (step_of me d) ≡ true → (v : Sight) × (d ≡ Saw v)
unfolding needs_stop step_of
needs-saw (Began j) me h = absurd cc
needs-saw (Tried s) me h = absurd cc
needs-saw (Took sender q) me h = absurd cc
needs-saw Ticked me h = absurd cc
needs-saw Halted me h = absurd cc
needs-saw (Saw v) me h = (v, refl)

late_sight : (p : Plan) (es : Events) (past : List Turn) (me : ℕ) (e : CellEvent) (future : List Turn) (v : Sight) → IsAt p.config es past (cell_turn me e) future
    → In v (sights_from me (start_views p.config) ([] ++ service_part (cell_turn me e ∷ future))) → e.clock ≤ v.clock
unfolding entry_of
late_sight p es past me e future v at is = sights-late me e.clock (start_views p.config) (service_part (cell_turn me e ∷ future)) v at.served_late is

-- before an install a node has stopped
cell-behind : (p : Plan) (k : Cluster) (es : Events) (past : List Turn) (me : ℕ) (e : CellEvent) (future : List Turn) → IsLive p k es → Split p es past (cell_turn me e ∷ future) → Quiet past
    → needs_stop (step_of me e.deed) ≡ true → has_halt past ≡ true
unfolding stamp
cell-behind p k es past me e future h is (inr stopped) needs = stopped
cell-behind p k es past me e future h is (inl none) needs =
    let saw = needs-saw e.deed me needs in
    let v = saw.0 in
    let a = at-begin p k es past me e future h is in
    let at = a.at in
    let deed = at-deed p k es past me e future (world_after p past) (Saw v) a saw.1 in
    let less : v.clock < e.clock = deed.above in
    let sent = view-sent p k es me v e (at-event p k es past me e future (world_after p past) a) saw.1 in
    let split = subst (λ (zs : List ServiceEvent). In v (sights me p.config zs)) at.service sent in
    let none_early = subst (λ (zs : List ServiceEvent). In v (sights_from me (start_views p.config) (zs ++ service_part (cell_turn me e ∷ future)))) none split in
    let low = late_sight p es past me e future v at none_early in
    absurd (omega arith)

-- ---- the whole merge

has_halt-one : (past : List Turn) (t : Turn) → has_halt (past ++ t ∷ []) ≡ (is_stop (turn_step t) || has_halt past)
unfolding has_halt
has_halt-one [] t = refl
has_halt-one (x ∷ xs) t = ap (λ (b : Bool). is_stop (turn_step x) || b) (has_halt-one xs t) ∙ or_swap (is_stop (turn_step x)) (is_stop (turn_step t)) (has_halt xs)
  where
    or_swap : (a b c : Bool) → (a || (b || c)) ≡ (b || (a || c))
    or_swap true true c = refl
    or_swap true false c = refl
    or_swap false true c = refl
    or_swap false false c = refl

quiet-more : (p : Plan) (k : Cluster) (es : Events) (past : List Turn) (t : Turn) (future : List Turn) → IsLive p k es → Split p es past (t ∷ future) → Quiet past → Quiet (past ++ t ∷ [])
unfolding of_service
quiet-more p k es past t future h is (inr stopped) = inr (has_halt-one past t ∙ (ap (λ (b : Bool). is_stop (turn_step t) || b) stopped ∙ or_true (is_stop (turn_step t))))
quiet-more p k es past (cell_turn me e) future h is (inl none) = inl (part-one of_service past (cell_turn me e) ∙ (append-nil (service_part past) ∙ none))
quiet-more p k es past (service_turn e) future h is (inl none) =
    inr (has_halt-one past (service_turn e) ∙ (ap (λ (b : Bool). is_stop (turn_step (service_turn e)) || b) (service-behind p k es past e future h is) ∙ or_true (is_stop (turn_step (service_turn e)))))

-- what the kill's rule asks for at a turn
abbrev TurnStops : Plan → List Turn → Turn → Type 0
TurnStops p past t =
    (is_stop (turn_step t) ≡ is_due p.kill p.txs (killed_events p.kill past) (turn_step t)) × (needs_stop (turn_step t) ≡ true → has_halt past ≡ true)
    × (counts_as p.kill p.txs (turn_step t) + killed_events p.kill past ≡ killed_events p.kill (past ++ t ∷ []))

turn-stops : (t : Turn) (p : Plan) (k : Cluster) (es : Events) (past future : List Turn) → IsLive p k es → Split p es past (t ∷ future) → Quiet past → TurnStops p past t
unfolding entry_of
turn-stops (cell_turn me e) p k es past future h is quiet =
    let a = at-begin p k es past me e future h is in
    let fresh = at-fresh p k es past me e future (world_after p past) a in
    let core = core_of p.config p.txs me past in
    let cluster = h.cluster in
    let cell = cluster.cells me a.there in
    let halts_so : is_halt e.deed ≡ is_killed p.kill me (0 + length (cell_part me past)) =
    halts-at p.kill me 0 (cell_part me past) (cell_part me future) e (subst (λ (zs : List CellEvent). HaltsOnly p.kill me 0 zs) (at-split p k es past me e future (world_after p past) a) cell.halting) in
    let same : 0 + length (cell_part me past) ≡ length (cell_part me past) = omega arith in (
      halt-stop e.deed me ∙ (halts_so ∙ (ap (λ (n : ℕ). is_killed p.kill me n) same ∙ due-cell p.kill p.txs core me e past fresh)),
      cell-behind p k es past me e future h is quiet,
      counts-cell p.kill p.txs core me e past fresh,
    )
turn-stops (service_turn e) p k es past future h is quiet =
    (due-service p.kill p.txs e (killed_events p.kill past), λ needs. service-behind p k es past e future h is, counts-service p.kill p.txs e past)

stops_at_kill : (p : Plan) (k : Cluster) (es : Events) (past future : List Turn) → IsLive p k es → Split p es past future → Quiet past
    → StopsAtKill p.kill p.txs (killed_events p.kill past) (has_halt past) (map turn_step future)
unfolding StopsAtKill
stops_at_kill p k es past [] h is quiet = tt
stops_at_kill p k es past (t ∷ ts) h is quiet =
    let one = turn-stops t p k es past ts h is quiet in
    let next : Split p es (past ++ t ∷ []) ts = append_assoc past (t ∷ []) ts ∙ is in
    let rest = stops_at_kill p k es (past ++ t ∷ []) ts h next (quiet-more p k es past t ts h is quiet) in (
      one.0,
      one.1,
      subst (λ (n : ℕ). StopsAtKill p.kill p.txs n (is_stop (turn_step t) || has_halt past) (map turn_step ts)) (sym one.2)
          (subst (λ (b : Bool). StopsAtKill p.kill p.txs (killed_events p.kill (past ++ t ∷ [])) b (map turn_step ts)) (has_halt-one past t) rest),
    )

none_killed : (kill : Option Kill) → killed_events kill [] ≡ 0
unfolding killed_events part
none_killed None = refl
none_killed (Some k) = refl

none_halted : has_halt [] ≡ false
unfolding has_halt
none_halted = refl

none_served : service_part [] ≡ []
unfolding part
none_served = refl

-- the merged journals of a live run are the steps of a live run of the machine
pub merged-live : (p : Plan) (k : Cluster) (es : Events) → IsLive p k es → IsLiveRun p (merged p.config k)
unfolding run
merged-live p k es h =
    let ts = turns p.config es in
    let stops = subst (λ (n : ℕ). StopsAtKill p.kill p.txs n (has_halt []) (map turn_step ts)) (none_killed p.kill) (stops_at_kill p k es [] ts h refl (inl none_served)) in
    record {
      fit = replay-fits p k es h;
      found = rw (replay-steps p k es h) (none_missed p k es [] ts h refl);
      stops = rw (replay-steps p k es h) (subst (λ (b : Bool). StopsAtKill p.kill p.txs 0 b (map turn_step ts)) none_halted stops);
    }
