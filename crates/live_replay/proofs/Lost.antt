-- Who waits behind a lost transaction is told of it.
use Rattle.std.specs.Prelude.{ℕ, zero, suc, ◌≡◌, ◌≢◌, ◌+◌, ◌<◌, ◌≤◌, ◌==◌, ◌^◌, Bool, true, false, ◌&&◌, ◌||◌, not, List, [], ◌∷◌, ◌++◌, length, IfSome, Option, Some, None, is_some, is_none, ◌⊎◌, if◌then◌else◌}
use Rattle.std.proofs.Common.{arith, refl, sym, ap, ◌∙◌, inl, inr, subst, eq-eqb}
use Rattle.std.proofs.lemmas.Bool.{cases_eq, cases_lt, lt-ltb, ltb-true, ne_eqb}
use Rattle.zeus_base.specs.declared.config.Config.{Config}
use Rattle.zeus_base.specs.declared.step.Step.{Step}
use Rattle.zeus_base.specs.declared.step.Step.TheVariants.{Stop}
use Rattle.zeus_base.specs.TableLaws.{nth-past}
use Rattle.zeus_txn.specs.declared.tx.TxDecl.{TxDecl}
use Rattle.zeus_model.specs.In.{In, here, there}
use Rattle.zeus_model.specs.Scripts.{FitTxs}
use Rattle.zeus_model.specs.Book.{no_record, record_of}
use Rattle.zeus_model.specs.State.{Node}
use Rattle.zeus_model.specs.Tables.{below, numbers_from}
use Rattle.zeus_model.specs.World.{node, no_tx, run, start, start_node}
use Rattle.zeus_model.specs.InLaws.{In-append_left, In-append_right}
use Rattle.invariants.proofs.Start.{nth-none}
use Rattle.machine_moves.proofs.Start.{start-config}
use Rattle.data_safety.proofs.steps.StepRuns.{start-txs}
use Rattle.soundness.proofs.Runs.{start-reached}
use Rattle.machine_moves.proofs.Lists.{In-nothing}
use Rattle.live_model.specs.Items.{Note, Acked, Refused, Stopped, travels}
use Rattle.live_model.specs.Cell.{CellEvent, Core, Deed, Halted, Kill, declared, does, notes_down, after, core_from, core, start_core, AreClocks, HaltsOnly, is_halt}
use Rattle.live_model.specs.Ends.{ClientId, acked_at, refused_at, ends_at, awaited, is_awaited, is_of, is_open_at, some_waits, stopped_at, stops_at, notes_from, notes, waits_from, waits_behind}
use Rattle.live_model.specs.Client.{IsGone}
use Rattle.live_model.specs.Cluster.{Plan, Cluster, Events, IsThere}
use Rattle.live_model.specs.Merge.{merged, turns}
use Rattle.live_replay.specs.Replayed.{IsLive, IsLost}
use Rattle.live_replay.proofs.BookParts.{IsRefusedIn, refusal, refused-back}
use Rattle.live_replay.proofs.Causes.{tx-fits}
use Rattle.live_replay.proofs.Closings.{home-there, last_world, txs-same}
use Rattle.live_replay.proofs.Gone.{TellsLoss, no_events}
use Rattle.live_replay.proofs.Halting.{HasHalted, run-halted, steps-halted}
use Rattle.live_replay.proofs.Serving.{start-node}
use Rattle.live_replay.proofs.Results.{replay-book, replay-cells, replay-fits, replay-steps}

-- ---- who is told

In-numbers : (first count k : ℕ) → first ≤ k → k < first + count → In k (numbers_from first count)
unfolding numbers_from
In-numbers first zero k low less = absurd (omega arith)
In-numbers first (suc count) k low less =
    elim (cases_eq k first) [
      | inl same ↦ here first (numbers_from (suc first) count) same
      | inr other ↦ there first (numbers_from (suc first) count) (In-numbers (suc first) count k (omega arith) (omega arith))
    ]

or_true : (a b : Bool) → b ≡ true → (a || b) ≡ true
or_true true b h = refl
or_true false b h = h

waits-among : (txs : List TxDecl) (client : ClientId) (x : ℕ) (ks : List ℕ) (t : ℕ) → In t ks → is_of txs client t ≡ true → waits_behind txs t x ≡ true → some_waits txs client x ks ≡ true
unfolding some_waits
waits-among txs client x [] t is own waits = In-nothing t is
waits-among txs client x (k ∷ ks) t (here _ _ e) own waits =
    let own_k : is_of txs client k ≡ true = subst (λ (i : ℕ). is_of txs client i ≡ true) e own in
    let waits_k : waits_behind txs k x ≡ true = subst (λ (i : ℕ). waits_behind txs i x ≡ true) e waits in
    rw (own_k, waits_k) refl
waits-among txs client x (k ∷ ks) t (there _ _ is) own waits = or_true (is_of txs client k && waits_behind txs k x) _ (waits-among txs client x ks t is own waits)

kept-note : (b : Bool) (n : Note) (ns : List Note) → b ≡ true → In n (if b then n ∷ ns else ns)
kept-note true n ns h = here n ns refl
kept-note false n ns h = absurd cc

behind-note : (b : Bool) (m : Note) (n : Note) (ns : List Note) → In n ns → In n (if b then m ∷ ns else ns)
behind-note true m n ns is = there m ns is
behind-note false m n ns is = is

-- a note for the client is put in where its clock travels
awaited-kept : (txs : List TxDecl) (client : ClientId) (ns : List Note) (n : Note) → In n ns → is_awaited txs client n.tx ≡ true → travels n.clock ≡ true → In n (awaited txs client ns)
unfolding awaited
awaited-kept txs client [] n is waits far = In-nothing n is
awaited-kept txs client (m ∷ ms) n (here _ _ e) waits far =
    let waits_m : is_awaited txs client m.tx ≡ true = subst (λ (o : Note). is_awaited txs client o.tx ≡ true) e waits in
    let far_m : travels m.clock ≡ true = subst (λ (o : Note). travels o.clock ≡ true) e far in
    subst (λ (o : Note). In o (if is_awaited txs client m.tx && travels m.clock then m ∷ awaited txs client ms else awaited txs client ms)) (sym e)
    (kept-note (is_awaited txs client m.tx && travels m.clock) m (awaited txs client ms) (rw (waits_m, far_m) refl))
awaited-kept txs client (m ∷ ms) n (there _ _ is) waits far =
    behind-note (is_awaited txs client m.tx && travels m.clock) m n (awaited txs client ms) (awaited-kept txs client ms n is waits far)

-- ---- clocks that travel

travels-below : (a b : ℕ) → a ≤ b → travels b ≡ true → travels a ≡ true
unfolding travels
travels-below a b le h = let less = ltb-true b (2 ^ 62) h in lt-ltb a (2 ^ 62) (omega arith)

core-clock : (me : ℕ) (c : Config) (txs : List TxDecl) (core : Core) (es : List CellEvent) → AreClocks core.clock es → core.clock ≤ (core_from me c txs core es).clock
unfolding AreClocks core_from after
core-clock me c txs core [] h = omega arith
core-clock me c txs core (e ∷ es) h =
    let is = h.0 in
    let rest = core-clock me c txs (after me c txs core e) es h.1 in omega arith

-- ---- what a cell tells

-- among the notes is one of the transaction that is no acknowledgement
unfoldable IsTold : List Note → ℕ → Type 0
IsTold ns x = (n : Note) × In n ns × (n.tx ≡ x) × (n.end ≢ Acked)

told-later : (xs ys : List Note) (x : ℕ) → IsTold ys x → IsTold (xs ++ ys) x
unfolding IsTold
told-later xs ys x t = (t.0, In-append_right t.0 xs ys t.1, t.2, t.3)

-- a note that an event makes is told
event-tells : (me : ℕ) (c : Config) (txs : List TxDecl) (client : ClientId) (core : Core) (e : CellEvent) (es : List CellEvent) (n : Note)
    → TellsLoss (ends_at me c txs core e ++ stops_at me txs core e) n → is_awaited txs client n.tx ≡ true → travels n.clock ≡ true → IsTold (notes_from me c txs client core (e ∷ es)) n.tx
unfolding notes_from IsTold
event-tells me c txs client core e es n t waits far =
    (n, In-append_left n (awaited txs client (ends_at me c txs core e ++ stops_at me txs core e)) _ (awaited-kept txs client _ n t.among waits far), refl, t.ended)

later-tells : (me : ℕ) (c : Config) (txs : List TxDecl) (client : ClientId) (core : Core) (e : CellEvent) (es : List CellEvent) (x : ℕ) → IsTold (notes_from me c txs client (after me c txs core e) es) x
    → IsTold (notes_from me c txs client core (e ∷ es)) x
unfolding notes_from
later-tells me c txs client core e es x t = told-later (awaited txs client (ends_at me c txs core e ++ stops_at me txs core e)) _ x t

not_acked : (o : Note) → o.end ≡ Refused → o.end ≢ Acked
not_acked o h acked = absurd (cc (h, acked))

-- a refusal is told
refused-told : (me : ℕ) (c : Config) (txs : List TxDecl) (client : ClientId) (core : Core) (es : List CellEvent) (x : ℕ) → is_awaited txs client x ≡ true → AreClocks core.clock es
    → travels (core_from me c txs core es).clock ≡ true → IsRefusedIn (core_from me c txs core es).book x → IsRefusedIn core.book x ⊎ IsTold (notes_from me c txs client core es) x
unfolding core_from after AreClocks ends_at
refused-told me c txs client core [] x waits clocks far h = inl h
refused-told me c txs client core (e ∷ es) x waits clocks far h =
    let next = after me c txs core e in
    elim (refused-told me c txs client next es x waits clocks.1 far h) [
      | inl before ↦ elim (refused-back e.deed me c.degree txs core.book core.node e.clock x before) [
        | inl early ↦ inl early
        | inr is ↦
            let late = core-clock me c txs next es clocks.1 in
            let note = refusal e.clock x in
            let answered = In-append_right note (acked_at e.clock (notes_down me c.degree txs core.book core.node e.deed).acked) (refused_at c.degree e.clock (does txs core.node e.deed).answer) is in
            inr (event-tells me c txs client core e es note (record { among = In-append_left note _ (stops_at me txs core e) answered; ended = not_acked note refl }) waits
            (travels-below e.clock _ late far))
      ]
      | inr later ↦ inr (later-tells me c txs client core e es x later)
    ]

-- ---- stops

stopped_at-In : (me : ℕ) (txs : List TxDecl) (core : Core) (clock : ℕ) (ks : List ℕ) (x : ℕ) → In x ks → is_open_at me txs core.book x ≡ true
    → In record { tx = x; clock = clock; end = Stopped } (stopped_at me txs core clock ks)
unfolding stopped_at
stopped_at-In me txs core clock [] x is unended = In-nothing x is
stopped_at-In me txs core clock (k ∷ ks) x (here _ _ e) unended =
    rw (← e) (kept-note (is_open_at me txs core.book x) record { tx = x; clock = clock; end = Stopped } (stopped_at me txs core clock ks) unended)
stopped_at-In me txs core clock (k ∷ ks) x (there _ _ is) unended =
    behind-note (is_open_at me txs core.book k) record { tx = k; clock = clock; end = Stopped } record { tx = x; clock = clock; end = Stopped } (stopped_at me txs core clock ks)
    (stopped_at-In me txs core clock ks x is unended)

stops-In : (b : Bool) (me : ℕ) (txs : List TxDecl) (core : Core) (clock x : ℕ) → b ≡ true → x < length txs → is_open_at me txs core.book x ≡ true
    → In record { tx = x; clock = clock; end = Stopped } (if b then stopped_at me txs core clock (below (length txs)) else [])
stops-In true me txs core clock x h less unended = stopped_at-In me txs core clock (below (length txs)) x (In-numbers 0 (length txs) x (omega arith) (omega arith)) unended
stops-In false me txs core clock x h less unended = absurd cc

is_unended : (a : Bool) (o : Option ℕ) (r : Bool) → a ≡ true → is_some o ≡ false → r ≡ false → (a && is_none o && not r) ≡ true
is_unended true None false h g f = refl
is_unended true None true h g f = absurd cc
is_unended true (Some k) r h g f = absurd cc
is_unended false o r h g f = absurd cc

halt_is : (d : Deed) → d ≡ Halted → is_halt d ≡ true
unfolding is_halt
halt_is d h = rw h refl

-- what is known of a transaction that a cell has not ended in its last state: it is the cell's own, a client awaits it, and the cell's clock travels
record IsUnended (me : ℕ) (txs : List TxDecl) (client : ClientId) (last : Core) (x : ℕ) : Type 0 where
  own : (declared txs x).node ≡ me
  there : x < length txs
  awaited : is_awaited txs client x ≡ true
  unacked : is_some (record_of last.book x).acked ≡ false
  unrefused : (record_of last.book x).refused ≡ false
  clock : travels last.clock ≡ true

-- an unended transaction in a cell's last state was unended at the stop
halted-open : (me : ℕ) (c : Config) (txs : List TxDecl) (client : ClientId) (core : Core) (e : CellEvent) (x : ℕ) → e.deed ≡ Halted → IsUnended me txs client (after me c txs core e) x → is_open_at me txs core.book x ≡ true
unfolding after notes_down is_open_at
halted-open me c txs client core e x is h =
    let acked : is_some (record_of core.book x).acked ≡ false = rw is at h.unacked in
    let refused : (record_of core.book x).refused ≡ false = rw is at h.unrefused in
    is_unended ((declared txs x).node == me) (record_of core.book x).acked (record_of core.book x).refused (eq-eqb (declared txs x).node me h.own) acked refused

-- a cell's stop is its last event
halted-last : (kill : Option Kill) (place me : ℕ) (es : List CellEvent) (e : CellEvent) → HaltsOnly kill me place es → In e es → e.deed ≡ Halted → (before : List CellEvent) × (es ≡ before ++ e ∷ [])
unfolding HaltsOnly
halted-last kill place me [] e h is halted = In-nothing e is
halted-last kill place me (d ∷ es) e h (here _ _ same) halted =
    let halt : d.deed ≡ Halted = subst (λ (f : CellEvent). f.deed ≡ Halted) same halted in
    let none : es ≡ [] = no_events es (h.1 (halt_is d.deed halt)) in
    ([], rw (none, same) refl)
halted-last kill place me (d ∷ es) e h (there _ _ is) halted =
    let last = halted-last kill (suc place) me es e h.2 is halted in
    (d ∷ last.0, ap (λ (ds : List CellEvent). d ∷ ds) last.1)

-- at its stop a cell tells of each of its transactions that has not ended
halted-told : (me : ℕ) (c : Config) (txs : List TxDecl) (client : ClientId) (core : Core) (before : List CellEvent) (e : CellEvent) (x : ℕ) → e.deed ≡ Halted
    → IsUnended me txs client (core_from me c txs core (before ++ e ∷ [])) x → IsTold (notes_from me c txs client core (before ++ e ∷ [])) x
unfolding core_from stops_at after
halted-told me c txs client core [] e x halted h =
    let unended = halted-open me c txs client core e x halted h in
    let note : Note = record { tx = x; clock = e.clock; end = Stopped } in
    let stops = stops-In (is_halt e.deed) me txs core e.clock x (halt_is e.deed halted) h.there unended in
    event-tells me c txs client core e [] note (record { among = In-append_right note (ends_at me c txs core e) _ stops; ended = λ acked. absurd cc }) h.awaited h.clock
halted-told me c txs client core (d ∷ before) e x halted h =
    later-tells me c txs client core d (before ++ e ∷ []) x (halted-told me c txs client (after me c txs core d) before e x halted h)

-- the same where the stop is the last of all events of a cell
told_last : (me : ℕ) (c : Config) (txs : List TxDecl) (client : ClientId) (es before : List CellEvent) (e : CellEvent) (x : ℕ) → e.deed ≡ Halted → es ≡ before ++ e ∷ []
    → IsUnended me txs client (core me c txs es) x → IsTold (notes me c txs client es) x
told_last me c txs client es before e x halted last h = rw last (halted-told me c txs client (start_core me c txs) before e x halted (rw last at h))

-- ---- what waits behind a lost transaction is gone

lower_after : (o : Option ℕ) (j n : ℕ) → j < n → IfSome o (λ i. i < j) → IfSome o (λ i. i < n)
lower_after None j n less h = tt
lower_after (Some i) j n less h = omega arith

no_wait : (links : ℕ) (txs : List TxDecl) (x : ℕ) → waits_from txs links None x ≡ true → ⊥
unfolding waits_from
no_wait links txs x h = absurd cc

-- what is waited for is declared
waits-declared : (links : ℕ) (o : Option ℕ) (c : Config) (txs : List TxDecl) (x : ℕ) → FitTxs c 0 txs → IfSome o (λ j. j < length txs) → waits_from txs links o x ≡ true → x < length txs
unfolding waits_from
waits-declared links None c txs x fit less waits = absurd cc
waits-declared zero (Some j) c txs x fit less waits = absurd cc
waits-declared (suc links) (Some j) c txs x fit less waits =
    elim (cases_eq j x) [
      | inl same ↦ rw (← same) less
      | inr other ↦
          let further : waits_from txs links (declared txs j).after x ≡ true = rw (ne_eqb j x other) at waits in
          let f = tx-fits c txs j fit less in
          waits-declared links (declared txs j).after c txs x fit (lower_after (declared txs j).after j (length txs) less f.after) further
    ]

after-declared : (c : Config) (txs : List TxDecl) (t x : ℕ) → FitTxs c 0 txs → waits_behind txs t x ≡ true → (t < length txs) × (x < length txs)
after-declared c txs t x fit waits =
    elim (cases_lt t (length txs)) [
      | inl less ↦
          let f = tx-fits c txs t fit less in
          (less, waits-declared t (declared txs t).after c txs x fit (lower_after (declared txs t).after t (length txs) less f.after) waits)
      | inr past ↦
          let none : (declared txs t).after ≡ None = ap (λ (d : TxDecl). d.after) (nth-past no_tx txs t past) in
          absurd (no_wait t txs x (subst (λ (o : Option ℕ). waits_from txs t o x ≡ true) none waits))
    ]

no_refusals : (me : ℕ) (c : Config) (txs : List TxDecl) (x : ℕ) → IsRefusedIn (start_core me c txs).book x → ⊥
no_refusals me c txs x h = let none : no_record.refused ≡ true = rw (nth-none no_record (length txs) x) at h in absurd cc

start_runs : (c : Config) (n : ℕ) → (start_node c n).stopped ≡ false
unfolding start_node
start_runs c n = refl

-- a node that is stopped in the end has its stop among its events
home-halted : (p : Plan) (k : Cluster) (es : Events) (n : ℕ) → IsLive p k es → n < p.config.nodes → (node (last_world p k) n).stopped ≡ true → HasHalted (es.cells n)
home-halted p k es n h less stopped =
    let txs = h.txs in
    let runs : (node (start p.config p.txs) n).stopped ≡ false = ap (λ (m : Node). m.stopped) (start-node p.config p.txs n less) ∙ start_runs p.config n in
    let is = run-halted p.config p.txs (merged p.config k) (start p.config p.txs) n (start-config p.config p.txs) (start-txs p.config p.txs) (start-reached p.config p.txs h.limits txs.each)
    (replay-fits p k es h) runs stopped in
    subst (λ (zs : List CellEvent). HasHalted zs) (replay-cells p k es n h less)
    (steps-halted n (turns p.config es) (subst (λ (ss : List Step). In (Stop n) ss) (replay-steps p k es h) is))

only_right : (a b : Bool) → a ≡ false → (a || b) ≡ true → b ≡ true
only_right false b h g = g
only_right true b h g = absurd cc

-- of each transaction that is lost its cell has told those who wait
home-told : (p : Plan) (k : Cluster) (es : Events) (id : ClientId) (x : ℕ) → IsLive p k es → x < length p.txs → is_awaited p.txs id x ≡ true → IsLost (last_world p k) x
    → travels ((k.cells (declared p.txs x).node).core).clock ≡ true → IsTold (notes (declared p.txs x).node p.config p.txs id (es.cells (declared p.txs x).node)) x
home-told p k es id x h less waits lost far =
    let n = (declared p.txs x).node in
    let there = home-there p k es x h in
    let cluster = h.cluster in
    let cell = cluster.cells n there in
    let first = start_core n p.config p.txs in
    let last = core n p.config p.txs (es.cells n) in
    let clocked : travels last.clock ≡ true = subst (λ (c : Core). travels c.clock ≡ true) cell.core far in
    let run_state = replay-book p k es n x h there refl in
    let unacked : is_some (record_of last.book x).acked ≡ false = subst (λ (c : Core). is_some (record_of c.book x).acked ≡ false) cell.core (sym run_state.acked ∙ lost.unacked) in
    elim (true_or_false (record_of last.book x).refused) [
      | inl refused ↦ elim (refused-told n p.config p.txs id first (es.cells n) x waits cell.clocks clocked refused) [
        | inl early ↦ absurd (no_refusals n p.config p.txs x early)
        | inr told ↦ told
      ]
      | inr unrefused ↦
          let world : (record_of (last_world p k).book x).refused ≡ false =
          run_state.refused ∙ subst (λ (c : Core). (record_of c.book x).refused ≡ false) (sym cell.core) unrefused in
          let ended : ((record_of (last_world p k).book x).refused || (node (last_world p k) (declared p.txs x).node).stopped) ≡ true =
          subst (λ (ts : List TxDecl). ((record_of (last_world p k).book x).refused || (node (last_world p k) (declared ts x).node).stopped) ≡ true) (txs-same p k es h) lost.ended in
          let halted = home-halted p k es n h there (only_right _ _ world ended) in
          let last_event = halted-last p.kill 0 n (es.cells n) halted.0 cell.halting halted.1 halted.2 in
          let unended : IsUnended n p.txs id last x = record { own = refl; there = less; awaited = waits; unacked = unacked; unrefused = unrefused; clock = clocked } in
          told_last n p.config p.txs id (es.cells n) last_event.0 halted.0 x halted.2 last_event.1 unended
    ]
  where
    true_or_false : (b : Bool) → (b ≡ true) ⊎ (b ≡ false)
    true_or_false true = inl refl
    true_or_false false = inr refl

-- a client's transaction waits behind one that is lost at the end, and the client has taken all notes of that one's cell, whose clock travels
pub record WaitsForLost (p : Plan) (k : Cluster) (id : ClientId) (t x : ℕ) : Type 0 where
  pub own : is_of p.txs id t ≡ true
  pub waits : waits_behind p.txs t x ≡ true
  pub lost : IsLost (run (start p.config p.txs) (merged p.config k)) x
  pub clock : travels ((k.cells (declared p.txs x).node).core).clock ≡ true
  pub notes : (k.clients id).notes (declared p.txs x).node ≡ (k.cells (declared p.txs x).node).notes id

-- if a transaction waits behind a lost one and its client has the notes of that one's node, then the client passes over it
pub replay-lost_gone : (p : Plan) (k : Cluster) (es : Events) (id : ClientId) (t x : ℕ) → IsLive p k es → IsThere p.config id → WaitsForLost p k id t x → IsGone p.txs (k.clients id) t
unfolding IsTold
replay-lost_gone p k es id t x h at w =
    let waits = w.waits in
    let all = w.notes in
    let n = (declared p.txs x).node in
    let txs = h.txs in
    let cluster = h.cluster in
    let cell = cluster.cells n (home-there p k es x h) in
    let less = after-declared p.config p.txs t x txs.each waits in
    let awaited_x = waits-among p.txs id x (below (length p.txs)) t (In-numbers 0 (length p.txs) t (omega arith) (omega (arith, less.0))) w.own waits in
    let told = home-told p k es id x h less.1 awaited_x w.lost w.clock in
    let taken : In told.0 ((k.clients id).notes n) = rw (all, cell.notes id) told.1 in
    record {
      note = told.0;
      known = subst (λ (y : ℕ). In told.0 ((k.clients id).notes (declared p.txs y).node)) (sym told.2) taken;
      ended = told.3;
      behind = subst (λ (y : ℕ). waits_behind p.txs t y ≡ true) (sym told.2) waits;
    }
