-- What a client passes over is never begun, and is closed, since what it waits behind is lost.
use Rattle.std.specs.Prelude.{ℕ, zero, suc, ◌≡◌, ◌≢◌, ◌+◌, ◌<◌, ◌==◌, Bool, true, false, ◌&&◌, ◌||◌, not, List, [], ◌∷◌, ◌++◌, length, IfSome, Option, Some, None, is_some, is_none, ◌⊎◌, if◌then◌else◌}
use Rattle.std.proofs.Common.{arith, refl, sym, ap, ◌∙◌, inl, inr, subst, append-nil}
use Rattle.std.proofs.lemmas.Bool.{cases_eq, cases_lt, cond_both, ne_eqb}
use Rattle.std.proofs.lemmas.Option.{IfSome_then}
use Rattle.zeus_base.specs.declared.config.Config.{Config}
use Rattle.zeus_base.specs.TableLaws.{nth-past}
use Rattle.zeus_txn.specs.declared.tx.TxDecl.{TxDecl}
use Rattle.zeus_model.specs.In.{In, here, there}
use Rattle.zeus_model.specs.Book.{no_record, record_of}
use Rattle.zeus_model.specs.Readers.{is_closed}
use Rattle.zeus_model.specs.Sound.{Sound}
use Rattle.zeus_model.specs.Tables.{below}
use Rattle.zeus_model.specs.World.{no_tx, run, start}
use Rattle.zeus_model.specs.InLaws.{In-append_right, In-append}
use Rattle.machine_moves.proofs.Lists.{In-nothing}
use Rattle.invariants.proofs.Start.{nth-none}
use Rattle.live_model.specs.Items.{Job, Note, Acked, Stopped}
use Rattle.live_model.specs.Cell.{CellEvent, Core, Began, Halted, Kill, declared, does, notes_down, after, core_from, core, start_core, HaltsOnly, IsEmpty, is_halt, job_of, jobs}
use Rattle.live_model.specs.Ends.{ClientId, acked_at, refused_at, ends_at, awaited, is_open_at, stopped_at, stops_at, notes_from, notes, waits_from}
use Rattle.live_model.specs.Client.{IsGone, KnowsAcked}
use Rattle.live_model.specs.Cluster.{Plan, Cluster, Events, IsThere}
use Rattle.live_replay.specs.Closed.{home, acked_at_home, ended_at_home, in_vain, closed_at_home}
use Rattle.live_model.specs.Merge.{merged, turns}
use Rattle.live_replay.specs.Replayed.{IsLive, IsUntouched}
use Rattle.live_replay.proofs.Acks.{IsAcked}
use Rattle.live_replay.proofs.BookParts.{IsBegunIn, IsRefusedIn, begun-by, refused-kept, refused-made}
use Rattle.live_replay.proofs.Causes.{WasNoted, began-In, known-noted, tx-fits, front-In}
use Rattle.live_replay.proofs.Closings.{home-there, last_world, acked-same, closed-same}
use Rattle.live_replay.proofs.Early.{awaited-In, is_halted, noted-early}
use Rattle.live_replay.proofs.Posting.{NoneBefore}
use Rattle.live_replay.proofs.Losses.{refused-unacked}
use Rattle.live_replay.proofs.Results.{replay-book, replay-fits, replay-jobs, replay-sound, replay-steps}
use Rattle.live_replay.proofs.Tries.{stop-stops}

-- ---- notes of what is lost

refused-stays : (me : ℕ) (c : Config) (txs : List TxDecl) (core : Core) (es : List CellEvent) (k : ℕ) → IsRefusedIn core.book k → IsRefusedIn (core_from me c txs core es).book k
unfolding core_from after
refused-stays me c txs core [] k h = h
refused-stays me c txs core (e ∷ es) k h = refused-stays me c txs (after me c txs core e) es k (refused-kept e.deed me c.degree txs core.book core.node k h)

-- in a cell a transaction was refused, or the cell has stopped before it was acknowledged
abbrev IsLostIn : Core → ℕ → Type 0
IsLostIn core k = IsRefusedIn core.book k ⊎ ((core.node.stopped ≡ true) × (is_some (record_of core.book k).acked ≡ false))

acked_at-end : (clock : ℕ) (ks : List ℕ) (n : Note) → In n (acked_at clock ks) → n.end ≡ Acked
unfolding acked_at
acked_at-end clock [] n is = In-nothing n is
acked_at-end clock (k ∷ ks) n (here _ _ e) = ap (λ (m : Note). m.end) e
acked_at-end clock (k ∷ ks) n (there _ _ is) = acked_at-end clock ks n is

stopped_here : (me : ℕ) (txs : List TxDecl) (core : Core) (clock k : ℕ) (rest : List Note) (n : Note) → is_open_at me txs core.book k ≡ true → (In n rest → is_open_at me txs core.book n.tx ≡ true)
    → In n (record { tx = k; clock = clock; end = Stopped } ∷ rest) → is_open_at me txs core.book n.tx ≡ true
stopped_here me txs core clock k rest n unended later (here _ _ e) = rw (ap (λ (m : Note). m.tx) e) unended
stopped_here me txs core clock k rest n unended later (there _ _ is) = later is

stopped_at-open : (me : ℕ) (txs : List TxDecl) (core : Core) (clock : ℕ) (ks : List ℕ) (n : Note) → In n (stopped_at me txs core clock ks) → is_open_at me txs core.book n.tx ≡ true
unfolding stopped_at
stopped_at-open me txs core clock [] n is = In-nothing n is
stopped_at-open me txs core clock (k ∷ ks) n is =
    cond_both (is_open_at me txs core.book k) (record { tx = k; clock = clock; end = Stopped } ∷ stopped_at me txs core clock ks) (stopped_at me txs core clock ks)
    (λ (ns : List Note). In n ns → is_open_at me txs core.book n.tx ≡ true)
    (λ unended. stopped_here me txs core clock k (stopped_at me txs core clock ks) n unended (stopped_at-open me txs core clock ks n)) (λ _. stopped_at-open me txs core clock ks n) is

open-unacked : (a b c : Bool) (o : Option ℕ) → b ≡ is_none o → (a && b && c) ≡ true → is_some o ≡ false
open-unacked true b c None e h = refl
open-unacked true true c (Some k) e h = absurd cc
open-unacked true false c (Some k) e h = absurd cc
open-unacked false b c o e h = absurd cc

stops_of : (halt : Bool) (me : ℕ) (txs : List TxDecl) (core : Core) (clock : ℕ) (n : Note) → In n (if halt then stopped_at me txs core clock (below (length txs)) else [])
    → (halt ≡ true) × (is_open_at me txs core.book n.tx ≡ true)
stops_of true me txs core clock n is = (refl, stopped_at-open me txs core clock (below (length txs)) n is)
stops_of false me txs core clock n is = In-nothing n is

halted-lost : (me : ℕ) (c : Config) (txs : List TxDecl) (core : Core) (e : CellEvent) (k : ℕ) → e.deed ≡ Halted → is_open_at me txs core.book k ≡ true → IsLostIn (after me c txs core e) k
unfolding after notes_down is_open_at
halted-lost me c txs core e k is unended =
    inr (rw is (stop-stops txs core.node), rw is (open-unacked ((declared txs k).node == me) _ _ (record_of core.book k).acked refl unended))

-- if no event is in a list, then the list is empty
pub no_events : (es : List CellEvent) → IsEmpty es → es ≡ []
unfolding IsEmpty
no_events [] h = refl
no_events (e ∷ es) h = absurd h

-- the note is one of these, and says that a transaction was refused or that its node was stopped
pub record TellsLoss (ns : List Note) (n : Note) : Type 0 where
  pub among : In n ns
  pub ended : n.end ≢ Acked

event-lost : (me : ℕ) (c : Config) (txs : List TxDecl) (core : Core) (e : CellEvent) (es : List CellEvent) (n : Note) → (is_halt e.deed ≡ true → IsEmpty es)
    → TellsLoss (ends_at me c txs core e ++ stops_at me txs core e) n → IsLostIn (core_from me c txs (after me c txs core e) es) n.tx
unfolding ends_at stops_at core_from after
event-lost me c txs core e es n last t =
    elim (In-append n (ends_at me c txs core e) (stops_at me txs core e) t.among) [
      | inl own ↦ elim (In-append n (acked_at e.clock (notes_down me c.degree txs core.book core.node e.deed).acked) _ own) [
        | inl a ↦ absurd (t.ended (acked_at-end e.clock _ n a))
        | inr r ↦ inl (refused-stays me c txs (after me c txs core e) es n.tx (made r))
      ]
      | inr stops ↦
          let s = stops_of (is_halt e.deed) me txs core e.clock n stops in
          rw (no_events es (last s.0)) (halted-lost me c txs core e n.tx (is_halted e.deed s.0) s.1)
    ]
  where
    made : In n (refused_at c.degree e.clock (does txs core.node e.deed).answer) → IsRefusedIn (after me c txs core e).book n.tx
    made r = refused-made e.deed me c.degree txs core.book core.node e.clock n r

-- of what a note says that it was refused or stopped, this holds at the end
lost-noted : (kill : Option Kill) (place me : ℕ) (c : Config) (txs : List TxDecl) (client : ClientId) (core : Core) (es : List CellEvent) (n : Note) → HaltsOnly kill me place es
    → TellsLoss (notes_from me c txs client core es) n → IsLostIn (core_from me c txs core es) n.tx
unfolding notes_from core_from HaltsOnly
lost-noted kill place me c txs client core [] n h t = In-nothing n t.among
lost-noted kill place me c txs client core (e ∷ es) n h t =
    elim (In-append n (awaited txs client (ends_at me c txs core e ++ stops_at me txs core e)) _ t.among) [
      | inl first ↦ event-lost me c txs core e es n h.1 (record { among = awaited-In txs client _ n first; ended = t.ended })
      | inr later ↦ lost-noted kill (suc place) me c txs client (after me c txs core e) es n h.2 (record { among = later; ended = t.ended })
    ]

-- ---- what is begun was handed over

-- a job of the transaction was taken
abbrev IsTaken : List TxDecl → List CellEvent → ℕ → Type 0
IsTaken txs es k = (j : Job) × In j (jobs txs (declared txs k).slot es) × (j.tx ≡ k)

own-job : (txs : List TxDecl) (e : CellEvent) (es : List CellEvent) (j : Job) (k : ℕ) → e.deed ≡ Began j → j.tx ≡ k → In j (jobs txs (declared txs k).slot (e ∷ es))
own-job txs e es j k is same = subst (λ (t : ℕ). In j (jobs txs (declared txs t).slot (e ∷ es))) same (began-In txs j [] es e is)

later-job : (txs : List TxDecl) (e : CellEvent) (es : List CellEvent) (k : ℕ) → IsTaken txs es k → IsTaken txs (e ∷ es) k
unfolding jobs
later-job txs e es k t = (t.0, In-append_right t.0 (job_of txs (declared txs k).slot e.deed) (jobs txs (declared txs k).slot es) t.1, t.2)

begun-taken : (me : ℕ) (c : Config) (txs : List TxDecl) (core : Core) (es : List CellEvent) (k : ℕ) → IsBegunIn (core_from me c txs core es).book k → IsBegunIn core.book k ⊎ IsTaken txs es k
unfolding core_from after
begun-taken me c txs core [] k h = inl h
begun-taken me c txs core (e ∷ es) k h =
    elim (begun-taken me c txs (after me c txs core e) es k h) [
      | inl before ↦ elim (begun-by e.deed me c.degree txs core.book core.node k before) [
        | inl first ↦ inl first
        | inr by ↦ inr (by.0, own-job txs e es by.0 k by.1 by.2, by.2)
      ]
      | inr taken ↦ inr (later-job txs e es k taken)
    ]

none_begun : (me : ℕ) (c : Config) (txs : List TxDecl) (k : ℕ) → IsBegunIn (start_core me c txs).book k → ⊥
none_begun me c txs k h = let none : is_some no_record.begun ≡ true = rw (nth-none no_record (length txs) k) at h in absurd cc

-- what is at home of a transaction is in the core of its node's cell
pub home-core : (p : Plan) (k : Cluster) (es : Events) (id : ℕ) → IsLive p k es → home p k id ≡ core (declared p.txs id).node p.config p.txs (es.cells (declared p.txs id).node)
home-core p k es id h =
    let cluster = h.cluster in
    let cell = cluster.cells (declared p.txs id).node (home-there p k es id h) in cell.core

-- a note of an acknowledgement is true at the end
noted-home : (p : Plan) (k : Cluster) (es : Events) (j : Job) (i : ℕ) → IsLive p k es → WasNoted p es j i → acked_at_home p k i ≡ true
unfolding NoneBefore
noted-home p k es j i h noted =
    let n = (declared p.txs i).node in
    let ns = es.cells n in
    let whole : In noted.note (notes n p.config p.txs noted.client (ns ++ [])) = rw (append-nil ns) noted.is in
    let acked : IsAcked (core n p.config p.txs ns).book noted.note.tx =
    noted-early n p.config p.txs noted.client (start_core n p.config p.txs) ns [] noted.note
    (record { bound = noted.note.clock + 1; late = tt; early = omega arith; acked = noted.acked }) whole in
    rw (home-core p k es i h) (subst (λ (t : ℕ). IsAcked (core n p.config p.txs ns).book t) noted.tx acked)

-- what a begun transaction waits for is acknowledged
begun-after : (p : Plan) (k : Cluster) (es : Events) (j : ℕ) → IsLive p k es → IsBegunIn (home p k j).book j → IfSome (declared p.txs j).after (λ i. acked_at_home p k i ≡ true)
begun-after p k es j h begun =
    elim (cases_lt j (length p.txs)) [
      | inl less ↦ begun_declared p k es j h less begun
      | inr past ↦ let none : declared p.txs j ≡ no_tx = nth-past no_tx p.txs j past in rw none tt
    ]
  where
    begun_declared : (p : Plan) (k : Cluster) (es : Events) (j : ℕ) → IsLive p k es → j < length p.txs → IsBegunIn (home p k j).book j → IfSome (declared p.txs j).after (λ i. acked_at_home p k i ≡ true)
    begun_declared p k es j h less begun =
        let n = (declared p.txs j).node in
        let txs = h.txs in
        let cluster = h.cluster in
        let fits = tx-fits p.config p.txs j txs.each less in
        let id : ClientId = record { node = n; slot = (declared p.txs j).slot } in
        let at : IsThere p.config id = record { node = home-there p k es j h; slot = fits.slot } in
        let client = cluster.clients id at in
        let at_core : IsBegunIn (core n p.config p.txs (es.cells n)).book j = rw (← home-core p k es j h) begun in
        elim (begun-taken n p.config p.txs (start_core n p.config p.txs) (es.cells n) j at_core) [
          | inl early ↦ absurd (none_begun n p.config p.txs j early)
          | inr taken ↦
              let put_in = front-In (jobs p.txs id.slot (es.cells n)) (k.clients id).jobs taken.0 (replay-jobs p k es id h at) taken.1 in
              let known : IfSome (declared p.txs j).after (λ i. KnowsAcked p.txs (k.clients id) taken.0 i) =
              subst (λ (t : ℕ). IfSome (declared p.txs t).after (λ i. KnowsAcked p.txs (k.clients id) taken.0 i)) taken.2 (client.behind taken.0 put_in) in
              IfSome_then (declared p.txs j).after known
              (λ i knows. noted-home p k es taken.0 i h (known-noted p k es id taken.0 i cluster at (home-there p k es i h) knows))
        ]

-- ---- what is acknowledged was begun

last-sound : (p : Plan) (k : Cluster) (es : Events) → IsLive p k es → Sound (last_world p k)
last-sound p k es h = rw (replay-steps p k es h) (replay-sound p k es (turns p.config es) [] h (append-nil (turns p.config es)))

acked-begun : (p : Plan) (k : Cluster) (es : Events) (j : ℕ) → IsLive p k es → acked_at_home p k j ≡ true → IsBegunIn (home p k j).book j
acked-begun p k es j h acked =
    let sound = last-sound p k es h in
    let history = sound.one_history in
    let placed = history.placed j (history.complete j (acked-same p k es j h ∙ acked)) in
    let run_state = replay-book p k es (declared p.txs j).node j h (home-there p k es j h) refl in
    sym run_state.begun ∙ rw (placed.begun.3) refl

-- ---- what waits behind a lost transaction

clash : (o : Option ℕ) (f : ℕ → Bool) → is_some o ≡ true → IfSome o (λ i. f i ≡ true) → IfSome o (λ i. f i ≡ false) → ⊥
clash None f some acked unacked = absurd cc
clash (Some i) f some acked unacked = absurd cc

waits-some : (links : ℕ) (o : Option ℕ) (txs : List TxDecl) (x : ℕ) → waits_from txs links o x ≡ true → is_some o ≡ true
unfolding waits_from
waits-some links None txs x h = absurd cc
waits-some links (Some j) txs x h = refl

false_unless : (b : Bool) → (b ≡ true → ⊥) → b ≡ false
false_unless true h = absurd (h refl)
false_unless false h = refl

-- none of those between is acknowledged
unacked-behind : (links : ℕ) (o : Option ℕ) (x : ℕ) (p : Plan) (k : Cluster) (es : Events) → IsLive p k es → acked_at_home p k x ≡ false → waits_from p.txs links o x ≡ true
    → IfSome o (λ j. acked_at_home p k j ≡ false)
unfolding waits_from
unacked-behind links None x p k es h lost waits = tt
unacked-behind zero (Some j) x p k es h lost waits = absurd cc
unacked-behind (suc links) (Some j) x p k es h lost waits =
    elim (cases_eq j x) [
      | inl same ↦ rw same lost
      | inr other ↦
          let further : waits_from p.txs links (declared p.txs j).after x ≡ true = rw (ne_eqb j x other) at waits in
          let rest = unacked-behind links (declared p.txs j).after x p k es h lost further in
          false_unless (acked_at_home p k j) (λ acked.
          clash (declared p.txs j).after (λ i. acked_at_home p k i) (waits-some links (declared p.txs j).after p.txs x further)
          (begun-after p k es j h (acked-begun p k es j h acked)) rest)
    ]

vain_so : (a e v : Bool) → a ≡ false → (e || v) ≡ true → (not a && (e || v)) ≡ true
vain_so false e v h g = g
vain_so true e v h g = absurd cc

or_left : (e v : Bool) → e ≡ true → (e || v) ≡ true
or_left e v h = rw h refl

or_right : (e v : Bool) → v ≡ true → (e || v) ≡ true
or_right true v h = refl
or_right false v h = h

-- so what waits for it waits in vain
vain-behind : (links : ℕ) (o : Option ℕ) (x : ℕ) (p : Plan) (k : Cluster) (es : Events) → IsLive p k es → acked_at_home p k x ≡ false → ended_at_home p k x ≡ true
    → waits_from p.txs links o x ≡ true → in_vain p k links o ≡ true
unfolding waits_from in_vain
vain-behind links None x p k es h lost ended waits = absurd cc
vain-behind zero (Some j) x p k es h lost ended waits = absurd cc
vain-behind (suc links) (Some j) x p k es h lost ended waits =
    let unended : acked_at_home p k j ≡ false = unacked-behind (suc links) (Some j) x p k es h lost waits in
    vain_so (acked_at_home p k j) (ended_at_home p k j) (in_vain p k links (declared p.txs j).after) unended
    (elim (cases_eq j x) [
      | inl same ↦ or_left (ended_at_home p k j) (in_vain p k links (declared p.txs j).after) (ap (λ (i : ℕ). ended_at_home p k i) same ∙ ended)
      | inr other ↦
          let further : waits_from p.txs links (declared p.txs j).after x ≡ true = rw (ne_eqb j x other) at waits in
          or_right (ended_at_home p k j) (in_vain p k links (declared p.txs j).after) (vain-behind links (declared p.txs j).after x p k es h lost ended further)
    ])

-- ---- what a client passes over

-- a transaction is lost, by what its cell has of it
pub record IsLostAtHome (p : Plan) (k : Cluster) (x : ℕ) : Type 0 where
  pub unacked : acked_at_home p k x ≡ false
  pub ended : ended_at_home p k x ≡ true

refused-lost : (p : Plan) (k : Cluster) (es : Events) (x : ℕ) → IsLive p k es → IsRefusedIn (home p k x).book x → IsLostAtHome p k x
refused-lost p k es x h refused =
    let txs = h.txs in
    let run_state = replay-book p k es (declared p.txs x).node x h (home-there p k es x h) refl in
    let none : (record_of (last_world p k).book x).acked ≡ None =
    refused-unacked p.config p.txs (merged p.config k) x h.limits txs.each (replay-fits p k es h) (run_state.refused ∙ refused) in
    record {
      unacked = sym run_state.acked ∙ ap (λ (o : Option ℕ). is_some o) none;
      ended = or_left (record_of (home p k x).book x).refused ((home p k x).node).stopped refused;
    }

-- a transaction of which a client knows that it was refused or stopped is lost
known-lost : (p : Plan) (k : Cluster) (es : Events) (id : ClientId) (t : ℕ) (g : IsGone p.txs (k.clients id) t) → IsLive p k es → IsThere p.config id → IsLostAtHome p k g.note.tx
known-lost p k es id t g h at =
    let x = g.note.tx in
    let n = (declared p.txs x).node in
    let there = home-there p k es x h in
    let cluster = h.cluster in
    let meets = cluster.meets in
    let cell = cluster.cells n there in
    let noted : In g.note (notes n p.config p.txs id (es.cells n)) =
    subst (λ (zs : List Note). In g.note zs) (cell.notes id) (front-In ((k.clients id).notes n) ((k.cells n).notes id) g.note (meets.notes id n at there) g.known) in
    let lost : IsLostIn (core n p.config p.txs (es.cells n)) x =
    lost-noted p.kill 0 n p.config p.txs id (start_core n p.config p.txs) (es.cells n) g.note cell.halting (record { among = noted; ended = g.ended }) in
    let here : IsLostIn (home p k x) x = rw (home-core p k es x h) lost in
    elim here [
      | inl refused ↦ refused-lost p k es x h refused
      | inr stopped ↦ record { unacked = stopped.1; ended = or_right (record_of (home p k x).book x).refused ((home p k x).node).stopped stopped.0 }
    ]

gone-unbegun : (p : Plan) (k : Cluster) (es : Events) (id : ClientId) (t : ℕ) → IsLive p k es → IsThere p.config id → IsGone p.txs (k.clients id) t → IsBegunIn (home p k t).book t → ⊥
gone-unbegun p k es id t h at g begun =
    let lost = known-lost p k es id t g h at in
    let x = g.note.tx in
    clash (declared p.txs t).after (λ i. acked_at_home p k i) (waits-some t (declared p.txs t).after p.txs x g.behind) (begun-after p k es t h begun)
    (unacked-behind t (declared p.txs t).after x p k es h lost.unacked g.behind)

none_of : {A : Type 0} (o : Option A) → is_some o ≡ false → o ≡ None
none_of None h = refl
none_of (Some a) h = absurd cc

-- if a client of a live run passes over a transaction, then its record is untouched at the end of the run
pub replay-gone : (p : Plan) (k : Cluster) (es : Events) (id : ClientId) (t : ℕ) → IsLive p k es → IsThere p.config id → IsGone p.txs (k.clients id) t
    → IsUntouched (record_of (run (start p.config p.txs) (merged p.config k)).book t)
replay-gone p k es id t h at g =
    let run_state = replay-book p k es (declared p.txs t).node t h (home-there p k es t h) refl in
    let unbegun = gone-unbegun p k es id t h at g in
    record {
      begun = none_of _ (run_state.begun ∙ false_unless (is_some (record_of (home p k t).book t).begun) unbegun);
      acked = none_of _ (run_state.acked ∙ false_unless (acked_at_home p k t) (λ acked. unbegun (acked-begun p k es t h acked)));
    }

-- if a client of a live run passes over a transaction, then it is closed at the end of the run
pub replay-gone_closed : (p : Plan) (k : Cluster) (es : Events) (id : ClientId) (t : ℕ) → IsLive p k es → IsThere p.config id → IsGone p.txs (k.clients id) t
    → is_closed (run (start p.config p.txs) (merged p.config k)) t ≡ true
unfolding closed_at_home
replay-gone_closed p k es id t h at g =
    let lost = known-lost p k es id t g h at in
    closed-same p k es t h
    ∙ or_right (acked_at_home p k t || ended_at_home p k t) (in_vain p k t (declared p.txs t).after)
    (vain-behind t (declared p.txs t).after g.note.tx p k es h lost.unacked lost.ended g.behind)
