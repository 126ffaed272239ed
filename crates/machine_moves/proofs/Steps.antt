-- Each step of the world is a sequence of moves of its system.
use Rattle.std.specs.Prelude.{ℕ, suc, ◌≡◌, ◌-◌, ◌<◌, ◌≤◌, Bool, true, false, ◌&&◌, not, ◌==◌, nat_lt, List, [], ◌∷◌, ◌++◌, length, take, Option, Some, None, ◌⊎◌, if◌then◌else◌}
use Rattle.std.proofs.Common.{arith, refl, ap, ◌∙◌, inl, inr, subst}
use Rattle.std.proofs.lemmas.Bool.{cond_both, or_cases, eqb-true, not-false, ltb-true, ltb-false}
use Rattle.zeus_base.specs.Nodes.{has}
use Rattle.zeus_base.specs.NodeLaws.{IsRising, is_subset-from_members}
use Rattle.zeus_base.specs.declared.step.Step.{Step}
use Rattle.zeus_base.specs.declared.step.Step.TheVariants.{Begin, Try, Deliver, Tick, Stop, View, Install}
use Rattle.zeus_base.specs.TableLaws.{nth-put_same}
use Rattle.zeus_packet.specs.declared.letter.Letter.{Letter}
use Rattle.zeus_txn.specs.declared.tx.TxDecl.{TxDecl}
use Rattle.zeus_model.specs.Tables.{nth, put, first_of}
use Rattle.zeus_model.specs.declared.answer.Answer.{Answer}
use Rattle.zeus_model.specs.declared.answer.Answer.TheVariants.{NoView}
use Rattle.zeus_model.specs.declared.answer.Install.{Install as Installing}
use Rattle.zeus_model.specs.declared.answer.Install.TheVariants.{Installed, Stopped as InstallStopped, Old}
use Rattle.zeus_model.specs.declared.answer.Made.{Made}
use Rattle.zeus_model.specs.declared.answer.Stop.{Stop as Stopping}
use Rattle.zeus_model.specs.declared.answer.Stop.TheVariants.{Done, Stopped as StopStopped}
use Rattle.zeus_model.specs.State.{Node}
use Rattle.zeus_model.specs.Act.{Did, just, did_then}
use Rattle.zeus_model.specs.Book.{Book, counted, book_passes, in_stream_order}
use Rattle.zeus_model.specs.Commit.{finish}
use Rattle.zeus_model.specs.Local.{try_slot}
use Rattle.zeus_model.specs.Membership.{dropped, install, stop, tick}
use Rattle.zeus_model.specs.World.{World, Event, no_node, node, tx_decl, link, all_posted, first_64, refuse_step, begin_refused, begin_or_not, step_begin, tried_at, nth_letter, received_at, deliver_or_not, ticked_at, stopped_at, installed_at, last_view, view_refused, view_or_not, step_install, happens, stepped}
use Rattle.machine_moves.specs.SystemState.{SystemState, system, view, IsLive, NewView, nothing}
use Rattle.machine_moves.specs.Move.{Move, Moves, none, next, makes_view, stops, installs}
use Rattle.machine_moves.specs.Fits.{StepFits}
use Rattle.machine_moves.proofs.Lists.{nth-put_other, In-nothing}
use Rattle.machine_moves.proofs.Links.{HasEnds, HasEnds-all_posted, In-from_link, nth_letter-In, sent-stay, sent-new, sent-only}
use Rattle.machine_moves.proofs.Steady.{IsSteady, move_keep}
use Rattle.machine_moves.proofs.Reach.{Became, Became-changed, Became-trans, Changes-became, changed, Reaches, IsReady, Moves-reaches, any_reaches, Same-became, Same-refl, still_reaches}
use Rattle.machine_moves.proofs.Finish.{finish-reached}
use Rattle.machine_moves.proofs.Causes.{or_else-none, where_true-none}
use Rattle.machine_moves.proofs.Receiving.{receive-answered}
use Rattle.machine_moves.proofs.Trying.{begin-answered, try_slot-answered}
use Rattle.machine_moves.proofs.Ticking.{tick-answered}

-- a step leads by moves to the system after it, and keeps the ends of links and the configuration
pub record IsStep (w after : World) : Type 0 where
  pub moves : Moves (system w) (system after)
  pub ends : HasEnds after.links
  pub config : after.config ≡ w.config

-- what is known of the world before
pub record IsUsual (w : World) : Type 0 where
  pub steady : IsSteady (system w)
  pub ends : HasEnds w.links
  pub few : length w.config.directory ≤ 8

-- ---- a step that changes nothing

refused_step : (w : World) → IsUsual w → IsStep w (record w { book = counted w.book })
unfolding system
refused_step w u =
    record {
      moves = none (system w) (system (record w { book = counted w.book })) record { config = refl; views = refl; nodes = λ m. refl; sends = record { stay = λ l i. i; only = λ l i. inl i } };
      ends = u.ends;
      config = refl;
    }

-- ---- a node has acted

-- the world where a node is another, its letters are posted, and the book is this one
abbrev pub world_after : World → ℕ → Node → List Letter → Book → World
world_after w n after letters book =
    record { config = w.config; txs = w.txs; nodes = put no_node w.nodes n after; links = all_posted w.links letters; views = w.views; book = book }

-- in the world after a node acted, it became what it is there and sent these letters
pub Became-after : (w : World) (n : ℕ) (after : Node) (letters : List Letter) (book : Book) → Became (system w) (system (world_after w n after letters book)) n after letters
unfolding system
Became-after w n after letters book =
    record {
      config = refl;
      views = refl;
      node = nth-put_same no_node w.nodes n after;
      others = λ k ne. nth-put_other no_node w.nodes n k after ne;
      stay = λ l i. sent-stay w.links letters l i;
      new = λ l i. sent-new w.links letters l i;
      only = λ l i. sent-only w.links letters l i;
    }

moved_step : (w : World) (n : ℕ) (after : Node) (letters : List Letter) (book : Book) → IsUsual w → Moves (system w) (system (world_after w n after letters book)) → IsStep w (world_after w n after letters book)
moved_step w n after letters book u ms = record { moves = ms; ends = HasEnds-all_posted w.links letters u.ends; config = refl }

reached_moves : (w : World) (n : ℕ) (after : Node) (letters : List Letter) (book : Book) → Reaches (system w) n after letters → Moves (system w) (system (world_after w n after letters book))
reached_moves w n after letters book r =
    Moves-reaches (system w) (system (world_after w n after letters book)) n after letters r (Became-after w n after letters book)

reached_step : (w : World) (n : ℕ) (after : Node) (letters : List Letter) (book : Book) → IsUsual w → Reaches (system w) n after letters → IsStep w (world_after w n after letters book)
reached_step w n after letters book u r = moved_step w n after letters book u (reached_moves w n after letters book r)

-- ---- begin

begin_or_not-step : (refused : Option Answer) (w : World) (k : ℕ) → IsUsual w → IsStep w (begin_or_not w k refused).world
unfolding begin_or_not system
begin_or_not-step (Some a) w k u = refused_step w u
begin_or_not-step None w k u =
    let t = tx_decl w k in
    reached_step w t.node _ [] _ u (begin-answered (system w) t.node t.slot k 0 t.tx u.steady)

-- ---- try

tried_step : (w : World) (n i : ℕ) → IsUsual w → i < w.config.slots → IsStep w (tried_at w n i (try_slot (node w n) i)).world
unfolding tried_at system
tried_step w n i u within = reached_step w n _ _ _ u (try_slot-answered (system w) n i 64 u.steady within)

-- ---- deliver

deliver_or_not-step : (letter : Option Letter) (w : World) (from to i : ℕ) → IsUsual w → nth_letter (link w.links from to) i ≡ letter → IsStep w (deliver_or_not w from to letter).world
unfolding deliver_or_not received_at system HasEnds
deliver_or_not-step None w from to i u is = refused_step w u
deliver_or_not-step (Some l) w from to i u is =
    let at = nth_letter-In (link w.links from to) i l is in
    let ends = u.ends in
    reached_step w to _ _ _ u
    (receive-answered (system w) to 64 l u.steady (In-from_link w.links l record { from = from; to = to; is = at }) (ends from to l at).1 u.few (omega arith))

-- ---- tick

ticked_step : (w : World) (n : ℕ) → IsUsual w → IsStep w (ticked_at w n (tick (node w n))).world
unfolding ticked_at system
ticked_step w n u = reached_step w n _ _ _ u (any_reaches (system w) n _ _ (tick-answered (system w) n 64 u.steady))

-- ---- stop

stops_moves : (s t : SystemState) (n : ℕ) → IsLive s n → Became s t n (record (s.node n) { stopped = true }) [] → Moves s t
stops_moves s t n live b =
    next s t t (stops n (Changes-became s t n (record (s.node n) { stopped = true }) [] nothing live b (λ l i. In-nothing l i))) (none t t (Same-refl t))

stop_moves : (s t : SystemState) (n : ℕ) → Became s t n (stop (s.node n)).node [] → Moves s t
unfolding stop
stop_moves s t n =
    let m = s.node n in
    cond_both m.stopped (just m StopStopped) (just (record m { stopped = true }) Done) (λ (d : Did Stopping). Became s t n d.node [] → Moves s t)
    (λ _ b. Moves-reaches s t n m [] (still_reaches s n) b)
    (λ live b. stops_moves s t n live b)

stopped_step : (w : World) (n : ℕ) → IsUsual w → IsStep w (stopped_at w n (stop (node w n))).world
unfolding stopped_at system
stopped_step w n u =
    let after = (stop (node w n)).node in
    moved_step w n after [] (counted w.book) u (stop_moves (system w) (system (world_after w n after [] (counted w.book))) n (Became-after w n after [] (counted w.book)))

-- ---- install

-- the node once it has installed an epoch: its members are that view's, nobody has reported, and what it gathered is dropped
abbrev pub viewed : SystemState → ℕ → ℕ → Node
viewed s n e = record (s.node n) { epoch = e; members = view s e; reported = []; gathers = dropped (s.node n).gathers }

installs_moves : (s t : SystemState) (n e : ℕ) → IsSteady s → IsLive s n → (s.node n).epoch < e → e ≤ length s.views → Became s t n (finish (viewed s n e)).node (take 64 (finish (viewed s n e)).sent) → Moves s t
installs_moves s t n e steady live less le b =
    let m = viewed s n e in
    let u = changed s n m [] in
    let first = Became-changed s n m [] in
    let move : Move s u = installs n e less le (Changes-became s u n m [] nothing live first (λ l i. In-nothing l i)) in
    let ready : IsReady u n = record { steady = move_keep s u move steady; live = rw (first.node) live } in
    let r : Reaches u n (finish m).node (take 64 (finish m).sent) = subst (λ (x : Node). Reaches u n (finish x).node (take 64 (finish x).sent)) first.node (finish-reached u n 64 ready) in
    let leads = r.leads in
    let whole = Became-trans s u r.system n m (finish m).node [] (take 64 (finish m).sent) first r.became in
    next s u t move (leads.on t (none r.system t (Same-became s r.system t n (finish m).node (take 64 (finish m).sent) whole b)))

install_moves : (s t : SystemState) (n e : ℕ) → IsSteady s → e ≤ length s.views → Became s t n (install (s.node n) record { epoch = e; members = view s e }).node (take 64 (install (s.node n) record { epoch = e; members = view s e }).sent) → Moves s t
unfolding install
install_moves s t n e steady le =
    let m = s.node n in
    let installed : Did Installing = did_then (just (viewed s n e) Installed) finish in
    let later : Did Installing = if nat_lt m.epoch e then installed else just m (Old m.epoch) in
    cond_both m.stopped (just m InstallStopped) later (λ (d : Did Installing). Became s t n d.node (take 64 d.sent) → Moves s t)
    (λ _ b. Moves-reaches s t n m [] (still_reaches s n) b)
    (λ live. cond_both (nat_lt m.epoch e) installed (just m (Old m.epoch)) (λ (d : Did Installing). Became s t n d.node (take 64 d.sent) → Moves s t)
    (λ less b. installs_moves s t n e steady live (ltb-true m.epoch e less) le b)
    (λ _ b. Moves-reaches s t n m [] (still_reaches s n) b))

installed_step : (w : World) (n e : ℕ) → IsUsual w → e ≤ length w.views → IsStep w (installed_at w n (install (node w n) record { epoch = e; members = nth [] w.views (e - 1) })).world
unfolding installed_at system
installed_step w n e u le =
    let d = install (node w n) record { epoch = e; members = nth [] w.views (e - 1) } in
    let book = counted (book_passes w.book n (in_stream_order d.passed)).book in
    moved_step w n d.node (first_64 d.sent) book u (install_moves (system w) (system (world_after w n d.node (first_64 d.sent) book)) n e u.steady le (Became-after w n d.node (first_64 d.sent) book))

install_step : (w : World) (n e : ℕ) → IsUsual w → IsStep w (step_install w n e).world
unfolding step_install
install_step w n e u =
    cond_both (nat_lt (length w.views) e) (refuse_step w (NoView (length w.views))) (installed_at w n (install (node w n) record { epoch = e; members = nth [] w.views (e - 1) })) (λ (x : Event). IsStep w x.world)
    (λ _. refused_step w u)
    (λ le. installed_step w n e u (ltb-false (length w.views) e le))

-- ---- view

last_view-nth : (views : List (List ℕ)) → last_view views ≡ nth [] views (length views - 1)
unfolding last_view nth
last_view-nth [] = refl
last_view-nth (v ∷ []) = refl
last_view-nth (v ∷ (u ∷ us)) =
    let before : length (u ∷ us) - 1 ≡ length us = omega arith in
    let at : suc (suc (length us)) - 1 ≡ suc (length us) = omega arith in
    rw at (last_view-nth (u ∷ us) ∙ ap (λ (i : ℕ). nth [] (u ∷ us) i) before)

has-nothing : (k : ℕ) → has k [] ≡ false
unfolding has
has-nothing k = refl

has-cons : (k m : ℕ) (ms : List ℕ) → has k (m ∷ ms) ≡ true → (k ≡ m) ⊎ (has k ms ≡ true)
unfolding has
has-cons k m ms h = elim (or_cases (k == m) (has k ms) h) [ inl same ↦ inl (eqb-true k m same) | inr later ↦ inr later ]

first_of-none : {A : Type 0} (f : ℕ → Option A) (ms : List ℕ) (k : ℕ) → first_of f ms ≡ None → has k ms ≡ true → f k ≡ None
unfolding first_of
first_of-none f [] k h is = let none : has k [] ≡ false = has-nothing k in absurd cc
first_of-none f (m ∷ ms) k h is =
    let parts = or_else-none (f m) (first_of f ms) h in
    elim (has-cons k m ms is) [ inl same ↦ rw same parts.0 | inr later ↦ first_of-none f ms k parts.1 later ]

-- a view that leaves out no running node has each that runs
kept_live : (member stopped : Bool) → stopped ≡ false → (not member && not stopped) ≡ false → member ≡ true
kept_live true stopped live h = refl
kept_live false true live h = absurd cc
kept_live false false live h = absurd cc

-- if a view of rising nodes is not refused, then adding it to the world is a new view
pub new_view : (w : World) (set : List ℕ) → IsUsual w → IsRising set → view_refused w set ≡ None → NewView (system w) (system (record w { views = w.views ++ set ∷ []; book = counted w.book })) set
unfolding view_refused system
new_view w set u rising h =
    let first = or_else-none _ _ h in
    let second = or_else-none _ _ first.1 in
    let steady = u.steady in
    let members : (k : ℕ) → has k set ≡ true → has k (nth [] w.views (length w.views - 1)) ≡ true = λ k is.
    rw (last_view-nth w.views) at (not-false (has k (last_view w.views)) (where_true-none _ _ (first_of-none _ set k second.0 is))) in
    record {
      config = refl;
      views = refl;
      nodes = λ m. refl;
      sends = record { stay = λ l i. i; only = λ l i. inl i };
      rising = rising;
      subset = is_subset-from_members set (nth [] w.views (length w.views - 1)) members;
      live = λ n live.
          let k = steady.nodes n live in
          let last : has n (nth [] w.views (length w.views - 1)) ≡ true = k.everywhere (length w.views) (omega (arith, k.first, k.made)) (omega arith) in
          let asked : has n (last_view w.views) ≡ true = rw (last_view-nth w.views) last in
          kept_live (has n set) (node w n).stopped live (where_true-none _ _ (first_of-none _ (last_view w.views) n second.1 asked));
    }

view_or_not-step : (refused : Option Made) (w : World) (set : List ℕ) → IsUsual w → IsRising set → view_refused w set ≡ refused → IsStep w (view_or_not w set refused).world
unfolding view_or_not
view_or_not-step (Some m) w set u rising is = refused_step w u
view_or_not-step None w set u rising is =
    let after : World = record w { views = w.views ++ set ∷ []; book = counted w.book } in
    record {
      moves = next (system w) (system after) (system after) (makes_view set (new_view w set u rising is)) (none (system after) (system after) (Same-refl (system after)));
      ends = u.ends;
      config = refl;
    }

-- ---- each step

-- if a step fits the configuration of a usual world, then it is a sequence of moves
pub step_is_moves : (w : World) (s : Step) (txs : List TxDecl) → IsUsual w → StepFits w.config txs s → IsStep w (stepped w s)
unfolding StepFits happens step_begin
step_is_moves w (Begin k) txs u fits = begin_or_not-step (begin_refused w k) w k u
step_is_moves w (Try n s) txs u fits = tried_step w n s u fits.1
step_is_moves w (Deliver from to i) txs u fits = deliver_or_not-step (nth_letter (link w.links from to) i) w from to i u refl
step_is_moves w (Tick n) txs u fits = ticked_step w n u
step_is_moves w (Stop n) txs u fits = stopped_step w n u
step_is_moves w (View set) txs u fits = view_or_not-step (view_refused w set) w set u fits.0 refl
step_is_moves w (Install n e) txs u fits = install_step w n e u
