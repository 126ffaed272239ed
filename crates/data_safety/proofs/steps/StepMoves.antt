-- Each step of the world is a sequence of moves of its run.
use Rattle.std.specs.Prelude.{ℕ, ◌≡◌, ◌-◌, ◌<◌, ◌≤◌, true, false, nat_lt, List, [], ◌∷◌, ◌++◌, length, take, Option, Some, None, is_some, if◌then◌else◌}
use Rattle.std.proofs.Common.{arith, refl, sym, ◌∙◌, inl, inr, subst}
use Rattle.std.proofs.lemmas.Bool.{cond_both, ltb-true, ltb-false}
use Rattle.zeus_base.specs.NodeLaws.{IsRising}
use Rattle.zeus_base.specs.declared.step.Step.{Step}
use Rattle.zeus_base.specs.declared.step.Step.TheVariants.{Begin, Try, Deliver, Tick, Stop, View, Install}
use Rattle.zeus_packet.specs.declared.letter.Letter.{Letter}
use Rattle.zeus_base.specs.declared.step.Passed.{Passed}
use Rattle.zeus_model.specs.In.{In}
use Rattle.zeus_model.specs.Tables.{nth}
use Rattle.zeus_model.specs.declared.answer.Answer.{Answer}
use Rattle.zeus_model.specs.declared.answer.Answer.TheVariants.{NoView}
use Rattle.zeus_model.specs.declared.answer.Install.{Install as Installing}
use Rattle.zeus_model.specs.declared.answer.Install.TheVariants.{Installed, Stopped as InstallStopped, Old}
use Rattle.zeus_model.specs.declared.answer.Made.{Made}
use Rattle.zeus_model.specs.declared.answer.Outcome.{Outcome}
use Rattle.zeus_model.specs.declared.answer.Stop.{Stop as Stopping}
use Rattle.zeus_model.specs.declared.answer.Stop.TheVariants.{Done, Stopped as StopStopped}
use Rattle.zeus_model.specs.State.{Node}
use Rattle.zeus_model.specs.Act.{Did, just, did_then}
use Rattle.zeus_model.specs.Book.{Book, record_of, counted, book_passes, in_stream_order}
use Rattle.zeus_model.specs.Commit.{finish}
use Rattle.zeus_model.specs.Local.{try_slot}
use Rattle.zeus_model.specs.Membership.{install, stop, tick}
use Rattle.zeus_model.specs.Receive.{row, rejection, receive_or_not, receive}
use Rattle.zeus_model.specs.World.{World, Event, node, tx_decl, link, first_64, refuse_step, begin_refused, begin_or_not, step_begin, tried_at, nth_letter, received_at, deliver_or_not, ticked_at, stopped_at, installed_at, view_refused, view_or_not, step_install, happens, stepped}
use Rattle.machine_moves.specs.SystemState.{SystemState, system, view, IsLive, nothing}
use Rattle.machine_moves.specs.Move.{Move, makes_view, stops, installs}
use Rattle.machine_moves.specs.Plain.{IsPlain}
use Rattle.machine_moves.specs.Fits.{StepFits}
use Rattle.machine_moves.proofs.Lists.{In-nothing, take-append}
use Rattle.machine_moves.proofs.Links.{HasEnds, In-from_link, nth_letter-In}
use Rattle.machine_moves.proofs.Steady.{IsSteady, move_keep}
use Rattle.machine_moves.proofs.Reach.{Became, Became-changed, Changes-became, changed, PlainAnswered, IsReady, known}
use Rattle.machine_moves.proofs.Causes.{or_else-none, where_true-none}
use Rattle.machine_moves.proofs.Entries.{Received}
use Rattle.machine_moves.proofs.Receiving.{row-answered, rejection-none}
use Rattle.machine_moves.proofs.Ticking.{tick-answered}
use Rattle.machine_moves.proofs.Steps.{IsUsual, world_after, Became-after, new_view, viewed}
use Rattle.data_safety.specs.RunState.{RunState, run_state}
use Rattle.data_safety.specs.RunMoves.{RunMoves, plain, stutters, ended, onward}
use Rattle.data_safety.proofs.steps.StepReach.{told_as, Arrives, plain_arrives, then_arrives, arrived}
use Rattle.data_safety.proofs.steps.StepFrames.{row-silent}
use Rattle.data_safety.proofs.steps.StepFinish.{finish_arrives}
use Rattle.data_safety.proofs.steps.StepTry.{idle_arrives, begin_arrives, try_arrives}

-- ---- a step that changes nothing

counted_step : (w : World) → RunMoves (run_state w) (run_state (record w { book = counted w.book }))
unfolding system
counted_step w =
    let z = run_state (record w { book = counted w.book }) in
    onward (run_state w) z z
    (stutters record { config = refl; views = refl; nodes = λ m. refl; sends = record { stay = λ l i. i; only = λ l i. inl i } } refl refl (omega arith)) (ended z)

-- ---- a node has acted

acted_run : (w : World) (n : ℕ) (after : Node) (letters : List Letter) (book : Book) → Arrives (run_state w) n after letters book → RunMoves (run_state w) (run_state (world_after w n after letters (counted book)))
acted_run w n after letters book r =
    arrived (run_state w) (run_state (world_after w n after letters (counted book))) n after letters book r (Became-after w n after letters (counted book)) refl refl

-- ---- begin

is_some-none : {A : Type 0} (o : Option A) → is_some o ≡ false → o ≡ None
is_some-none None h = refl
is_some-none (Some a) h = absurd cc

begin_or_not_run : (refused : Option Answer) (w : World) (k : ℕ) → IsUsual w → k < length w.txs → begin_refused w k ≡ refused → RunMoves (run_state w) (run_state (begin_or_not w k refused).world)
unfolding begin_or_not begin_refused system
begin_or_not_run (Some a) w k u fits is = counted_step w
begin_or_not_run None w k u fits is =
    let t = tx_decl w k in
    let first = or_else-none _ _ is in
    acted_run w t.node _ [] _
    (begin_arrives (run_state w) t.node t.slot k u.steady record { node = refl; slot = refl; within = fits; fresh = is_some-none (record_of w.book k).begun (where_true-none _ _ first.0) })

-- ---- try

tried_run : (w : World) (n i : ℕ) → IsUsual w → i < w.config.slots → RunMoves (run_state w) (run_state (tried_at w n i (try_slot (node w n) i)).world)
unfolding tried_at system
tried_run w n i u within = acted_run w n _ _ _ (try_arrives (run_state w) n i 64 u.steady within)

-- ---- deliver

-- an answer that lets nothing pass, and then the finish
answer_then_finish : (y : RunState) (n k : ℕ) (d : Did Outcome) → IsReady y.system n → PlainAnswered y.system n k d → d.passed ≡ []
    → Arrives y n (finish d.node).node (take k (d.sent ++ (finish d.node).sent)) (book_passes y.book n (in_stream_order (d.passed ++ (finish d.node).passed))).book
answer_then_finish y n k d ready r silent =
    let f = finish d.node in
    rw (silent, take-append k d.sent f.sent)
    (then_arrives y n d.node f.node (take k d.sent) (take (k - length d.sent) f.sent) y.book _ ready (plain_arrives y n d.node (take k d.sent) r)
    (λ t rt b.
    subst (λ (x : Node). Arrives (told_as y t y.book) n (finish x).node (take (k - length d.sent) (finish x).sent) (book_passes y.book n (in_stream_order (finish x).passed)).book) b.node
    (finish_arrives (told_as y t y.book) n (k - length d.sent) rt)))

abbrev ReceiveArrives : RunState → ℕ → ℕ → Did Outcome → Type 0
ReceiveArrives y n k d = Arrives y n d.node (take k d.sent) (book_passes y.book n (in_stream_order d.passed)).book

receive_or_not_arrives : (outcome : Option Outcome) (y : RunState) (n k : ℕ) (l : Letter) → IsSteady y.system → In l y.system.letters → l.to ≡ n → length y.system.config.directory ≤ 8 → 10 ≤ k → rejection (y.system.node n) l ≡ outcome → ReceiveArrives y n k (receive_or_not (y.system.node n) l outcome)
unfolding receive_or_not book_passes in_stream_order
receive_or_not_arrives (Some outcome) y n k l steady at to few room is = idle_arrives y n k
receive_or_not_arrives None y n k l steady at to few room is =
    let m = y.system.node n in
    let taken = rejection-none m l is in
    let ready : IsReady y.system n = record { steady = steady; live = taken.live } in
    let me = known y.system n ready in
    let got : Received y.system n l.from l.body = record { letter = l; is = refl; by = refl; at = (to, taken.epoch, at) } in
    answer_then_finish y n k (row m l.from l.body) ready (row-answered l.body y.system n l.from k ready got taken.opened (rw (me.directory) few) room) (row-silent l.body m l.from)

receive_arrives : (y : RunState) (n k : ℕ) (l : Letter) → IsSteady y.system → In l y.system.letters → l.to ≡ n → length y.system.config.directory ≤ 8 → 10 ≤ k → ReceiveArrives y n k (receive (y.system.node n) l)
unfolding receive
receive_arrives y n k l steady at to few room = receive_or_not_arrives (rejection (y.system.node n) l) y n k l steady at to few room refl

deliver_or_not_run : (letter : Option Letter) (w : World) (from to i : ℕ) → IsUsual w → nth_letter (link w.links from to) i ≡ letter → RunMoves (run_state w) (run_state (deliver_or_not w from to letter).world)
unfolding deliver_or_not received_at system HasEnds
deliver_or_not_run None w from to i u is = counted_step w
deliver_or_not_run (Some l) w from to i u is =
    let at = nth_letter-In (link w.links from to) i l is in
    let ends = u.ends in
    acted_run w to _ _ _
    (receive_arrives (run_state w) to 64 l u.steady (In-from_link w.links l record { from = from; to = to; is = at }) (ends from to l at).1 u.few (omega arith))

-- ---- tick

ticked_run : (w : World) (n : ℕ) → IsUsual w → RunMoves (run_state w) (run_state (ticked_at w n (tick (node w n))).world)
unfolding ticked_at system
ticked_run w n u = acted_run w n _ _ _ (plain_arrives (run_state w) n _ _ (tick-answered (system w) n 64 u.steady))

-- ---- stop

stops_moves : (y z : RunState) (n : ℕ) → IsLive y.system n → Became y.system z.system n (record (y.system.node n) { stopped = true }) [] → z.txs ≡ y.txs → z.book ≡ counted y.book → RunMoves y z
unfolding IsPlain
stops_moves y z n live b txs book =
    let middle = told_as y z.system y.book in
    onward y middle z
    (plain (stops n (Changes-became y.system z.system n (record (y.system.node n) { stopped = true }) [] nothing live b (λ l i. In-nothing l i))) tt refl refl)
    (onward middle z z (stutters record { config = refl; views = refl; nodes = λ m. refl; sends = record { stay = λ l i. i; only = λ l i. inl i } } txs (rw (book) refl) (rw (book) (omega arith))) (ended z))

stop_moves : (y z : RunState) (n : ℕ) → Became y.system z.system n (stop (y.system.node n)).node [] → z.txs ≡ y.txs → z.book ≡ counted y.book → RunMoves y z
unfolding stop
stop_moves y z n =
    let m = y.system.node n in
    cond_both m.stopped (just m StopStopped) (just (record m { stopped = true }) Done) (λ (d : Did Stopping). Became y.system z.system n d.node [] → z.txs ≡ y.txs → z.book ≡ counted y.book → RunMoves y z)
    (λ _ b txs book. arrived y z n m [] y.book (idle_arrives y n 0) b txs book)
    (λ live b txs book. stops_moves y z n live b txs book)

stopped_run : (w : World) (n : ℕ) → RunMoves (run_state w) (run_state (stopped_at w n (stop (node w n))).world)
unfolding stopped_at system
stopped_run w n =
    let after = (stop (node w n)).node in
    stop_moves (run_state w) (run_state (world_after w n after [] (counted w.book))) n (Became-after w n after [] (counted w.book)) refl refl

-- ---- install

-- what became of a node after it had become another
Became-rest : (s t u : SystemState) (n : ℕ) (m after : Node) (sent : List Letter) → Became s t n m [] → Became s u n after sent → Became t u n after sent
Became-rest s t u n m after sent a b =
    record {
      config = b.config ∙ sym a.config;
      views = b.views ∙ sym a.views;
      node = b.node;
      others = λ k ne. b.others k ne ∙ sym (a.others k ne);
      stay = λ l i. elim (a.only l i) [ inl older ↦ b.stay l older | inr newer ↦ In-nothing l newer ];
      new = b.new;
      only = λ l i. elim (b.only l i) [ inl older ↦ inl (a.stay l older) | inr newer ↦ inr newer ];
    }

-- the book after the finish of a node
abbrev finished_book : Book → ℕ → List Passed → Book
finished_book book n passed = (book_passes book n (in_stream_order passed)).book

installs_moves : (y z : RunState) (n e : ℕ) → IsSteady y.system → IsLive y.system n → (y.system.node n).epoch < e → e ≤ length y.system.views → Became y.system z.system n (finish (viewed y.system n e)).node (take 64 (finish (viewed y.system n e)).sent) → z.txs ≡ y.txs
    → z.book ≡ counted (finished_book y.book n (finish (viewed y.system n e)).passed) → RunMoves y z
unfolding IsPlain
installs_moves y z n e steady live less le b txs book =
    let s = y.system in
    let m = viewed s n e in
    let t = changed s n m [] in
    let first = Became-changed s n m [] in
    let move : Move s t = installs n e less le (Changes-became s t n m [] nothing live first (λ l i. In-nothing l i)) in
    let ready : IsReady t n = record { steady = move_keep s t move steady; live = rw (first.node) live } in
    let middle = told_as y t y.book in
    let r : Arrives middle n (finish m).node (take 64 (finish m).sent) (finished_book y.book n (finish m).passed) = subst (λ (x : Node). Arrives middle n (finish x).node (take 64 (finish x).sent) (finished_book y.book n (finish x).passed)) first.node (finish_arrives middle n 64 ready) in
    onward y middle z (plain move tt refl refl) (arrived middle z n (finish m).node (take 64 (finish m).sent) (finished_book y.book n (finish m).passed) r (Became-rest s t z.system n m (finish m).node (take 64 (finish m).sent) first b) txs book)

install_moves : (y z : RunState) (n e : ℕ) → IsSteady y.system → e ≤ length y.system.views → let d = install (y.system.node n) record { epoch = e; members = view y.system e } in Became y.system z.system n d.node (take 64 d.sent) → z.txs ≡ y.txs → z.book ≡ counted (finished_book y.book n d.passed) → RunMoves y z
unfolding install book_passes in_stream_order
install_moves y z n e steady le =
    let m = y.system.node n in
    let installed : Did Installing = did_then (just (viewed y.system n e) Installed) finish in
    let later : Did Installing = if nat_lt m.epoch e then installed else just m (Old m.epoch) in
    cond_both m.stopped (just m InstallStopped) later (λ (d : Did Installing). Became y.system z.system n d.node (take 64 d.sent) → z.txs ≡ y.txs → z.book ≡ counted (finished_book y.book n d.passed) → RunMoves y z)
    (λ _ b txs book. arrived y z n m [] y.book (idle_arrives y n 0) b txs book)
    (λ live. cond_both (nat_lt m.epoch e) installed (just m (Old m.epoch)) (λ (d : Did Installing). Became y.system z.system n d.node (take 64 d.sent) → z.txs ≡ y.txs → z.book ≡ counted (finished_book y.book n d.passed) → RunMoves y z)
    (λ less b txs book. installs_moves y z n e steady live (ltb-true m.epoch e less) le b txs book)
    (λ _ b txs book. arrived y z n m [] y.book (idle_arrives y n 0) b txs book))

installed_run : (w : World) (n e : ℕ) → IsUsual w → e ≤ length w.views → RunMoves (run_state w) (run_state (installed_at w n (install (node w n) record { epoch = e; members = nth [] w.views (e - 1) })).world)
unfolding installed_at system
installed_run w n e u le =
    let d = install (node w n) record { epoch = e; members = nth [] w.views (e - 1) } in
    let book = counted (book_passes w.book n (in_stream_order d.passed)).book in
    install_moves (run_state w) (run_state (world_after w n d.node (first_64 d.sent) book)) n e u.steady le (Became-after w n d.node (first_64 d.sent) book) refl refl

install_run : (w : World) (n e : ℕ) → IsUsual w → RunMoves (run_state w) (run_state (step_install w n e).world)
unfolding step_install
install_run w n e u =
    cond_both (nat_lt (length w.views) e) (refuse_step w (NoView (length w.views))) (installed_at w n (install (node w n) record { epoch = e; members = nth [] w.views (e - 1) })) (λ (x : Event). RunMoves (run_state w) (run_state x.world))
    (λ _. counted_step w)
    (λ le. installed_run w n e u (ltb-false (length w.views) e le))

-- ---- view

view_or_not_run : (refused : Option Made) (w : World) (set : List ℕ) → IsUsual w → IsRising set → view_refused w set ≡ refused → RunMoves (run_state w) (run_state (view_or_not w set refused).world)
unfolding view_or_not IsPlain system
view_or_not_run (Some m) w set u rising is = counted_step w
view_or_not_run None w set u rising is =
    let after : World = record w { views = w.views ++ set ∷ []; book = counted w.book } in
    let middle = told_as (run_state w) (system after) w.book in
    onward (run_state w) middle (run_state after) (plain (makes_view set (new_view w set u rising is)) tt refl refl)
    (onward middle (run_state after) (run_state after) (stutters record { config = refl; views = refl; nodes = λ m. refl; sends = record { stay = λ l i. i; only = λ l i. inl i } } refl refl (omega arith)) (ended (run_state after)))

-- ---- each step

-- if a step fits the configuration and transactions of a usual world, then it is moves of its run
pub step_is_run_moves : (w : World) (s : Step) → IsUsual w → StepFits w.config w.txs s → RunMoves (run_state w) (run_state (stepped w s))
unfolding StepFits happens step_begin
step_is_run_moves w (Begin k) u fits = begin_or_not_run (begin_refused w k) w k u fits refl
step_is_run_moves w (Try n s) u fits = tried_run w n s u fits.1
step_is_run_moves w (Deliver from to i) u fits = deliver_or_not_run (nth_letter (link w.links from to) i) w from to i u refl
step_is_run_moves w (Tick n) u fits = ticked_run w n u
step_is_run_moves w (Stop n) u fits = stopped_run w n
step_is_run_moves w (View set) u fits = view_or_not_run (view_refused w set) w set u fits.0 refl
step_is_run_moves w (Install n e) u fits = install_run w n e u
