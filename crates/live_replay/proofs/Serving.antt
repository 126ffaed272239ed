-- The start of the run, and the world after an event of the service.
use Rattle.std.specs.Prelude.{ℕ, zero, suc, ◌≡◌, ◌+◌, ◌<◌, ◌≤◌, Bool, true, false, not, List, [], ◌∷◌, ◌++◌, length, replicate, Option, Some, None, if◌then◌else◌}
use Rattle.std.proofs.Common.{arith, refl, sym, ap, ◌∙◌, inl, inr, subst, append-nil}
use Rattle.std.proofs.lemmas.Bool.{cases_eq, and_right}
use Rattle.zeus_base.specs.Limits.{KeepsLimits}
use Rattle.zeus_base.specs.Nodes.{has, without}
use Rattle.zeus_base.specs.NodeLaws.{RisesFrom, IsRising, IsBelow, RisesFrom-without, IsBelow-without, has-without, has-without_other, has-head, has-tail}
use Rattle.zeus_base.specs.declared.config.Config.{Config}
use Rattle.zeus_base.specs.declared.step.Step.TheVariants.{View}
use Rattle.zeus_base.specs.TableLaws.{nth-past}
use Rattle.zeus_txn.specs.declared.tx.TxDecl.{TxDecl}
use Rattle.zeus_packet.specs.declared.letter.Letter.{Letter}
use Rattle.zeus_model.specs.declared.answer.Answer.TheVariants.{View as ViewAnswer}
use Rattle.zeus_model.specs.declared.answer.Made.{Made}
use Rattle.zeus_model.specs.declared.answer.Made.TheVariants.{Empty, NotMember, NotStopped}
use Rattle.zeus_model.specs.Scripts.{FitTxs}
use Rattle.zeus_model.specs.Tables.{nth, numbers_from, or_else, where_true, first_of}
use Rattle.zeus_model.specs.State.{Node}
use Rattle.zeus_model.specs.Book.{TxRecord, counted, no_record}
use Rattle.zeus_model.specs.World.{World, Event, no_node, node, link, start_node, start, last_view, is_empty, view_refused, view_or_not, happens, stepped}
use Rattle.machine_moves.specs.Fits.{StepFits}
use Rattle.machine_moves.proofs.Lists.{nth-map_numbers, nth-replicate, has-numbers_bound}
use Rattle.machine_moves.proofs.Start.{start-config}
use Rattle.data_safety.proofs.steps.StepRuns.{start-txs}
use Rattle.soundness.proofs.Runs.{IsReached, start-reached, step-reached}
use Rattle.live_model.specs.Cell.{CellEvent, core_from, core, posts, posts_from}
use Rattle.live_model.specs.Service.{ServiceEvent, made, viewed, views_from, views_made, start_views}
use Rattle.live_model.specs.Merge.{Turn, service_turn}
use Rattle.live_replay.specs.Parts.{part, of_cell, of_service, cell_part, service_part}
use Rattle.live_replay.proofs.Books.{Agree, same-refl}
use Rattle.live_replay.proofs.Mirrors.{Mirrors, part-one}
use Rattle.live_replay.proofs.Posting.{letters}

-- ---- the start

numbers-rise : (b i n : ℕ) → b ≤ i → RisesFrom b (numbers_from i n)
unfolding RisesFrom numbers_from
numbers-rise b i zero h = tt
numbers-rise b i (suc n) h = (h, numbers-rise (suc i) (suc i) n (omega arith))

nth-none : {A : Type 0} (d : A) (n k : ℕ) → nth d (replicate n d) k ≡ d
nth-none d n k = elim (nth-replicate d d n k) [ inl same ↦ same | inr past ↦ past ]

nth-none_row : {A : Type 0} (d : A) (m n i k : ℕ) → nth d (nth [] (replicate m (replicate n d)) i) k ≡ d
nth-none_row d m n i k =
    elim (nth-replicate [] (replicate n d) m i) [
      | inl row ↦ rw row (nth-none d n k)
      | inr past ↦ rw past (nth-past d [] k (omega arith))
    ]

-- at the start of the world each node is that of its configuration
pub start-node : (c : Config) (txs : List TxDecl) (n : ℕ) → n < c.nodes → node (start c txs) n ≡ start_node c n
unfolding start
start-node c txs n less = let at : 0 + n ≡ n = omega arith in nth-map_numbers no_node (start_node c) 0 c.nodes n less ∙ ap (start_node c) at

start_node-me : (c : Config) (n : ℕ) → (start_node c n).me ≡ n
unfolding start_node
start_node-me c n = refl

start-link : (c : Config) (txs : List TxDecl) (n receiver : ℕ) → link (start c txs).links n receiver ≡ []
unfolding start
start-link c txs n receiver = nth-none_row {A = List Letter} [] c.nodes c.nodes n receiver

no_posts : (c : Config) (txs : List TxDecl) (n receiver : ℕ) → letters (posts n c txs receiver []) ≡ []
unfolding letters posts_from
no_posts c txs n receiver = refl

start-last : (c : Config) (txs : List TxDecl) → IsRising (last_view (start c txs).views) × IsBelow c.nodes (last_view (start c txs).views)
unfolding start last_view
start-last c txs = (numbers-rise 0 0 c.nodes (omega arith), λ k h. let less = has-numbers_bound k 0 c.nodes h in omega arith)

start-views : (c : Config) (txs : List TxDecl) → (start c txs).views ≡ views_made c []
unfolding start views_from
start-views c txs = refl

start-agree : (c : Config) (txs : List TxDecl) (n : ℕ) → Agree txs n (start c txs).book.records (replicate (length txs) no_record)
unfolding start
start-agree c txs n =
    record {
      own = λ k mine. same-refl (nth no_record (replicate (length txs) no_record) k);
      others = λ k ne. ap (λ (r : TxRecord). r.entry) (nth-none no_record (length txs) k);
      entries = λ k e is. let none : (nth no_record (replicate (length txs) no_record) k).entry ≡ None = ap (λ (r : TxRecord). r.entry) (nth-none no_record (length txs) k) in absurd cc;
    }

-- nothing has happened, and each part of nothing is empty
pub start-mirrors : (c : Config) (txs : List TxDecl) → KeepsLimits c → FitTxs c 0 txs → Mirrors c txs [] (start c txs)
unfolding part core_from
start-mirrors c txs keeps fit =
    record {
      config = start-config c txs;
      declared = start-txs c txs;
      reached = start-reached c txs keeps fit;
      numbers = λ n less. ap (λ (m : Node). m.me) (start-node c txs n less) ∙ start_node-me c n;
      nodes = λ n less. start-node c txs n less;
      links = λ n receiver less. start-link c txs n receiver ∙ sym (no_posts c txs n receiver);
      views = start-views c txs;
      last = start-last c txs;
      books = λ n less. start-agree c txs n;
    }

-- ---- a view

first_of-nothing : {A : Type 0} (f : ℕ → Option A) (xs : List ℕ) → ((k : ℕ) → has k xs ≡ true → f k ≡ None) → first_of f xs ≡ None
unfolding first_of or_else
first_of-nothing f [] h = refl
first_of-nothing f (x ∷ xs) h = rw (h x (has-head x xs)) (first_of-nothing f xs (λ k is. h k (has-tail k x xs is)))

or_else-nothing : {A : Type 0} (a b : Option A) → b ≡ None → or_else a b ≡ a
unfolding or_else
or_else-nothing None b h = h
or_else-nothing (Some x) b h = refl

not_true : {A : Type 0} (b : Bool) (a : A) → b ≡ false → where_true b a ≡ None
unfolding where_true
not_true b a h = rw h refl

without-subset : (k n : ℕ) (ms : List ℕ) → has k (without n ms) ≡ true → has k ms ≡ true
without-subset k n ms h = grind (arith, has-without k n ms)

-- a view without a stopped node is refused only where it has no members
view_refused-stopped : (w : World) (n : ℕ) (set : List ℕ) → set ≡ without n (last_view w.views) → (node w n).stopped ≡ true → view_refused w set ≡ where_true (is_empty set) Empty
unfolding view_refused
view_refused-stopped w n set is stopped =
    or_else-nothing (where_true (is_empty set) Empty) _
    (or_else-nothing _ _ (first_of-nothing _ (last_view w.views) (λ k at. not_true _ (NotStopped k) (elim (cases_eq k n) [
      | inl same ↦ and_right (not (has k set)) (not (node w k).stopped) (rw (same, stopped) refl)
      | inr other ↦ rw (is, has-without_other k n (last_view w.views) other, at) refl
    ]))) ∙ first_of-nothing _ set (λ k at. not_true _ (NotMember k) (rw (without-subset k n (last_view w.views) (rw is at at)) refl)))

-- the world with what the service does in it
abbrev pub serves : World → List ℕ → Event
serves w set =
    record { world = record w { views = viewed w.views set; book = counted w.book }; answer = ViewAnswer (made w.views set); points = []; acked = []; sent = [] }

view_or_not-serves : (empty : Bool) (w : World) (set : List ℕ) → is_empty set ≡ empty → view_or_not w set (where_true empty Empty) ≡ serves w set
unfolding view_or_not where_true viewed made
view_or_not-serves true w set is = rw is refl
view_or_not-serves false w set is = rw is refl

-- if a stopped node is left out of the last view, then the step of the view does what the service did
pub happens-serves : (w : World) (n : ℕ) (set : List ℕ) → set ≡ without n (last_view w.views) → (node w n).stopped ≡ true → happens w (View set) ≡ serves w set
unfolding happens
happens-serves w n set is stopped =
    ap (λ (o : Option Made). view_or_not w set o) (view_refused-stopped w n set is stopped) ∙ view_or_not-serves (is_empty set) w set refl

-- ---- the world after it

cell_part-served : (n : ℕ) (past : List Turn) (e : ServiceEvent) → cell_part n (past ++ service_turn e ∷ []) ≡ cell_part n past
unfolding of_cell
cell_part-served n past e = part-one (of_cell n) past (service_turn e) ∙ append-nil (cell_part n past)

service_part-served : (past : List Turn) (e : ServiceEvent) → service_part (past ++ service_turn e ∷ []) ≡ service_part past ++ e ∷ []
unfolding of_service
service_part-served past e = part-one of_service past (service_turn e)

views_from-append : (views : List (List ℕ)) (xs ys : List ServiceEvent) → views_from views (xs ++ ys) ≡ views_from (views_from views xs) ys
unfolding views_from
views_from-append views [] ys = refl
views_from-append views (x ∷ xs) ys = views_from-append (viewed views x.members) xs ys

views_from-one : (views : List (List ℕ)) (e : ServiceEvent) → views_from views (e ∷ []) ≡ viewed views e.members
unfolding views_from
views_from-one views e = refl

-- the last view of views with one more at the end is that one
pub last_view-more : (views : List (List ℕ)) (set : List ℕ) → last_view (views ++ set ∷ []) ≡ set
unfolding last_view
last_view-more [] set = refl
last_view-more (v ∷ []) set = refl
last_view-more (v ∷ (u ∷ us)) set = last_view-more (u ∷ us) set

last_viewed : (empty : Bool) (c : Config) (views : List (List ℕ)) (n : ℕ) (set : List ℕ) → set ≡ without n (last_view views) → IsRising (last_view views) × IsBelow c.nodes (last_view views)
    → IsRising (last_view (if empty then views else views ++ set ∷ [])) × IsBelow c.nodes (last_view (if empty then views else views ++ set ∷ []))
last_viewed true c views n set is h = h
last_viewed false c views n set is h =
    rw (last_view-more views set, is) (RisesFrom-without 0 n (last_view views) h.0, IsBelow-without c.nodes n (last_view views) h.1)

-- what an event of the service needs in the world
pub record ServiceStep (c : Config) (past : List Turn) (w : World) (e : ServiceEvent) : Type 0 where
  pub members : e.members ≡ without e.node (last_view w.views)
  pub stopped : (node w e.node).stopped ≡ true

-- if the world mirrors the events so far, then it does after an event of the service
pub service-mirrors : (c : Config) (txs : List TxDecl) (past : List Turn) (w : World) (e : ServiceEvent) → Mirrors c txs past w → ServiceStep c past w e
    → Mirrors c txs (past ++ service_turn e ∷ []) (stepped w (View e.members))
unfolding viewed StepFits
service-mirrors c txs past w e m s =
    let serves_so : happens w (View e.members) ≡ serves w e.members = happens-serves w e.node e.members s.members s.stopped in
    let next : IsRising e.members × IsBelow c.nodes e.members =
    rw (s.members) (RisesFrom-without 0 e.node (last_view w.views) m.last.0, IsBelow-without c.nodes e.node (last_view w.views) m.last.1) in
    let reached : IsReached (serves w e.members).world = subst (λ (x : Event). IsReached x.world) serves_so (step-reached c txs w (View e.members) m.config m.declared m.reached next) in
    subst (λ (x : Event). Mirrors c txs (past ++ service_turn e ∷ []) x.world) (sym serves_so)
    record {
      config = m.config;
      declared = m.declared;
      reached = reached;
      numbers = m.numbers;
      nodes = λ n less. m.nodes n less ∙ ap (λ (es : List CellEvent). (core n c txs es).node) (sym (cell_part-served n past e));
      links = λ n receiver less. m.links n receiver less ∙ ap (λ (es : List CellEvent). letters (posts n c txs receiver es)) (sym (cell_part-served n past e));
      views = ap (λ (vs : List (List ℕ)). viewed vs e.members) m.views
          ∙ (sym (views_from-one (views_made c (service_part past)) e) ∙ (sym (views_from-append (start_views c) (service_part past) (e ∷ []))
          ∙ ap (λ (es : List ServiceEvent). views_made c es) (sym (service_part-served past e))));
      last = last_viewed (is_empty e.members) c w.views e.node e.members s.members m.last;
      books = λ n less. subst (λ (es : List CellEvent). Agree txs n w.book.records (core n c txs es).book.records) (sym (cell_part-served n past e)) (m.books n less);
    }
