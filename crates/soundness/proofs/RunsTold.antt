-- From a reached run: its history is in order, its objects are placed, and its steps tell what its book has, each once.
use Rattle.std.specs.Prelude.{ℕ, zero, suc, ◌≡◌, List, [], ◌∷◌, ◌++◌, length, Some, slice_get, All}
use Rattle.std.proofs.Common.{refl, ap, sym, ◌∙◌, subst}
use Rattle.std.proofs.lemmas.List.Elements.{All-head, All-tail}
use Rattle.zeus_base.specs.Limits.{KeepsLimits}
use Rattle.zeus_base.specs.declared.config.Config.{Config}
use Rattle.zeus_base.specs.declared.step.Step.{Step}
use Rattle.zeus_txn.specs.declared.tx.TxDecl.{TxDecl}
use Rattle.zeus_model.specs.Book.{Point, record_of}
use Rattle.zeus_model.specs.In.{In, here, there}
use Rattle.zeus_model.specs.Scripts.{FitsTxs, FitsStep}
use Rattle.zeus_model.specs.World.{World, Event, events, happens, run, start, stepped}
use Rattle.zeus_model.specs.InLaws.{In-append_left, In-append_right}
use Rattle.machine_moves.specs.Fits.{StepFits}
use Rattle.machine_moves.proofs.Start.{start-config}
use Rattle.machine_moves.proofs.Steps.{IsStep, step_is_moves}
use Rattle.data_safety.specs.RunState.{run_state}
use Rattle.data_safety.proofs.steps.StepRuns.{moves_txs, start-txs}
use Rattle.data_safety.proofs.steps.StepMoves.{step_is_run_moves}
use Rattle.soundness.specs.History.{IsInOrder}
use Rattle.soundness.specs.Placements.{IsPlaced}
use Rattle.soundness.specs.Telling.{Answers, Does, IsOnce, IsTold, ids_of, told_points}
use Rattle.soundness.proofs.BookChanges.{ids_of-append}
use Rattle.soundness.proofs.BookPasses.{HasReplies}
use Rattle.soundness.proofs.Fitting.{fits-steps}
use Rattle.soundness.proofs.HistoryOrder.{is_in_order}
use Rattle.soundness.proofs.Placements.{invariant-placed}
use Rattle.soundness.proofs.Runs.{IsReached, start-reached, step-reached, run-reached, run-sound}
use Rattle.soundness.proofs.StepChanges.{StepTells, step_tells}
use Rattle.soundness.proofs.Telling.{along, reply_at, RunTells, RunTells-none, RunTells-more}
use Rattle.soundness.proofs.Told.{is_told, answered_once, start-new, new-replies}
use Rattle.soundness.proofs.Written.{Written-some}

-- a run from a reached world tells what it writes
run_tells : (c : Config) (txs : List TxDecl) (steps : List Step) (w : World) → w.config ≡ c → w.txs ≡ txs → IsReached w → HasReplies w.book → All (StepFits c txs) steps → RunTells w steps
run_tells c txs [] w config same r replies fits = RunTells-none w replies
run_tells c txs (s ∷ ss) w config same r replies fits =
    let first : StepFits c txs s = All-head (StepFits c txs) s ss fits in
    let moved : IsStep w (stepped w s) = step_is_moves w s txs r.usual (rw config first) in
    let kept : (stepped w s).txs ≡ w.txs = moves_txs (run_state w) (run_state (stepped w s)) (step_is_run_moves w s r.usual (rw (config, same) first)) in
    let one : StepTells w s (happens w s) = step_tells w r.witness s r.data_invariant replies in
    RunTells-more w s ss one
    (run_tells c txs ss (stepped w s) (moved.config ∙ config) (kept ∙ same) (step-reached c txs w s config same r first) one.replies (All-tail (StepFits c txs) s ss fits))

-- ---- after one of the steps

-- what a step of a run did, and that the run goes on from there
pub record IsMoment (w : World) (steps : List Step) (e : Event) : Type 0 where
  pub rest : List Step
  pub same : run e.world rest ≡ run w steps
  pub later : RunTells e.world rest
  -- the points of the step are the last of its history
  pub before : List ℕ
  pub points : ids_of e.world.book.points ≡ before ++ e.points
  pub replies : HasReplies e.world.book

step_moment : (w : World) (s : Step) (ss : List Step) → StepTells w s (happens w s) → RunTells (stepped w s) ss → IsMoment w (s ∷ ss) (happens w s)
unfolding run
step_moment w s ss one more = record {
  rest = ss;
  same = refl;
  later = more;
  before = ids_of w.book.points;
  points = ap (λ (ps : List Point). ids_of ps) one.points ∙ ids_of-append w.book.points one.added ∙ ap (λ (l : List ℕ). ids_of w.book.points ++ l) one.told;
  replies = one.replies;
}

later_moment : (w : World) (s : Step) (ss : List Step) (e : Event) → IsMoment (stepped w s) ss e → IsMoment w (s ∷ ss) e
unfolding run
later_moment w s ss e m = record { rest = m.rest; same = m.same; later = m.later; before = m.before; points = m.points; replies = m.replies }

run_moment : (c : Config) (txs : List TxDecl) (steps : List Step) (k : ℕ) (w : World) (e : Event) → w.config ≡ c → w.txs ≡ txs → IsReached w → HasReplies w.book → All (StepFits c txs) steps
    → slice_get (events w steps) k ≡ Some e → IsMoment w steps e
unfolding events
run_moment c txs [] k w e config same r replies fits h = absurd cc
run_moment c txs (s ∷ ss) zero w e config same r replies fits h =
    let first : StepFits c txs s = All-head (StepFits c txs) s ss fits in
    let rest : All (StepFits c txs) ss = All-tail (StepFits c txs) s ss fits in
    let moved : IsStep w (stepped w s) = step_is_moves w s txs r.usual (rw config first) in
    let kept : (stepped w s).txs ≡ w.txs = moves_txs (run_state w) (run_state (stepped w s)) (step_is_run_moves w s r.usual (rw (config, same) first)) in
    let next : IsReached (stepped w s) = step-reached c txs w s config same r first in
    let one : StepTells w s (happens w s) = step_tells w r.witness s r.data_invariant replies in
    let this : happens w s ≡ e = cc in
    subst (λ (x : Event). IsMoment w (s ∷ ss) x) this
    (step_moment w s ss one (run_tells c txs ss (stepped w s) (moved.config ∙ config) (kept ∙ same) next one.replies rest))
run_moment c txs (s ∷ ss) (suc k) w e config same r replies fits h =
    let first : StepFits c txs s = All-head (StepFits c txs) s ss fits in
    let rest : All (StepFits c txs) ss = All-tail (StepFits c txs) s ss fits in
    let moved : IsStep w (stepped w s) = step_is_moves w s txs r.usual (rw config first) in
    let kept : (stepped w s).txs ≡ w.txs = moves_txs (run_state w) (run_state (stepped w s)) (step_is_run_moves w s r.usual (rw (config, same) first)) in
    let next : IsReached (stepped w s) = step-reached c txs w s config same r first in
    let one : StepTells w s (happens w s) = step_tells w r.witness s r.data_invariant replies in
    later_moment w s ss e (run_moment c txs ss k (stepped w s) e (moved.config ∙ config) (kept ∙ same) next one.replies rest h)

-- a transaction that stands in a list of transactions of points has one of the points
point_of : (id : ℕ) (ps : List Point) → In id (ids_of ps) → (p : Point) × In p ps × (p.id ≡ id)
unfolding ids_of
point_of id [] i = elim i [ ]
point_of id (p ∷ ps) (here _ _ e) = (p, here p ps refl, sym e)
point_of id (p ∷ ps) (there _ _ i) = let more = point_of id ps i in (more.0, there p ps more.1, more.2)

module _ (c : Config) (txs : List TxDecl) (steps : List Step) (keeps : KeepsLimits c) (fit : FitsTxs c txs) (fits : All (FitsStep c (length txs)) steps) where
  reached : IsReached (run (start c txs) steps)
  reached = run-reached c txs steps (start c txs) (start-config c txs) (start-txs c txs) (start-reached c txs keeps fit.each) (fits-steps c txs steps fits)

  tells : RunTells (start c txs) steps
  tells = run_tells c txs steps (start c txs) (start-config c txs) (start-txs c txs) (start-reached c txs keeps fit.each) (new-replies (start c txs) (start-new c txs)) (fits-steps c txs steps fits)

  -- the steps of a run tell what its book has
  pub run-told : IsTold (start c txs) steps
  run-told = is_told (start c txs) steps (start-new c txs) tells

  -- what happens to a transaction of a run happens once
  pub run-once : IsOnce (start c txs) steps
  run-once = record {
    answered = answered_once (start c txs) steps (start-new c txs) tells;
    entries = λ t number k l a b one other.
        let told = run-told in
        let r = reached in
        r.data_invariant.booked.one_entry a b record { stream = t; number = number } ((told.entry a number t).1 (k, one)) ((told.entry b number t).1 (l, other));
  }

  -- the history of a run is in the order in which things happened
  pub run-in_order : IsInOrder (run (start c txs) steps)
  run-in_order =
      let sound = run-sound c txs steps keeps fit fits in
      let t = tells in
      is_in_order (start c txs) steps run-told sound.one_history t.replies

  -- the objects of a run have one latest placement each, and copies where it places them
  pub run-placed : IsPlaced (run (start c txs) steps)
  run-placed = let r = reached in invariant-placed (run (start c txs) steps) r.witness r.data_invariant r.counts

  -- each transaction of the history has the reply that it was answered
  pub run-replies : (p : Point) → In p (run (start c txs) steps).book.points
      → ((record_of (run (start c txs) steps).book p.id).reply ≡ Some p.reply) × ((k : ℕ) × Answers (start c txs) steps k p.id p.reply)
  run-replies p i =
      let order = run-in_order in
      let told = run-told in
      let kept = order.replies p i in
      (kept, (told.reply p.id p.reply).0 kept)

  -- the reply that a transaction has when a step tells its point is that of the history
  pub run-told_replies : (id k : ℕ) (e : Event) → Does (start c txs) steps k e → In id e.points
      → (p : Point) × In p (run (start c txs) steps).book.points × (p.id ≡ id) × ((record_of e.world.book id).reply ≡ Some p.reply)
  run-told_replies id k e h i =
      let m = run_moment c txs steps k (start c txs) e (start-config c txs) (start-txs c txs) (start-reached c txs keeps fit.each) (new-replies (start c txs) (start-new c txs)) (fits-steps c txs steps fits) h in
      let stands : In id (ids_of e.world.book.points) = subst (λ (l : List ℕ). In id l) (sym m.points) (In-append_right id m.before e.points i) in
      let now = point_of id e.world.book.points stands in
      let replied = m.replies in
      let given : (record_of e.world.book id).reply ≡ Some now.0.reply = subst (λ (j : ℕ). (record_of e.world.book j).reply ≡ Some now.0.reply) now.2 (replied.points now.0 now.1) in
      let more = m.later in
      let at = more.records id in
      let stays : (record_of (run e.world m.rest).book id).reply ≡ Some now.0.reply =
      (Written-some (along (reply_at id) e.world.book.steps e.world m.rest) (record_of e.world.book id).reply (record_of (run e.world m.rest).book id).reply now.0.reply at.reply given).0 in
      let last_stands : In id (ids_of (run e.world m.rest).book.points) =
      subst (λ (l : List ℕ). In id l) (sym more.points) (In-append_left id (ids_of e.world.book.points) (told_points (events e.world m.rest)) stands) in
      let last = point_of id (run e.world m.rest).book.points last_stands in
      let last_replies = more.replies in
      let last_given : (record_of (run e.world m.rest).book id).reply ≡ Some last.0.reply =
      subst (λ (j : ℕ). (record_of (run e.world m.rest).book j).reply ≡ Some last.0.reply) last.2 (last_replies.points last.0 last.1) in
      (last.0, subst (λ (v : World). In last.0 v.book.points) m.same last.1, last.2, given ∙ sym stays ∙ last_given)
