-- A transaction that was refused is never acknowledged.
use Rattle.std.specs.Prelude.{ℕ, ◌≡◌, Bool, true, false, List, [], ◌∷◌, length, All, Option, Some, None}
use Rattle.std.proofs.Common.{arith, refl, sym, ap, ◌∙◌, inl, inr, subst}
use Rattle.std.proofs.lemmas.Bool.{cases_eq}
use Rattle.std.proofs.lemmas.List.Elements.{All-head, All-tail}
use Rattle.zeus_base.specs.Limits.{KeepsLimits}
use Rattle.zeus_base.specs.declared.config.Config.{Config}
use Rattle.zeus_base.specs.declared.order.Stream.{Stream}
use Rattle.zeus_base.specs.declared.step.Step.{Step}
use Rattle.zeus_base.specs.TableLaws.{nth-put_same}
use Rattle.zeus_txn.specs.declared.reply.Reply.{Reply}
use Rattle.zeus_txn.specs.declared.tx.TxDecl.{TxDecl}
use Rattle.zeus_model.specs.Book.{Book, TxRecord, no_record, record_of, tx_of, point_once, ack_once, pass_tx, book_point, book_reply, book_read, is_entry}
use Rattle.zeus_model.specs.Scripts.{FitTxs}
use Rattle.zeus_model.specs.Tables.{nth, put}
use Rattle.zeus_model.specs.World.{World, stepped, run, start}
use Rattle.machine_moves.specs.Fits.{StepFits}
use Rattle.machine_moves.proofs.Lists.{nth-put_other}
use Rattle.machine_moves.proofs.Steps.{IsStep, step_is_moves}
use Rattle.machine_moves.proofs.Start.{start-config}
use Rattle.invariants.proofs.Start.{nth-none}
use Rattle.data_safety.specs.RunState.{RunState, Witness, run_state}
use Rattle.data_safety.specs.RunMoves.{RunMove, RunMoves, plain, stutters, begins, reads, refuses, commits_tx, passes_own_tx, passes_kept_tx, ended, onward}
use Rattle.data_safety.specs.DataInvariant.{DataInvariant}
use Rattle.data_safety.proofs.ownership.OwnershipPlain.{HasDataInvariant}
use Rattle.data_safety.proofs.steps.StepRuns.{moves_txs, start-txs}
use Rattle.data_safety.proofs.steps.StepMoves.{step_is_run_moves}
use Rattle.data_safety.proofs.RunKeeps.{move-invariant}
use Rattle.soundness.proofs.Runs.{IsReached, start-reached, step-reached}
use Rattle.live_replay.proofs.Books.{tx_from-found, is_entry-node}

-- what is refused has no entry, and is not acknowledged
abbrev IsApart : TxRecord → Type 0
IsApart r = r.refused ≡ true → (r.entry ≡ None) × (r.acked ≡ None)

-- so it is with each transaction
abbrev pub AreApart : Book → Type 0
AreApart b = (id : ℕ) → IsApart (record_of b id)

apart-put : (rs : List TxRecord) (i : ℕ) (r : TxRecord) → ((k : ℕ) → IsApart (nth no_record rs k)) → IsApart r → (k : ℕ) → IsApart (nth no_record (put no_record rs i r) k)
apart-put rs i r old new k =
    elim (cases_eq k i) [
      | inl same ↦ rw (same, nth-put_same no_record rs i r) new
      | inr other ↦ rw (nth-put_other no_record rs i k r other) (old k)
    ]

-- ---- what a pass notes

point_once-apart : (o : Option ℕ) (b : Book) (id : ℕ) → AreApart b → AreApart (point_once b id o).book
unfolding point_once
point_once-apart (Some step) b id h = h
point_once-apart None b id h = apart-put b.records id _ h (h id)

point_once-refused : (o : Option ℕ) (b : Book) (id : ℕ) → (record_of (point_once b id o).book id).refused ≡ (record_of b id).refused
unfolding point_once
point_once-refused (Some step) b id = refl
point_once-refused None b id = ap (λ (r : TxRecord). r.refused) (nth-put_same no_record b.records id _)

ack_once-apart : (o : Option ℕ) (own : Bool) (b : Book) (id : ℕ) → AreApart b → ((record_of b id).refused ≡ true → ⊥) → AreApart (ack_once b id own o).book
unfolding ack_once
ack_once-apart (Some step) own b id h unended = h
ack_once-apart None true b id h unended = apart-put b.records id _ h (λ refused. absurd (unended refused))
ack_once-apart None false b id h unended = h

-- what a pass acknowledges has an entry, so it was not refused
has_entry : (b : Book) (s : Stream) (number id : ℕ) → AreApart b → tx_of b s number ≡ Some id → (record_of b id).refused ≡ true → ⊥
has_entry b s number id h found refused =
    let f = tx_from-found s number 0 b.records id found in
    let place = f.at in
    let at : f.place ≡ id = omega arith in
    let is : is_entry s number (record_of b id).entry ≡ true = subst (λ (k : ℕ). is_entry s number (record_of b k).entry ≡ true) at f.is in
    let e = is_entry-node s number (record_of b id).entry is in
    let none = (h id refused).0 in
    absurd (cc (e.1, none))

pass_found-apart : (o : Option ℕ) (b : Book) (own : Bool) → AreApart b → ((id : ℕ) → o ≡ Some id → (record_of b id).refused ≡ true → ⊥) → AreApart (pass_tx b own o).book
unfolding pass_tx
pass_found-apart None b own h unended = h
pass_found-apart (Some id) b own h unended =
    let c = (point_once b id (record_of b id).point).book in
    ack_once-apart (record_of c id).acked own c id (point_once-apart (record_of b id).point b id h)
    (λ refused. unended id refl (sym (point_once-refused (record_of b id).point b id) ∙ refused))

pass_tx-apart : (b : Book) (own : Bool) (s : Stream) (number : ℕ) → AreApart b → AreApart (pass_tx b own (tx_of b s number)).book
pass_tx-apart b own s number h = pass_found-apart (tx_of b s number) b own h (λ id found. has_entry b s number id h found)

-- ---- what a read notes

read-apart : (b : Book) (id : ℕ) (reply : Reply) → (record_of b id).refused ≡ false → AreApart b → AreApart (book_read b id reply).book
read-apart b id reply unended h =
    let c = book_reply b id reply in
    let d = book_point c id in
    let first : (record_of c id).refused ≡ (record_of b id).refused = ap (λ (r : TxRecord). r.refused) (nth-put_same no_record b.records id (record (record_of b id) { reply = Some reply })) in
    let second : (record_of d id).refused ≡ (record_of c id).refused = ap (λ (r : TxRecord). r.refused) (nth-put_same no_record c.records id (record (record_of c id) { point = Some c.steps })) in
    let replied : AreApart c = apart-put b.records id _ h (h id) in
    let pointed : AreApart d = apart-put c.records id _ replied (replied id) in
    apart-put d.records id (record (record_of d id) { acked = Some d.steps }) pointed (λ refused. absurd (cc (first, second, unended, refused)))

-- ---- moves

none_acked : (o p : Option ℕ) → ((step : ℕ) → o ≡ Some step → p ≡ Some step) → p ≡ None → o ≡ None
none_acked None p h none = refl
none_acked (Some step) p h none = let is = h step refl in absurd (cc (is, none))

move-apart : (y z : RunState) (u : Witness) → DataInvariant y u → AreApart y.book → RunMove y z → AreApart z.book
move-apart y z u f h (plain move is txs book) = rw book h
move-apart y z u f h (stutters same txs book steps) = rw book h
move-apart y z u f h (begins n s id c named tx at in_slot within fresh free ch txs book) = rw book (apart-put y.book.records id _ h (h id))
move-apart y z u f h (reads n s c is reader clear ch txs book) =
    let booked = f.booked in rw book (read-apart y.book c.id _ (booked.current n s c is).4 h)
move-apart y z u f h (refuses n s c is reader ch txs book) =
    let booked = f.booked in
    let now = booked.current n s c is in
    rw book (apart-put y.book.records c.id _ h (λ _. (now.2, none_acked (record_of y.book c.id).acked (record_of y.book c.id).point (booked.acked_at c.id) now.3)))
move-apart y z u f h (commits_tx n s c within is writer clear ch txs book) =
    let booked = f.booked in
    let unended : (record_of y.book c.id).refused ≡ false = (booked.current n s c is).4 in
    rw book (apart-put y.book.records c.id _ h (λ refused. absurd (cc (unended, refused))))
move-apart y z u f h (passes_own_tx n s some ok ch txs book) = rw book (pass_tx-apart y.book true _ _ h)
move-apart y z u f h (passes_kept_tx n s out foreign some ok ch txs book) = rw book (pass_tx-apart y.book false _ _ h)

moves-apart : (y z : RunState) (u : Witness) → DataInvariant y u → AreApart y.book → RunMoves y z → AreApart z.book
moves-apart y z u f h (ended _) = h
moves-apart y z u f h (onward _ mid _ move more) =
    let next : HasDataInvariant mid = move-invariant y mid u f move in moves-apart mid z next.0 next.1 (move-apart y mid u f h move) more

-- ---- runs

run-apart : (c : Config) (txs : List TxDecl) (steps : List Step) (w : World) → w.config ≡ c → w.txs ≡ txs → IsReached w → AreApart w.book → All (StepFits c txs) steps → AreApart (run w steps).book
unfolding run
run-apart c txs [] w config same r h fits = h
run-apart c txs (s ∷ ss) w config same r h fits =
    let first : StepFits c txs s = All-head (StepFits c txs) s ss fits in
    let here : StepFits w.config w.txs s = rw (config, same) first in
    let moves = step_is_run_moves w s r.usual here in
    let moved : IsStep w (stepped w s) = step_is_moves w s txs r.usual (rw config first) in
    let kept : (stepped w s).txs ≡ w.txs = moves_txs (run_state w) (run_state (stepped w s)) moves in
    run-apart c txs ss (stepped w s) (moved.config ∙ config) (kept ∙ same) (step-reached c txs w s config same r first)
    (moves-apart (run_state w) (run_state (stepped w s)) r.witness r.data_invariant h moves) (All-tail (StepFits c txs) s ss fits)

no_records : (c : Config) (txs : List TxDecl) (id : ℕ) → record_of (start c txs).book id ≡ no_record
unfolding start
no_records c txs id = nth-none no_record (length txs) id

start-apart : (c : Config) (txs : List TxDecl) → AreApart (start c txs).book
start-apart c txs id refused = let none : no_record.refused ≡ true = rw (no_records c txs id) at refused in absurd cc

-- in each run what was refused is not acknowledged
pub refused-unacked : (c : Config) (txs : List TxDecl) (steps : List Step) (id : ℕ) → KeepsLimits c → FitTxs c 0 txs → All (StepFits c txs) steps
    → (record_of (run (start c txs) steps).book id).refused ≡ true → (record_of (run (start c txs) steps).book id).acked ≡ None
refused-unacked c txs steps id keeps fit fits refused =
    (run-apart c txs steps (start c txs) (start-config c txs) (start-txs c txs) (start-reached c txs keeps fit) (start-apart c txs) fits id refused).1
