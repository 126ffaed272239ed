-- A slot's transaction as moves of a run: begun, read, refused, or committed.
use Rattle.std.specs.Prelude.{ℕ, ◌≡◌, ◌-◌, ◌<◌, true, false, List, [], length, take, Option, Some, None}
use Rattle.std.proofs.Common.{refl, sym, subst}
use Rattle.std.proofs.lemmas.Bool.{cond_both}
use Rattle.zeus_base.specs.Nodes.{without, meet}
use Rattle.zeus_packet.specs.declared.letter.Body.TheVariants.{RInv}
use Rattle.zeus_packet.specs.declared.letter.Letter.{Letter}
use Rattle.zeus_packet.specs.declared.write.Write.{Write}
use Rattle.zeus_txn.specs.declared.reply.Ran.{Ran}
use Rattle.zeus_txn.specs.Ops.{named, is_write}
use Rattle.zeus_model.specs.Tables.{nth}
use Rattle.zeus_model.specs.declared.answer.Begin.{Begin}
use Rattle.zeus_model.specs.declared.answer.Begin.TheVariants.{Stopped}
use Rattle.zeus_model.specs.declared.answer.Tried.{Tried}
use Rattle.zeus_model.specs.declared.answer.Tried.TheVariants.{Stopped as TryStopped, Nothing, NoCopy, NotValid, Read, PipeFull, NotOwner, Held, WornOut, Committed}
use Rattle.zeus_model.specs.declared.state.Current.{Current}
use Rattle.zeus_model.specs.State.{Node, slot, own_stream, next_number}
use Rattle.zeus_model.specs.Act.{Did, just, to_each}
use Rattle.zeus_model.specs.Book.{Book, record_of, book_begin, book_commit, book_tried, book_passes, in_stream_order}
use Rattle.zeus_model.specs.Commit.{advance_own}
use Rattle.zeus_model.specs.Local.{with_current, begin_free, begin, not_owned, not_copied, Hindrance, Missing, Unready, hindrance, run_here, read_missing, read_row, write_cause, new_writes, replicas_of, invalidation, committed, commit_entry, commit, write_row, try_current, try_slot}
use Rattle.zeus_model.specs.World.{no_tx, book_begun}
use Rattle.machine_moves.specs.Move.{turns, commits}
use Rattle.machine_moves.proofs.Lists.{take-none, take-append}
use Rattle.machine_moves.proofs.Within.{Keeps-with_slot, Keeps-committed}
use Rattle.machine_moves.proofs.Steady.{IsSteady}
use Rattle.machine_moves.proofs.Reach.{IsReady, known, still_reaches, cut_none, cut_tells}
use Rattle.machine_moves.proofs.Trying.{requests_telling, commit_telling}
use Rattle.data_safety.specs.RunState.{RunState}
use Rattle.data_safety.specs.RunMoves.{begins, reads, refuses, commits_tx}
use Rattle.data_safety.proofs.steps.StepReach.{told_as, Arrives, plain_arrives, quiet_arrives, then_arrives, tells_arrives}
use Rattle.data_safety.proofs.steps.StepFrames.{IsObstacle, write_cause-obstructs}
use Rattle.data_safety.proofs.steps.StepFinish.{round_arrives, turn_round}
use Rattle.data_safety.proofs.passes.OrderTurns.{own_turn}
use Rattle.data_safety.proofs.passes.OrderFinish.{IsAny}

-- ---- begin

-- a declared transaction that is not begun
pub record MayBegin (y : RunState) (n i id : ℕ) : Type 0 where
  pub node : (nth no_tx y.txs id).node ≡ n
  pub slot : (nth no_tx y.txs id).slot ≡ i
  pub within : id < length y.txs
  pub fresh : (record_of y.book id).begun ≡ None

abbrev BeginArrives : RunState → ℕ → ℕ → Did Begin → Type 0
BeginArrives y n id d = Arrives y n d.node [] (book_begun y.book id d.answer).book

-- where nothing is done, the run stays as it is, with at most k of no letters sent
pub idle_arrives : (y : RunState) (n k : ℕ) → Arrives y n (y.system.node n) (take k []) y.book
idle_arrives y n k = plain_arrives y n (y.system.node n) (take k []) (cut_none y.system n (y.system.node n) k (still_reaches y.system n))

begin_free_arrives : (other : Option Current) (y : RunState) (n i id : ℕ) → IsReady y.system n → MayBegin y n i id → (slot (y.system.node n) i).current ≡ other
    → BeginArrives y n id (begin_free (y.system.node n) i record { id = id; tx = (nth no_tx y.txs id).tx } other)
unfolding begin_free book_begun
begin_free_arrives (Some other) y n i id ready may is = idle_arrives y n 0
begin_free_arrives None y n i id ready may is =
    let m = y.system.node n in
    let c : Current = record { id = id; tx = (nth no_tx y.txs id).tx } in
    quiet_arrives y n (with_current m i (Some c)) (book_begin y.book id) ready.live (Keeps-with_slot m i _) (λ ch. turns n i (Some c) ch)
    (λ ch. begins n i id c refl refl may.node may.slot may.within may.fresh is ch refl refl)

-- if a slot may begin a declared transaction, then its begin is moves of the run, with what the book says of it
pub begin_arrives : (y : RunState) (n i id : ℕ) → IsSteady y.system → MayBegin y n i id → BeginArrives y n id (begin (y.system.node n) i id (nth no_tx y.txs id).tx)
unfolding begin book_begun
begin_arrives y n i id steady may =
    let m = y.system.node n in
    cond_both m.stopped (just m Stopped) (begin_free m i record { id = id; tx = (nth no_tx y.txs id).tx } (slot m i).current) (λ (d : Did Begin). BeginArrives y n id d)
    (λ _. idle_arrives y n 0)
    (λ live. begin_free_arrives (slot m i).current y n i id record { steady = steady; live = live } may refl)

-- ---- try

-- a try is moves of the run that leave the book with its answer and then its passes
abbrev pub TryArrives : RunState → ℕ → ℕ → ℕ → Option ℕ → Did Tried → Type 0
TryArrives y n i k degree d =
    Arrives y n d.node (take k d.sent) (book_passes (book_tried y.book record { node = n; slot = i } degree d.answer).book n (in_stream_order d.passed)).book

-- nothing is sent
cut_arrives : (y : RunState) (n k : ℕ) (after : Node) (book : Book) → Arrives y n after [] book → Arrives y n after (take k []) book
cut_arrives y n k after book r = rw (take-none {A = Letter} k) r

read_missing_arrives : (degree : Option ℕ) (y : RunState) (n i k : ℕ) (c : Current) (x : ℕ) → IsReady y.system n → (slot (y.system.node n) i).current ≡ Some c → is_write c.tx ≡ false → TryArrives y n i k degree (read_missing (y.system.node n) i c x degree)
unfolding read_missing book_tried book_passes in_stream_order
read_missing_arrives None y n i k c x ready is reader =
    let m = y.system.node n in
    cut_arrives y n k (with_current m i None) _
    (quiet_arrives y n (with_current m i None) _ ready.live (Keeps-with_slot m i _) (λ ch. turns n i None ch) (λ ch. refuses n i c is reader ch refl refl))
read_missing_arrives (Some degree) y n i k c x ready is reader =
    plain_arrives y n (y.system.node n) _ (cut_tells y.system n k _ ready.live (requests_telling (y.system.node n) _ (not_copied (y.system.node n) (named c.tx))))

read_row_arrives : (h : Option Hindrance) (degree : Option ℕ) (y : RunState) (n i k : ℕ) (c : Current) → IsReady y.system n → (slot (y.system.node n) i).current ≡ Some c → is_write c.tx ≡ false → (y.system.node n).degree ≡ degree → hindrance (y.system.node n) c.tx ≡ h
    → TryArrives y n i k degree (read_row (y.system.node n) i c h)
unfolding read_row book_tried book_passes in_stream_order
read_row_arrives None degree y n i k c ready is reader same none =
    let m = y.system.node n in
    cut_arrives y n k (with_current m i None) _
    (quiet_arrives y n (with_current m i None) _ ready.live (Keeps-with_slot m i _) (λ ch. turns n i None ch) (λ ch. reads n i c is reader none ch refl refl))
read_row_arrives (Some (Missing x)) degree y n i k c ready is reader same none =
    subst (λ (d : Option ℕ). TryArrives y n i k degree (read_missing (y.system.node n) i c x d)) (sym same) (read_missing_arrives degree y n i k c x ready is reader)
read_row_arrives (Some (Unready x state)) degree y n i k c ready is reader same none = idle_arrives y n k

-- ---- a commit

commit_moves : (y : RunState) (n self i : ℕ) (c : Current) → self ≡ n → IsReady y.system n → i < y.system.config.slots → (slot (y.system.node n) i).current ≡ Some c → is_write c.tx ≡ true → write_cause (y.system.node n) i c.tx ≡ None
    → Arrives y n (committed (y.system.node n) i c (run_here (y.system.node n) c.tx) (without self (replicas_of (y.system.node n) (new_writes (y.system.node n) (run_here (y.system.node n) c.tx).writes))) (new_writes (y.system.node n) (run_here (y.system.node n) c.tx).writes)) []
    (book_commit y.book record { node = n; slot = i } c.id (next_number (slot (y.system.node n) i)) (run_here (y.system.node n) c.tx).reply)
commit_moves y n self i c same ready within is writer none =
    let m = y.system.node n in
    let ran : Ran = run_here m c.tx in
    let writes : List Write = new_writes m ran.writes in
    rw same
    (quiet_arrives y n (committed m i c ran (without n (replicas_of m writes)) writes) _ ready.live (Keeps-committed m i c ran (without n (replicas_of m writes)) writes)
    (λ ch. commits n i c within is none ch) (λ ch. commits_tx n i c within is writer none ch refl refl))

-- an own stream advances
own_arrives : (y : RunState) (n i k : ℕ) → IsReady y.system n → Arrives y n (advance_own (y.system.node n) i).node (take k (advance_own (y.system.node n) i).sent) (book_passes y.book n (in_stream_order (advance_own (y.system.node n) i).passed)).book
own_arrives y n i k ready =
    let m = y.system.node n in
    round_arrives IsAny y n k (advance_own m i) ready (turn_round m (advance_own m i) (own_stream m i) (own_turn m i))

commit_arrives : (y : RunState) (n i k : ℕ) (degree : Option ℕ) (c : Current) → IsReady y.system n → i < y.system.config.slots → (slot (y.system.node n) i).current ≡ Some c → is_write c.tx ≡ true → write_cause (y.system.node n) i c.tx ≡ None → TryArrives y n i k degree (commit (y.system.node n) i c (run_here (y.system.node n) c.tx))
unfolding commit commit_entry book_tried
commit_arrives y n i k degree c ready within is writer none =
    let m = y.system.node n in
    let me = known y.system n ready in
    let ran : Ran = run_here m c.tx in
    let writes : List Write = new_writes m ran.writes in
    let followers = without m.me (replicas_of m writes) in
    let after = committed m i c ran followers writes in
    let letters = to_each m (meet followers m.members) (RInv (invalidation m i followers writes)) in
    let book : Book = book_commit y.book record { node = n; slot = i } c.id (next_number (slot m i)) ran.reply in
    let told : Arrives y n after (take k letters) book = then_arrives y n after after [] (take k letters) book book ready (commit_moves y n m.me i c me.me ready within is writer none)
    (λ t rt b. tells_arrives (told_as y t book) n k after letters rt.live b.node (commit_telling m i c ran (replicas_of m writes) writes)) in
    rw (take-append k letters (advance_own after i).sent)
    (then_arrives y n after (advance_own after i).node (take k letters) (take (k - length letters) (advance_own after i).sent) book _ ready told
    (λ t rt b.
    subst (λ (x : Node). Arrives (told_as y t book) n (advance_own x i).node (take (k - length letters) (advance_own x i).sent) (book_passes book n (in_stream_order (advance_own x i).passed)).book) b.node
    (own_arrives (told_as y t book) n i (k - length letters) rt)))

write_row_arrives : (cause : Option Tried) (y : RunState) (n i k : ℕ) (degree : Option ℕ) (c : Current) → IsReady y.system n → i < y.system.config.slots → (slot (y.system.node n) i).current ≡ Some c → is_write c.tx ≡ true → write_cause (y.system.node n) i c.tx ≡ cause
    → ((a : Tried) → cause ≡ Some a → IsObstacle a) → TryArrives y n i k degree (write_row (y.system.node n) i c cause)
unfolding write_row book_tried book_passes in_stream_order IsObstacle
write_row_arrives None y n i k degree c ready within is writer cause ob = commit_arrives y n i k degree c ready within is writer cause
write_row_arrives (Some (NotOwner x)) y n i k degree c ready within is writer cause ob =
    plain_arrives y n (y.system.node n) _ (cut_tells y.system n k _ ready.live (requests_telling (y.system.node n) _ (not_owned (y.system.node n) (named c.tx))))
write_row_arrives (Some TryStopped) y n i k degree c ready within is writer cause ob = idle_arrives y n k
write_row_arrives (Some Nothing) y n i k degree c ready within is writer cause ob = idle_arrives y n k
write_row_arrives (Some (NoCopy id x)) y n i k degree c ready within is writer cause ob = absurd (ob (NoCopy id x) refl)
write_row_arrives (Some (NotValid x state)) y n i k degree c ready within is writer cause ob = idle_arrives y n k
write_row_arrives (Some (Read id reply)) y n i k degree c ready within is writer cause ob = absurd (ob (Read id reply) refl)
write_row_arrives (Some PipeFull) y n i k degree c ready within is writer cause ob = idle_arrives y n k
write_row_arrives (Some (Held x other)) y n i k degree c ready within is writer cause ob = idle_arrives y n k
write_row_arrives (Some WornOut) y n i k degree c ready within is writer cause ob = idle_arrives y n k
write_row_arrives (Some (Committed id number reply)) y n i k degree c ready within is writer cause ob = absurd (ob (Committed id number reply) refl)

-- ---- a slot is tried

try_current_arrives : (current : Option Current) (y : RunState) (n i k : ℕ) (degree : Option ℕ) → IsReady y.system n → i < y.system.config.slots → (y.system.node n).degree ≡ degree → (slot (y.system.node n) i).current ≡ current → TryArrives y n i k degree (try_current (y.system.node n) i current)
unfolding try_current book_tried book_passes in_stream_order
try_current_arrives None y n i k degree ready within same is = idle_arrives y n k
try_current_arrives (Some c) y n i k degree ready within same is =
    let m = y.system.node n in
    cond_both (is_write c.tx) (write_row m i c (write_cause m i c.tx)) (read_row m i c (hindrance m c.tx)) (λ (d : Did Tried). TryArrives y n i k degree d)
    (λ writer. write_row_arrives (write_cause m i c.tx) y n i k degree c ready within is writer refl (write_cause-obstructs m i c.tx))
    (λ reader. read_row_arrives (hindrance m c.tx) degree y n i k c ready is reader same refl)

-- in a steady system a slot's try is moves of the run, with what the book says of it
pub try_arrives : (y : RunState) (n i k : ℕ) → IsSteady y.system → i < y.system.config.slots → TryArrives y n i k y.system.config.degree (try_slot (y.system.node n) i)
unfolding try_slot book_tried book_passes in_stream_order
try_arrives y n i k steady within =
    let m = y.system.node n in
    cond_both m.stopped (just m TryStopped) (try_current m i (slot m i).current) (λ (d : Did Tried). TryArrives y n i k y.system.config.degree d)
    (λ _. idle_arrives y n k)
    (λ live.
    let ready : IsReady y.system n = record { steady = steady; live = live } in
    let me = known y.system n ready in
    try_current_arrives (slot m i).current y n i k y.system.config.degree ready within me.degree refl)
