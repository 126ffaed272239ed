-- A slot's transaction: begun, read, refused, or committed.
use Rattle.std.specs.Prelude.{ℕ, ◌≡◌, ◌≢◌, ◌+◌, ◌<◌, true, List, [], ◌∷◌, ◌++◌, length, take, map, Option, Some, None}
use Rattle.std.proofs.Common.{arith, refl, ap, ◌∙◌, subst, length-append}
use Rattle.std.proofs.lemmas.Bool.{cond_both}
use Rattle.zeus_base.specs.Nodes.{has, without, meet}
use Rattle.zeus_packet.specs.declared.letter.Body.TheVariants.{RInv}
use Rattle.zeus_packet.specs.declared.letter.Letter.{Letter}
use Rattle.zeus_packet.specs.declared.place.Want.{Want}
use Rattle.zeus_packet.specs.declared.write.Write.{Write}
use Rattle.zeus_txn.specs.declared.ops.Op.{Op}
use Rattle.zeus_txn.specs.declared.reply.Ran.{Ran}
use Rattle.zeus_txn.specs.Ops.{named, is_write}
use Rattle.zeus_model.specs.In.{In, here, there}
use Rattle.zeus_model.specs.Tables.{nth}
use Rattle.zeus_model.specs.declared.answer.Begin.{Begin}
use Rattle.zeus_model.specs.declared.answer.Begin.TheVariants.{Stopped}
use Rattle.zeus_model.specs.declared.answer.Tried.{Tried}
use Rattle.zeus_model.specs.declared.answer.Tried.TheVariants.{Stopped as TryStopped, Nothing, NoCopy, NotValid, Read, PipeFull, NotOwner, Held, WornOut, Committed}
use Rattle.zeus_model.specs.declared.state.Current.{Current}
use Rattle.zeus_model.specs.declared.state.Kept.{Kept}
use Rattle.zeus_model.specs.declared.state.Pending.{Pending}
use Rattle.zeus_model.specs.State.{Node, Slot, slot, own_stream, next_number}
use Rattle.zeus_model.specs.Act.{Did, just, sends, letter, to_each}
use Rattle.zeus_model.specs.Commit.{as_kept, no_kept, advance_own}
use Rattle.zeus_model.specs.Local.{with_current, begin_free, begin, driver, ask, requests, not_owned, not_copied, Hindrance, Missing, Unready, hindrance, run_here, read_missing, read_row, write_cause, new_writes, replicas_of, invalidation, committed, commit_entry, commit, write_row, try_current, try_slot}
use Rattle.machine_moves.specs.SystemState.{SystemState}
use Rattle.machine_moves.specs.Move.{own_kept, entry_letter, request, own_entry, IsTellable, turns, commits}
use Rattle.machine_moves.proofs.Within.{slot-with_slot_same, Keeps-with_slot, Keeps-committed}
use Rattle.machine_moves.proofs.Steady.{IsSteady}
use Rattle.machine_moves.proofs.Reach.{Reaches, Answered, IsReady, known, still_reaches, quiet_reaches, cut_none, cut_tells, quiet_then_tells, did_then_reaches}
use Rattle.machine_moves.proofs.Passing.{to_each-each, meet-left, meet-right, without-other, advance_own-reached}

-- the slot's current transaction comes or goes
pub turns_reaches : (s : SystemState) (n i k : ℕ) (c : Option Current) → IsReady s n → Reaches s n (with_current (s.node n) i c) (take k [])
turns_reaches s n i k c ready =
    let after = with_current (s.node n) i c in
    cut_none s n after k (quiet_reaches s n after ready.live (Keeps-with_slot (s.node n) i _) (λ ch. turns n i c ch))

-- ---- begin

begin_free-answered : (other : Option Current) (s : SystemState) (n i k : ℕ) (c : Current) → IsReady s n → Answered s n k (begin_free (s.node n) i c other)
unfolding begin_free
begin_free-answered None s n i k c ready = turns_reaches s n i k (Some c) ready
begin_free-answered (Some other) s n i k c ready = cut_none s n (s.node n) k (still_reaches s n)

-- in a steady system moves lead to what a begin makes of a node
pub begin-answered : (s : SystemState) (n i id k : ℕ) (tx : List Op) → IsSteady s → Answered s n k (begin (s.node n) i id tx)
unfolding begin
begin-answered s n i id k tx steady =
    let m = s.node n in
    let c : Current = record { id = id; tx = tx } in
    cond_both m.stopped (just m Stopped) (begin_free m i c (slot m i).current) (λ (d : Did Begin). Answered s n k d)
    (λ _. cut_none s n m k (still_reaches s n))
    (λ live. begin_free-answered (slot m i).current s n i k c record { steady = steady; live = live })

-- ---- requests

ask_telling : (to : Option ℕ) (m : Node) (want : Want) (xs : List ℕ) (l : Letter) → In l (ask m want xs to) → IsTellable m l
unfolding ask
ask_telling None m want xs l i = elim i [ ]
ask_telling (Some d) m want [] l i = elim i [ ]
ask_telling (Some d) m want (x ∷ xs) l (here _ _ e) = rw e (request d x want)
ask_telling (Some d) m want (x ∷ xs) l (there _ _ i) = ask_telling (Some d) m want xs l i

-- each request that a node sends for its objects is a letter that it may send without a change of its state
pub requests_telling : (m : Node) (want : Want) (xs : List ℕ) (l : Letter) → In l (requests m want xs) → IsTellable m l
requests_telling m want xs l i = ask_telling (driver m) m want xs l i

-- ---- a read

read_missing-answered : (degree : Option ℕ) (s : SystemState) (n i k : ℕ) (c : Current) (x : ℕ) → IsReady s n → Answered s n k (read_missing (s.node n) i c x degree)
unfolding read_missing
read_missing-answered None s n i k c x ready = turns_reaches s n i k None ready
read_missing-answered (Some degree) s n i k c x ready = cut_tells s n k _ ready.live (requests_telling (s.node n) _ (not_copied (s.node n) (named c.tx)))

read_row-answered : (h : Option Hindrance) (s : SystemState) (n i k : ℕ) (c : Current) → IsReady s n → Answered s n k (read_row (s.node n) i c h)
unfolding read_row
read_row-answered None s n i k c ready = turns_reaches s n i k None ready
read_row-answered (Some (Missing x)) s n i k c ready = read_missing-answered (s.node n).degree s n i k c x ready
read_row-answered (Some (Unready x state)) s n i k c ready = cut_none s n (s.node n) k (still_reaches s n)

-- ---- a commit

-- the letter of an own entry at a place, by what is known of the entry
pub own_entry_at : (m : Node) (to i j number done : ℕ) (kept : Kept) → j < length (slot m i).pending → nth no_kept (own_kept m i) j ≡ kept → (slot m i).done ≡ done → done + j ≡ number → has to kept.followers ≡ true → has to m.members ≡ true → to ≢ m.me → IsTellable m (letter m to (RInv (entry_letter (own_stream m i) number done kept)))
own_entry_at m to i j number done kept less is first at follower member other =
    subst (λ (l : Letter). IsTellable m l)
    (λ t. letter m to (RInv (entry_letter (own_stream m i) ((ap (λ (d : ℕ). d + j) first ∙ at) t) (first t) (is t))))
    (own_entry to i j less (rw is follower) member other)

nth-map_last : {A B : Type 0} (d : B) (f : A → B) (xs : List A) (y : A) → nth d (map f (xs ++ y ∷ [])) (length xs) ≡ f y
unfolding nth
nth-map_last d f [] y = refl
nth-map_last d f (x ∷ xs) y = nth-map_last d f xs y

-- the new entry is the last of its stream
abbrev new_pending : Current → Ran → List ℕ → List Write → Pending
new_pending c ran followers writes = record { id = c.id; reply = ran.reply; named = named c.tx; followers = followers; writes = writes; acks = [] }

committed-slot : (m : Node) (i : ℕ) (c : Current) (ran : Ran) (followers : List ℕ) (writes : List Write) → slot (committed m i c ran followers writes) i ≡ record { current = None; done = (slot m i).done; pending = (slot m i).pending ++ new_pending c ran followers writes ∷ [] }
committed-slot m i c ran followers writes =
    slot-with_slot_same m i record { current = None; done = (slot m i).done; pending = (slot m i).pending ++ new_pending c ran followers writes ∷ [] }

committed-entry : (m : Node) (i : ℕ) (c : Current) (ran : Ran) (followers : List ℕ) (writes : List Write) → nth no_kept (own_kept (committed m i c ran followers writes) i) (length (slot m i).pending) ≡ as_kept (new_pending c ran followers writes)
unfolding own_kept
committed-entry m i c ran followers writes =
    rw (committed-slot m i c ran followers writes) (nth-map_last no_kept as_kept (slot m i).pending (new_pending c ran followers writes))

committed-length : (m : Node) (i : ℕ) (c : Current) (ran : Ran) (followers : List ℕ) (writes : List Write) → length (slot m i).pending < length (slot (committed m i c ran followers writes) i).pending
committed-length m i c ran followers writes =
    rw (committed-slot m i c ran followers writes) (omega (arith, length-append (slot m i).pending (new_pending c ran followers writes ∷ [])))

-- each entry that a commit sends is a letter that the node may send once it has committed
pub commit_telling : (m : Node) (i : ℕ) (c : Current) (ran : Ran) (replicas : List ℕ) (writes : List Write) (l : Letter) → In l (to_each m (meet (without m.me replicas) m.members) (RInv (invalidation m i (without m.me replicas) writes))) → IsTellable (committed m i c ran (without m.me replicas) writes) l
commit_telling m i c ran replicas writes =
    let followers = without m.me replicas in
    let after = committed m i c ran followers writes in
    let kept : Kept = as_kept (new_pending c ran followers writes) in
    let first : (slot after i).done ≡ (slot m i).done = ap (λ (l : Slot). l.done) (committed-slot m i c ran followers writes) in
    to_each-each (IsTellable after) m (meet followers m.members) (RInv (invalidation m i followers writes))
    (λ to h.
    let follower : has to followers ≡ true = meet-left to followers m.members h in
    own_entry_at after to i (length (slot m i).pending) (next_number (slot m i)) (slot m i).done kept (committed-length m i c ran followers writes) (committed-entry m i c ran followers writes) first refl
    follower (meet-right to followers m.members h) (without-other to m.me replicas follower))

commits_reaches : (s : SystemState) (n self i : ℕ) (c : Current) → self ≡ n → IsReady s n → i < s.config.slots → (slot (s.node n) i).current ≡ Some c → write_cause (s.node n) i c.tx ≡ None → Reaches s n (committed (s.node n) i c (run_here (s.node n) c.tx) (without self (replicas_of (s.node n) (new_writes (s.node n) (run_here (s.node n) c.tx).writes))) (new_writes (s.node n) (run_here (s.node n) c.tx).writes)) []
commits_reaches s n self i c same ready within is none =
    let m = s.node n in
    let ran : Ran = run_here m c.tx in
    let writes : List Write = new_writes m ran.writes in
    let after = committed m i c ran (without n (replicas_of m writes)) writes in
    rw same (quiet_reaches s n after ready.live (Keeps-committed m i c ran (without n (replicas_of m writes)) writes) (λ ch. commits n i c within is none ch))

commit-answered : (s : SystemState) (n i k : ℕ) (c : Current) → IsReady s n → i < s.config.slots → (slot (s.node n) i).current ≡ Some c → write_cause (s.node n) i c.tx ≡ None → Answered s n k (commit (s.node n) i c (run_here (s.node n) c.tx))
unfolding commit commit_entry
commit-answered s n i k c ready within is none =
    let m = s.node n in
    let me = known s n ready in
    let ran : Ran = run_here m c.tx in
    let writes : List Write = new_writes m ran.writes in
    let followers = without m.me (replicas_of m writes) in
    let after = committed m i c ran followers writes in
    let letters = to_each m (meet followers m.members) (RInv (invalidation m i followers writes)) in
    did_then_reaches s n k (sends after (Committed c.id (next_number (slot m i)) ran.reply) letters) (λ x. advance_own x i) ready
    (quiet_then_tells s n k after letters ready (commits_reaches s n m.me i c me.me ready within is none) (commit_telling m i c ran (replicas_of m writes) writes))
    (λ t j rt. advance_own-reached t n i j rt)

-- ---- a try

write_row-answered : (cause : Option Tried) (s : SystemState) (n i k : ℕ) (c : Current) → IsReady s n → i < s.config.slots → (slot (s.node n) i).current ≡ Some c → write_cause (s.node n) i c.tx ≡ cause → Answered s n k (write_row (s.node n) i c cause)
unfolding write_row
write_row-answered None s n i k c ready within is cause = commit-answered s n i k c ready within is cause
write_row-answered (Some (NotOwner x)) s n i k c ready within is cause = cut_tells s n k _ ready.live (requests_telling (s.node n) _ (not_owned (s.node n) (named c.tx)))
write_row-answered (Some TryStopped) s n i k c ready within is cause = cut_none s n (s.node n) k (still_reaches s n)
write_row-answered (Some Nothing) s n i k c ready within is cause = cut_none s n (s.node n) k (still_reaches s n)
write_row-answered (Some (NoCopy id x)) s n i k c ready within is cause = cut_none s n (s.node n) k (still_reaches s n)
write_row-answered (Some (NotValid x state)) s n i k c ready within is cause = cut_none s n (s.node n) k (still_reaches s n)
write_row-answered (Some (Read id reply)) s n i k c ready within is cause = cut_none s n (s.node n) k (still_reaches s n)
write_row-answered (Some PipeFull) s n i k c ready within is cause = cut_none s n (s.node n) k (still_reaches s n)
write_row-answered (Some (Held x other)) s n i k c ready within is cause = cut_none s n (s.node n) k (still_reaches s n)
write_row-answered (Some WornOut) s n i k c ready within is cause = cut_none s n (s.node n) k (still_reaches s n)
write_row-answered (Some (Committed id number reply)) s n i k c ready within is cause = cut_none s n (s.node n) k (still_reaches s n)

try_current-answered : (current : Option Current) (s : SystemState) (n i k : ℕ) → IsReady s n → i < s.config.slots → (slot (s.node n) i).current ≡ current → Answered s n k (try_current (s.node n) i current)
unfolding try_current
try_current-answered None s n i k ready within is = cut_none s n (s.node n) k (still_reaches s n)
try_current-answered (Some c) s n i k ready within is =
    let m = s.node n in
    cond_both (is_write c.tx) (write_row m i c (write_cause m i c.tx)) (read_row m i c (hindrance m c.tx)) (λ (d : Did Tried). Answered s n k d)
    (λ _. write_row-answered (write_cause m i c.tx) s n i k c ready within is refl)
    (λ _. read_row-answered (hindrance m c.tx) s n i k c ready)

-- a slot's transaction is tried
pub try_slot-answered : (s : SystemState) (n i k : ℕ) → IsSteady s → i < s.config.slots → Answered s n k (try_slot (s.node n) i)
unfolding try_slot
try_slot-answered s n i k steady within =
    let m = s.node n in
    cond_both m.stopped (just m TryStopped) (try_current m i (slot m i).current) (λ (d : Did Tried). Answered s n k d)
    (λ _. cut_none s n m k (still_reaches s n))
    (λ live. try_current-answered (slot m i).current s n i k record { steady = steady; live = live } within refl)
