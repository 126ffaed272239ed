-- What passes from the front of a stream, by what a node has of it alone.
use Rattle.std.proofs.Common.{ℕ, zero, suc, ◌≡◌, ◌≤◌, ◌+◌, ◌-◌, Bool, true, false, nat_lt, List, [], ◌∷◌, Option, length, take, drop, map, refl, sym, ap, ◌∙◌, arith}
use Rattle.std.proofs.lemmas.Bool.{eq-eqb, ltb-false, ne_eqb, lt-ltb, le-ltb}
use Rattle.zeus_base.specs.Nodes.{meet, without}
use Rattle.zeus_base.specs.TableLaws.{nth-put_same}
use Rattle.zeus_base.specs.declared.order.Stream.{Stream}
use Rattle.zeus_packet.specs.declared.letter.Body.{Body}
use Rattle.zeus_packet.specs.declared.letter.Body.TheVariants.{RVal}
use Rattle.zeus_model.specs.declared.state.Copy.{Copy}
use Rattle.zeus_model.specs.declared.state.Kept.{Kept}
use Rattle.zeus_model.specs.declared.state.Pending.{Pending}
use Rattle.zeus_model.specs.Act.{to_each}
use Rattle.zeus_model.specs.Commit.{advance_kept, advance_kept_by, advance_own, advance_own_by, as_kept, each_write, followers_of, passes_at, passing, pass_kept, pass_own, validated, writes_of}
use Rattle.zeus_model.specs.State.{Node, Slot, StreamLog, log, no_slot, own_stream, slot}
use Rattle.zeus_model.specs.Tables.{front}
use Rattle.commit_pipeline.specs.Pipes.{Waiting}
use Rattle.follower_log.specs.StreamLaws.{log_at-with_log_at}
use Rattle.follower_log.specs.Streams.{log_at}
use Rattle.reliable_commit.specs.Advancing.{IsMemberWith, IsOwnWith, passed_by, told_of}
use Rattle.reliable_commit.specs.Following.{raised_copies, raised_logs}
use Rattle.reliable_commit.specs.declared.advance.Advance.{Advance}

-- ---- how many entries pass

-- as many entries of a node's own stream pass as stand in front that all their member followers have acknowledged
pub own_passing : (n : Node) (s k : ℕ) (cs : List (Option Copy)) (w : Waiting) (me : ℕ) (members : List ℕ) → IsOwnWith n s cs w me members → k ≡ front (passes_at me members) (map as_kept w.pending) → passing n (map as_kept (slot n s).pending) ≡ k
own_passing n s k cs w me members h is =
    rw (h.me, h.members, h.pending) (sym is)

-- as many stored entries of another node's stream pass as stand in front that all their member followers have acknowledged
pub kept_passing : (n : Node) (s : Stream) (k : ℕ) (cs : List (Option Copy)) (ls : List (List StreamLog)) (me : ℕ) (members : List ℕ) → IsMemberWith n cs ls me members → k ≡ front (passes_at me members) (log_at ls s).kept → passing n (log n s).kept ≡ k
kept_passing n s k cs ls me members h is =
    rw (h.node.me, h.members, h.node.logs) (sym is)

-- ---- letters of the node after the pass

to_each-same : (n m : Node) (tos : List ℕ) (body : Body) → m.me ≡ n.me → m.epoch ≡ n.epoch → to_each m tos body ≡ to_each n tos body
unfolding to_each
to_each-same n m [] body e f = refl
to_each-same n m (t ∷ ts) body e f = rw (e, f, to_each-same n m ts body e f) refl

told_none : (n : Node) (me : ℕ) (members : List ℕ) (ks : List Kept) (body : Body) → [] ≡ to_each n (told_of me members (take 0 ks)) body
unfolding to_each without meet followers_of
told_none n me members ks body = refl

length-take_few : {A : Type 0} (k : ℕ) (xs : List A) → k ≤ length xs → length (take k xs) ≡ k
length-take_few zero xs h = refl
length-take_few (suc k) [] h = absurd (omega arith)
length-take_few (suc k) (x ∷ xs) h = ap suc (length-take_few k xs (omega arith))

length-as_kept : (ps : List Pending) → length (map as_kept ps) ≡ length ps
length-as_kept [] = refl
length-as_kept (p ∷ ps) = ap suc (length-as_kept ps)

passed_none : (s : Stream) (a : Advance) (first : ℕ) → a.first ≡ first → a.after ≡ first + 0 → [] ≡ passed_by s a
passed_none s a first e f = rw (eq-eqb a.first a.after (omega arith)) refl

passed_some : (s : Stream) (a : Advance) (first k : ℕ) → a.first ≡ first → a.after ≡ first + suc k → record { stream = s; first = first; after = first + suc k } ∷ [] ≡ passed_by s a
passed_some s a first k e f = rw (ne_eqb a.first a.after (λ g. omega arith), e, f) refl

-- ---- an own slot

-- the first entries of a slot pass, and so many are told of
pub record IsAdvance (n : Node) (s k : ℕ) (a : Advance) : Type 0 where
  pub few : k ≤ length (slot n s).pending
  pub first : a.first ≡ (slot n s).done
  pub after : a.after ≡ (slot n s).done + k
  pub tell : a.tell ≡ told_of n.me n.members (take k (map as_kept (slot n s).pending))

own_letters-by : (n : Node) (s k : ℕ) (a : Advance) → IsAdvance n s k a → (advance_own_by n s k).sent ≡ to_each n a.tell (RVal (own_stream n s) a.after)
unfolding advance_own_by
own_letters-by n s zero a h = rw h.tell (told_none n n.me n.members (map as_kept (slot n s).pending) (RVal (own_stream n s) a.after))
own_letters-by n s (suc k) a h =
    let size : length (take (suc k) (map as_kept (slot n s).pending)) ≡ suc k =
    length-take_few (suc k) (map as_kept (slot n s).pending) (rw (length-as_kept (slot n s).pending) h.few)
    in
    rw (h.tell, h.after, size)
    (to_each-same n (pass_own n s (suc k)) (told_of n.me n.members (take (suc k) (map as_kept (slot n s).pending))) (RVal (own_stream n s) ((slot n s).done + suc k)) refl refl)

own_passed-by : (n : Node) (s k : ℕ) (a : Advance) → IsAdvance n s k a → (advance_own_by n s k).passed ≡ passed_by (own_stream n s) a
unfolding advance_own_by
own_passed-by n s zero a h = passed_none (own_stream n s) a (slot n s).done h.first h.after
own_passed-by n s (suc k) a h =
    let size : length (take (suc k) (map as_kept (slot n s).pending)) ≡ suc k =
    length-take_few (suc k) (map as_kept (slot n s).pending) (rw (length-as_kept (slot n s).pending) h.few)
    in
    rw size (passed_some (own_stream n s) a (slot n s).done k h.first h.after)

own_copies-by : (n : Node) (s k : ℕ) → each_write validated n.copies (writes_of (take k (map as_kept (slot n s).pending))) ≡ (advance_own_by n s k).node.copies
unfolding advance_own_by each_write writes_of
own_copies-by n s zero = refl
own_copies-by n s (suc k) = refl

own_pending-by : (n : Node) (s k : ℕ) → drop k (slot n s).pending ≡ (slot (advance_own_by n s k).node s).pending
unfolding advance_own_by
own_pending-by n s zero = refl
own_pending-by n s (suc k) =
    ap (λ (l : Slot). l.pending) (sym (nth-put_same no_slot n.slots s record { current = (slot n s).current; done = (slot n s).done + suc k; pending = drop (suc k) (slot n s).pending }))

own_done-by : (n : Node) (s k : ℕ) → (slot n s).done + k ≡ (slot (advance_own_by n s k).node s).done
unfolding advance_own_by
own_done-by n s zero = omega arith
own_done-by n s (suc k) =
    ap (λ (l : Slot). l.done) (sym (nth-put_same no_slot n.slots s record { current = (slot n s).current; done = (slot n s).done + suc k; pending = drop (suc k) (slot n s).pending }))

module _ (n : Node) (s k : ℕ) (count : passing n (map as_kept (slot n s).pending) ≡ k) where
  advanced_own : advance_own n s ≡ advance_own_by n s k
  unfolding advance_own
  advanced_own = ap (advance_own_by n s) count

  pub own_letters : (a : Advance) → IsAdvance n s k a → (advance_own n s).sent ≡ to_each n a.tell (RVal (own_stream n s) a.after)
  own_letters a h = rw advanced_own (own_letters-by n s k a h)

  pub own_passed : (a : Advance) → IsAdvance n s k a → (advance_own n s).passed ≡ passed_by (own_stream n s) a
  own_passed a h = rw advanced_own (own_passed-by n s k a h)

  pub own_copies : each_write validated n.copies (writes_of (take k (map as_kept (slot n s).pending))) ≡ (advance_own n s).node.copies
  own_copies = rw advanced_own (own_copies-by n s k)

  pub own_pending : drop k (slot n s).pending ≡ (slot (advance_own n s).node s).pending
  own_pending = rw advanced_own (own_pending-by n s k)

  pub own_done : (slot n s).done + k ≡ (slot (advance_own n s).node s).done
  own_done = rw advanced_own (own_done-by n s k)

-- ---- a stream that the node replays

pub record IsReplay (n : Node) (s : Stream) (k : ℕ) (a : Advance) : Type 0 where
  pub few : k ≤ length (log n s).kept
  pub first : a.first ≡ (log n s).done
  pub after : a.after ≡ (log n s).done + k
  pub tell : a.tell ≡ told_of n.me n.members (take k (log n s).kept)

kept_letters-by : (n : Node) (s : Stream) (k : ℕ) (a : Advance) → IsReplay n s k a → (advance_kept_by n s k).sent ≡ to_each n a.tell (RVal s a.after)
unfolding advance_kept_by
kept_letters-by n s zero a h = rw h.tell (told_none n n.me n.members (log n s).kept (RVal s a.after))
kept_letters-by n s (suc k) a h =
    let size : length (take (suc k) (log n s).kept) ≡ suc k = length-take_few (suc k) (log n s).kept h.few in
    rw (h.tell, h.after, size)
    (to_each-same n (pass_kept n s (suc k)) (told_of n.me n.members (take (suc k) (log n s).kept)) (RVal s ((log n s).done + suc k)) refl refl)

kept_passed-by : (n : Node) (s : Stream) (k : ℕ) (a : Advance) → IsReplay n s k a → (advance_kept_by n s k).passed ≡ passed_by s a
unfolding advance_kept_by
kept_passed-by n s zero a h = passed_none s a (log n s).done h.first h.after
kept_passed-by n s (suc k) a h =
    let size : length (take (suc k) (log n s).kept) ≡ suc k = length-take_few (suc k) (log n s).kept h.few in
    rw size (passed_some s a (log n s).done k h.first h.after)

kept_copies-by : (n : Node) (s : Stream) (k : ℕ) → raised_copies n.copies (log n s) ((log n s).done + k) ≡ (advance_kept_by n s k).node.copies
unfolding advance_kept_by raised_copies
kept_copies-by n s zero = rw (le-ltb (log n s).done ((log n s).done + 0) (omega arith)) refl
kept_copies-by n s (suc k) =
    let count : (log n s).done + suc k - (log n s).done ≡ suc k = omega arith in
    rw (lt-ltb (log n s).done ((log n s).done + suc k) (omega arith), count) refl

kept_logs-by : (n : Node) (s : Stream) (k : ℕ) → raised_logs n.logs s ((log n s).done + k) ≡ (advance_kept_by n s k).node.logs
unfolding advance_kept_by raised_logs
kept_logs-by n s zero = rw (le-ltb (log n s).done ((log n s).done + 0) (omega arith)) refl
kept_logs-by n s (suc k) =
    let count : (log n s).done + suc k - (log n s).done ≡ suc k = omega arith in
    rw (lt-ltb (log n s).done ((log n s).done + suc k) (omega arith), count) refl

module _ (n : Node) (s : Stream) (k : ℕ) (count : passing n (log n s).kept ≡ k) where
  advanced_kept : advance_kept n s ≡ advance_kept_by n s k
  unfolding advance_kept
  advanced_kept = ap (advance_kept_by n s) count

  pub kept_letters : (a : Advance) → IsReplay n s k a → (advance_kept n s).sent ≡ to_each n a.tell (RVal s a.after)
  kept_letters a h = rw advanced_kept (kept_letters-by n s k a h)

  pub kept_passed : (a : Advance) → IsReplay n s k a → (advance_kept n s).passed ≡ passed_by s a
  kept_passed a h = rw advanced_kept (kept_passed-by n s k a h)

  pub kept_copies : raised_copies n.copies (log n s) ((log n s).done + k) ≡ (advance_kept n s).node.copies
  kept_copies = rw advanced_kept (kept_copies-by n s k)

  pub kept_logs : raised_logs n.logs s ((log n s).done + k) ≡ (advance_kept n s).node.logs
  kept_logs = rw advanced_kept (kept_logs-by n s k)

-- ---- what the node has, by what it is seen as

-- if an advance has the counts and the receivers of a node's own entries that pass, then it is the one of the node
pub is_advance : (n : Node) (s k : ℕ) (a : Advance) (cs : List (Option Copy)) (w : Waiting) (me : ℕ) (members : List ℕ) → IsOwnWith n s cs w me members → k ≤ length w.pending → a.first ≡ w.done → a.after ≡ w.done + k → a.tell ≡ told_of me members (take k (map as_kept w.pending)) → IsAdvance n s k a
is_advance n s k a cs w me members h few first after tell =
    record {
      few = rw h.pending few;
      first = rw h.done first;
      after = rw h.done after;
      tell = rw (h.me, h.members, h.pending) tell;
    }

-- if an advance has the counts and the receivers of stored entries that pass, then it is the one of the stored stream
pub is_replay : (n : Node) (s : Stream) (k : ℕ) (a : Advance) (cs : List (Option Copy)) (ls : List (List StreamLog)) (me : ℕ) (members : List ℕ) → IsMemberWith n cs ls me members → k ≤ length (log_at ls s).kept → a.first ≡ (log_at ls s).done → a.after ≡ (log_at ls s).done + k → a.tell ≡ told_of me members (take k (log_at ls s).kept) → IsReplay n s k a
is_replay n s k a cs ls me members h few first after tell =
    record {
      few = rw h.node.logs few;
      first = rw h.node.logs first;
      after = rw h.node.logs after;
      tell = rw (h.node.me, h.members, h.node.logs) tell;
    }

-- the copies and the streams of a node that replays one
pub copies_of : (n : Node) (s : Stream) (k d : ℕ) (cs after : List (Option Copy)) (ls : List (List StreamLog)) (me : ℕ) (members : List ℕ) → IsMemberWith n cs ls me members → d ≡ (log_at ls s).done → after ≡ raised_copies cs (log_at ls s) (d + k) → after ≡ raised_copies n.copies (log n s) ((log n s).done + k)
copies_of n s k d cs after ls me members h e is =
    rw (h.node.copies, h.node.logs) (is ∙ ap (λ (m : ℕ). raised_copies cs (log_at ls s) (m + k)) e)

-- if stored streams are raised by as many entries as pass, then they are the node's raised so
pub logs_of : (n : Node) (s : Stream) (k d : ℕ) (cs : List (Option Copy)) (ls after : List (List StreamLog)) (me : ℕ) (members : List ℕ) → IsMemberWith n cs ls me members → d ≡ (log_at ls s).done → after ≡ raised_logs ls s (d + k) → after ≡ raised_logs n.logs s ((log n s).done + k)
logs_of n s k d cs ls after me members h e is =
    rw h.node.logs (is ∙ ap (λ (m : ℕ). raised_logs ls s (m + k)) e)

done_raised-by : (ls : List (List StreamLog)) (s : Stream) (d : ℕ) (b : Bool) → nat_lt (log_at ls s).done d ≡ b → (log_at ls s).done ≤ d → d ≡ (log_at (raised_logs ls s d) s).done
unfolding raised_logs
done_raised-by ls s d true e h =
    rw (e, log_at-with_log_at ls s record { done = d; kept = drop (d - (log_at ls s).done) (log_at ls s).kept }) refl
done_raised-by ls s d false e h = rw e (omega (arith, ltb-false (log_at ls s).done d e))

-- if a stored stream is raised to a count not below its own, then it has that count
pub done_raised : (ls : List (List StreamLog)) (s : Stream) (d : ℕ) → (log_at ls s).done ≤ d → d ≡ (log_at (raised_logs ls s d) s).done
done_raised ls s d h = done_raised-by ls s d (nat_lt (log_at ls s).done d) refl h
