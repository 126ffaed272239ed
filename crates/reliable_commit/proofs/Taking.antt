-- What a follower does with the letters of a stream, by its copies and streams alone.
use Rattle.std.proofs.Common.{ℕ, ◌≡◌, ◌<◌, ◌≤◌, ◌==◌, Bool, true, false, nat_lt, List, [], ◌∷◌, ◌++◌, Option, length, refl, sym, ap, ◌∙◌}
use Rattle.std.proofs.lemmas.Bool.{eq-eqb, eqb-true, false≢true, ne_eqb, lt-ltb, le-ltb}
use Rattle.zeus_base.specs.declared.order.Stream.{Stream}
use Rattle.zeus_packet.specs.declared.letter.Body.TheVariants.{RAck}
use Rattle.zeus_packet.specs.declared.letter.Cause.TheVariants.{OwnStream}
use Rattle.zeus_packet.specs.declared.letter.Letter.{Letter}
use Rattle.zeus_packet.specs.declared.letter.RInv.{RInv}
use Rattle.zeus_model.specs.declared.answer.Outcome.{Outcome}
use Rattle.zeus_model.specs.declared.answer.Outcome.TheVariants.{Taken, Again, Refused}
use Rattle.zeus_model.specs.declared.state.Copy.{Copy}
use Rattle.zeus_model.specs.Act.{just, letter}
use Rattle.zeus_model.specs.Commit.{applied, each_write, next_kept, on_rinv, on_rval, raise, stored_rinv}
use Rattle.zeus_model.specs.State.{Node, StreamLog, log}
use Rattle.zeus_model.specs.World.{no_node}
use Rattle.follower_log.specs.Streams.{log_at}
use Rattle.object_table.specs.Table.{AreWithin}
use Rattle.reliable_commit.specs.Following.{IsFollowed, IsNodeWith, raised_copies, raised_logs}
use Rattle.reliable_commit.specs.FollowLaws.{IsFollowed-with_log_at, within_more}

-- ---- entries that have passed elsewhere

raise_copies-by : (n : Node) (s : Stream) (d : ℕ) (b : Bool) → nat_lt (log n s).done d ≡ b → raised_copies n.copies (log n s) d ≡ (raise n s d).copies
unfolding raise raised_copies
raise_copies-by n s d true e = rw e refl
raise_copies-by n s d false e = rw e refl

raise_logs-by : (n : Node) (s : Stream) (d : ℕ) (b : Bool) → nat_lt (log n s).done d ≡ b → raised_logs n.logs s d ≡ (raise n s d).logs
unfolding raise raised_logs
raise_logs-by n s d true e = rw e refl
raise_logs-by n s d false e = rw e refl

raise_me-by : (n : Node) (s : Stream) (d : ℕ) (b : Bool) → nat_lt (log n s).done d ≡ b → (raise n s d).me ≡ n.me
unfolding raise
raise_me-by n s d true e = rw e refl
raise_me-by n s d false e = rw e refl

raise_epoch-by : (n : Node) (s : Stream) (d : ℕ) (b : Bool) → nat_lt (log n s).done d ≡ b → (raise n s d).epoch ≡ n.epoch
unfolding raise
raise_epoch-by n s d true e = rw e refl
raise_epoch-by n s d false e = rw e refl

-- the node afterwards
pub raised_node : (n : Node) (cs ds : List (Option Copy)) (ls ms : List (List StreamLog)) (me : ℕ) (s : Stream) (d : ℕ) → IsNodeWith n cs ls me → ds ≡ raised_copies cs (log_at ls s) d → ms ≡ raised_logs ls s d → IsNodeWith (raise n s d) ds ms me
raised_node n cs ds ls ms me s d h copies logs =
    record {
      copies = sym (copies ∙ sym (ap (λ (l : List (List StreamLog)). raised_copies cs (log_at l s) d) h.logs) ∙ sym (ap (λ (c : List (Option Copy)). raised_copies c (log n s) d) h.copies) ∙ raise_copies-by n s d (nat_lt (log n s).done d) refl);
      logs = sym (logs ∙ sym (ap (λ (l : List (List StreamLog)). raised_logs l s d) h.logs) ∙ raise_logs-by n s d (nat_lt (log n s).done d) refl);
      me = raise_me-by n s d (nat_lt (log n s).done d) refl ∙ h.me;
    }

-- it sends the same letters
letter-raise : (n : Node) (s : Stream) (d : ℕ) (r : RInv) (from : ℕ) → letter (raise n s d) from (RAck r.stream r.number) ≡ letter n from (RAck r.stream r.number)
letter-raise n s d r from =
    rw (raise_me-by n s d (nat_lt (log n s).done d) refl, raise_epoch-by n s d (nat_lt (log n s).done d) refl) refl

-- ---- an entry

-- if an entry is of the node's own stream, then it is refused and nothing changes
pub on_rinv-own : (n : Node) (from : ℕ) (r : RInv) → r.stream.node ≡ n.me → on_rinv n from r ≡ just n (Refused OwnStream)
unfolding on_rinv
on_rinv-own n from r h = rw (eq-eqb r.stream.node n.me h) refl

-- if an entry is of another node's stream, then the stream is raised to the letter's count and the entry is stored by its row
pub on_rinv-other : (n : Node) (from : ℕ) (r : RInv) → (r.stream.node ≡ n.me → ⊥) → on_rinv n from r ≡ stored_rinv (raise n r.stream r.done) from r
unfolding on_rinv
on_rinv-other n from r h = rw (ne_eqb r.stream.node n.me h) refl

-- the copies and the letters by the answer
unfoldable pub copies_after : Outcome → List (Option Copy) → RInv → List (Option Copy)
copies_after Taken copies r = each_write applied copies r.writes
copies_after _ copies r = copies

unfoldable pub sent_after : Outcome → Node → ℕ → RInv → List Letter
sent_after Taken n from r = letter n from (RAck r.stream r.number) ∷ []
sent_after Again n from r = letter n from (RAck r.stream r.number) ∷ []
sent_after _ n from r = []

stored_copies-by : (n : Node) (from : ℕ) (r : RInv) (a b c : Bool) → nat_lt r.number (next_kept (log n r.stream)) ≡ a → nat_lt (next_kept (log n r.stream)) r.number ≡ b → (length (log n r.stream).kept == 16) ≡ c → (stored_rinv n from r).node.copies ≡ copies_after (stored_rinv n from r).answer n.copies r
unfolding stored_rinv copies_after
stored_copies-by n from r true b c low high full = rw low refl
stored_copies-by n from r false true c low high full = rw (low, high) refl
stored_copies-by n from r false false true low high full = rw (low, high, full) refl
stored_copies-by n from r false false false low high full = rw (low, high, full) refl

stored_sent-by : (n : Node) (from : ℕ) (r : RInv) (a b c : Bool) → nat_lt r.number (next_kept (log n r.stream)) ≡ a → nat_lt (next_kept (log n r.stream)) r.number ≡ b → (length (log n r.stream).kept == 16) ≡ c → (stored_rinv n from r).sent ≡ sent_after (stored_rinv n from r).answer n from r
unfolding stored_rinv sent_after
stored_sent-by n from r true b c low high full = rw low refl
stored_sent-by n from r false true c low high full = rw (low, high) refl
stored_sent-by n from r false false true low high full = rw (low, high, full) refl
stored_sent-by n from r false false false low high full = rw (low, high, full) refl

-- the copies after an entry is taken are those that its outcome says
pub stored_copies : (n : Node) (from : ℕ) (r : RInv) (o : Outcome) → o ≡ (stored_rinv n from r).answer → (stored_rinv n from r).node.copies ≡ copies_after o n.copies r
stored_copies n from r o h =
    stored_copies-by n from r (nat_lt r.number (next_kept (log n r.stream))) (nat_lt (next_kept (log n r.stream)) r.number) (length (log n r.stream).kept == 16) refl refl refl
    ∙ ap (λ (p : Outcome). copies_after p n.copies r) (sym h)

-- the letters after an entry is taken are those that its outcome says
pub stored_sent : (n : Node) (from : ℕ) (r : RInv) (o : Outcome) → o ≡ (stored_rinv n from r).answer → (stored_rinv n from r).sent ≡ sent_after o n from r
stored_sent n from r o h =
    stored_sent-by n from r (nat_lt r.number (next_kept (log n r.stream))) (nat_lt (next_kept (log n r.stream)) r.number) (length (log n r.stream).kept == 16) refl refl refl
    ∙ ap (λ (p : Outcome). sent_after p n from r) (sym h)

-- the letters of the raised node are those of the node
pub sent_after-raise : (o : Outcome) (n : Node) (s : Stream) (d : ℕ) (from : ℕ) (r : RInv) → sent_after o (raise n s d) from r ≡ sent_after o n from r
unfolding sent_after
sent_after-raise Taken n s d from r = ap (λ (l : Letter). l ∷ []) (letter-raise n s d r from)
sent_after-raise Again n s d from r = ap (λ (l : Letter). l ∷ []) (letter-raise n s d r from)
sent_after-raise _ n s d from r = refl

-- ---- the word that entries have passed

-- if passed entries are of the node's own stream, then the letter is refused and nothing changes
pub on_rval-own : (n : Node) (s : Stream) (d : ℕ) → s.node ≡ n.me → on_rval n s d ≡ just n (Refused OwnStream)
unfolding on_rval
on_rval-own n s d h = rw (eq-eqb s.node n.me h) refl

-- if a letter's count of passed entries is not above the stored stream's, then it is answered `Again` and nothing changes
pub on_rval-again : (n : Node) (s : Stream) (d : ℕ) → (s.node ≡ n.me → ⊥) → d ≤ (log n s).done → on_rval n s d ≡ just n Again
unfolding on_rval
on_rval-again n s d h k = rw (ne_eqb s.node n.me h, le-ltb (log n s).done d k) refl

-- if a letter's count of passed entries is above the stored stream's, then the stream is raised to it
pub on_rval-taken : (n : Node) (s : Stream) (d : ℕ) → (s.node ≡ n.me → ⊥) → (log n s).done < d → on_rval n s d ≡ just (raise n s d) Taken
unfolding on_rval
on_rval-taken n s d h k = rw (ne_eqb s.node n.me h, lt-ltb (log n s).done d k) refl

-- ---- the node's own number, and how many have passed

-- if the test finds two numbers equal, then they are
pub own_is : (a b : ℕ) → (a == b) ≡ true → a ≡ b
own_is a b h = eqb-true a b h

-- if the test finds two numbers not equal, then they are not
pub other_is : (a b : ℕ) → (a == b) ≡ false → a ≡ b → ⊥
other_is a b h same = false≢true (sym h ∙ eq-eqb a b same)

-- if a count is above that of the streams read, then it is above that of the node's stored stream
pub done_low : (n : Node) (cs : List (Option Copy)) (ls : List (List StreamLog)) (me : ℕ) (s : Stream) (d done : ℕ) → IsNodeWith n cs ls me → done ≡ (log_at ls s).done → done < d → (log n s).done < d
done_low n cs ls me s d done node is h = rw (node.logs, ← is) h

-- if a count is not above that of the streams read, then it is not above that of the node's stored stream
pub done_high : (n : Node) (cs : List (Option Copy)) (ls : List (List StreamLog)) (me : ℕ) (s : Stream) (d done : ℕ) → IsNodeWith n cs ls me → done ≡ (log_at ls s).done → d ≤ done → d ≤ (log n s).done
done_high n cs ls me s d done node is h = rw (node.logs, ← is) h

-- ---- which streams are followed after an entry

followed_by : (k : ℕ) (n : Node) (from : ℕ) (r : RInv) (t : Stream) (a b c : Bool) → nat_lt r.number (next_kept (log n r.stream)) ≡ a → nat_lt (next_kept (log n r.stream)) r.number ≡ b → (length (log n r.stream).kept == 16) ≡ c → IsFollowed k n.logs r.stream → AreWithin k r.writes → IsFollowed k n.logs t → IsFollowed k (stored_rinv n from r).node.logs t
unfolding stored_rinv
followed_by k n from r t true b c low high full h w g = rw low g
followed_by k n from r t false true c low high full h w g = rw (low, high) g
followed_by k n from r t false false true low high full h w g = rw (low, high, full) g
followed_by k n from r t false false false low high full h w g =
    rw (low, high, full)
    (IsFollowed-with_log_at k n.logs r.stream t
    record { done = (log n r.stream).done; kept = (log n r.stream).kept ++ record { followers = r.followers; writes = r.writes; acks = [] } ∷ [] } h.stream
    (within_more k (log n r.stream).kept record { followers = r.followers; writes = r.writes; acks = [] } h.within w) g)

-- if a stream is followed and an entry is taken whose objects and stream are followed, then it is followed afterwards
pub stored_followed : (k : ℕ) (logs after : List (List StreamLog)) (r : RInv) (t : Stream) → IsFollowed k logs r.stream → AreWithin k r.writes → ((n : Node) (from : ℕ) → n.logs ≡ logs → after ≡ (stored_rinv n from r).node.logs) → IsFollowed k logs t → IsFollowed k after t
stored_followed k logs after r t h w is g =
    let n : Node = record no_node { logs = logs } in
    rw (is n 0 refl)
    (followed_by k n 0 r t (nat_lt r.number (next_kept (log n r.stream))) (nat_lt (next_kept (log n r.stream)) r.number) (length (log n r.stream).kept == 16) refl refl refl h w g)
