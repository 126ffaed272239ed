-- Whatever a node does, it keeps its number, and each letter that it sends is from it.
use Rattle.std.specs.Prelude.{ℕ, zero, suc, ◌≡◌, ◌+◌, Bool, true, false, ◌==◌, nat_lt, List, [], ◌∷◌, ◌++◌, length, take, Option, Some, None, is_some, if◌then◌else◌}
use Rattle.std.proofs.Common.{refl, ◌∙◌, subst}
use Rattle.zeus_base.specs.Nodes.{without, meet}
use Rattle.zeus_base.specs.Order.{is_below}
use Rattle.zeus_base.specs.declared.order.Stamp.{Stamp}
use Rattle.zeus_base.specs.declared.order.Stream.{Stream}
use Rattle.zeus_packet.specs.declared.letter.Body.{Body}
use Rattle.zeus_packet.specs.declared.letter.Body.TheVariants.{RInv, RAck, RVal, OReq, OInv, OAck, ONack, OVal, Recovered}
use Rattle.zeus_packet.specs.declared.letter.Cause.{Cause}
use Rattle.zeus_packet.specs.declared.letter.Letter.{Letter}
use Rattle.zeus_packet.specs.declared.letter.RInv.{RInv as Invalidation}
use Rattle.zeus_packet.specs.declared.place.Place.{Place}
use Rattle.zeus_packet.specs.declared.place.Proposal.{Proposal}
use Rattle.zeus_packet.specs.declared.place.View.{View}
use Rattle.zeus_packet.specs.declared.place.Want.{Want}
use Rattle.zeus_packet.specs.declared.write.Content.{Content}
use Rattle.zeus_packet.specs.declared.write.Write.{Write}
use Rattle.zeus_txn.specs.Ops.{is_write}
use Rattle.zeus_txn.specs.declared.ops.Op.{Op}
use Rattle.zeus_txn.specs.declared.reply.Ran.{Ran}
use Rattle.zeus_model.specs.declared.answer.Outcome.{Outcome}
use Rattle.zeus_model.specs.declared.answer.Tried.{Tried}
use Rattle.zeus_model.specs.declared.answer.Tried.TheVariants.{NotOwner, Committed}
use Rattle.zeus_model.specs.declared.state.Current.{Current}
use Rattle.zeus_model.specs.declared.state.Gather.{Gather}
use Rattle.zeus_model.specs.declared.state.Kept.{Kept}
use Rattle.zeus_model.specs.State.{Node, next_number, slot, log, entry}
use Rattle.zeus_model.specs.Act.{Act, Did, still, just, sends, did_then, and_then, in_turn, letter, to_each}
use Rattle.zeus_model.specs.Tables.{below}
use Rattle.zeus_model.specs.Commit.{next_kept, pass_own, pass_kept, advance_own_by, advance_own, advance_kept_by, advance_kept, raise, stored_rinv, on_rinv, on_own_rack, on_kept_rack, on_rack, on_rval, outside, report_recovered, finish}
use Rattle.zeus_model.specs.Ownership.{takes_over, hold_cause, collect_cause, settle, answer_request, on_oreq, rebased, advice, hold_or_refuse, oinv_on_base, on_oinv, bring, decide_on, decide_gathered, decide, take_ack, gather_or_older, collect_or_refuse, oack_on_base, on_oack, on_oval}
use Rattle.zeus_model.specs.Receive.{on_recovered, row, receive_or_not, receive}
use Rattle.zeus_model.specs.Local.{Hindrance, Missing, Unready, begin_free, begin, ask, read_missing, read_row, invalidation, committed, commit_entry, commit, write_row, try_current, try_slot}
use Rattle.zeus_model.specs.Membership.{install, stop, letters_of, repeat_report, repeat_entries, repeat_own, repeat_kept, repeat_requests, own_acknowledgement, repeat_proposal, repeat_proposals, repeat_done, repeat_leave, repeats, tick}
use Rattle.machine_moves.proofs.Within.{Keeps-settle, Keeps-raise, Keeps-bring}
use Rattle.zeus_model.specs.declared.answer.Install.{Install as InstallOutcome}
use Rattle.zeus_model.specs.declared.answer.Ticked.{Ticked}
use Rattle.zeus_model.specs.declared.answer.Begin.{Begin as BeginOutcome}
use Rattle.zeus_model.specs.declared.answer.Stop.{Stop as StopOutcome}

-- each of the letters is from the node
unfoldable pub AllFrom : ℕ → List Letter → Type 0
AllFrom me [] = Unit {0}
AllFrom me (l ∷ ls) = (l.from ≡ me) × AllFrom me ls

-- what the node of this number did
pub record IsOwn {A : Type 0} (me : ℕ) (d : Did A) : Type 0 where
  pub node : d.node.me ≡ me
  pub sent : AllFrom me d.sent

pub record IsOwnAct (me : ℕ) (a : Act) : Type 0 where
  pub node : a.node.me ≡ me
  pub sent : AllFrom me a.sent

if_holds : {A : Type 0} (P : A → Type 0) (b : Bool) (x y : A) → P x → P y → P (if b then x else y)
if_holds P true x y p q = p
if_holds P false x y p q = q

-- ---- letters

from-append : (me : ℕ) (xs ys : List Letter) → AllFrom me xs → AllFrom me ys → AllFrom me (xs ++ ys)
unfolding AllFrom
from-append me [] ys h g = g
from-append me (x ∷ xs) ys h g = (h.0, from-append me xs ys h.1 g)

-- if letters are from a node, then so are the earliest of them
pub from-take : (me k : ℕ) (xs : List Letter) → AllFrom me xs → AllFrom me (take k xs)
unfolding AllFrom
from-take me zero xs h = tt
from-take me (suc k) [] h = tt
from-take me (suc k) (x ∷ xs) h = (h.0, from-take me k xs h.1)

from-none : (me : ℕ) → AllFrom me []
unfolding AllFrom
from-none me = tt

from-one : (n : Node) (to : ℕ) (body : Body) → AllFrom n.me (letter n to body ∷ [])
unfolding AllFrom
from-one n to body = (refl, tt)

from-to_each : (n : Node) (tos : List ℕ) (body : Body) → AllFrom n.me (to_each n tos body)
unfolding AllFrom to_each
from-to_each n [] body = tt
from-to_each n (to ∷ tos) body = (refl, from-to_each n tos body)

from-letters_of : {A : Type 0} (me : ℕ) (f : A → List Letter) (xs : List A) → ((x : A) → AllFrom me (f x)) → AllFrom me (letters_of f xs)
unfolding AllFrom letters_of
from-letters_of me f [] h = tt
from-letters_of me f (x ∷ xs) h = from-append me (f x) (letters_of f xs) (h x) (from-letters_of me f xs h)

-- ---- acts one after another

own-still : (n : Node) → IsOwnAct n.me (still n)
own-still n = record { node = refl; sent = from-none n.me }

own-just : {A : Type 0} (n : Node) (a : A) → IsOwn n.me (just n a)
own-just n a = record { node = refl; sent = from-none n.me }

own-and_then : (me : ℕ) (a : Act) (f : Node → Act) → IsOwnAct me a → ((m : Node) → m.me ≡ me → IsOwnAct me (f m)) → IsOwnAct me (and_then a f)
own-and_then me a f h next =
    let g = next a.node h.node in record { node = g.node; sent = from-append me a.sent (f a.node).sent h.sent g.sent }

own-did_then : {A : Type 0} (me : ℕ) (d : Did A) (f : Node → Act) → IsOwn me d → ((m : Node) → m.me ≡ me → IsOwnAct me (f m)) → IsOwn me (did_then d f)
own-did_then me d f h next =
    let g = next d.node h.node in record { node = g.node; sent = from-append me d.sent (f d.node).sent h.sent g.sent }

own-in_turn : {A : Type 0} (me : ℕ) (f : Node → A → Act) (n : Node) (xs : List A) → n.me ≡ me → ((m : Node) (x : A) → m.me ≡ me → IsOwnAct me (f m x)) → IsOwnAct me (in_turn f n xs)
unfolding in_turn
own-in_turn me f n [] is h = record { node = is; sent = from-none me }
own-in_turn me f n (x ∷ xs) is h = own-and_then me (f n x) (λ m. in_turn f m xs) (h n x is) (λ m same. own-in_turn me f m xs same h)

-- a fact about a node's own number is one about any number that it has
at_number : (P : ℕ → Node → Type 0) (me : ℕ) → ((n : Node) → P n.me n) → (n : Node) → n.me ≡ me → P me n
at_number P me h n is = subst (λ (k : ℕ). P k n) is (h n)

-- ---- the finish

own-advance_own_by : (n : Node) (s k : ℕ) → IsOwnAct n.me (advance_own_by n s k)
unfolding advance_own_by
own-advance_own_by n s zero = own-still n
own-advance_own_by n s (suc k) = record { node = refl; sent = from-to_each (pass_own n s (suc k)) _ _ }

own-advance_kept_by : (n : Node) (s : Stream) (k : ℕ) → IsOwnAct n.me (advance_kept_by n s k)
unfolding advance_kept_by
own-advance_kept_by n s zero = own-still n
own-advance_kept_by n s (suc k) = record { node = refl; sent = from-to_each (pass_kept n s (suc k)) _ _ }

own-advance_own : (n : Node) (s : ℕ) → IsOwnAct n.me (advance_own n s)
unfolding advance_own
own-advance_own n s = own-advance_own_by n s _

own-advance_kept : (n : Node) (s : Stream) → IsOwnAct n.me (advance_kept n s)
unfolding advance_kept
own-advance_kept n s = own-advance_kept_by n s _

own-report : (n : Node) → IsOwnAct n.me (report_recovered n)
unfolding report_recovered
own-report n =
    if_holds (λ (a : Act). IsOwnAct n.me a) _ _ _ (record { node = refl; sent = from-to_each n (without n.me n.members) Recovered }) (own-still n)

own-finish : (n : Node) → IsOwnAct n.me (finish n)
unfolding finish
own-finish n =
    own-and_then n.me (in_turn advance_own n (below (length n.slots))) _
    (own-in_turn n.me advance_own n (below (length n.slots)) refl (λ m s is. at_number (λ me k. IsOwnAct me (advance_own k s)) n.me (λ k. own-advance_own k s) m is))
    (λ m is. own-and_then n.me (in_turn advance_kept m (outside m)) report_recovered
    (own-in_turn n.me advance_kept m (outside m) is (λ k s same. at_number (λ me j. IsOwnAct me (advance_kept j s)) n.me (λ j. own-advance_kept j s) k same))
    (λ k same. at_number (λ me j. IsOwnAct me (report_recovered j)) n.me own-report k same))

own-then_finish : {A : Type 0} (me : ℕ) (d : Did A) → IsOwn me d → IsOwn me (did_then d finish)
own-then_finish me d h = own-did_then me d finish h (λ m is. at_number (λ k j. IsOwnAct k (finish j)) me own-finish m is)

-- ---- replication

own-stored_rinv : (n : Node) (from : ℕ) (r : Invalidation) → IsOwn n.me (stored_rinv n from r)
unfolding stored_rinv
own-stored_rinv n from r =
    let P : Did Outcome → Type 0 = λ d. IsOwn n.me d in
    if_holds P (nat_lt r.number (next_kept (log n r.stream))) _ _ (record { node = refl; sent = from-one n from (RAck r.stream r.number) })
    (if_holds P (nat_lt (next_kept (log n r.stream)) r.number) _ _ (own-just n _)
    (if_holds P (length (log n r.stream).kept == 16) _ _ (own-just n _) (record { node = refl; sent = from-one n from (RAck r.stream r.number) })))

raise-me : (n : Node) (s : Stream) (d : ℕ) → (raise n s d).me ≡ n.me
raise-me n s d = let k = Keeps-raise n s d in k.me

own-on_rinv : (n : Node) (from : ℕ) (r : Invalidation) → IsOwn n.me (on_rinv n from r)
unfolding on_rinv
own-on_rinv n from r =
    if_holds (λ (d : Did Outcome). IsOwn n.me d) _ _ _ (own-just n _)
    (at_number (λ me m. IsOwn me (stored_rinv m from r)) n.me (λ m. own-stored_rinv m from r) (raise n r.stream r.done) (raise-me n r.stream r.done))

own-on_own_rack : (n : Node) (from s number : ℕ) → IsOwn n.me (on_own_rack n from s number)
unfolding on_own_rack
own-on_own_rack n from s number =
    if_holds (λ (d : Did Outcome). IsOwn n.me d) _ _ _ (record { node = refl; sent = from-none n.me }) (own-just n _)

own-on_kept_rack : (n : Node) (from : ℕ) (s : Stream) (number : ℕ) → IsOwn n.me (on_kept_rack n from s number)
unfolding on_kept_rack
own-on_kept_rack n from s number =
    if_holds (λ (d : Did Outcome). IsOwn n.me d) _ _ _ (record { node = refl; sent = from-none n.me }) (own-just n _)

own-on_rack : (n : Node) (from : ℕ) (s : Stream) (number : ℕ) → IsOwn n.me (on_rack n from s number)
unfolding on_rack
own-on_rack n from s number =
    if_holds (λ (d : Did Outcome). IsOwn n.me d) _ _ _ (own-on_own_rack n from s.slot number) (own-on_kept_rack n from s number)

own-on_rval : (n : Node) (s : Stream) (d : ℕ) → IsOwn n.me (on_rval n s d)
unfolding on_rval
own-on_rval n s d =
    let P : Did Outcome → Type 0 = λ e. IsOwn n.me e in
    if_holds P _ _ _ (own-just n _) (if_holds P _ _ _ (record { node = raise-me n s d; sent = from-none n.me }) (own-just n _))

-- ---- ownership

own-answer_request : (cause : Option Cause) (n : Node) (requester x : ℕ) (want : Want) → IsOwn n.me (answer_request n requester x want cause)
unfolding answer_request
own-answer_request (Some cause) n requester x want = record { node = refl; sent = from-one n requester _ }
own-answer_request None n requester x want =
    record { node = refl; sent = from-append n.me _ _ (from-to_each n _ _) (from-one n requester _) }

settle-me : (n : Node) (x : ℕ) (stamp : Stamp) (place : Place) → (settle n x stamp place).me ≡ n.me
settle-me n x stamp place = let k = Keeps-settle n x stamp place in k.me

own-advice : (n : Node) (x : ℕ) (p : Proposal) (cause : Cause) → AllFrom n.me (advice n x p cause)
unfolding advice
own-advice n x p cause = if_holds (λ (ls : List Letter). AllFrom n.me ls) _ _ _ (from-one n p.requester _) (from-none n.me)

own-hold_or_refuse : (cause : Option Cause) (n : Node) (from x : ℕ) (p : Proposal) → IsOwn n.me (hold_or_refuse n from x p cause)
unfolding hold_or_refuse
own-hold_or_refuse (Some cause) n from x p = record { node = refl; sent = own-advice n x p cause }
own-hold_or_refuse None n from x p = record { node = refl; sent = from-one n _ _ }

-- what a proposal's base makes of the node, if anything
HasNumber : ℕ → Option Node → Type 0
HasNumber me None = Unit {0}
HasNumber me (Some m) = m.me ≡ me

rebased-me : (n : Node) (x : ℕ) (p : Proposal) → HasNumber n.me (rebased n x p)
unfolding rebased HasNumber
rebased-me n x p =
    let P : Option Node → Type 0 = λ o. HasNumber n.me o in
    if_holds P (is_below (entry n x).stamp p.base) _ _ (if_holds P (takes_over n x p.base_place) _ _ tt (settle-me n x p.base p.base_place)) refl

own-oinv_on_base : (base : Option Node) (n : Node) (from x : ℕ) (p : Proposal) → HasNumber n.me base → IsOwn n.me (oinv_on_base n from x p base)
unfolding oinv_on_base HasNumber
own-oinv_on_base None n from x p is = record { node = refl; sent = own-advice n x p _ }
own-oinv_on_base (Some m) n from x p is = at_number (λ me k. IsOwn me (hold_or_refuse k from x p (hold_cause k x p))) n.me (λ k. own-hold_or_refuse (hold_cause k x p) k from x p) m is

own-on_oinv : (n : Node) (from x : ℕ) (p : Proposal) → IsOwn n.me (on_oinv n from x p)
unfolding on_oinv
own-on_oinv n from x p =
    if_holds (λ (d : Did Outcome). IsOwn n.me d) _ _ _ (own-oinv_on_base (rebased n x p) n from x p (rebased-me n x p)) (record { node = refl; sent = from-one n from _ })

bring-me : (n : Node) (x : ℕ) (p : Proposal) (c : Content) → (bring n x p c).me ≡ n.me
bring-me n x p c = let k = Keeps-bring n x p c in k.me

own-decide_on : (content : Option Content) (n : Node) (x : ℕ) (p : Proposal) → IsOwnAct n.me (decide_on n x p content)
unfolding decide_on
own-decide_on None n x p = own-still n
own-decide_on (Some c) n x p = record { node = bring-me _ x p c ∙ settle-me n x _ _; sent = from-to_each n _ _ }

own-decide_gathered : (g : Option Gather) (n : Node) (x : ℕ) → IsOwnAct n.me (decide_gathered n x g)
unfolding decide_gathered
own-decide_gathered None n x = own-still n
own-decide_gathered (Some g) n x = if_holds (λ (a : Act). IsOwnAct n.me a) _ _ _ (own-decide_on g.content n x g.proposal) (own-still n)

own-take_ack : (n : Node) (from x : ℕ) (content : Option Content) (g : Gather) → IsOwn n.me (take_ack n from x content g)
unfolding take_ack
own-take_ack n from x content g =
    own-did_then n.me (just _ _) (decide x) (record { node = refl; sent = from-none n.me })
    (λ m is. at_number (λ me k. IsOwnAct me (decide x k)) n.me (λ k. own-decide_gathered _ k x) m is)

own-gather_or_older : (older : Option Stamp) (n : Node) (from x : ℕ) (p : Proposal) (content : Option Content) → IsOwn n.me (gather_or_older n from x p content older)
unfolding gather_or_older
own-gather_or_older (Some stamp) n from x p content = own-just n _
own-gather_or_older None n from x p content = own-take_ack n from x content _

own-collect_or_refuse : (cause : Option Cause) (n : Node) (from x : ℕ) (p : Proposal) (content : Option Content) → IsOwn n.me (collect_or_refuse n from x p content cause)
unfolding collect_or_refuse
own-collect_or_refuse (Some cause) n from x p content = own-just n _
own-collect_or_refuse None n from x p content = own-gather_or_older _ n from x p content

own-oack_on_base : (base : Option Node) (n : Node) (from x : ℕ) (p : Proposal) (content : Option Content) → HasNumber n.me base → IsOwn n.me (oack_on_base n from x p content base)
unfolding oack_on_base HasNumber
own-oack_on_base None n from x p content is = own-just n _
own-oack_on_base (Some m) n from x p content is =
    at_number (λ me k. IsOwn me (collect_or_refuse k from x p content (collect_cause k x p))) n.me (λ k. own-collect_or_refuse (collect_cause k x p) k from x p content) m is

own-on_oack : (n : Node) (from x : ℕ) (p : Proposal) (content : Option Content) → IsOwn n.me (on_oack n from x p content)
unfolding on_oack
own-on_oack n from x p content =
    if_holds (λ (d : Did Outcome). IsOwn n.me d) _ _ _ (own-oack_on_base (rebased n x p) n from x p content (rebased-me n x p)) (record { node = refl; sent = from-one n from _ })

own-on_oval : (n : Node) (x : ℕ) (stamp : Stamp) (place : Place) → IsOwn n.me (on_oval n x stamp place)
unfolding on_oval
own-on_oval n x stamp place =
    let P : Did Outcome → Type 0 = λ d. IsOwn n.me d in
    if_holds P _ _ _ (if_holds P _ _ _ (own-just n _) (record { node = settle-me n x stamp place; sent = from-none n.me })) (own-just n _)

-- ---- receive

own-on_recovered : (n : Node) (from : ℕ) → IsOwn n.me (on_recovered n from)
unfolding on_recovered
own-on_recovered n from =
    if_holds (λ (d : Did Outcome). IsOwn n.me d) _ _ _ (own-just n _) (record { node = refl; sent = from-none n.me })

own-row : (body : Body) (n : Node) (from : ℕ) → IsOwn n.me (row n from body)
unfolding row on_oreq
own-row (RInv r) n from = own-on_rinv n from r
own-row (RAck s number) n from = own-on_rack n from s number
own-row (RVal s done) n from = own-on_rval n s done
own-row (OReq x want) n from = own-answer_request _ n from x want
own-row (OInv x p) n from = own-on_oinv n from x p
own-row (OAck x p content) n from = own-on_oack n from x p content
own-row (ONack x stamp cause) n from = own-just n _
own-row (OVal x stamp place) n from = own-on_oval n x stamp place
own-row Recovered n from = own-on_recovered n from

own-receive_or_not : (outcome : Option Outcome) (n : Node) (l : Letter) → IsOwn n.me (receive_or_not n l outcome)
unfolding receive_or_not
own-receive_or_not (Some outcome) n l = own-just n outcome
own-receive_or_not None n l = own-then_finish n.me (row n l.from l.body) (own-row l.body n l.from)

-- a node that receives a letter keeps its number, and sends from it alone
pub own-receive : (n : Node) (l : Letter) → IsOwn n.me (receive n l)
unfolding receive
own-receive n l = own-receive_or_not _ n l

-- ---- begin and try

own-begin_free : (current : Option Current) (n : Node) (s : ℕ) (c : Current) → IsOwn n.me (begin_free n s c current)
unfolding begin_free
own-begin_free (Some other) n s c = own-just n _
own-begin_free None n s c = record { node = refl; sent = from-none n.me }

-- a node that begins a transaction keeps its number, and sends from it alone
pub own-begin : (n : Node) (s id : ℕ) (tx : List Op) → IsOwn n.me (begin n s id tx)
unfolding begin
own-begin n s id tx = if_holds (λ (d : Did BeginOutcome). IsOwn n.me d) _ _ _ (own-just n _) (own-begin_free _ n s _)

from-ask : (driver : Option ℕ) (n : Node) (want : Want) (xs : List ℕ) → AllFrom n.me (ask n want xs driver)
unfolding ask AllFrom
from-ask None n want xs = tt
from-ask (Some d) n want [] = tt
from-ask (Some d) n want (x ∷ xs) = (refl, from-ask (Some d) n want xs)

own-read_missing : (degree : Option ℕ) (n : Node) (s : ℕ) (c : Current) (x : ℕ) → IsOwn n.me (read_missing n s c x degree)
unfolding read_missing
own-read_missing None n s c x = record { node = refl; sent = from-none n.me }
own-read_missing (Some degree) n s c x = record { node = refl; sent = from-ask _ n _ _ }

own-read_row : (h : Option Hindrance) (n : Node) (s : ℕ) (c : Current) → IsOwn n.me (read_row n s c h)
unfolding read_row
own-read_row (Some (Missing x)) n s c = own-read_missing n.degree n s c x
own-read_row (Some (Unready x state)) n s c = own-just n _
own-read_row None n s c = record { node = refl; sent = from-none n.me }

own-commit_entry : (n : Node) (s : ℕ) (c : Current) (ran : Ran) (followers : List ℕ) (writes : List Write) → IsOwn n.me (commit_entry n s c ran followers writes)
unfolding commit_entry
own-commit_entry n s c ran followers writes =
    own-did_then n.me
    (sends (committed n s c ran followers writes) (Committed c.id (next_number (slot n s)) ran.reply) (to_each n (meet followers n.members) (RInv (invalidation n s followers writes))))
    (λ m. advance_own m s) (record { node = refl; sent = from-to_each n _ _ })
    (λ m is. at_number (λ me k. IsOwnAct me (advance_own k s)) n.me (λ k. own-advance_own k s) m is)

own-write_row : (cause : Option Tried) (n : Node) (s : ℕ) (c : Current) → IsOwn n.me (write_row n s c cause)
unfolding write_row commit
own-write_row None n s c = own-commit_entry n s c _ _ _
own-write_row (Some (NotOwner x)) n s c = record { node = refl; sent = from-ask _ n _ _ }
own-write_row (Some other) n s c = own-just n other

own-try_current : (current : Option Current) (n : Node) (s : ℕ) → IsOwn n.me (try_current n s current)
unfolding try_current
own-try_current None n s = own-just n _
own-try_current (Some c) n s = if_holds (λ (d : Did Tried). IsOwn n.me d) _ _ _ (own-write_row _ n s c) (own-read_row _ n s c)

-- a node that tries a slot keeps its number, and sends from it alone
pub own-try_slot : (n : Node) (s : ℕ) → IsOwn n.me (try_slot n s)
unfolding try_slot
own-try_slot n s = if_holds (λ (d : Did Tried). IsOwn n.me d) _ _ _ (own-just n _) (own-try_current _ n s)

-- ---- ticks, stops and views

from-repeat_entries : (n : Node) (s : Stream) (done number : ℕ) (ks : List Kept) → AllFrom n.me (repeat_entries n s done number ks)
unfolding repeat_entries
from-repeat_entries n s done number [] = from-none n.me
from-repeat_entries n s done number (k ∷ ks) =
    from-append n.me _ _ (from-to_each n _ _) (from-repeat_entries n s done (number + 1) ks)

from-repeat_requests : (current : Option Current) (n : Node) → AllFrom n.me (repeat_requests n current)
unfolding repeat_requests
from-repeat_requests None n = from-none n.me
from-repeat_requests (Some c) n =
    let P : List Letter → Type 0 = λ ls. AllFrom n.me ls in
    if_holds P (is_write c.tx) _ _ (from-ask _ n _ _) (if_holds P (is_some n.degree) _ _ (from-ask _ n _ _) (from-none n.me))

from-own_acknowledgement : (n : Node) (x : ℕ) (p : Proposal) → AllFrom n.me (own_acknowledgement n x p)
unfolding own_acknowledgement
from-own_acknowledgement n x p = if_holds (λ (ls : List Letter). AllFrom n.me ls) _ _ _ (from-none n.me) (from-one n _ _)

from-repeat_proposal : (p : Option Proposal) (n : Node) (x : ℕ) → AllFrom n.me (repeat_proposal n x p)
unfolding repeat_proposal
from-repeat_proposal None n x = from-none n.me
from-repeat_proposal (Some p) n x =
    if_holds (λ (ls : List Letter). AllFrom n.me ls) _ _ _ (from-none n.me) (from-append n.me _ _ (from-to_each n _ _) (from-own_acknowledgement n x p))

from-repeat_report : (n : Node) → AllFrom n.me (repeat_report n)
unfolding repeat_report
from-repeat_report n = if_holds (λ (ls : List Letter). AllFrom n.me ls) _ _ _ (from-to_each n _ _) (from-none n.me)

from-repeat_own : (n : Node) (s : ℕ) → AllFrom n.me (repeat_own n s)
unfolding repeat_own
from-repeat_own n s = from-repeat_entries n _ _ _ _

from-repeat_kept : (n : Node) (s : Stream) → AllFrom n.me (repeat_kept n s)
unfolding repeat_kept
from-repeat_kept n s = from-repeat_entries n _ _ _ _

from-repeat_proposals : (n : Node) → AllFrom n.me (repeat_proposals n)
unfolding repeat_proposals
from-repeat_proposals n =
    if_holds (λ (ls : List Letter). AllFrom n.me ls) _ _ _
    (from-letters_of n.me (λ x. repeat_proposal n x (entry n x).proposal) (below (length n.entries)) (λ x. from-repeat_proposal _ n x)) (from-none n.me)

from-repeat_done : (n : Node) (s : ℕ) → AllFrom n.me (repeat_done n s)
unfolding repeat_done
from-repeat_done n s = if_holds (λ (ls : List Letter). AllFrom n.me ls) _ _ _ (from-to_each n _ _) (from-none n.me)

from-repeat_leave : (n : Node) (x : ℕ) → AllFrom n.me (repeat_leave n x)
unfolding repeat_leave
from-repeat_leave n x = if_holds (λ (ls : List Letter). AllFrom n.me ls) _ _ _ (from-ask _ n _ _) (from-none n.me)

from-repeats : (n : Node) → AllFrom n.me (repeats n)
unfolding repeats
from-repeats n =
    let slots = below (length n.slots) in
    let entries = from-letters_of n.me (repeat_own n) slots (from-repeat_own n) in
    let kept = from-letters_of n.me (repeat_kept n) (outside n) (from-repeat_kept n) in
    let wishes = from-letters_of n.me (λ s. repeat_requests n (slot n s).current) slots (λ s. from-repeat_requests (slot n s).current n) in
    let dones = from-letters_of n.me (repeat_done n) slots (from-repeat_done n) in
    let leaving = from-letters_of n.me (repeat_leave n) (below (length n.entries)) (from-repeat_leave n) in
    from-append n.me _ _ (from-append n.me _ _ (from-append n.me _ _ (from-append n.me _ _ (from-append n.me _ _ (from-append n.me _ _
    (from-repeat_report n) entries) kept) wishes) (from-repeat_proposals n)) dones) leaving

-- a node that ticks keeps its number, and sends from it alone
pub own-tick : (n : Node) → IsOwn n.me (tick n)
unfolding tick
own-tick n =
    if_holds (λ (d : Did Ticked). IsOwn n.me d) _ _ _ (own-just n _) (record { node = refl; sent = from-repeats n })

-- a node that stops keeps its number, and sends from it alone
pub own-stop : (n : Node) → IsOwn n.me (stop n)
unfolding stop
own-stop n =
    if_holds (λ (d : Did StopOutcome). IsOwn n.me d) _ _ _ (own-just n _) (record { node = refl; sent = from-none n.me })

-- a node that installs a view keeps its number, and sends from it alone
pub own-install : (n : Node) (v : View) → IsOwn n.me (install n v)
unfolding install
own-install n v =
    let P : Did InstallOutcome → Type 0 = λ d. IsOwn n.me d in
    if_holds P n.stopped _ _ (own-just n _)
    (if_holds P (nat_lt n.epoch v.epoch) _ _ (own-then_finish n.me (just _ _) (record { node = refl; sent = from-none n.me })) (own-just n _))
