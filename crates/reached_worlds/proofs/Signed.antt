-- A node sends its letters in its own name, and keeps its number.
use Rattle.std.specs.Prelude.{ℕ, zero, suc, ◌≡◌, ◌+◌, ◌-◌, Bool, true, false, ◌&&◌, not, ◌==◌, nat_lt, List, [], ◌∷◌, ◌++◌, length, take, map, drop, Option, Some, None, is_none, is_some, if◌then◌else◌}
use Rattle.std.proofs.Common.{arith, refl, ap, sym, ◌∙◌}
use Rattle.std.proofs.lemmas.Bool.{cond_both}
use Rattle.zeus_base.specs.Nodes.{has, with_node, without, meet}
use Rattle.zeus_base.specs.Order.{is_below}
use Rattle.zeus_base.specs.declared.order.Stamp.{Stamp}
use Rattle.zeus_base.specs.declared.order.Stream.{Stream}
use Rattle.zeus_packet.specs.Place.{source, arbiters, new_place}
use Rattle.zeus_packet.specs.declared.letter.Body.{Body}
use Rattle.zeus_packet.specs.declared.letter.Body.TheVariants.{RInv, RAck, RVal, OReq, OInv, OAck, ONack, OVal, Recovered}
use Rattle.zeus_packet.specs.declared.letter.Cause.{Cause}
use Rattle.zeus_packet.specs.declared.letter.Cause.TheVariants.{OwnStream, Window, OwnPlace}
use Rattle.zeus_packet.specs.declared.letter.Letter.{Letter}
use Rattle.zeus_packet.specs.declared.letter.RInv.{RInv as Inv}
use Rattle.zeus_packet.specs.declared.place.Place.{Place}
use Rattle.zeus_packet.specs.declared.place.Proposal.{Proposal}
use Rattle.zeus_packet.specs.declared.place.View.{View}
use Rattle.zeus_packet.specs.declared.place.Want.{Want}
use Rattle.zeus_packet.specs.declared.place.Want.TheVariants.{Own, Read, Leave}
use Rattle.zeus_packet.specs.declared.write.Content.{Content}
use Rattle.zeus_packet.specs.declared.write.Write.{Write}
use Rattle.zeus_txn.specs.Ops.{named, is_write}
use Rattle.zeus_txn.specs.declared.ops.Op.{Op}
use Rattle.zeus_txn.specs.declared.reply.Ran.{Ran}
use Rattle.zeus_model.specs.Tables.{nth, put, below}
use Rattle.zeus_model.specs.Act.{Act, Did, letter, to_each, still, just, sends, and_then, did_then, in_turn}
use Rattle.zeus_model.specs.State.{Node, entry, gather, slot, log, with_slot, with_log, with_gather, own_stream, next_number, is_open}
use Rattle.zeus_model.specs.Commit.{as_kept, told, pass_own, pass_kept, advance_own, advance_own_by, advance_kept, advance_kept_by, passing, raise, after_passing, store, stored_rinv, on_rinv, on_own_rack, on_kept_rack, on_rack, on_rval, next_kept, is_within, no_pending, no_kept, acked_pending, acked_kept, outside, report_recovered, none_stored, finish, followers_of}
use Rattle.zeus_model.specs.Ownership.{settle, settled_entry, gather_above, holding, is_source, own_content, unready_cause, driven, invalidations, acknowledgement, drive, answer_request, request_cause, on_oreq, answer_settled, takes_over, rebased, advice, refuse_proposal, refusal, collector, hold_cause, hold_or_refuse, is_held, oinv_on_base, on_oinv, is_decidable, bring, brought, decide_with, decide_on, decide_gathered, decide, gather_for, greater_gather, noted, is_noted, take_ack, gather_or_older, collect_cause, collect_or_refuse, oack_on_base, on_oack, on_oval}
use Rattle.zeus_model.specs.Membership.{install, stop, dropped, letters_of, others, apart, repeat_report, repeat_entries, repeat_own, repeat_kept, repeat_requests, own_acknowledgement, repeat_proposal, repeat_proposals, repeat_done, leaves, repeat_leave, repeats, tick}
use Rattle.zeus_model.specs.Local.{begin, begin_free, with_current, driver, ask, requests, not_owned, not_copied, read_missing, read_row, hindrance, Hindrance, Missing, Unready, run_here, write_row, write_cause, commit, commit_entry, committed, invalidation, new_writes, replicas_of, try_current, try_slot}
use Rattle.zeus_model.specs.Receive.{on_recovered, row, rejection, receive_or_not, receive}
use Rattle.zeus_model.specs.declared.answer.Begin.{Begin}
use Rattle.zeus_model.specs.declared.answer.Begin.TheVariants.{Begun, Busy, Stopped as BeginStopped}
use Rattle.zeus_model.specs.declared.answer.Outcome.{Outcome}
use Rattle.zeus_model.specs.declared.answer.Outcome.TheVariants.{Taken, Again, Gap, Older, Settled, Refused}
use Rattle.zeus_model.specs.declared.answer.Tried.{Tried}
use Rattle.zeus_model.specs.declared.answer.Tried.TheVariants.{Stopped, Nothing, NoCopy, NotValid, Read as ReadTried, PipeFull, NotOwner, Held, WornOut, Committed}
use Rattle.zeus_model.specs.declared.answer.Ticked.{Ticked}
use Rattle.zeus_model.specs.declared.answer.Ticked.TheVariants.{Ticked as TickDone, Stopped as TickStopped}
use Rattle.zeus_model.specs.declared.answer.Install.{Install}
use Rattle.zeus_model.specs.declared.answer.Install.TheVariants.{Installed, Stopped as InstallStopped, Old}
use Rattle.zeus_model.specs.declared.answer.Stop.{Stop}
use Rattle.zeus_model.specs.declared.answer.Stop.TheVariants.{Done, Stopped as StopStopped}
use Rattle.zeus_model.specs.declared.state.Copy.{Copy}
use Rattle.zeus_model.specs.declared.state.Current.{Current}
use Rattle.zeus_model.specs.declared.state.Gather.{Gather}
use Rattle.zeus_model.specs.declared.state.Kept.{Kept}

-- each of the letters is by the node of this number
unfoldable pub AreBy : ℕ → List Letter → Type 0
AreBy me [] = Unit {0}
AreBy me (l ∷ ls) = (l.from ≡ me) × AreBy me ls

-- the node has this number, and its letters are by it
pub record IsBy (me : ℕ) (n : Node) (ls : List Letter) : Type 0 where
  pub number : n.me ≡ me
  pub by : AreBy me ls

by_none : (me : ℕ) → AreBy me []
unfolding AreBy
by_none me = tt

by_one : (me : ℕ) (l : Letter) → l.from ≡ me → AreBy me (l ∷ [])
unfolding AreBy
by_one me l h = (h, tt)

by_append : (me : ℕ) (a b : List Letter) → AreBy me a → AreBy me b → AreBy me (a ++ b)
unfolding AreBy
by_append me [] b h k = k
by_append me (l ∷ a) b h k = (h.0, by_append me a b h.1 k)

-- if letters are by a node, then so are the earliest of them
pub by_take : (me n : ℕ) (ls : List Letter) → AreBy me ls → AreBy me (take n ls)
unfolding AreBy
by_take me zero ls h = tt
by_take me (suc n) [] h = tt
by_take me (suc n) (l ∷ ls) h = (h.0, by_take me n ls h.1)

by_each : (me : ℕ) (n : Node) (tos : List ℕ) (body : Body) → n.me ≡ me → AreBy me (to_each n tos body)
unfolding AreBy to_each
by_each me n [] body h = tt
by_each me n (to ∷ tos) body h = (h, by_each me n tos body h)

by_where : (me : ℕ) (test : Bool) (a b : List Letter) → AreBy me a → AreBy me b → AreBy me (if test then a else b)
by_where me true a b h k = h
by_where me false a b h k = k

by_each_of : {A : Type 0} (me : ℕ) (f : A → List Letter) (xs : List A) → ((x : A) → AreBy me (f x)) → AreBy me (letters_of f xs)
unfolding letters_of AreBy
by_each_of me f [] h = tt
by_each_of me f (x ∷ xs) h = by_append me (f x) (letters_of f xs) (h x) (by_each_of me f xs h)

is_still : (me : ℕ) (n : Node) → n.me ≡ me → IsBy me n []
is_still me n h = record { number = h; by = by_none me }

-- an act by the node, whatever it is then
abbrev Acts : ℕ → (Node → Act) → Type 0
Acts me g = (n : Node) → n.me ≡ me → IsBy me (g n).node (g n).sent

is_then : (me : ℕ) (a : Act) (g : Node → Act) → IsBy me a.node a.sent → Acts me g → IsBy me (and_then a g).node (and_then a g).sent
is_then me a g h k =
    let next = k a.node h.number in
    record { number = next.number; by = by_append me a.sent (g a.node).sent h.by next.by }

is_did_then : {A : Type 0} (me : ℕ) (d : Did A) (g : Node → Act) → IsBy me d.node d.sent → Acts me g → IsBy me (did_then d g).node (did_then d g).sent
is_did_then me d g h k =
    let next = k d.node h.number in
    record { number = next.number; by = by_append me d.sent (g d.node).sent h.by next.by }

is_turns : {A : Type 0} (me : ℕ) (f : Node → A → Act) (is : List A) → ((i : A) → Acts me (λ n. f n i)) → Acts me (λ n. in_turn f n is)
unfolding in_turn
is_turns me f [] each n h = is_still me n h
is_turns me f (i ∷ is) each n h = is_then me (f n i) (λ m. in_turn f m is) (each i n h) (is_turns me f is each)

is_either : {A : Type 0} (me : ℕ) (test : Bool) (a b : Did A) → IsBy me a.node a.sent → IsBy me b.node b.sent → IsBy me (if test then a else b).node (if test then a else b).sent
is_either me true a b h k = h
is_either me false a b h k = k

is_either_act : (me : ℕ) (test : Bool) (a b : Act) → IsBy me a.node a.sent → IsBy me b.node b.sent → IsBy me (if test then a else b).node (if test then a else b).sent
is_either_act me true a b h k = h
is_either_act me false a b h k = k

-- ---- small changes

settle-me : (n : Node) (x : ℕ) (stamp : Stamp) (place : Place) → (settle n x stamp place).me ≡ n.me
unfolding settle
settle-me n x stamp place =
    cond_both (is_below (entry n x).stamp stamp) (with_gather (record n { entries = put Rattle.zeus_model.specs.State.no_entry n.entries x (settled_entry (entry n x) stamp place) }) x (gather_above stamp (gather n x))) n (λ (m : Node). m.me ≡ n.me) (λ _. refl) (λ _. refl)

bring-me : (n : Node) (x : ℕ) (p : Proposal) (c : Content) → (bring n x p c).me ≡ n.me
unfolding bring
bring-me n x p c = cond_both (p.requester == n.me) (record n { copies = put None n.copies x (brought p.want c) }) n (λ (m : Node). m.me ≡ n.me) (λ _. refl) (λ _. refl)

raise-me : (n : Node) (s : Stream) (d : ℕ) → (raise n s d).me ≡ n.me
unfolding raise
raise-me n s d =
    cond_both (nat_lt (log n s).done d) (with_log (after_passing n (take (d - (log n s).done) (log n s).kept)) s record { done = d; kept = drop (d - (log n s).done) (log n s).kept }) n (λ (m : Node). m.me ≡ n.me) (λ _. refl) (λ _. refl)

-- ---- the finish

advance_own_by-by : (me s k : ℕ) → Acts me (λ n. advance_own_by n s k)
unfolding advance_own_by
advance_own_by-by me s zero n h = is_still me n h
advance_own_by-by me s (suc k) n h = record { number = h; by = by_each me (pass_own n s (suc k)) _ _ h }

advance_own-by : (me s : ℕ) → Acts me (λ n. advance_own n s)
unfolding advance_own
advance_own-by me s n h = advance_own_by-by me s (passing n (map as_kept (slot n s).pending)) n h

advance_kept_by-by : (me k : ℕ) (s : Stream) → Acts me (λ n. advance_kept_by n s k)
unfolding advance_kept_by
advance_kept_by-by me zero s n h = is_still me n h
advance_kept_by-by me (suc k) s n h = record { number = h; by = by_each me (pass_kept n s (suc k)) _ _ h }

advance_kept-by : (me : ℕ) (s : Stream) → Acts me (λ n. advance_kept n s)
unfolding advance_kept
advance_kept-by me s n h = advance_kept_by-by me (passing n (log n s).kept) s n h

report-by : (me : ℕ) → Acts me report_recovered
unfolding report_recovered
report-by me n h =
    is_either_act me (not (has n.me n.reported) && none_stored n (outside n)) (record { node = record n { reported = with_node n.me n.reported }; sent = to_each n (without n.me n.members) Recovered; passed = [] }) (still n)
    (record { number = h; by = by_each me n (without n.me n.members) Recovered h }) (is_still me n h)

finish-by : (me : ℕ) → Acts me finish
unfolding finish
finish-by me n h =
    is_then me (in_turn advance_own n (below (length n.slots))) (λ m. and_then (in_turn advance_kept m (outside m)) report_recovered)
    (is_turns me advance_own (below (length n.slots)) (λ s. advance_own-by me s) n h)
    (λ m k. is_then me (in_turn advance_kept m (outside m)) report_recovered (is_turns me advance_kept (outside m) (λ s. advance_kept-by me s) m k) (report-by me))

-- ---- letters of commit

stored_rinv-by : (me from : ℕ) (r : Inv) (n : Node) → n.me ≡ me → IsBy me (stored_rinv n from r).node (stored_rinv n from r).sent
unfolding stored_rinv
stored_rinv-by me from r n h =
    let ack : IsBy me n (letter n from (RAck r.stream r.number) ∷ []) = record { number = h; by = by_one me (letter n from (RAck r.stream r.number)) h } in
    is_either me (nat_lt r.number (next_kept (log n r.stream))) (sends n Again (letter n from (RAck r.stream r.number) ∷ [])) _ ack
    (is_either me (nat_lt (next_kept (log n r.stream)) r.number) (just n (Gap (next_kept (log n r.stream)))) _ (is_still me n h)
    (is_either me (length (log n r.stream).kept == 16) (just n (Refused Window)) (sends (store n r) Taken (letter n from (RAck r.stream r.number) ∷ [])) (is_still me n h) (record { number = h; by = ack.by })))

on_rinv-by : (me from : ℕ) (r : Inv) (n : Node) → n.me ≡ me → IsBy me (on_rinv n from r).node (on_rinv n from r).sent
unfolding on_rinv
on_rinv-by me from r n h =
    is_either me (r.stream.node == n.me) (just n (Refused OwnStream)) (stored_rinv (raise n r.stream r.done) from r) (is_still me n h)
    (stored_rinv-by me from r (raise n r.stream r.done) (raise-me n r.stream r.done ∙ h))

on_rack-by : (me from : ℕ) (s : Stream) (number : ℕ) (n : Node) → n.me ≡ me → IsBy me (on_rack n from s number).node (on_rack n from s number).sent
unfolding on_rack on_own_rack on_kept_rack
on_rack-by me from s number n h =
    is_either me (s.node == n.me) _ _
    (is_either me _ _ (just n Again) (record { number = h; by = by_none me }) (is_still me n h))
    (is_either me _ _ (just n Again) (record { number = h; by = by_none me }) (is_still me n h))

on_rval-by : (me : ℕ) (s : Stream) (d : ℕ) (n : Node) → n.me ≡ me → IsBy me (on_rval n s d).node (on_rval n s d).sent
unfolding on_rval
on_rval-by me s d n h =
    is_either me (s.node == n.me) (just n (Refused OwnStream)) _ (is_still me n h)
    (is_either me (nat_lt (log n s).done d) (just (raise n s d) Taken) (just n Again) (is_still me (raise n s d) (raise-me n s d ∙ h)) (is_still me n h))

on_recovered-by : (me from : ℕ) (n : Node) → n.me ≡ me → IsBy me (on_recovered n from).node (on_recovered n from).sent
unfolding on_recovered
on_recovered-by me from n h =
    is_either me (has from n.reported) (just n Again) (just (record n { reported = with_node from n.reported }) Taken) (is_still me n h) (record { number = h; by = by_none me })

-- ---- letters of ownership

answer_request-by : (me from x : ℕ) (want : Want) (n : Node) (o : Option Cause) → n.me ≡ me → IsBy me (answer_request n from x want o).node (answer_request n from x want o).sent
unfolding answer_request
answer_request-by me from x want n (Some cause) h = record { number = h; by = by_one me (letter n from (ONack x (entry n x).stamp cause)) h }
answer_request-by me from x want n None h =
    let p = driven n x from want in
    record {
      number = h;
      by = by_append me (invalidations n x p) (acknowledgement n from x p ∷ []) (by_each me n (without n.me (arbiters p.base_place n.members n.directory)) (OInv x p) h) (by_one me (acknowledgement n from x p) h);
    }

on_oreq-by : (me from x : ℕ) (want : Want) (n : Node) → n.me ≡ me → IsBy me (on_oreq n from x want).node (on_oreq n from x want).sent
unfolding on_oreq
on_oreq-by me from x want n h = answer_request-by me from x want n (request_cause n x from want) h

answer_settled-by : (me from x : ℕ) (n : Node) → n.me ≡ me → IsBy me (answer_settled n from x).node (answer_settled n from x).sent
answer_settled-by me from x n h = record { number = h; by = by_one me (letter n from (OVal x (entry n x).stamp (entry n x).place)) h }

rebased-me : (n m : Node) (x : ℕ) (p : Proposal) → rebased n x p ≡ Some m → m.me ≡ n.me
unfolding rebased
rebased-me n m x p e = go (is_below (entry n x).stamp p.base) (takes_over n x p.base_place) e
  where
    same : (k : Node) → Some k ≡ Some m → k.me ≡ n.me → m.me ≡ n.me
    same k f h = let is : k ≡ m = cc in ap (λ (q : Node). q.me) (sym is) ∙ h

    go : (a b : Bool) → (if a then (if b then None else Some (settle n x p.base p.base_place)) else Some n) ≡ Some m → m.me ≡ n.me
    go true true f = cc
    go true false f = same (settle n x p.base p.base_place) f (settle-me n x p.base p.base_place)
    go false b f = same n f refl

advice-by : (me x : ℕ) (p : Proposal) (cause : Cause) (n : Node) → n.me ≡ me → AreBy me (advice n x p cause)
unfolding advice
advice-by me x p cause n h = by_where me (has p.requester n.members) (letter n p.requester (ONack x p.stamp cause) ∷ []) [] (by_one me (letter n p.requester (ONack x p.stamp cause)) h) (by_none me)

hold_or_refuse-by : (me from x : ℕ) (p : Proposal) (cause : Option Cause) (n : Node) → n.me ≡ me → IsBy me (hold_or_refuse n from x p cause).node (hold_or_refuse n from x p cause).sent
unfolding hold_or_refuse
hold_or_refuse-by me from x p (Some cause) n h = record { number = h; by = advice-by me x p cause n h }
hold_or_refuse-by me from x p None n h = record { number = h; by = by_one me (acknowledgement n (collector n p from) x p) h }

oinv_on_base-by : (me from x : ℕ) (p : Proposal) (n : Node) (base : Option Node) → n.me ≡ me → ((m : Node) → base ≡ Some m → m.me ≡ n.me) → IsBy me (oinv_on_base n from x p base).node (oinv_on_base n from x p base).sent
unfolding oinv_on_base
oinv_on_base-by me from x p n None h k = record { number = h; by = advice-by me x p OwnPlace n h }
oinv_on_base-by me from x p n (Some m) h k = hold_or_refuse-by me from x p (hold_cause m x p) m (k m refl ∙ h)

on_oinv-by : (me from x : ℕ) (p : Proposal) (n : Node) → n.me ≡ me → IsBy me (on_oinv n from x p).node (on_oinv n from x p).sent
unfolding on_oinv
on_oinv-by me from x p n h =
    is_either me (is_below (entry n x).stamp p.stamp) (oinv_on_base n from x p (rebased n x p)) (answer_settled n from x)
    (oinv_on_base-by me from x p n (rebased n x p) h (λ m e. rebased-me n m x p e)) (answer_settled-by me from x n h)

decide_on-by : (me x : ℕ) (p : Proposal) (o : Option Content) (n : Node) → n.me ≡ me → IsBy me (decide_on n x p o).node (decide_on n x p o).sent
unfolding decide_on
decide_on-by me x p None n h = is_still me n h
decide_on-by me x p (Some c) n h = record {
  number = bring-me (settle n x p.stamp (new_place p)) x p c ∙ settle-me n x p.stamp (new_place p) ∙ h;
  by = by_each me n (without n.me n.members) (OVal x p.stamp (new_place p)) h;
}

decide_gathered-by : (me x : ℕ) (o : Option Gather) (n : Node) → n.me ≡ me → IsBy me (decide_gathered n x o).node (decide_gathered n x o).sent
unfolding decide_gathered
decide_gathered-by me x None n h = is_still me n h
decide_gathered-by me x (Some g) n h = is_either_act me (is_decidable n g) (decide_on n x g.proposal g.content) (still n) (decide_on-by me x g.proposal g.content n h) (is_still me n h)

take_ack-by : (me from x : ℕ) (content : Option Content) (g : Gather) (n : Node) → n.me ≡ me → IsBy me (take_ack n from x content g).node (take_ack n from x content g).sent
unfolding take_ack
take_ack-by me from x content g n h =
    let first : Did Outcome = just (with_gather n x (Some (noted g from content))) (if is_noted g from content then Again else Taken) in
    is_did_then me first (decide x) (is_still me (with_gather n x (Some (noted g from content))) h) (λ m k. decide_gathered-by me x (gather m x) m k)

gather_or_older-by : (me from x : ℕ) (p : Proposal) (content : Option Content) (o : Option Stamp) (n : Node) → n.me ≡ me → IsBy me (gather_or_older n from x p content o).node (gather_or_older n from x p content o).sent
unfolding gather_or_older
gather_or_older-by me from x p content (Some stamp) n h = is_still me n h
gather_or_older-by me from x p content None n h = take_ack-by me from x content (gather_for p (gather n x)) n h

collect_or_refuse-by : (me from x : ℕ) (p : Proposal) (content : Option Content) (o : Option Cause) (n : Node) → n.me ≡ me → IsBy me (collect_or_refuse n from x p content o).node (collect_or_refuse n from x p content o).sent
unfolding collect_or_refuse
collect_or_refuse-by me from x p content (Some cause) n h = is_still me n h
collect_or_refuse-by me from x p content None n h = gather_or_older-by me from x p content (greater_gather p.stamp (gather n x)) n h

oack_on_base-by : (me from x : ℕ) (p : Proposal) (content : Option Content) (n : Node) (base : Option Node) → n.me ≡ me → ((m : Node) → base ≡ Some m → m.me ≡ n.me) → IsBy me (oack_on_base n from x p content base).node (oack_on_base n from x p content base).sent
unfolding oack_on_base
oack_on_base-by me from x p content n None h k = is_still me n h
oack_on_base-by me from x p content n (Some m) h k = collect_or_refuse-by me from x p content (collect_cause m x p) m (k m refl ∙ h)

on_oack-by : (me from x : ℕ) (p : Proposal) (content : Option Content) (n : Node) → n.me ≡ me → IsBy me (on_oack n from x p content).node (on_oack n from x p content).sent
unfolding on_oack
on_oack-by me from x p content n h =
    is_either me (is_below (entry n x).stamp p.stamp) (oack_on_base n from x p content (rebased n x p)) (answer_settled n from x)
    (oack_on_base-by me from x p content n (rebased n x p) h (λ m e. rebased-me n m x p e)) (answer_settled-by me from x n h)

on_oval-by : (me x : ℕ) (stamp : Stamp) (place : Place) (n : Node) → n.me ≡ me → IsBy me (on_oval n x stamp place).node (on_oval n x stamp place).sent
unfolding on_oval
on_oval-by me x stamp place n h =
    is_either me (is_below (entry n x).stamp stamp) _ (just n Again)
    (is_either me (takes_over n x place) (just n (Refused OwnPlace)) (just (settle n x stamp place) Taken) (is_still me n h) (is_still me (settle n x stamp place) (settle-me n x stamp place ∙ h)))
    (is_still me n h)

-- ---- every letter

row-by : (me from : ℕ) (body : Body) (n : Node) → n.me ≡ me → IsBy me (row n from body).node (row n from body).sent
unfolding row
row-by me from (RInv r) n h = on_rinv-by me from r n h
row-by me from (RAck s number) n h = on_rack-by me from s number n h
row-by me from (RVal s done) n h = on_rval-by me s done n h
row-by me from (OReq x want) n h = on_oreq-by me from x want n h
row-by me from (OInv x p) n h = on_oinv-by me from x p n h
row-by me from (OAck x p content) n h = on_oack-by me from x p content n h
row-by me from (ONack x stamp cause) n h = is_still me n h
row-by me from (OVal x stamp place) n h = on_oval-by me x stamp place n h
row-by me from Recovered n h = on_recovered-by me from n h

receive_or_not-by : (me : ℕ) (l : Letter) (o : Option Outcome) (n : Node) → n.me ≡ me → IsBy me (receive_or_not n l o).node (receive_or_not n l o).sent
unfolding receive_or_not
receive_or_not-by me l (Some outcome) n h = is_still me n h
receive_or_not-by me l None n h = is_did_then me (row n l.from l.body) finish (row-by me l.from l.body n h) (finish-by me)

-- a node that receives a letter keeps its number, and sends in its own name
pub receive-by : (me : ℕ) (l : Letter) (n : Node) → n.me ≡ me → IsBy me (receive n l).node (receive n l).sent
unfolding receive
receive-by me l n h = receive_or_not-by me l (rejection n l) n h

-- ---- begins and tries

begin_free-by : (me s : ℕ) (c : Current) (o : Option Current) (n : Node) → n.me ≡ me → IsBy me (begin_free n s c o).node (begin_free n s c o).sent
unfolding begin_free
begin_free-by me s c (Some other) n h = is_still me n h
begin_free-by me s c None n h = record { number = h; by = by_none me }

-- a node that begins a transaction keeps its number, and sends in its own name
pub begin-by : (me s id : ℕ) (tx : List Op) (n : Node) → n.me ≡ me → IsBy me (begin n s id tx).node (begin n s id tx).sent
unfolding begin
begin-by me s id tx n h =
    is_either me n.stopped (just n BeginStopped) (begin_free n s record { id = id; tx = tx } (slot n s).current) (is_still me n h) (begin_free-by me s record { id = id; tx = tx } (slot n s).current n h)

ask-by : (me : ℕ) (n : Node) (want : Want) (xs : List ℕ) (d : Option ℕ) → n.me ≡ me → AreBy me (ask n want xs d)
unfolding ask AreBy
ask-by me n want xs None h = tt
ask-by me n want [] (Some d) h = tt
ask-by me n want (x ∷ xs) (Some d) h = (h, ask-by me n want xs (Some d) h)

read_missing-by : (me s : ℕ) (c : Current) (x : ℕ) (d : Option ℕ) (n : Node) → n.me ≡ me → IsBy me (read_missing n s c x d).node (read_missing n s c x d).sent
unfolding read_missing
read_missing-by me s c x None n h = record { number = h; by = by_none me }
read_missing-by me s c x (Some d) n h = record { number = h; by = ask-by me n Read (not_copied n (named c.tx)) (driver n) h }

read_row-by : (me s : ℕ) (c : Current) (o : Option Hindrance) (n : Node) → n.me ≡ me → IsBy me (read_row n s c o).node (read_row n s c o).sent
unfolding read_row
read_row-by me s c None n h = record { number = h; by = by_none me }
read_row-by me s c (Some (Missing x)) n h = read_missing-by me s c x n.degree n h
read_row-by me s c (Some (Unready x state)) n h = is_still me n h

commit_entry-by : (me s : ℕ) (c : Current) (ran : Ran) (followers : List ℕ) (writes : List Write) (n : Node) → n.me ≡ me → IsBy me (commit_entry n s c ran followers writes).node (commit_entry n s c ran followers writes).sent
unfolding commit_entry
commit_entry-by me s c ran followers writes n h =
    is_did_then me (sends (committed n s c ran followers writes) (Committed c.id (next_number (slot n s)) ran.reply) (to_each n (meet followers n.members) (RInv (invalidation n s followers writes)))) (λ m. advance_own m s)
    (record { number = h; by = by_each me n (meet followers n.members) (RInv (invalidation n s followers writes)) h }) (advance_own-by me s)

write_row-by : (me s : ℕ) (c : Current) (o : Option Tried) (n : Node) → n.me ≡ me → IsBy me (write_row n s c o).node (write_row n s c o).sent
unfolding write_row commit
write_row-by me s c None n h = commit_entry-by me s c (run_here n c.tx) _ _ n h
write_row-by me s c (Some Stopped) n h = is_still me n h
write_row-by me s c (Some Nothing) n h = is_still me n h
write_row-by me s c (Some (NoCopy id x)) n h = is_still me n h
write_row-by me s c (Some (NotValid x state)) n h = is_still me n h
write_row-by me s c (Some (ReadTried id reply)) n h = is_still me n h
write_row-by me s c (Some PipeFull) n h = is_still me n h
write_row-by me s c (Some (NotOwner x)) n h = record { number = h; by = ask-by me n Own (not_owned n (named c.tx)) (driver n) h }
write_row-by me s c (Some (Held x other)) n h = is_still me n h
write_row-by me s c (Some WornOut) n h = is_still me n h
write_row-by me s c (Some (Committed id number reply)) n h = is_still me n h

try_current-by : (me s : ℕ) (c : Option Current) (n : Node) → n.me ≡ me → IsBy me (try_current n s c).node (try_current n s c).sent
unfolding try_current
try_current-by me s None n h = is_still me n h
try_current-by me s (Some c) n h =
    is_either me (is_write c.tx) (write_row n s c (write_cause n s c.tx)) (read_row n s c (hindrance n c.tx)) (write_row-by me s c (write_cause n s c.tx) n h) (read_row-by me s c (hindrance n c.tx) n h)

-- a node that tries a slot keeps its number, and sends in its own name
pub try_slot-by : (me s : ℕ) (n : Node) → n.me ≡ me → IsBy me (try_slot n s).node (try_slot n s).sent
unfolding try_slot
try_slot-by me s n h = is_either me n.stopped (just n Stopped) (try_current n s (slot n s).current) (is_still me n h) (try_current-by me s (slot n s).current n h)

-- ---- views, stops and ticks

-- a node that installs a view keeps its number, and sends in its own name
pub install-by : (me : ℕ) (v : View) (n : Node) → n.me ≡ me → IsBy me (install n v).node (install n v).sent
unfolding install
install-by me v n h =
    is_either me n.stopped (just n InstallStopped) _ (is_still me n h)
    (is_either me (nat_lt n.epoch v.epoch) (did_then (just (record n { epoch = v.epoch; members = v.members; reported = []; gathers = dropped n.gathers }) Installed) finish) (just n (Old n.epoch))
    (is_did_then me (just (record n { epoch = v.epoch; members = v.members; reported = []; gathers = dropped n.gathers }) Installed) finish (record { number = h; by = by_none me }) (finish-by me))
    (is_still me n h))

-- a node that stops keeps its number, and sends in its own name
pub stop-by : (me : ℕ) (n : Node) → n.me ≡ me → IsBy me (stop n).node (stop n).sent
unfolding stop
stop-by me n h = is_either me n.stopped (just n StopStopped) (just (record n { stopped = true }) Done) (is_still me n h) (record { number = h; by = by_none me })

repeat_entries-by : (me : ℕ) (n : Node) (s : Stream) (done number : ℕ) (ks : List Kept) → n.me ≡ me → AreBy me (repeat_entries n s done number ks)
unfolding repeat_entries AreBy
repeat_entries-by me n s done number [] h = tt
repeat_entries-by me n s done number (k ∷ ks) h = by_append me _ (repeat_entries n s done (number + 1) ks) (by_each me n _ _ h) (repeat_entries-by me n s done (number + 1) ks h)

repeat_requests-by : (me : ℕ) (n : Node) (o : Option Current) → n.me ≡ me → AreBy me (repeat_requests n o)
unfolding repeat_requests AreBy
repeat_requests-by me n None h = tt
repeat_requests-by me n (Some c) h =
    by_where me (is_write c.tx) (requests n Own (not_owned n (named c.tx))) _ (ask-by me n Own (not_owned n (named c.tx)) (driver n) h)
    (by_where me (is_some n.degree) (requests n Read (not_copied n (named c.tx))) [] (ask-by me n Read (not_copied n (named c.tx)) (driver n) h) tt)

repeat_proposal-by : (me : ℕ) (n : Node) (x : ℕ) (o : Option Proposal) → n.me ≡ me → AreBy me (repeat_proposal n x o)
unfolding repeat_proposal own_acknowledgement AreBy
repeat_proposal-by me n x None h = tt
repeat_proposal-by me n x (Some p) h =
    by_where me (is_none (source p.base_place n.members)) [] (invalidations n x p ++ own_acknowledgement n x p) tt
    (by_append me (invalidations n x p) (own_acknowledgement n x p) (by_each me n (without n.me (arbiters p.base_place n.members n.directory)) (OInv x p) h)
    (by_where me (is_source n p.base_place && is_some (unready_cause n x)) [] (acknowledgement n (collector n p n.me) x p ∷ []) tt (h, tt)))

repeats-by : (me : ℕ) (n : Node) → n.me ≡ me → AreBy me (repeats n)
unfolding repeats repeat_report repeat_own repeat_kept repeat_proposals repeat_done repeat_leave
repeats-by me n h =
    by_append me _ _ (by_append me _ _ (by_append me _ _ (by_append me _ _ (by_append me _ _ (by_append me _ _
    (by_where me (nat_lt 1 n.epoch && has n.me n.reported) (to_each n (others n) Recovered) [] (by_each me n (others n) Recovered h) (by_none me))
    (by_each_of me (repeat_own n) (below (length n.slots)) (λ s. repeat_entries-by me n (own_stream n s) (slot n s).done (slot n s).done (map as_kept (slot n s).pending) h)))
    (by_each_of me (repeat_kept n) (outside n) (λ s. repeat_entries-by me n s (log n s).done (log n s).done (log n s).kept h)))
    (by_each_of me (λ s. repeat_requests n (slot n s).current) (below (length n.slots)) (λ s. repeat_requests-by me n (slot n s).current h)))
    (by_where me (is_open n) (letters_of (λ x. repeat_proposal n x (entry n x).proposal) (below (length n.entries))) [] (by_each_of me (λ x. repeat_proposal n x (entry n x).proposal) (below (length n.entries)) (λ x. repeat_proposal-by me n x (entry n x).proposal h)) (by_none me)))
    (by_each_of me (repeat_done n) (below (length n.slots)) (λ s. by_where me (nat_lt 0 (slot n s).done) (to_each n (others n) (RVal (own_stream n s) (slot n s).done)) [] (by_each me n (others n) (RVal (own_stream n s) (slot n s).done) h) (by_none me))))
    (by_each_of me (repeat_leave n) (below (length n.entries)) (λ x. by_where me (leaves n x (entry n x).place) (requests n Leave (x ∷ [])) [] (ask-by me n Leave (x ∷ []) (driver n) h) (by_none me)))

-- a node that ticks keeps its number, and sends in its own name
pub tick-by : (me : ℕ) (n : Node) → n.me ≡ me → IsBy me (tick n).node (tick n).sent
unfolding tick
tick-by me n h = is_either me n.stopped (just n TickStopped) (sends n TickDone (repeats n)) (is_still me n h) (record { number = h; by = repeats-by me n h })

-- ---- what passes in a tick

no_passes : (test : Bool) (a b : Did Ticked) → a.passed ≡ [] → b.passed ≡ [] → (if test then a else b).passed ≡ []
no_passes true a b h k = h
no_passes false a b h k = k

-- a tick passes nothing
pub tick-passed : (n : Node) → (tick n).passed ≡ []
unfolding tick
tick-passed n = no_passes n.stopped (just n TickStopped) (sends n TickDone (repeats n)) refl refl
