-- A tick: what a node says again, and the proposals that it drives again.
use Rattle.std.specs.Prelude.{ℕ, suc, ◌≡◌, ◌≢◌, ◌+◌, ◌<◌, Bool, true, false, ◌&&◌, nat_lt, List, [], ◌∷◌, ◌++◌, length, take, map, Option, Some, None, is_none, is_some, if◌then◌else◌}
use Rattle.std.proofs.Common.{arith, refl, inl, inr, subst}
use Rattle.std.proofs.lemmas.Bool.{cond_both, and_parts}
use Rattle.std.proofs.lemmas.List.{length-map}
use Rattle.zeus_base.specs.Nodes.{has, without, meet}
use Rattle.zeus_base.specs.NodeLaws.{has-tail}
use Rattle.zeus_base.specs.declared.order.Stream.{Stream}
use Rattle.zeus_packet.specs.Place.{source}
use Rattle.zeus_packet.specs.declared.letter.Body.{Body}
use Rattle.zeus_packet.specs.declared.letter.Body.TheVariants.{RInv, RVal, Recovered}
use Rattle.zeus_packet.specs.declared.letter.Letter.{Letter}
use Rattle.zeus_packet.specs.declared.place.Proposal.{Proposal}
use Rattle.zeus_packet.specs.declared.place.Want.TheVariants.{Own, Read, Leave}
use Rattle.zeus_txn.specs.Ops.{named, is_write}
use Rattle.zeus_model.specs.In.{In, here, there}
use Rattle.zeus_model.specs.Tables.{nth, below}
use Rattle.zeus_model.specs.declared.answer.Ticked.{Ticked}
use Rattle.zeus_model.specs.declared.answer.Ticked.TheVariants.{Ticked as TickDone, Stopped as TickStopped}
use Rattle.zeus_model.specs.declared.state.Current.{Current}
use Rattle.zeus_model.specs.declared.state.Kept.{Kept}
use Rattle.zeus_model.specs.State.{Node, entry, slot, log, own_stream, is_open}
use Rattle.zeus_model.specs.Act.{Did, just, sends, letter, to_each}
use Rattle.zeus_model.specs.Commit.{as_kept, no_kept, outside}
use Rattle.zeus_model.specs.Local.{requests, not_owned, not_copied}
use Rattle.zeus_model.specs.Ownership.{is_source, unready_cause, invalidations, acknowledgement, collector}
use Rattle.zeus_model.specs.Membership.{letters_of, others, apart, repeat_report, repeat_entries, repeat_own, repeat_kept, repeat_requests, own_acknowledgement, repeat_proposal, repeat_proposals, repeat_done, leaves, repeat_leave, repeats, tick}
use Rattle.zeus_model.specs.InLaws.{In-append}
use Rattle.machine_moves.specs.SystemState.{SystemState}
use Rattle.machine_moves.specs.Move.{own_kept, entry_letter, reported, kept_entry, own_passed, IsTellable, IsAboutProposal, redrives}
use Rattle.machine_moves.specs.Plain.{IsPlain}
use Rattle.machine_moves.proofs.Lists.{In-take}
use Rattle.machine_moves.proofs.Within.{Keeps-refl}
use Rattle.machine_moves.proofs.Steady.{IsSteady}
use Rattle.machine_moves.proofs.Reach.{Became-changed, Changes-became, changed, PlainReaches as Reaches, PlainAnswered as Answered, IsReady, still_reaches, move_reaches, cut_none, cut_then, tells_at}
use Rattle.machine_moves.proofs.Passing.{to_each-each, without-member, without-other, meet-left, meet-right}
use Rattle.machine_moves.proofs.Finish.{streams_outside-node}
use Rattle.machine_moves.proofs.Causes.{is_none-false}
use Rattle.machine_moves.proofs.Proposals.{invalidation_about, acknowledgement_about, collector-requester}
use Rattle.machine_moves.proofs.Trying.{own_entry_at, requests_telling}

-- ---- letters of parts

-- these letters can be sent by moves that leave the node as it is
pub record Speaks (n : ℕ) (m : Node) (ls : List Letter) : Type 0 where
  pub on : (s : SystemState) (k : ℕ) → IsReady s n → s.node n ≡ m → Reaches s n m (take k ls)

Speaks-tells : (n : ℕ) (m : Node) (ls : List Letter) → ((l : Letter) → In l ls → IsTellable m l) → Speaks n m ls
Speaks-tells n m ls fair = record { on = λ s k ready is. tells_at s n k m ls ready.live is fair }

Speaks-append : (n : ℕ) (m : Node) (a b : List Letter) → Speaks n m a → Speaks n m b → Speaks n m (a ++ b)
Speaks-append n m a b p q =
    record { on = λ s k ready is. cut_then s n k m m a b ready (p.on s k ready is) (λ t j rt became. q.on t j rt became.node) }

Speaks-nothing : (n : ℕ) (m : Node) → Speaks n m []
Speaks-nothing n m = Speaks-tells n m [] (λ l i. elim i [ ])

Speaks-letters_of : {A : Type 0} (n : ℕ) (m : Node) (f : A → List Letter) (xs : List A) → ((x : A) → In x xs → Speaks n m (f x)) → Speaks n m (letters_of f xs)
unfolding letters_of
Speaks-letters_of n m f [] h = Speaks-nothing n m
Speaks-letters_of n m f (x ∷ xs) h = Speaks-append n m (f x) (letters_of f xs) (h x (here x xs refl)) (Speaks-letters_of n m f xs (λ y i. h y (there x xs i)))

-- letters that are sent only where a test holds
In-where : (test : Bool) (l : Letter) (ls : List Letter) → In l (if test then ls else []) → (test ≡ true) × In l ls
In-where true l ls i = (refl, i)
In-where false l ls i = elim i [ ]

-- ---- what is told again

others_telling : (P : Letter → Type 0) (m : Node) (body : Body) → ((to : ℕ) → to ≢ m.me → P (letter m to body)) → (l : Letter) → In l (to_each m (others m) body) → P l
others_telling P m body h = to_each-each P m (others m) body (λ to is. h to (without-other to m.me m.members is))

report_again : (m : Node) (l : Letter) → In l (repeat_report m) → IsTellable m l
unfolding repeat_report
report_again m l i =
    let test = In-where (nat_lt 1 m.epoch && has m.me m.reported) l (to_each m (others m) Recovered) i in
    let has_reported = (and_parts (nat_lt 1 m.epoch) (has m.me m.reported) test.0).1 in
    others_telling (IsTellable m) m Recovered (λ to _. reported to has_reported) l test.1

apart-cases : (there_too : Bool) (k m : ℕ) (ms rest : List ℕ) → (has k rest ≡ true → has k ms ≡ true) → has k (if there_too then rest else m ∷ rest) ≡ true → has k (m ∷ ms) ≡ true
unfolding has
apart-cases true k m ms rest sub h = has-tail k m ms (sub h)
apart-cases false k m ms rest sub h = grind (arith, sub)

apart-member : (k : ℕ) (ms ns : List ℕ) → has k (apart ms ns) ≡ true → has k ms ≡ true
unfolding apart
apart-member k [] ns h = h
apart-member k (m ∷ ms) ns h = apart-cases (has m ns) k m ms (apart ms ns) (apart-member k ms ns) h

-- what holds of the letter of each entry to each member follower
abbrev EachEntry : (Letter → Type 0) → Node → Stream → ℕ → ℕ → List Kept → Type 0
EachEntry P m t done number ks = (j to : ℕ) → j < length ks → has to (nth no_kept ks j).followers ≡ true → has to m.members ≡ true → to ≢ m.me → P (letter m to (RInv (entry_letter t (number + j) done (nth no_kept ks j))))

entry_to : (P : Letter → Type 0) (m : Node) (t : Stream) (done number : ℕ) (k : Kept) (ks : List Kept) (to : ℕ) → EachEntry P m t done number (k ∷ ks) → has to (without m.me (meet k.followers m.members)) ≡ true → P (letter m to (RInv (entry_letter t number done k)))
unfolding nth
entry_to P m t done number k ks to h is =
    let both = without-member to m.me (meet k.followers m.members) is in
    let at : number + 0 ≡ number = omega arith in
    rw at at (h 0 to (omega arith) (meet-left to k.followers m.members both) (meet-right to k.followers m.members both) (without-other to m.me (meet k.followers m.members) is))

entry_later : (P : Letter → Type 0) (m : Node) (t : Stream) (done number : ℕ) (k : Kept) (ks : List Kept) (j to : ℕ) → EachEntry P m t done number (k ∷ ks) → j < length ks → has to (nth no_kept ks j).followers ≡ true → has to m.members ≡ true → to ≢ m.me → P (letter m to (RInv (entry_letter t (number + 1 + j) done (nth no_kept ks j))))
unfolding nth
entry_later P m t done number k ks j to h less follower member other =
    let at : number + suc j ≡ number + 1 + j = omega arith in
    rw at at (h (suc j) to (omega arith) follower member other)

-- holds of each letter
repeat_entries-each : (P : Letter → Type 0) (m : Node) (t : Stream) (done number : ℕ) (ks : List Kept) → EachEntry P m t done number ks → (l : Letter) → In l (repeat_entries m t done number ks) → P l
unfolding repeat_entries nth
repeat_entries-each P m t done number [] h l i = elim i [ ]
repeat_entries-each P m t done number (k ∷ ks) h l i =
    let tos = apart (without m.me (meet k.followers m.members)) k.acks in
    let body : Body = RInv (entry_letter t number done k) in
    elim (In-append l (to_each m tos body) (repeat_entries m t done (number + 1) ks) i) [
      | inl own ↦ to_each-each P m tos body (λ to is. entry_to P m t done number k ks to h (apart-member to (without m.me (meet k.followers m.members)) k.acks is)) l own
      | inr later ↦ repeat_entries-each P m t done (number + 1) ks (λ j to less follower member other. entry_later P m t done number k ks j to h less follower member other) l later
    ]

own_again : (m : Node) (i : ℕ) (l : Letter) → In l (repeat_own m i) → IsTellable m l
unfolding repeat_own own_kept
own_again m i =
    let ks = map as_kept (slot m i).pending in
    repeat_entries-each (IsTellable m) m (own_stream m i) (slot m i).done (slot m i).done ks
    (λ j to less follower member other. own_entry_at m to i j ((slot m i).done + j) (slot m i).done (nth no_kept ks j) (rw (length-map (slot m i).pending as_kept) at less) refl refl refl follower member other)

kept_again : (m : Node) (t : Stream) → has t.node m.members ≡ false → (l : Letter) → In l (repeat_kept m t) → IsTellable m l
unfolding repeat_kept
kept_again m t out =
    repeat_entries-each (IsTellable m) m t (log m t).done (log m t).done (log m t).kept (λ j to less follower member other. kept_entry to j t out less follower member other)

requests_again : (current : Option Current) (m : Node) (l : Letter) → In l (repeat_requests m current) → IsTellable m l
unfolding repeat_requests
requests_again None m l i = elim i [ ]
requests_again (Some c) m l i =
    let own = requests m Own (not_owned m (named c.tx)) in
    let copies = requests m Read (not_copied m (named c.tx)) in
    (cond_both (is_write c.tx) own (if is_some m.degree then copies else []) (λ (ls : List Letter). In l ls → IsTellable m l)
    (λ _. requests_telling m Own (not_owned m (named c.tx)) l)
    (λ _ j. requests_telling m Read (not_copied m (named c.tx)) l (In-where (is_some m.degree) l copies j).1)) i

done_again : (m : Node) (i : ℕ) (l : Letter) → In l (repeat_done m i) → IsTellable m l
unfolding repeat_done
done_again m i l is =
    let test = In-where (nat_lt 0 (slot m i).done) l (to_each m (others m) (RVal (own_stream m i) (slot m i).done)) is in
    others_telling (IsTellable m) m (RVal (own_stream m i) (slot m i).done) (λ to other. own_passed to i (slot m i).done (omega arith) other) l test.1

leave_again : (m : Node) (x : ℕ) (l : Letter) → In l (repeat_leave m x) → IsTellable m l
unfolding repeat_leave
leave_again m x l i =
    let test = In-where (leaves m x (entry m x).place) l (requests m Leave (x ∷ [])) i in
    requests_telling m Leave (x ∷ []) l test.1

-- ---- a proposal that is driven again

is_some-none : {A : Type 0} (o : Option A) → is_some o ≡ false → o ≡ None
is_some-none None h = refl
is_some-none (Some a) h = absurd cc

ready_where : {A : Type 0} (at_source : Bool) (o : Option A) → (at_source && is_some o) ≡ false → at_source ≡ true → o ≡ None
ready_where true o h e = is_some-none o h
ready_where false o h e = absurd cc

own_acknowledgement_about : (m : Node) (x : ℕ) (p : Proposal) (l : Letter) → In l (own_acknowledgement m x p) → IsAboutProposal m x p l
unfolding own_acknowledgement
own_acknowledgement_about m x p l i =
    let to = collector m p m.me in
    let say : List Letter = acknowledgement m to x p ∷ [] in
    (cond_both (is_source m p.base_place && is_some (unready_cause m x)) [] say (λ (ls : List Letter). In l ls → IsAboutProposal m x p l)
    (λ _ j. elim j [ ])
    (λ h. acknowledgement_about m x to p (collector-requester m p m.me) (ready_where (is_source m p.base_place) (unready_cause m x) h) l)) i

redrive_at : (s : SystemState) (n k x : ℕ) (p : Proposal) → IsReady s n → (entry (s.node n) x).proposal ≡ Some p → is_open (s.node n) ≡ true → Reaches s n (s.node n) (take k (repeat_proposal (s.node n) x (Some p)))
unfolding repeat_proposal IsPlain
redrive_at s n k x p ready held opened =
    let m = s.node n in
    let all = invalidations m x p ++ own_acknowledgement m x p in
    let sent = take k all in
    let about : (l : Letter) → In l all → IsAboutProposal m x p l = λ l i. elim (In-append l (invalidations m x p) (own_acknowledgement m x p) i) [
      | inl left ↦ invalidation_about m x p l left
      | inr right ↦ own_acknowledgement_about m x p l right
    ] in
    cond_both (is_none (source p.base_place m.members)) [] all (λ (ls : List Letter). Reaches s n m (take k ls))
    (λ _. cut_none s n m k (still_reaches s n))
    (λ some. move_reaches s n m sent (Keeps-refl m)
    (redrives n x p held opened (is_none-false (source p.base_place m.members) some)
    (Changes-became s (changed s n m sent) n m sent (IsAboutProposal m x p) ready.live (Became-changed s n m sent) (λ l i. about l (In-take l k all i)))) (λ _. tt))

redrive_or_not : (held : Option Proposal) (n : ℕ) (m : Node) (x : ℕ) → (entry m x).proposal ≡ held → is_open m ≡ true → Speaks n m (repeat_proposal m x held)
unfolding repeat_proposal
redrive_or_not None n m x is opened = Speaks-nothing n m
redrive_or_not (Some p) n m x is opened =
    record {
      on = λ s k ready at.
          (subst (λ (y : Node). (entry y x).proposal ≡ Some p → is_open y ≡ true → Reaches s n y (take k (repeat_proposal y x (Some p)))) at (redrive_at s n k x p ready)) is opened;
    }

proposals_again : (n : ℕ) (m : Node) → Speaks n m (repeat_proposals m)
unfolding repeat_proposals
proposals_again n m =
    let all = letters_of (λ x. repeat_proposal m x (entry m x).proposal) (below (length m.entries)) in
    cond_both (is_open m) all [] (λ (ls : List Letter). Speaks n m ls)
    (λ opened. Speaks-letters_of n m (λ x. repeat_proposal m x (entry m x).proposal) (below (length m.entries)) (λ x _. redrive_or_not (entry m x).proposal n m x refl opened))
    (λ _. Speaks-nothing n m)

-- ---- a tick

repeats_spoken : (n : ℕ) (m : Node) → Speaks n m (repeats m)
unfolding repeats
repeats_spoken n m =
    let slots = below (length m.slots) in
    let objects = below (length m.entries) in
    Speaks-append n m _ _
    (Speaks-append n m _ _
    (Speaks-append n m _ _
    (Speaks-append n m _ _
    (Speaks-append n m _ _
    (Speaks-append n m _ _
    (Speaks-tells n m (repeat_report m) (report_again m))
    (Speaks-letters_of n m (repeat_own m) slots (λ i _. Speaks-tells n m (repeat_own m i) (own_again m i))))
    (Speaks-letters_of n m (repeat_kept m) (outside m) (λ t i. Speaks-tells n m (repeat_kept m t) (kept_again m t (streams_outside-node m.members slots (below (length m.logs)) t i)))))
    (Speaks-letters_of n m (λ i. repeat_requests m (slot m i).current) slots (λ i _. Speaks-tells n m (repeat_requests m (slot m i).current) (requests_again (slot m i).current m))))
    (proposals_again n m))
    (Speaks-letters_of n m (repeat_done m) slots (λ i _. Speaks-tells n m (repeat_done m i) (done_again m i))))
    (Speaks-letters_of n m (repeat_leave m) objects (λ x _. Speaks-tells n m (repeat_leave m x) (leave_again m x)))

-- in a steady system plain moves lead to what a tick makes of a node
pub tick-answered : (s : SystemState) (n k : ℕ) → IsSteady s → Answered s n k (tick (s.node n))
unfolding tick
tick-answered s n k steady =
    let m = s.node n in
    let again = repeats_spoken n m in
    cond_both m.stopped (just m TickStopped) (sends m TickDone (repeats m)) (λ (d : Did Ticked). Answered s n k d)
    (λ _. cut_none s n m k (still_reaches s n))
    (λ live. again.on s k record { steady = steady; live = live } refl)
