-- What a node sends when its timer fires fits; and a view and a stop keep the ranges.
use Rattle.std.specs.Prelude.{ℕ, suc, ◌≡◌, ◌+◌, ◌^◌, ◌<◌, ◌≤◌, ◌==◌, ◌&&◌, nat_lt, Bool, true, List, [], ◌∷◌, ◌++◌, length, map, All, Option, Some, None, is_none, is_some, if◌then◌else◌, refl}
use Rattle.std.proofs.Common.{arith, inl, inr}
use Rattle.std.proofs.lemmas.Bool.{cond_both, or_cases, or_left, or_right}
use Rattle.std.proofs.lemmas.List.{length-map}
use Rattle.std.proofs.lemmas.List.Elements.{All-nil, All-cons, All-head, All-tail}
use Rattle.zeus_base.specs.Nodes.{has, without, meet}
use Rattle.zeus_base.specs.NodeLaws.{has-tail}
use Rattle.zeus_base.specs.declared.config.Limits.{Limits}
use Rattle.zeus_base.specs.declared.order.Stream.{Stream}
use Rattle.zeus_packet.specs.Fits.{nodes_fit, stream_fits, proposal_fits, body_fits}
use Rattle.zeus_packet.specs.Place.{source}
use Rattle.zeus_packet.specs.declared.letter.Body.TheVariants.{RInv, RVal, Recovered}
use Rattle.zeus_packet.specs.declared.letter.Letter.{Letter}
use Rattle.zeus_packet.specs.declared.place.Proposal.{Proposal}
use Rattle.zeus_packet.specs.declared.place.View.{View}
use Rattle.zeus_packet.specs.declared.place.Want.TheVariants.{Own, Read, Leave}
use Rattle.zeus_txn.specs.Ops.{named, is_write}
use Rattle.zeus_model.specs.declared.answer.Install.{Install}
use Rattle.zeus_model.specs.declared.answer.Install.TheVariants.{Installed, Stopped as InstallStopped, Old}
use Rattle.zeus_model.specs.declared.answer.Stop.{Stop}
use Rattle.zeus_model.specs.declared.answer.Stop.TheVariants.{Done, Stopped as StopStopped}
use Rattle.zeus_model.specs.declared.answer.Ticked.{Ticked}
use Rattle.zeus_model.specs.declared.answer.Ticked.TheVariants.{Ticked as TickDone, Stopped as TickStopped}
use Rattle.zeus_model.specs.declared.state.Current.{Current}
use Rattle.zeus_model.specs.declared.state.Kept.{Kept}
use Rattle.zeus_model.specs.Act.{Did, just, sends, did_then, to_each}
use Rattle.zeus_model.specs.Commit.{as_kept, finish, outside}
use Rattle.zeus_model.specs.Local.{requests, not_owned, not_copied}
use Rattle.zeus_model.specs.Membership.{dropped, install, stop, letters_of, others, apart, repeat_report, repeat_entries, repeat_own, repeat_kept, repeat_requests, own_acknowledgement, repeat_proposal, repeat_proposals, repeat_done, leaves, repeat_leave, repeats, tick}
use Rattle.zeus_model.specs.Ownership.{is_source, unready_cause, collector, invalidations, acknowledgement}
use Rattle.zeus_model.specs.State.{Node, entry, slot, log, own_stream, is_open}
use Rattle.zeus_model.specs.Tables.{below}
use Rattle.node_ranges.specs.Acts.{to_each-fit, to_nodes-fit, KeepsAndFits-still, KeepsAndFits-did_then}
use Rattle.node_ranges.specs.CommitChanges.{FitsKept-pending}
use Rattle.node_ranges.specs.CommitRules.{All-below, entry_letter-fits, finish-keeps, outside-fit, stream_fits-from}
use Rattle.node_ranges.specs.LocalRules.{requests-fit, not_owned-within, not_copied-within}
use Rattle.node_ranges.specs.NodeSets.{nodes_fit-has, nodes_fit-without, has-meet_left, has-without_in}
use Rattle.node_ranges.specs.OwnershipRules.{invalidations-fit, acknowledgement-fits, collector-within}
use Rattle.node_ranges.specs.Parts.{KeepsRanges-view, KeepsRanges-stopped}
use Rattle.node_ranges.specs.Places.{AllFit-none, AllFit-append}
use Rattle.node_ranges.specs.Ranges.{AllFit, FitsHeld, FitsKept, FitsCurrent, KeepsRanges, KeepsAndFits}

-- ---- views and stops

-- a view of nodes that there are is installed
pub install-keeps : (limits : Limits) (n : Node) (v : View) → 1 ≤ v.epoch → nodes_fit limits v.members ≡ true → KeepsRanges limits n → KeepsAndFits limits (install n v).node (install n v).sent
unfolding install
install-keeps limits n v first fit k =
    let m = record n { epoch = v.epoch; members = v.members; reported = []; gathers = dropped n.gathers } in
    let taken : Did Install = just m Installed in
    let takes : Did Install = did_then taken finish in
    cond_both n.stopped (just n InstallStopped) (if nat_lt n.epoch v.epoch then takes else just n (Old n.epoch)) (λ (d : Did Install). KeepsAndFits limits d.node d.sent)
    (λ _. KeepsAndFits-still limits n k)
    (λ _. cond_both (nat_lt n.epoch v.epoch) takes (just n (Old n.epoch)) (λ (d : Did Install). KeepsAndFits limits d.node d.sent)
    (λ _. KeepsAndFits-did_then limits taken finish (KeepsAndFits-still limits m (KeepsRanges-view limits n v.epoch v.members first fit k)) (finish-keeps limits))
    (λ _. KeepsAndFits-still limits n k))

-- a node stops
pub stop-keeps : (limits : Limits) (n : Node) → KeepsRanges limits n → KeepsAndFits limits (stop n).node (stop n).sent
unfolding stop
stop-keeps limits n k =
    cond_both n.stopped (just n StopStopped) (just (record n { stopped = true }) Done) (λ (d : Did Stop). KeepsAndFits limits d.node d.sent)
    (λ _. KeepsAndFits-still limits n k) (λ _. KeepsAndFits-still limits (record n { stopped = true }) (KeepsRanges-stopped limits n k))

-- ---- letters of parts

letters_of-fit : {A : Type 0} (limits : Limits) (f : A → List Letter) (P : A → Type 0) (xs : List A) → ((x : A) → P x → AllFit limits (f x)) → All P xs → AllFit limits (letters_of f xs)
unfolding letters_of
letters_of-fit limits f P [] each all = AllFit-none limits
letters_of-fit limits f P (x ∷ xs) each all =
    AllFit-append limits (f x) (letters_of f xs) (each x (All-head P x xs all)) (letters_of-fit limits f P xs each (All-tail P x xs all))

-- letters that are sent only where a test holds
where-fit : (limits : Limits) (test : Bool) (ls : List Letter) → AllFit limits ls → AllFit limits (if test then ls else [])
where-fit limits test ls h = cond_both test ls [] (λ ks. AllFit limits ks) (λ _. h) (λ _. AllFit-none limits)

unless-fit : (limits : Limits) (test : Bool) (ls : List Letter) → AllFit limits ls → AllFit limits (if test then [] else ls)
unless-fit limits test ls h = cond_both test [] ls (λ ks. AllFit limits ks) (λ _. AllFit-none limits) (λ _. h)

others-fit : (limits : Limits) (n : Node) → KeepsRanges limits n → nodes_fit limits (others n) ≡ true
others-fit limits n k = nodes_fit-without limits n.me n.members k.nodes.members

report-fits : (limits : Limits) (n : Node) → KeepsRanges limits n → AllFit limits (repeat_report n)
unfolding repeat_report body_fits
report-fits limits n k = where-fit limits (nat_lt 1 n.epoch && has n.me n.reported) (to_each n (others n) Recovered) (to_nodes-fit limits n (others n) Recovered k.nodes (others-fit limits n k) refl)

-- ---- entries

has-both : (k m : ℕ) (ms ns : List ℕ) → (has k ms ≡ true → has k ns ≡ true) → has k (m ∷ ms) ≡ true → has k (m ∷ ns) ≡ true
unfolding has
has-both k m ms ns sub is =
    elim (or_cases (k == m) (has k ms) is) [
      | inl same ↦ or_left (k == m) (has k ns) same
      | inr later ↦ or_right (k == m) (has k ns) (sub later)
    ]

has-apart : (k : ℕ) (ms ns : List ℕ) → has k (apart ms ns) ≡ true → has k ms ≡ true
unfolding apart
has-apart k [] ns h = h
has-apart k (m ∷ ms) ns h =
    cond_both (has m ns) (apart ms ns) (m ∷ apart ms ns) (λ ks. has k ks ≡ true → has k (m ∷ ms) ≡ true)
    (λ _ is. has-tail k m ms (has-apart k ms ns is)) (λ _ is. has-both k m (apart ms ns) ms (has-apart k ms ns) is) h

entries-fit : (limits : Limits) (n : Node) (s : Stream) (done number : ℕ) (es : List Kept) → stream_fits limits s ≡ true → done ≤ number → (1 ≤ length es → number + length es < 2 ^ 32) → All (FitsKept limits) es → KeepsRanges limits n → AllFit limits (repeat_entries n s done number es)
unfolding repeat_entries body_fits
entries-fit limits n s done number [] stream passed small all k = AllFit-none limits
entries-fit limits n s done number (e ∷ es) stream passed small all k =
    let fit = All-head (FitsKept limits) e es all in
    let tos = apart (without n.me (meet e.followers n.members)) e.acks in
    let body = RInv record { stream = s; number = number; done = done; followers = e.followers; writes = e.writes } in
    let bound : number + suc (length es) < 2 ^ 32 = small (omega arith) in
    let follows : (m : ℕ) → has m tos ≡ true → has m e.followers ≡ true = λ m is.
    has-meet_left m e.followers n.members (has-without_in m n.me (meet e.followers n.members) (has-apart m (without n.me (meet e.followers n.members)) e.acks is)) in
    AllFit-append limits (to_each n tos body) (repeat_entries n s done (number + 1) es)
    (to_each-fit limits n tos body k.nodes (λ m is. nodes_fit-has limits e.followers m fit.followers (follows m is))
    (λ m is. entry_letter-fits limits s number done e stream (omega arith) passed fit (fit.some m (follows m is))))
    (entries-fit limits n s done (number + 1) es stream (omega arith) (λ some. omega arith) (All-tail (FitsKept limits) e es all) k)

own-fit : (limits : Limits) (n : Node) (s : ℕ) → s < limits.slots → KeepsRanges limits n → AllFit limits (repeat_own n s)
unfolding repeat_own
own-fit limits n s within k =
    let l = k.slots s in
    let size = length-map (slot n s).pending as_kept in
    entries-fit limits n (own_stream n s) (slot n s).done (slot n s).done (map as_kept (slot n s).pending) (stream_fits-from limits (own_stream n s) k.nodes.me within) (omega arith)
    (λ some. omega (arith, l.numbered)) (FitsKept-pending limits n.me (slot n s).pending l.pending) k

kept-fit : (limits : Limits) (n : Node) (s : Stream) → stream_fits limits s ≡ true → KeepsRanges limits n → AllFit limits (repeat_kept n s)
unfolding repeat_kept
kept-fit limits n s fit k =
    let l = k.logs s in
    entries-fit limits n s (log n s).done (log n s).done (log n s).kept fit (omega arith) l.numbered l.kept k

-- ---- requests

again-fit : (limits : Limits) (n : Node) (c : Option Current) → FitsCurrent limits c → KeepsRanges limits n → AllFit limits (repeat_requests n c)
unfolding repeat_requests FitsCurrent
again-fit limits n None fit k = AllFit-none limits
again-fit limits n (Some c) fit k =
    let reads = if is_some n.degree then requests n Read (not_copied n (named c.tx)) else [] in
    cond_both (is_write c.tx) (requests n Own (not_owned n (named c.tx))) reads (λ ls. AllFit limits ls)
    (λ _. requests-fit limits n Own (not_owned n (named c.tx)) k (not_owned-within (λ (y : ℕ). y < limits.objects) n (named c.tx) fit.named))
    (λ _. where-fit limits (is_some n.degree) (requests n Read (not_copied n (named c.tx)))
    (requests-fit limits n Read (not_copied n (named c.tx)) k (not_copied-within (λ (y : ℕ). y < limits.objects) n (named c.tx) fit.named)))

-- ---- proposals

own_acknowledgement-fits : (limits : Limits) (n : Node) (x : ℕ) (p : Proposal) → x < limits.objects → proposal_fits limits p ≡ true → KeepsRanges limits n → AllFit limits (own_acknowledgement n x p)
unfolding own_acknowledgement
own_acknowledgement-fits limits n x p within fit k =
    unless-fit limits (is_source n p.base_place && is_some (unready_cause n x)) (acknowledgement n (collector n p n.me) x p ∷ [])
    (acknowledgement-fits limits n (collector n p n.me) x p (collector-within limits n p n.me fit k.nodes.me) within fit k)

proposal-fits : (limits : Limits) (n : Node) (x : ℕ) (p : Option Proposal) → x < limits.objects → FitsHeld limits p → KeepsRanges limits n → AllFit limits (repeat_proposal n x p)
unfolding repeat_proposal FitsHeld
proposal-fits limits n x None within fit k = AllFit-none limits
proposal-fits limits n x (Some p) within fit k =
    unless-fit limits (is_none (source p.base_place n.members)) (invalidations n x p ++ own_acknowledgement n x p)
    (AllFit-append limits (invalidations n x p) (own_acknowledgement n x p) (invalidations-fit limits n x p within fit k) (own_acknowledgement-fits limits n x p within fit k))

objects-within : (limits : Limits) (n : Node) → KeepsRanges limits n → All (λ x. x < limits.objects) (below (length n.entries))
objects-within limits n k = All-below 0 (length n.entries) limits.objects (omega (arith, k.sizes.entries))

slots-within : (limits : Limits) (n : Node) → KeepsRanges limits n → All (λ s. s < limits.slots) (below (length n.slots))
slots-within limits n k = All-below 0 (length n.slots) limits.slots (omega (arith, k.sizes.slots))

proposals-fit : (limits : Limits) (n : Node) → KeepsRanges limits n → AllFit limits (repeat_proposals n)
unfolding repeat_proposals
proposals-fit limits n k =
    let f : ℕ → List Letter = λ x. repeat_proposal n x (entry n x).proposal in
    where-fit limits (is_open n) (letters_of f (below (length n.entries)))
    (letters_of-fit limits f (λ x. x < limits.objects) (below (length n.entries)) (λ x within. proposal-fits limits n x (entry n x).proposal within (k.entries x within).proposal k) (objects-within limits n k))

done-fits : (limits : Limits) (n : Node) (s : ℕ) → s < limits.slots → KeepsRanges limits n → AllFit limits (repeat_done n s)
unfolding repeat_done body_fits
done-fits limits n s within k =
    let body = RVal (own_stream n s) (slot n s).done in
    where-fit limits (nat_lt 0 (slot n s).done) (to_each n (others n) body) (to_nodes-fit limits n (others n) body k.nodes (others-fit limits n k) (stream_fits-from limits (own_stream n s) k.nodes.me within))

leave-fits : (limits : Limits) (n : Node) (x : ℕ) → x < limits.objects → KeepsRanges limits n → AllFit limits (repeat_leave n x)
unfolding repeat_leave
leave-fits limits n x within k =
    where-fit limits (leaves n x (entry n x).place) (requests n Leave (x ∷ []))
    (requests-fit limits n Leave (x ∷ []) k (All-cons (λ (y : ℕ). y < limits.objects) x [] within (All-nil (λ (y : ℕ). y < limits.objects))))

-- ---- a tick

-- all that a running node sends fits
pub repeats-fit : (limits : Limits) (n : Node) → KeepsRanges limits n → AllFit limits (repeats n)
unfolding repeats
repeats-fit limits n k =
    let slots = below (length n.slots) in
    let objects = below (length n.entries) in
    let within = slots-within limits n k in
    let leaves_fit = letters_of-fit limits (repeat_leave n) (λ x. x < limits.objects) objects (λ x less. leave-fits limits n x less k) (objects-within limits n k) in
    let done_fits = letters_of-fit limits (repeat_done n) (λ s. s < limits.slots) slots (λ s less. done-fits limits n s less k) within in
    let ask : ℕ → List Letter = λ s. repeat_requests n (slot n s).current in
    let requests_fit = letters_of-fit limits ask (λ s. s < limits.slots) slots (λ s less. again-fit limits n (slot n s).current (k.slots s).current k) within in
    let kept_fit = letters_of-fit limits (repeat_kept n) (λ s. stream_fits limits s ≡ true) (outside n) (λ s fit. kept-fit limits n s fit k) (outside-fit limits n k) in
    let own_fit = letters_of-fit limits (repeat_own n) (λ s. s < limits.slots) slots (λ s less. own-fit limits n s less k) within in
    let two = AllFit-append limits (repeat_report n) (letters_of (repeat_own n) slots) (report-fits limits n k) own_fit in
    let three = AllFit-append limits _ (letters_of (repeat_kept n) (outside n)) two kept_fit in
    let four = AllFit-append limits _ (letters_of ask slots) three requests_fit in
    let five = AllFit-append limits _ (repeat_proposals n) four (proposals-fit limits n k) in
    let six = AllFit-append limits _ (letters_of (repeat_done n) slots) five done_fits in
    AllFit-append limits _ (letters_of (repeat_leave n) objects) six leaves_fit

-- the timer fires
pub tick-keeps : (limits : Limits) (n : Node) → KeepsRanges limits n → KeepsAndFits limits (tick n).node (tick n).sent
unfolding tick
tick-keeps limits n k =
    cond_both n.stopped (just n TickStopped) (sends n TickDone (repeats n)) (λ (d : Did Ticked). KeepsAndFits limits d.node d.sent)
    (λ _. KeepsAndFits-still limits n k) (λ _. record { node = k; sent = repeats-fit limits n k })
