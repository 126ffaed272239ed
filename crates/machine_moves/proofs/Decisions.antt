-- The letters by which proposals are decided, and the word that a node has reported.
use Rattle.std.specs.Prelude.{ℕ, ◌≡◌, true, ◌==◌, [], take, Option, Some, None, if◌then◌else◌}
use Rattle.std.proofs.Common.{refl, sym, ap, ◌∙◌, subst}
use Rattle.std.proofs.lemmas.Bool.{cond_both}
use Rattle.zeus_base.specs.Nodes.{has, without, with_node}
use Rattle.zeus_base.specs.Order.{is_below, same_stamp}
use Rattle.zeus_base.specs.OrderLaws.{same_stamp-true}
use Rattle.zeus_base.specs.declared.order.Stamp.{Stamp}
use Rattle.zeus_base.specs.TableLaws.{nth-put_same}
use Rattle.zeus_packet.specs.Place.{new_place}
use Rattle.zeus_packet.specs.declared.letter.Body.{Body}
use Rattle.zeus_packet.specs.declared.letter.Body.TheVariants.{OAck, OVal, Recovered}
use Rattle.zeus_packet.specs.declared.letter.Cause.{Cause}
use Rattle.zeus_packet.specs.declared.letter.Cause.TheVariants.{OwnPlace}
use Rattle.zeus_packet.specs.declared.letter.Letter.{Letter}
use Rattle.zeus_packet.specs.declared.place.Place.{Place}
use Rattle.zeus_packet.specs.declared.place.Proposal.{Proposal}
use Rattle.zeus_packet.specs.declared.write.Content.{Content}
use Rattle.zeus_model.specs.In.{In}
use Rattle.zeus_model.specs.declared.answer.Outcome.{Outcome}
use Rattle.zeus_model.specs.declared.answer.Outcome.TheVariants.{Taken, Again, Refused}
use Rattle.zeus_model.specs.declared.state.Entry.{Entry}
use Rattle.zeus_model.specs.declared.state.Gather.{Gather}
use Rattle.zeus_model.specs.State.{Node, entry, gather, with_copy, with_gather}
use Rattle.zeus_model.specs.Act.{Act, Did, just, still, letter}
use Rattle.zeus_model.specs.Ownership.{settle, settled_entry, answer_settled, takes_over, rebased, is_decidable, brought, bring, decide_with, decide_on, decide_gathered, decide, gather_for, greater_gather, noted, take_ack, gather_or_older, collect_cause, collect_or_refuse, oack_on_base, on_oack, on_oval}
use Rattle.zeus_model.specs.Receive.{on_recovered}
use Rattle.machine_moves.specs.SystemState.{SystemState}
use Rattle.machine_moves.specs.Move.{placement, IsTellable, settles, gathers, decides, hears, IsSettling, by_acknowledgement, by_decision}
use Rattle.machine_moves.specs.Plain.{IsPlain}
use Rattle.machine_moves.proofs.Within.{Keeps, Keeps-settle, Keeps-bring, Keeps-trans, Keeps-with_gather, Keeps-reported}
use Rattle.machine_moves.proofs.Steady.{fair_acknowledgement}
use Rattle.machine_moves.proofs.Reach.{PlainReached as Reached, PlainAnswered as Answered, IsReady, still_reaches, plain_reaches, then_reaches, cut_none, quiet_then_tells}
use Rattle.machine_moves.proofs.Passing.{to_each-each}
use Rattle.machine_moves.proofs.Entries.{Received, received_after}
use Rattle.machine_moves.proofs.Proposals.{IsRebased, rebased-is, settle-entry, answers_settled}

-- ---- a decision

bring-entry : (m : Node) (x y : ℕ) (p : Proposal) (c : Content) → entry (bring m x p c) y ≡ entry m y
unfolding bring
bring-entry m x y p c = cond_both (p.requester == m.me) (with_copy m x (brought p.want c)) m (λ (k : Node). entry k y ≡ entry m y) (λ _. refl) (λ _. refl)

decided_entry : (m : Node) (x : ℕ) (p : Proposal) (c : Content) → is_below (entry m x).stamp p.stamp ≡ true → entry (decide_with m x p c).node x ≡ settled_entry (entry m x) p.stamp (new_place p)
decided_entry m x p c below = bring-entry (settle m x p.stamp (new_place p)) x x p c ∙ settle-entry m x p.stamp (new_place p) below

Keeps-decided : (m : Node) (x : ℕ) (p : Proposal) (c : Content) → Keeps m (decide_with m x p c).node
Keeps-decided m x p c =
    let settled = settle m x p.stamp (new_place p) in
    Keeps-trans m settled (bring settled x p c) (Keeps-settle m x p.stamp (new_place p)) (Keeps-bring settled x p c)

placement_as : (after m : Node) (to x : ℕ) (stamp : Stamp) (place : Place) → after.me ≡ m.me → after.epoch ≡ m.epoch → (entry after x).stamp ≡ stamp → (entry after x).place ≡ place → IsTellable after (letter m to (OVal x stamp place))
placement_as after m to x stamp place e f g h =
    subst (λ (l : Letter). IsTellable after l) (λ j. record { from = e j; to = to; epoch = f j; body = OVal x (g j) (h j) }) (placement to x)

-- the decision is told as the node's settled placement
decision_telling : (m : Node) (x : ℕ) (p : Proposal) (c : Content) → is_below (entry m x).stamp p.stamp ≡ true → (l : Letter) → In l (decide_with m x p c).sent → IsTellable (decide_with m x p c).node l
decision_telling m x p c below =
    let after = (decide_with m x p c).node in
    let is = decided_entry m x p c below in
    let keeps = Keeps-decided m x p c in
    to_each-each (IsTellable after) m (without m.me m.members) (OVal x p.stamp (new_place p)) (λ to _. placement_as after m to x p.stamp (new_place p) keeps.me keeps.epoch (ap (λ (e : Entry). e.stamp) is) (ap (λ (e : Entry). e.place) is))

decides_reached : (s : SystemState) (n k x : ℕ) (g : Gather) (c : Content) → IsReady s n → gather (s.node n) x ≡ Some g → is_decidable (s.node n) g ≡ true → g.content ≡ Some c → is_below (entry (s.node n) x).stamp g.proposal.stamp ≡ true → Reached s n k (decide_with (s.node n) x g.proposal c)
unfolding IsPlain
decides_reached s n k x g c ready is decidable content below =
    let m = s.node n in
    let after = (decide_with m x g.proposal c).node in
    quiet_then_tells s n k after (decide_with m x g.proposal c).sent ready
    (plain_reaches s n after ready.live (Keeps-decided m x g.proposal c) (λ ch. decides n x g c is decidable content ch) (λ _. tt))
    (decision_telling m x g.proposal c below)

decide_on-reached : (content : Option Content) (s : SystemState) (n k x : ℕ) (g : Gather) → IsReady s n → gather (s.node n) x ≡ Some g → is_decidable (s.node n) g ≡ true → g.content ≡ content → is_below (entry (s.node n) x).stamp g.proposal.stamp ≡ true → Reached s n k (decide_on (s.node n) x g.proposal content)
unfolding decide_on
decide_on-reached None s n k x g ready is decidable content below = cut_none s n (s.node n) k (still_reaches s n)
decide_on-reached (Some c) s n k x g ready is decidable content below = decides_reached s n k x g c ready is decidable content below

decide_gathered-reached : (s : SystemState) (n k x : ℕ) (g : Gather) → IsReady s n → gather (s.node n) x ≡ Some g → is_below (entry (s.node n) x).stamp g.proposal.stamp ≡ true → Reached s n k (decide_gathered (s.node n) x (Some g))
unfolding decide_gathered
decide_gathered-reached s n k x g ready is below =
    let m = s.node n in
    cond_both (is_decidable m g) (decide_on m x g.proposal g.content) (still m) (λ (a : Act). Reached s n k a)
    (λ decidable. decide_on-reached g.content s n k x g ready is decidable refl below)
    (λ _. cut_none s n m k (still_reaches s n))

-- ---- an acknowledgement

gather_for-stamp : (p : Proposal) (g : Option Gather) → (gather_for p g).proposal.stamp ≡ p.stamp
unfolding gather_for
gather_for-stamp p None = refl
gather_for-stamp p (Some g) =
    cond_both (same_stamp g.proposal.stamp p.stamp) g record { proposal = p; acks = []; content = None } (λ (h : Gather). h.proposal.stamp ≡ p.stamp)
    (λ same. same_stamp-true g.proposal.stamp p.stamp same) (λ _. refl)

decide-reached : (s : SystemState) (n k x : ℕ) (g : Gather) → IsReady s n → gather (s.node n) x ≡ Some g → is_below (entry (s.node n) x).stamp g.proposal.stamp ≡ true → Reached s n k (decide x (s.node n))
decide-reached s n k x g ready is below =
    subst (λ (o : Option Gather). Reached s n k (decide_gathered (s.node n) x o)) (sym is) (decide_gathered-reached s n k x g ready is below)

takes_ack : (s : SystemState) (n from k x : ℕ) (p : Proposal) (c : Option Content) → IsReady s n → Received s n from (OAck x p c) → is_below (entry (s.node n) x).stamp p.stamp ≡ true → greater_gather p.stamp (gather (s.node n) x) ≡ None → Answered s n k (take_ack (s.node n) from x c (gather_for p (gather (s.node n) x)))
unfolding take_ack IsPlain
takes_ack s n from k x p c ready got below none =
    let m = s.node n in
    let g : Gather = noted (gather_for p (gather m x)) from c in
    let after = with_gather m x (Some g) in
    let above : is_below (entry m x).stamp g.proposal.stamp ≡ true = rw (gather_for-stamp p (gather m x)) below in
    then_reaches s n after (decide x after).node [] (take k (decide x after).sent) ready
    (plain_reaches s n after ready.live (Keeps-with_gather m x (Some g)) (λ ch. gathers n x from p c got.letter got.is got.by got.at below none ch) (λ _. tt))
    (λ t rt b.
    subst (λ (y : Node). gather y x ≡ Some g → is_below (entry y x).stamp g.proposal.stamp ≡ true → Reached t n k (decide x y)) b.node
    (λ is higher. decide-reached t n k x g rt is higher)
    (nth-put_same None m.gathers x (Some g)) above)

gather_or_older-answered : (older : Option Stamp) (s : SystemState) (n from k x : ℕ) (p : Proposal) (c : Option Content) → IsReady s n → Received s n from (OAck x p c) → is_below (entry (s.node n) x).stamp p.stamp ≡ true → greater_gather p.stamp (gather (s.node n) x) ≡ older → Answered s n k (gather_or_older (s.node n) from x p c older)
unfolding gather_or_older
gather_or_older-answered None s n from k x p c ready got below is = takes_ack s n from k x p c ready got below is
gather_or_older-answered (Some stamp) s n from k x p c ready got below is = cut_none s n (s.node n) k (still_reaches s n)

collect_or_refuse-answered : (cause : Option Cause) (s : SystemState) (n from k x : ℕ) (p : Proposal) (c : Option Content) → IsReady s n → Received s n from (OAck x p c) → is_below (entry (s.node n) x).stamp p.stamp ≡ true → Answered s n k (collect_or_refuse (s.node n) from x p c cause)
unfolding collect_or_refuse
collect_or_refuse-answered None s n from k x p c ready got below =
    gather_or_older-answered (greater_gather p.stamp (gather (s.node n) x)) s n from k x p c ready got below refl
collect_or_refuse-answered (Some cause) s n from k x p c ready got below = cut_none s n (s.node n) k (still_reaches s n)

oack_on_base-answered : (base : Option Node) (s : SystemState) (n from k x : ℕ) (p : Proposal) (c : Option Content) → IsReady s n → Received s n from (OAck x p c) → IsRebased s n x p base → Answered s n k (oack_on_base (s.node n) from x p c base)
unfolding oack_on_base IsRebased
oack_on_base-answered None s n from k x p c ready got r = cut_none s n (s.node n) k (still_reaches s n)
oack_on_base-answered (Some m) s n from k x p c ready got r =
    let first = r.reaches in
    then_reaches s n m _ [] _ ready first
    (λ t rt b.
    subst (λ (y : Node). is_below (entry y x).stamp p.stamp ≡ true → Answered t n k (collect_or_refuse y from x p c (collect_cause y x p))) b.node
    (λ below. collect_or_refuse-answered (collect_cause (t.node n) x p) t n from k x p c rt (received_after s t n from (OAck x p c) m [] got b (let keeps = first.keeps in rw (b.node) keeps)) below)
    r.below)

settling_acknowledgement : (l : Letter) (x : ℕ) (p : Proposal) (c : Option Content) → l.body ≡ OAck x p c → IsSettling x p.base p.base_place l
settling_acknowledgement l x p c is =
    subst (λ (b : Body). IsSettling x p.base p.base_place record { from = l.from; to = l.to; epoch = l.epoch; body = b }) (sym is) (by_acknowledgement l.from l.to l.epoch p c refl refl)

-- if a ready node received an acknowledgement of a proposal, then plain moves lead to what it does with it
pub on_oack-answered : (s : SystemState) (n from k x : ℕ) (p : Proposal) (c : Option Content) → IsReady s n → Received s n from (OAck x p c) → Answered s n k (on_oack (s.node n) from x p c)
unfolding on_oack
on_oack-answered s n from k x p c ready got =
    let m = s.node n in
    let l = got.letter in
    let steady = ready.steady in
    let above = fair_acknowledgement s.config s.views l x p c got.is (steady.letters l got.at.2) in
    cond_both (is_below (entry m x).stamp p.stamp) (oack_on_base m from x p c (rebased m x p)) (answer_settled m from x) (λ (d : Did Outcome). Answered s n k d)
    (λ below. oack_on_base-answered (rebased m x p) s n from k x p c ready got (rebased-is s n x p l ready got.at (settling_acknowledgement l x p c got.is) above below))
    (λ _. answers_settled s n from k x ready)

-- ---- a decided placement

settling_decision : (l : Letter) (x : ℕ) (stamp : Stamp) (place : Place) → l.body ≡ OVal x stamp place → IsSettling x stamp place l
settling_decision l x stamp place is =
    subst (λ (b : Body). IsSettling x stamp place record { from = l.from; to = l.to; epoch = l.epoch; body = b }) (sym is) (by_decision l.from l.to l.epoch)

-- if a ready node received the word of a settled placement, then plain moves lead to what it does with it
pub on_oval-answered : (s : SystemState) (n from k x : ℕ) (stamp : Stamp) (place : Place) → IsReady s n → Received s n from (OVal x stamp place) → Answered s n k (on_oval (s.node n) x stamp place)
unfolding on_oval IsPlain
on_oval-answered s n from k x stamp place ready got =
    let m = s.node n in
    let refused : Did Outcome = just m (Refused OwnPlace) in
    let taken : Did Outcome = just (settle m x stamp place) Taken in
    let higher : Did Outcome = if takes_over m x place then refused else taken in
    cond_both (is_below (entry m x).stamp stamp) higher (just m Again) (λ (d : Did Outcome). Answered s n k d)
    (λ below. cond_both (takes_over m x place) refused taken (λ (d : Did Outcome). Answered s n k d)
    (λ _. cut_none s n m k (still_reaches s n))
    (λ _. cut_none s n (settle m x stamp place) k
    (plain_reaches s n (settle m x stamp place) ready.live (Keeps-settle m x stamp place) (λ ch. settles n x stamp place got.letter got.at (settling_decision got.letter x stamp place got.is) below ch) (λ _. tt))))
    (λ _. cut_none s n m k (still_reaches s n))

-- ---- a node has reported

-- if a ready node received the word that another has reported, then plain moves lead to what it does with it
pub on_recovered-answered : (s : SystemState) (n from k : ℕ) → IsReady s n → Received s n from Recovered → Answered s n k (on_recovered (s.node n) from)
unfolding on_recovered IsPlain
on_recovered-answered s n from k ready got =
    let m = s.node n in
    let after = record m { reported = with_node from m.reported } in
    cond_both (has from m.reported) (just m Again) (just after Taken) (λ (d : Did Outcome). Answered s n k d)
    (λ _. cut_none s n m k (still_reaches s n))
    (λ _. cut_none s n after k (plain_reaches s n after ready.live (Keeps-reported m (with_node from m.reported)) (λ ch. hears n from got.letter got.is got.by got.at ch) (λ _. tt)))
