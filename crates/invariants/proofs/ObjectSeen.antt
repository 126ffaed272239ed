-- Each move of the machine, as each object sees it.
use Rattle.std.specs.Prelude.{ℕ, suc, zero, ◌≡◌, ◌≢◌, ◌==◌, ◌<◌, ◌≤◌, ◌+◌, Bool, true, false, ◌&&◌, List, [], ◌∷◌, ◌++◌, length, Option, Some, None, is_some, ◌⊎◌}
use Rattle.std.proofs.Common.{arith, refl, sym, ap, inl, inr, ◌∙◌, subst}
use Rattle.std.proofs.lemmas.Bool.{cases_Bool}
use Rattle.std.proofs.lemmas.Bool.Decides.{nat_tests}
use Rattle.zeus_base.specs.Nodes.{has, meet, is_subset, least}
use Rattle.zeus_base.specs.NodeLaws.{has-meet, least-has}
use Rattle.zeus_base.specs.Order.{is_below}
use Rattle.zeus_base.specs.TableLaws.{nth-put_same}
use Rattle.zeus_base.specs.declared.config.Config.{Config}
use Rattle.zeus_base.specs.declared.order.Stamp.{Stamp}
use Rattle.zeus_packet.specs.Place.{source, arbiters, new_place}
use Rattle.zeus_packet.specs.declared.letter.Body.TheVariants.{OInv, OAck}
use Rattle.zeus_packet.specs.declared.letter.Cause.TheVariants.{Proposed}
use Rattle.zeus_packet.specs.declared.letter.Letter.{Letter}
use Rattle.zeus_packet.specs.declared.place.Place.{Place}
use Rattle.zeus_packet.specs.declared.place.Proposal.{Proposal}
use Rattle.zeus_packet.specs.declared.place.Want.{Want}
use Rattle.zeus_packet.specs.declared.write.Content.{Content}
use Rattle.zeus_model.specs.In.{In}
use Rattle.zeus_model.specs.Tables.{where_true}
use Rattle.zeus_model.specs.State.{Node, entry, gather, with_gather}
use Rattle.zeus_model.specs.Membership.{dropped}
use Rattle.zeus_model.specs.Ownership.{settle, holding, is_source, driven, greater_cause, greater_gather, gather_for, noted, is_decidable, bring}
use Rattle.zeus_model.specs.declared.state.Gather.{Gather}
use Rattle.machine_moves.specs.SystemState.{SystemState, IsLive, IsNumbered, IsReceivable, Changes, NewView, nothing, view}
use Rattle.machine_moves.specs.Move.{IsAboutProposal, HasAcked, IsSettling, MayDrive, MayAccept}
use Rattle.ownership_safety.specs.Object.{Object, Invalidates, Acknowledges, IsSaid, Letter as Said, chain_stamp, place_at, first_stamp}
use Rattle.ownership_safety.specs.Moves as moves
use Rattle.ownership_safety.specs.OwnershipInvariant.{OwnershipInvariant, IsDecided}
use Rattle.ownership_safety.proofs.Arbiters.{arbiters-directory, arbiters-source}
use Rattle.invariants.specs.Objects.{object, about, declared_entry}
use Rattle.invariants.proofs.AboutObjects.{sends_object, says, says-oinv, says-oack, about-in}
use Rattle.invariants.proofs.Frames.{IsQuiet, settle-entry, settle-gather, settle-stopped, settle-epoch, settle-other, holding-entry, holding-other, with_gather-other, bring-quiet, quiet-then, settle-away, dropped-none}
use Rattle.invariants.proofs.ObjectMoves.{object-live, acts_object, entry_after, gather_after, entry_before, gather_before, tells_object, quiet_object, quiet_sends, same_setting, same_others, same_stopped, same_epoch, same_entry_as, same_gather_as}
use Rattle.invariants.proofs.ObjectSteps.{actor, object_view, about_proposal-other, about_proposal-heard, acked-heard, is_node-some, settling-decided, above-first}

-- what an object sees of a move
pub data Seen (old new : Object) (chain : List Proposal) : Type 0 where
  viewed : (set : List ℕ) → moves.NewView old new set → Seen old new chain
  stopped : (n : ℕ) → moves.Stops old new n → Seen old new chain
  installed : (n e : ℕ) → moves.Installs old new n e → Seen old new chain
  settled : (n u : ℕ) → moves.Settles old new chain n u → Seen old new chain
  driven_by : (n : ℕ) (p : Proposal) → moves.Drives old new n p → Seen old new chain
  accepted : (n : ℕ) (p : Proposal) → moves.Accepts old new n p → Seen old new chain
  redriven : (n : ℕ) (p : Proposal) → moves.Redrives old new n p → Seen old new chain
  noted_by : (n : ℕ) (p : Proposal) (a : ℕ) (c : Option Content) → moves.Notes old new n p a c → Seen old new chain
  decided : (n : ℕ) (g : Gather) → moves.Decides old new n g → Seen old new chain
  told : (n : ℕ) → moves.Tells old new n → Seen old new chain

-- two numbers are equal, or they are not
pub same_or_not : (a b : ℕ) → (a ≡ b) ⊎ (a ≢ b)
same_or_not a b = elim (cases_Bool (a == b)) [
  | inl same ↦ let e : a ≡ b = grind (arith, nat_tests) in inl e
  | inr other ↦ let ne : a ≢ b = λ e. grind (arith, nat_tests) in inr ne
]

-- a move of a node that the object sees nothing of
pub sees_nothing : (old new : SystemState) (x n : ℕ) (after : Node) (chain : List Proposal) → IsNumbered old → Changes old new n after nothing
    → IsQuiet (old.node n) after x → Seen (object old x) (object new x) chain
sees_nothing old new x n after chain numbered c q = told n (quiet_object old new x n after numbered c q.stopped q.epoch q.entry q.gather)

-- a node that says a proposal for another object
pub sees_other : (old new : SystemState) (x y n : ℕ) (p : Proposal) (after : Node) (chain : List Proposal) → IsNumbered old → y ≢ x
    → Changes old new n after (IsAboutProposal (old.node n) y p) → IsQuiet (old.node n) after x → Seen (object old x) (object new x) chain
sees_other old new x y n p after chain numbered ne c q =
    told n (tells_object old new x n after (IsAboutProposal (old.node n) y p) numbered c q.stopped q.epoch q.entry q.gather
    (λ l m about i. absurd (about_proposal-other (old.node n) y x p l m ne about i)))

view_sends : (old new : SystemState) (x : ℕ) (set : List ℕ) → NewView old new set → moves.Sends (object old x) (object new x) moves.nothing
view_sends old new x set v = sends_object old new x nothing moves.nothing v.sends (λ l m none i. none)

view_setting : (old new : SystemState) (x : ℕ) (set : List ℕ) → NewView old new set
    → ((object new x).directory ≡ (object old x).directory) × ((object new x).declared ≡ (object old x).declared)
unfolding object
view_setting old new x set v = (ap (λ (k : Config). k.directory) v.config, ap (λ (k : Config). (declared_entry k x).place) v.config)

view_views : (old new : SystemState) (x : ℕ) (set : List ℕ) → NewView old new set → ((object new x).views ≡ (object old x).views ++ set ∷ [])
    × (is_subset set (Rattle.ownership_safety.specs.Object.view (object old x) (length (object old x).views)) ≡ true)
    × ((n : ℕ) → (object old x).stopped n ≡ false → has n set ≡ true)
unfolding object
view_views old new x set v = (v.views, v.subset, v.live)

view_move : (old new : SystemState) (x : ℕ) (set : List ℕ) → NewView old new set → moves.NewView (object old x) (object new x) set
view_move old new x set v = record {
  directory = (view_setting old new x set v).0;
  declared = (view_setting old new x set v).1;
  views = (view_views old new x set v).0;
  rising = v.rising;
  subset = (view_views old new x set v).1;
  live = (view_views old new x set v).2;
  stopped = λ m. same_stopped old new x m (ap (λ (k : Node). k.stopped) (v.nodes m));
  epoch = λ m. same_epoch old new x m (ap (λ (k : Node). k.epoch) (v.nodes m));
  entry = λ m. same_entry_as old new x m v.config (v.nodes m);
  gather = λ m. same_gather_as old new x m v.config (v.nodes m);
  sends = view_sends old new x set v;
}

-- if a view is made, then each object sees a move
pub sees_view : (old new : SystemState) (x : ℕ) (chain : List Proposal) (set : List ℕ) → NewView old new set → Seen (object old x) (object new x) chain
sees_view old new x chain set v = viewed set (view_move old new x set v)

stopped_object : (old new : SystemState) (x n : ℕ) → (new.node n).stopped ≡ true → (object new x).stopped n ≡ true
unfolding object
stopped_object old new x n h = h

-- if a node stops, then each object sees a move
pub sees_stop : (old new : SystemState) (x n : ℕ) (chain : List Proposal) → IsNumbered old → Changes old new n (record (old.node n) { stopped = true }) nothing
    → Seen (object old x) (object new x) chain
sees_stop old new x n chain numbered c = stopped n record {
  setting = same_setting old new x c.config c.views;
  others = same_others old new x n c.config c.others;
  stopped = stopped_object old new x n (ap (λ (k : Node). k.stopped) c.node);
  epoch = same_epoch old new x n (ap (λ (k : Node). k.epoch) c.node);
  entry = entry_after old new x n (record (old.node n) { stopped = true }) nothing c numbered ∙ sym (entry_before old new x n (record (old.node n) { stopped = true }) nothing c numbered);
  gather = gather_after old new x n (record (old.node n) { stopped = true }) nothing c numbered ∙ sym (gather_before old new x n (record (old.node n) { stopped = true }) nothing c numbered);
  sends = quiet_sends old new x n (record (old.node n) { stopped = true }) c;
}

-- the node once it has installed the epoch
abbrev pub installed_node : SystemState → ℕ → ℕ → Node
installed_node s n e = record (s.node n) { epoch = e; members = view s e; reported = []; gathers = dropped (s.node n).gathers }

install_epochs : (old new : SystemState) (x n e : ℕ) → (old.node n).epoch < e → e ≤ length old.views → new.node n ≡ installed_node old n e
    → ((object old x).epoch n < e) × (e ≤ length (object old x).views) × ((object new x).epoch n ≡ e)
unfolding object
install_epochs old new x n e later within is = (later, within, ap (λ (k : Node). k.epoch) is)

-- if a node installs a later epoch that has a view, then each object sees a move
pub sees_install : (old new : SystemState) (x n e : ℕ) (chain : List Proposal) → IsNumbered old → (old.node n).epoch < e → e ≤ length old.views
    → Changes old new n (installed_node old n e) nothing → Seen (object old x) (object new x) chain
sees_install old new x n e chain numbered later within c =
    let epochs : ((object old x).epoch n < e) × (e ≤ length (object old x).views) × ((object new x).epoch n ≡ e) =
    install_epochs old new x n e later within c.node in
    installed n e record {
      setting = same_setting old new x c.config c.views;
      others = same_others old new x n c.config c.others;
      live = object-live old x n c.live;
      later = epochs.0;
      viewed = epochs.1;
      stopped = same_stopped old new x n (ap (λ (k : Node). k.stopped) c.node);
      epoch = epochs.2;
      entry = entry_after old new x n (installed_node old n e) nothing c numbered ∙ sym (entry_before old new x n (installed_node old n e) nothing c numbered);
      gather = gather_after old new x n (installed_node old n e) nothing c numbered ∙ dropped-none (old.node n).gathers x;
      sends = quiet_sends old new x n (installed_node old n e) c;
    }

nonzero : (v : ℕ) → (v ≡ 0 → ⊥) → 1 ≤ v
nonzero zero h = absurd (h refl)
nonzero (suc v) h = omega arith

chain_stamp-zero : (chain : List Proposal) → chain_stamp chain 0 ≡ first_stamp
unfolding chain_stamp
chain_stamp-zero chain = refl

-- a decided stamp above the node's own is settled
pub settled_seen : (old new : SystemState) (x n : ℕ) (chain : List Proposal) (stamp : Stamp) (place : Place) → IsNumbered old
    → IsDecided (object old x) chain stamp place → is_below (entry (old.node n) x).stamp stamp ≡ true
    → Changes old new n (settle (old.node n) x stamp place) nothing → moves.Settles (object old x) (object new x) chain n stamp.ver
settled_seen old new x n chain stamp place numbered is above c = record {
  acts = acts_object old new x n (settle (old.node n) x stamp place) nothing c (settle-stopped (old.node n) x stamp place) (settle-epoch (old.node n) x stamp place);
  first = later (entry (old.node n) x).stamp stamp chain is.stamp above;
  decided = is.ver;
  above = rw (before, ← is.stamp) above;
  entry = entry_after old new x n (settle (old.node n) x stamp place) nothing c numbered ∙ settle-entry (old.node n) x stamp place above
      ∙ rw (before, ← is.stamp, ← is.place) refl;
  gather = gather_after old new x n (settle (old.node n) x stamp place) nothing c numbered ∙ settle-gather (old.node n) x stamp place above
      ∙ rw (gathered, ← is.stamp) refl;
  sends = quiet_sends old new x n (settle (old.node n) x stamp place) c;
}
  where
    before : (object old x).entry n ≡ entry (old.node n) x
    before = entry_before old new x n (settle (old.node n) x stamp place) nothing c numbered

    gathered : (object old x).gather n ≡ gather (old.node n) x
    gathered = gather_before old new x n (settle (old.node n) x stamp place) nothing c numbered

    later : (t s : Stamp) (chain : List Proposal) → s ≡ chain_stamp chain s.ver → is_below t s ≡ true → 1 ≤ s.ver
    later t s chain e h = nonzero s.ver (λ z. above-first t s h (e ∙ ap (λ (v : ℕ). chain_stamp chain v) z ∙ chain_stamp-zero chain))

-- a letter tells the node n that a placement of the object x is decided, with a stamp above the one that n has settled
pub record HearsDecided (old : SystemState) (n x : ℕ) : Type 0 where
  pub stamp : Stamp
  pub place : Place
  pub letter : Letter
  pub receivable : IsReceivable old n letter
  pub settling : IsSettling x stamp place letter
  pub above : is_below (entry (old.node n) x).stamp stamp ≡ true

settles_here : (old new : SystemState) (x n : ℕ) (chain : List Proposal) → IsNumbered old → OwnershipInvariant (object old x) chain → (heard : HearsDecided old n x)
    → Changes old new n (settle (old.node n) x heard.stamp heard.place) nothing → Seen (object old x) (object new x) chain
settles_here old new x n chain numbered ownership heard c =
    let is : IsDecided (object old x) chain heard.stamp heard.place = settling-decided old x chain heard.stamp heard.place heard.letter ownership heard.receivable.2 heard.settling in
    settled n heard.stamp.ver (settled_seen old new x n chain heard.stamp heard.place numbered is heard.above c)

-- if a node settles a placement that it was told, then each object sees a move
pub sees_settle : (old new : SystemState) (x n y : ℕ) (chain : List Proposal) → IsNumbered old → OwnershipInvariant (object old x) chain → (heard : HearsDecided old n y)
    → Changes old new n (settle (old.node n) y heard.stamp heard.place) nothing → Seen (object old x) (object new x) chain
sees_settle old new x n y chain numbered ownership heard c =
    elim (same_or_not y x) [
      | inr other ↦ sees_nothing old new x n (settle (old.node n) y heard.stamp heard.place) chain numbered c (settle-other (old.node n) y x heard.stamp heard.place heard.above other)
      | inl same ↦ subst (λ (k : ℕ). Seen (object old k) (object new k) chain) same
          (settles_here old new y n chain numbered (subst (λ (k : ℕ). OwnershipInvariant (object old k) chain) (sym same) ownership) heard c)
    ]

-- what a letter to a node says to the object is of the node's epoch
received : (old : SystemState) (x n : ℕ) → (old.node n).epoch ≡ (object old x).epoch n
unfolding object
received old x n = refl

-- if a node drives a request, then its object sees that it drives the proposal
pub drive_here : (old new : SystemState) (n x requester : ℕ) (want : Want) → IsNumbered old → MayDrive old n x requester want
    → Changes old new n (holding (old.node n) x (driven (old.node n) x requester want)) (IsAboutProposal (old.node n) x (driven (old.node n) x requester want))
    → HasAcked new (old.node n) x (driven (old.node n) x requester want) → moves.Drives (object old x) (object new x) n (driven (old.node n) x requester want)
drive_here old new n x requester want numbered may c acked = record {
  acts = acts_object old new x n after (IsAboutProposal (old.node n) x p) c refl refl;
  directory = rw (← (actor old x n numbered c.live).directory) may.directory;
  requester = rw (← (actor old x n numbered c.live).members) may.member;
  free = rw before may.free;
  stamp = rw before (ap (λ (d : ℕ). stamp_of ((entry (old.node n) x).stamp.ver + 1) d) (actor old x n numbered c.live).me);
  base = rw before refl;
  base_place = rw before refl;
  want = may.may_want;
  entry = entry_after old new x n after (IsAboutProposal (old.node n) x p) c numbered ∙ holding-entry (old.node n) x p ∙ rw before refl;
  gather = gather_after old new x n after (IsAboutProposal (old.node n) x p) c numbered ∙ sym (gather_before old new x n after (IsAboutProposal (old.node n) x p) c numbered);
  sends = sends_object old new x (IsAboutProposal (old.node n) x p) (moves.IsAboutProposal (object old x) n p) c.sends
      (λ l m about i. about_proposal-heard old x n p l m numbered c.live about i);
  acked = acked-heard old new x n p numbered c.live acked;
}
  where
    p : Proposal
    p = driven (old.node n) x requester want

    after : Node
    after = holding (old.node n) x (driven (old.node n) x requester want)

    before : (object old x).entry n ≡ entry (old.node n) x
    before = entry_before old new x n (holding (old.node n) x (driven (old.node n) x requester want)) (IsAboutProposal (old.node n) x (driven (old.node n) x requester want)) c numbered

    stamp_of : ℕ → ℕ → Stamp
    stamp_of v d = record { ver = v; driver = d }

-- if a node drives a request, then each object sees a move
pub sees_drive : (old new : SystemState) (x n y requester : ℕ) (want : Want) (chain : List Proposal) → IsNumbered old → MayDrive old n y requester want
    → Changes old new n (holding (old.node n) y (driven (old.node n) y requester want)) (IsAboutProposal (old.node n) y (driven (old.node n) y requester want))
    → HasAcked new (old.node n) y (driven (old.node n) y requester want) → Seen (object old x) (object new x) chain
sees_drive old new x n y requester want chain numbered may c acked =
    elim (same_or_not y x) [
      | inr other ↦ sees_other old new x y n (driven (old.node n) y requester want) (holding (old.node n) y (driven (old.node n) y requester want)) chain numbered other c
          (holding-other (old.node n) y x (driven (old.node n) y requester want) other)
      | inl same ↦ subst (λ (k : ℕ). Seen (object old k) (object new k) chain) same
          (driven_by n (driven (old.node n) y requester want) (drive_here old new n y requester want numbered may c acked))
    ]

greater_cause-none : (t : Stamp) (q : Proposal) (o : Option Proposal) → o ≡ Some q → greater_cause t o ≡ None → is_below t q.stamp ≡ false
unfolding greater_cause where_true
greater_cause-none t q None is h = cc
greater_cause-none t q (Some r) is h =
    let same : r ≡ q = cc in
    elim (cases_Bool (is_below t r.stamp)) [
      | inl above ↦ let some : where_true true (Proposed r.stamp) ≡ None = rw above at h in cc
      | inr not_above ↦ subst (λ (k : Proposal). is_below t k.stamp ≡ false) same not_above
    ]

accept_arbiter : (old : SystemState) (x n : ℕ) (chain : List Proposal) (p : Proposal) → IsNumbered old → IsLive old n → OwnershipInvariant (object old x) chain
    → (has n (old.node n).directory ≡ true) ⊎ (is_source (old.node n) p.base_place ≡ true)
    → has n (arbiters p.base_place (object_view old x n) (object old x).directory) ≡ true
accept_arbiter old x n chain p numbered live ownership (inl listed) =
    let lives : (object old x).stopped n ≡ false = object-live old x n live in
    let member : has n (object_view old x n) ≡ true = ownership.viewed.live n ((object old x).epoch n) lives (ownership.viewed.epochs n lives) in
    let directory : has n (object old x).directory ≡ true = rw (← (actor old x n numbered live).directory) listed in
    arbiters-directory p.base_place (object_view old x n) (object old x).directory n directory member
accept_arbiter old x n chain p numbered live ownership (inr is) =
    let found : source p.base_place (old.node n).members ≡ Some (old.node n).me = is_node-some (source p.base_place (old.node n).members) (old.node n).me is in
    let here : source p.base_place (object_view old x n) ≡ Some n =
    rw (← (actor old x n numbered live).members) (found ∙ ap (λ (k : ℕ). Some k) (actor old x n numbered live).me) in
    arbiters-source p.base_place (object_view old x n) (object old x).directory n here

accept_said : (old : SystemState) (x n : ℕ) (p : Proposal) (l : Letter) → l.body ≡ OInv x p → IsReceivable old n l → IsSaid (object old x) p ((object old x).epoch n)
unfolding object
accept_said old x n p l body r =
    let says_it : In (Invalidates l.from l.to l.epoch p) (says x l) = rw body (says-oinv x l.from l.to l.epoch p) in
    let said : In (Invalidates l.from l.to l.epoch p) (about x old.letters) = about-in x (Invalidates l.from l.to l.epoch p) l old.letters r.2 says_it in
    let now : In (Invalidates l.from l.to (old.node n).epoch p) (about x old.letters) =
    subst (λ (e : ℕ). In (Invalidates l.from l.to e p) (about x old.letters)) r.1 said in
    inl (l.from, l.to, now)

-- if a node accepts a proposal, then its object sees that it accepts it
pub accept_here : (old new : SystemState) (n x : ℕ) (p : Proposal) (chain : List Proposal) → IsNumbered old → OwnershipInvariant (object old x) chain → MayAccept old n x p
    → Changes old new n (holding (old.node n) x p) (IsAboutProposal (old.node n) x p) → HasAcked new (old.node n) x p
    → moves.Accepts (object old x) (object new x) n p
accept_here old new n x p chain numbered ownership may c acked = record {
  acts = acts_object old new x n (holding (old.node n) x p) (IsAboutProposal (old.node n) x p) c refl refl;
  said = accept_said old x n p may.sent.0 may.sent.1 may.sent.2;
  arbiter = accept_arbiter old x n chain p numbered c.live ownership may.arbiter;
  not_below_base = rw before may.not_below_base;
  below = rw before may.below;
  greatest = λ q h. greater_cause-none p.stamp q (entry (old.node n) x).proposal (rw before at h) may.greatest;
  entry = entry_after old new x n (holding (old.node n) x p) (IsAboutProposal (old.node n) x p) c numbered ∙ holding-entry (old.node n) x p ∙ rw before refl;
  gather = gather_after old new x n (holding (old.node n) x p) (IsAboutProposal (old.node n) x p) c numbered
      ∙ sym (gather_before old new x n (holding (old.node n) x p) (IsAboutProposal (old.node n) x p) c numbered);
  sends = sends_object old new x (IsAboutProposal (old.node n) x p) (moves.IsAboutProposal (object old x) n p) c.sends
      (λ l m about i. about_proposal-heard old x n p l m numbered c.live about i);
  acked = acked-heard old new x n p numbered c.live acked;
}
  where
    before : (object old x).entry n ≡ entry (old.node n) x
    before = entry_before old new x n (holding (old.node n) x p) (IsAboutProposal (old.node n) x p) c numbered

-- if a node accepts a proposal, then each object sees a move
pub sees_accept : (old new : SystemState) (x n y : ℕ) (p : Proposal) (chain : List Proposal) → IsNumbered old → OwnershipInvariant (object old x) chain → MayAccept old n y p
    → Changes old new n (holding (old.node n) y p) (IsAboutProposal (old.node n) y p)
    → HasAcked new (old.node n) y p → Seen (object old x) (object new x) chain
sees_accept old new x n y p chain numbered ownership may c acked =
    elim (same_or_not y x) [
      | inr other ↦ sees_other old new x y n p (holding (old.node n) y p) chain numbered other c (holding-other (old.node n) y x p other)
      | inl same ↦ subst (λ (k : ℕ). Seen (object old k) (object new k) chain) same
          (accepted n p (accept_here old new n y p chain numbered (subst (λ (k : ℕ). OwnershipInvariant (object old k) chain) (sym same) ownership) may c acked))
    ]

-- if a node says again the proposal that it holds, then its object sees that it does
pub redrive_here : (old new : SystemState) (n x : ℕ) (p : Proposal) → IsNumbered old → (entry (old.node n) x).proposal ≡ Some p
    → Changes old new n (old.node n) (IsAboutProposal (old.node n) x p) → moves.Redrives (object old x) (object new x) n p
redrive_here old new n x p numbered held c = record {
  acts = acts_object old new x n (old.node n) (IsAboutProposal (old.node n) x p) c refl refl;
  held = rw (entry_before old new x n (old.node n) (IsAboutProposal (old.node n) x p) c numbered) held;
  entry = entry_after old new x n (old.node n) (IsAboutProposal (old.node n) x p) c numbered ∙ sym (entry_before old new x n (old.node n) (IsAboutProposal (old.node n) x p) c numbered);
  gather = gather_after old new x n (old.node n) (IsAboutProposal (old.node n) x p) c numbered ∙ sym (gather_before old new x n (old.node n) (IsAboutProposal (old.node n) x p) c numbered);
  sends = sends_object old new x (IsAboutProposal (old.node n) x p) (moves.IsAboutProposal (object old x) n p) c.sends
      (λ l m about i. about_proposal-heard old x n p l m numbered c.live about i);
}

-- if a node says again a proposal that it holds, then each object sees a move
pub sees_redrive : (old new : SystemState) (x n y : ℕ) (p : Proposal) (chain : List Proposal) → IsNumbered old → (entry (old.node n) y).proposal ≡ Some p
    → Changes old new n (old.node n) (IsAboutProposal (old.node n) y p) → Seen (object old x) (object new x) chain
sees_redrive old new x n y p chain numbered held c =
    elim (same_or_not y x) [
      | inr other ↦ sees_other old new x y n p (old.node n) chain numbered other c record { stopped = refl; epoch = refl; entry = refl; gather = refl }
      | inl same ↦ subst (λ (k : ℕ). Seen (object old k) (object new k) chain) same (redriven n p (redrive_here old new n y p numbered held c))
    ]

-- a letter acknowledges to the node n a proposal for the object x that is above the settled stamp, and n gathers for no greater one
pub record HearsAcknowledged (old : SystemState) (n x : ℕ) : Type 0 where
  pub from : ℕ
  pub proposal : Proposal
  pub content : Option Content
  pub letter : Letter
  pub body : letter.body ≡ OAck x proposal content
  pub sender : letter.from ≡ from
  pub receivable : IsReceivable old n letter
  pub below : is_below (entry (old.node n) x).stamp proposal.stamp ≡ true
  pub greatest : greater_gather proposal.stamp (gather (old.node n) x) ≡ None

gather_said : (old : SystemState) (x n from : ℕ) (p : Proposal) (co : Option Content) (l : Letter) → l.body ≡ OAck x p co → l.from ≡ from → IsReceivable old n l
    → In (Acknowledges from n ((object old x).epoch n) p co) (object old x).letters
unfolding object
gather_said old x n from p co l body sender r =
    let says_it : In (Acknowledges l.from l.to l.epoch p co) (says x l) = rw body (says-oack x l.from l.to l.epoch p co) in
    let said : In (Acknowledges l.from l.to l.epoch p co) (about x old.letters) = about-in x (Acknowledges l.from l.to l.epoch p co) l old.letters r.2 says_it in
    let now : In (Acknowledges l.from l.to (old.node n).epoch p co) (about x old.letters) =
    subst (λ (e : ℕ). In (Acknowledges l.from l.to e p co) (about x old.letters)) r.1 said in
    let to_node : In (Acknowledges l.from n (old.node n).epoch p co) (about x old.letters) =
    subst (λ (k : ℕ). In (Acknowledges l.from k (old.node n).epoch p co) (about x old.letters)) r.0 now in
    subst (λ (k : ℕ). In (Acknowledges k n (old.node n).epoch p co) (about x old.letters)) sender to_node

-- the node once it has noted an acknowledgement in its gather
abbrev pub noting : (old : SystemState) (n x : ℕ) → HearsAcknowledged old n x → Node
noting old n x heard = with_gather (old.node n) x (Some (noted (gather_for heard.proposal (gather (old.node n) x)) heard.from heard.content))

gather_here : (old new : SystemState) (n x : ℕ) → IsNumbered old → (heard : HearsAcknowledged old n x)
    → Changes old new n (noting old n x heard) nothing → moves.Notes (object old x) (object new x) n heard.proposal heard.from heard.content
gather_here old new n x numbered heard c = record {
  acts = acts_object old new x n (noting old n x heard) nothing c refl refl;
  sent = gather_said old x n heard.from heard.proposal heard.content heard.letter heard.body heard.sender heard.receivable;
  below = rw (entry_before old new x n (noting old n x heard) nothing c numbered) heard.below;
  greatest = rw (gather_before old new x n (noting old n x heard) nothing c numbered) heard.greatest;
  entry = entry_after old new x n (noting old n x heard) nothing c numbered ∙ sym (entry_before old new x n (noting old n x heard) nothing c numbered);
  gather = gather_after old new x n (noting old n x heard) nothing c numbered
      ∙ nth-put_same None (old.node n).gathers x (Some (noted (gather_for heard.proposal (gather (old.node n) x)) heard.from heard.content))
      ∙ rw (gather_before old new x n (noting old n x heard) nothing c numbered) refl;
  sends = quiet_sends old new x n (noting old n x heard) c;
}

-- if a node notes an acknowledgement, then each object sees a move
pub sees_gather : (old new : SystemState) (x n y : ℕ) (chain : List Proposal) → IsNumbered old → (heard : HearsAcknowledged old n y)
    → Changes old new n (noting old n y heard) nothing → Seen (object old x) (object new x) chain
sees_gather old new x n y chain numbered heard c =
    elim (same_or_not y x) [
      | inr other ↦ sees_nothing old new x n (noting old n y heard) chain numbered c
          (with_gather-other (old.node n) y x (Some (noted (gather_for heard.proposal (gather (old.node n) y)) heard.from heard.content)) other)
      | inl same ↦ subst (λ (k : ℕ). Seen (object old k) (object new k) chain) same
          (noted_by n heard.proposal heard.from heard.content (gather_here old new n y numbered heard c))
    ]

both_true : {a b : Bool} → (a && b) ≡ true → (a ≡ true) × (b ≡ true)
both_true {a} {b} h = and_true a b h
  where
    and_true : (a b : Bool) → (a && b) ≡ true → (a ≡ true) × (b ≡ true)
    and_true true b h = (refl, h)
    and_true false b h = cc

some_value : {A : Type 0} (o : Option A) → is_some o ≡ true → (a : A) × (o ≡ Some a)
some_value None h = cc
some_value (Some a) h = (a, refl)

some_member : (ds ms : List ℕ) → is_some (least (meet ds ms)) ≡ true → (d : ℕ) × (has d ds ≡ true) × (has d ms ≡ true)
some_member ds ms h =
    let found : (d : ℕ) × (least (meet ds ms) ≡ Some d) = some_value (least (meet ds ms)) h in
    let there : has found.0 (meet ds ms) ≡ true = least-has found.0 (meet ds ms) found.1 in
    let both : (has found.0 ds && has found.0 ms) ≡ true = sym (has-meet found.0 ds ms) ∙ there in
    let parts : (has found.0 ds ≡ true) × (has found.0 ms ≡ true) = both_true both in
    (found.0, parts.0, parts.1)

-- what makes a proposal decidable
pub record IsComplete (n : Node) (g : Gather) : Type 0 where
  pub directory : (d : ℕ) × (has d n.directory ≡ true) × (has d n.members ≡ true)
  pub source : (s : ℕ) × (source g.proposal.base_place n.members ≡ Some s)
  pub acks : is_subset (arbiters g.proposal.base_place n.members n.directory) g.acks ≡ true

-- if a node can decide a gather, then the gather is complete
pub decidable-complete : (n : Node) (g : Gather) → is_decidable n g ≡ true → IsComplete n g
unfolding is_decidable
decidable-complete n g h =
    let last = both_true h in
    let fourth = both_true last.0 in
    let third = both_true fourth.0 in
    let second = both_true third.0 in
    record {
      directory = some_member n.directory n.members second.0;
      source = some_value (source g.proposal.base_place n.members) second.1;
      acks = last.1;
    }

-- the node once it has decided a gather: it has settled the new placement and brought the content in
abbrev pub deciding : SystemState → ℕ → ℕ → Gather → Content → Node
deciding s n x g co = bring (settle (s.node n) x g.proposal.stamp (new_place g.proposal)) x g.proposal co

-- the node n has gathered what decides a proposal for the object x, with its content
pub record HasGathered (old : SystemState) (n x : ℕ) (g : Gather) (co : Content) : Type 0 where
  pub gathered : gather (old.node n) x ≡ Some g
  pub decidable : is_decidable (old.node n) g ≡ true
  pub content : g.content ≡ Some co

-- if a node decides a gather, then its object sees that it decides it
pub decide_here : (old new : SystemState) (n x : ℕ) (g : Gather) (co : Content) (chain : List Proposal) → IsNumbered old → OwnershipInvariant (object old x) chain
    → HasGathered old n x g co → Changes old new n (deciding old n x g co) nothing → moves.Decides (object old x) (object new x) n g
decide_here old new n x g co chain numbered ownership has_gathered c = record {
  acts = acts_object old new x n (deciding old n x g co) nothing c (quiet.stopped ∙ settle-stopped (old.node n) x g.proposal.stamp (new_place g.proposal))
      (quiet.epoch ∙ settle-epoch (old.node n) x g.proposal.stamp (new_place g.proposal));
  gathered = rw gather_is has_gathered.gathered;
  directory = (complete.directory.0, rw (← (actor old x n numbered c.live).directory) complete.directory.1, rw (← (actor old x n numbered c.live).members) complete.directory.2);
  source = (complete.source.0, rw (← (actor old x n numbered c.live).members) complete.source.1);
  content = rw has_gathered.content refl;
  complete = rw (← (actor old x n numbered c.live).directory, ← (actor old x n numbered c.live).members) complete.acks;
  entry = entry_after old new x n (deciding old n x g co) nothing c numbered ∙ quiet.entry
      ∙ settle-entry (old.node n) x g.proposal.stamp (new_place g.proposal) above ∙ rw entry_is refl;
  gather = gather_after old new x n (deciding old n x g co) nothing c numbered ∙ quiet.gather
      ∙ settle-gather (old.node n) x g.proposal.stamp (new_place g.proposal) above ∙ rw gather_is refl;
  sends = quiet_sends old new x n (deciding old n x g co) c;
}
  where
    quiet : IsQuiet (settle (old.node n) x g.proposal.stamp (new_place g.proposal)) (deciding old n x g co) x
    quiet = bring-quiet (settle (old.node n) x g.proposal.stamp (new_place g.proposal)) x x g.proposal co

    complete : IsComplete (old.node n) g
    complete = decidable-complete (old.node n) g has_gathered.decidable

    entry_is : (object old x).entry n ≡ entry (old.node n) x
    entry_is = entry_before old new x n (deciding old n x g co) nothing c numbered

    gather_is : (object old x).gather n ≡ gather (old.node n) x
    gather_is = gather_before old new x n (deciding old n x g co) nothing c numbered

    above : is_below (entry (old.node n) x).stamp g.proposal.stamp ≡ true
    above = rw (← entry_is) (ownership.gathers n g (gather_is ∙ has_gathered.gathered)).above

-- if a node decides a gather, then each object sees a move
pub sees_decide : (old new : SystemState) (x n y : ℕ) (g : Gather) (co : Content) (chain : List Proposal) → IsNumbered old → OwnershipInvariant (object old x) chain
    → HasGathered old n y g co → Changes old new n (deciding old n y g co) nothing → Seen (object old x) (object new x) chain
sees_decide old new x n y g co chain numbered ownership has_gathered c =
    elim (same_or_not y x) [
      | inr other ↦ sees_nothing old new x n (deciding old n y g co) chain numbered c
          (quiet-then (old.node n) (settle (old.node n) y g.proposal.stamp (new_place g.proposal)) (deciding old n y g co) x
          (settle-away (old.node n) y x g.proposal.stamp (new_place g.proposal) other)
          (bring-quiet (settle (old.node n) y g.proposal.stamp (new_place g.proposal)) y x g.proposal co))
      | inl same ↦ subst (λ (k : ℕ). Seen (object old k) (object new k) chain) same
          (decided n g (decide_here old new n y g co chain numbered (subst (λ (k : ℕ). OwnershipInvariant (object old k) chain) (sym same) ownership) has_gathered c))
    ]
