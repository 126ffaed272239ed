-- What holds at every moment, whatever the moves: live nodes know their numbers and views, and letters have fair senders.
use Rattle.std.specs.Prelude.{ℕ, suc, ◌≡◌, ◌-◌, ◌<◌, ◌≤◌, true, List, [], ◌∷◌, ◌++◌, length, Option}
use Rattle.std.proofs.Common.{arith, refl, ◌∙◌, inl, inr, length-append}
use Rattle.std.proofs.lemmas.Bool.{cases_eq, cases_lt}
use Rattle.zeus_base.specs.Nodes.{has}
use Rattle.zeus_base.specs.Order.{is_below}
use Rattle.zeus_base.specs.OrderLaws.{is_below-lower}
use Rattle.zeus_base.specs.declared.config.Config.{Config}
use Rattle.zeus_base.specs.declared.order.Stream.{Stream}
use Rattle.zeus_base.specs.TableLaws.{nth-append, nth-last}
use Rattle.zeus_packet.specs.declared.letter.RInv.{RInv as Invalidation}
use Rattle.zeus_packet.specs.declared.write.Content.{Content}
use Rattle.zeus_packet.specs.declared.write.Write.{Write}
use Rattle.zeus_txn.specs.declared.reply.Ran.{Ran}
use Rattle.zeus_model.specs.declared.state.Current.{Current}
use Rattle.zeus_model.specs.declared.state.Gather.{Gather}
use Rattle.zeus_model.specs.Membership.{dropped}
use Rattle.zeus_packet.specs.declared.letter.Body.{Body}
use Rattle.zeus_packet.specs.declared.letter.Body.TheVariants.{RInv, RAck, RVal, OReq, OInv, OAck, ONack, OVal, Recovered}
use Rattle.zeus_packet.specs.declared.letter.Letter.{Letter}
use Rattle.zeus_packet.specs.declared.place.Proposal.{Proposal}
use Rattle.zeus_packet.specs.Place.{new_place}
use Rattle.zeus_model.specs.In.{In}
use Rattle.zeus_model.specs.Tables.{nth}
use Rattle.zeus_model.specs.State.{Node, slot, log, entry, with_copies}
use Rattle.zeus_model.specs.Act.{letter}
use Rattle.zeus_model.specs.Local.{committed, with_current, run_here}
use Rattle.zeus_model.specs.Ownership.{settle, holding, driven}
use Rattle.machine_moves.specs.SystemState.{SystemState, IsLive, IsNumbered, Changes, NewView, Same, nothing}
use Rattle.machine_moves.specs.Move.{IsTellable, request, advice, placement, reported, own_entry, kept_entry, stored, own_passed, kept_passed, IsAboutProposal, to_arbiter, to_collector, Move, makes_view, stops, installs, tells, turns, settles, drives, accepts, redrives, gathers, decides, raises, stores, notes_own, notes_kept, passes_own, passes_kept, reports, hears, commits, Moves, none, next}
use Rattle.machine_moves.proofs.Within.{IsWithin, Keeps, not_empty, IsWithin-with_slot, IsWithin-with_log, IsWithin-with_copies, IsWithin-with_gather, IsWithin-settle, IsWithin-holding, IsWithin-bring, IsWithin-raise, IsWithin-store, IsWithin-pass_own, IsWithin-pass_kept, Keeps-trans, Keeps-with_slot, Keeps-with_log, Keeps-with_gather, Keeps-settle, Keeps-holding, Keeps-bring, Keeps-raise, Keeps-store, Keeps-pass_own, Keeps-pass_kept, Keeps-reported, Keeps-committed}

-- a live node of this number: what it knows of the configuration and of the views, and that it is in each view
pub record IsKnown (config : Config) (views : List (List ℕ)) (n : ℕ) (m : Node) : Type 0 where
  pub within : n < config.nodes
  pub me : m.me ≡ n
  pub directory : m.directory ≡ config.directory
  pub degree : m.degree ≡ config.degree
  pub first : 1 ≤ m.epoch
  pub made : m.epoch ≤ length views
  pub members : m.members ≡ nth [] views (m.epoch - 1)
  pub everywhere : (e : ℕ) → 1 ≤ e → e ≤ length views → has n (nth [] views (e - 1)) ≡ true
  pub rows : IsWithin config.slots m

-- what a letter says of streams is within the slots, and of proposals that they are above their bases
unfoldable pub SaysFair : ℕ → Body → Type 0
SaysFair slots (RInv r) = r.stream.slot < slots
SaysFair slots (RAck s number) = Unit {0}
SaysFair slots (RVal s done) = Unit {0}
SaysFair slots (OReq x want) = Unit {0}
SaysFair slots (OInv x p) = is_below p.base p.stamp ≡ true
SaysFair slots (OAck x p c) = is_below p.base p.stamp ≡ true
SaysFair slots (ONack x stamp cause) = Unit {0}
SaysFair slots (OVal x stamp place) = Unit {0}
SaysFair slots Recovered = Unit {0}

-- a letter's sender is a member of the view of its epoch
pub record IsFair (config : Config) (views : List (List ℕ)) (l : Letter) : Type 0 where
  pub first : 1 ≤ l.epoch
  pub made : l.epoch ≤ length views
  pub member : has l.from (nth [] views (l.epoch - 1)) ≡ true
  pub says : SaysFair config.slots l.body

-- at every moment each live node knows its number and the views, and each letter that was sent is fair
pub record IsSteady (s : SystemState) : Type 0 where
  pub nodes : (n : ℕ) → IsLive s n → IsKnown s.config s.views n (s.node n)
  pub letters : (l : Letter) → In l s.letters → IsFair s.config s.views l

-- in a steady system each live node is numbered
pub IsNumbered-steady : (s : SystemState) → IsSteady s → IsNumbered s
IsNumbered-steady s h =
    record {
      within = λ n live. let k = h.nodes n live in k.within;
      me = λ n live. let k = h.nodes n live in k.me;
      directory = λ n live. let k = h.nodes n live in k.directory;
      degree = λ n live. let k = h.nodes n live in k.degree;
      epoch = λ n live. let k = h.nodes n live in (k.first, k.made);
      members = λ n live. let k = h.nodes n live in k.members;
    }

-- a node that keeps what it is stays known
pub IsKnown-keeps : (config : Config) (views : List (List ℕ)) (n : ℕ) (m after : Node) → IsKnown config views n m → Keeps m after → IsWithin config.slots after → IsKnown config views n after
IsKnown-keeps config views n m after k keeps rows =
    record {
      within = k.within;
      me = keeps.me ∙ k.me;
      directory = keeps.directory ∙ k.directory;
      degree = keeps.degree ∙ k.degree;
      first = rw (keeps.epoch) k.first;
      made = rw (keeps.epoch) k.made;
      members = rw (keeps.epoch) (keeps.members ∙ k.members);
      everywhere = k.everywhere;
      rows = rows;
    }

-- ---- the letters that moves send

IsFair-letter : (config : Config) (views : List (List ℕ)) (n : ℕ) (m : Node) → IsKnown config views n m → (to : ℕ) (body : Body) → SaysFair config.slots body → IsFair config views (letter m to body)
IsFair-letter config views n m k to body says =
    record { first = k.first; made = k.made; member = rw (k.me) (k.everywhere m.epoch k.first k.made); says = says }

slot_within : (bound : ℕ) (m : Node) → IsWithin bound m → (s i : ℕ) → i < length (slot m s).pending → s < bound
slot_within bound m w s i h =
    elim (cases_lt s bound) [ inl less ↦ less | inr more ↦ not_empty i (slot m s).pending h (w.pending s more) ]

stream_within : (bound : ℕ) (m : Node) → IsWithin bound m → (s : Stream) (i : ℕ) → i < length (log m s).kept → s.slot < bound
stream_within bound m w s i h =
    elim (cases_lt s.slot bound) [ inl less ↦ less | inr more ↦ not_empty i (log m s).kept h (w.kept s more) ]

-- a letter that a known node may send without a change of its state is fair
pub tellable_fair : (config : Config) (views : List (List ℕ)) (n : ℕ) (m : Node) → IsKnown config views n m → (l : Letter) → IsTellable m l → IsFair config views l
unfolding SaysFair
tellable_fair config views n m k _ (request to x want) = IsFair-letter config views n m k to (OReq x want) tt
tellable_fair config views n m k _ (advice to x stamp cause) = IsFair-letter config views n m k to (ONack x stamp cause) tt
tellable_fair config views n m k _ (placement to x) = IsFair-letter config views n m k to (OVal x (entry m x).stamp (entry m x).place) tt
tellable_fair config views n m k _ (reported to has) = IsFair-letter config views n m k to Recovered tt
tellable_fair config views n m k _ (own_entry to s i less follower member other) =
    IsFair-letter config views n m k to _ (slot_within config.slots m k.rows s i less)
tellable_fair config views n m k _ (kept_entry to i s outside less follower member other) =
    IsFair-letter config views n m k to _ (stream_within config.slots m k.rows s i less)
tellable_fair config views n m k _ (stored to number s foreign less) = IsFair-letter config views n m k to (RAck s number) tt
tellable_fair config views n m k _ (own_passed to s d le other) = IsFair-letter config views n m k to _ tt
tellable_fair config views n m k _ (kept_passed to d s foreign le other) = IsFair-letter config views n m k to (RVal s d) tt

-- if a known node sends a letter about a proposal whose stamp is above its base, then the letter is fair
pub about_fair : (config : Config) (views : List (List ℕ)) (n : ℕ) (m : Node) (x : ℕ) (p : Proposal) → IsKnown config views n m → is_below p.base p.stamp ≡ true → (l : Letter) → IsAboutProposal m x p l → IsFair config views l
unfolding SaysFair
about_fair config views n m x p k below _ (to_arbiter to arbiter) = IsFair-letter config views n m k to (OInv x p) below
about_fair config views n m x p k below _ (to_collector to collector ready) = IsFair-letter config views n m k to _ below

-- ---- one move

moved : (c d : Config) (v w : List (List ℕ)) (k : ℕ) (x y : Node) → d ≡ c → w ≡ v → y ≡ x → IsKnown c v k x → IsKnown d w k y
moved c d v w k x y a b e h = rw (a, b, e) h

fair_moved : (c d : Config) (v w : List (List ℕ)) (l : Letter) → d ≡ c → w ≡ v → IsFair c v l → IsFair d w l
fair_moved c d v w l a b h = rw (a, b) h

changes_keep : (old new : SystemState) (n : ℕ) (after : Node) (allowed : Letter → Type 0) → Changes old new n after allowed → IsSteady old → IsKnown old.config old.views n after → ((l : Letter) → allowed l → IsFair old.config old.views l) → IsSteady new
changes_keep old new n after allowed ch h known fair =
    record {
      nodes = λ k live. elim (cases_eq k n) [
        | inl same ↦ rw same (moved old.config new.config old.views new.views n after (new.node n) ch.config ch.views ch.node known)
        | inr other ↦ moved old.config new.config old.views new.views k (old.node k) (new.node k) ch.config ch.views (ch.others k other) (h.nodes k (rw (ch.others k other) at live))
      ];
      letters = λ l m. elim (ch.sends.only l m) [
        | inl older ↦ fair_moved old.config new.config old.views new.views l ch.config ch.views (h.letters l older)
        | inr newer ↦ fair_moved old.config new.config old.views new.views l ch.config ch.views (fair l newer)
      ];
    }

-- a move of a node that keeps what it is, and sends nothing
quiet_keep : (old new : SystemState) (n : ℕ) (after : Node) → Changes old new n after nothing → IsSteady old → Keeps (old.node n) after → (IsWithin old.config.slots (old.node n) → IsWithin old.config.slots after) → IsSteady new
quiet_keep old new n after ch h keeps rows =
    let k = h.nodes n ch.live in
    changes_keep old new n after nothing ch h (IsKnown-keeps old.config old.views n (old.node n) after k keeps (rows k.rows)) (λ l none. absurd none)

-- the same where it sends
loud_keep : (old new : SystemState) (n : ℕ) (after : Node) (allowed : Letter → Type 0) → Changes old new n after allowed → IsSteady old → Keeps (old.node n) after → (IsWithin old.config.slots (old.node n) → IsWithin old.config.slots after) → ((l : Letter) → allowed l → IsFair old.config old.views l) → IsSteady new
loud_keep old new n after allowed ch h keeps rows fair =
    let k = h.nodes n ch.live in
    changes_keep old new n after allowed ch h (IsKnown-keeps old.config old.views n (old.node n) after k keeps (rows k.rows)) fair

stopped_known : (config : Config) (views : List (List ℕ)) (n : ℕ) (m : Node) → IsKnown config views n m → IsKnown config views n (record m { stopped = true })
stopped_known config views n m k =
    record {
      within = k.within;
      me = k.me;
      directory = k.directory;
      degree = k.degree;
      first = k.first;
      made = k.made;
      members = k.members;
      everywhere = k.everywhere;
      rows = record { slots = k.rows.slots; pending = k.rows.pending; kept = k.rows.kept; held = k.rows.held };
    }

installed_known : (config : Config) (views : List (List ℕ)) (n : ℕ) (m : Node) (e : ℕ) (left : List (Option Gather)) → IsKnown config views n m → m.epoch < e → e ≤ length views → IsKnown config views n (record m { epoch = e; members = nth [] views (e - 1); reported = []; gathers = left })
installed_known config views n m e left k less le =
    record {
      within = k.within;
      me = k.me;
      directory = k.directory;
      degree = k.degree;
      first = omega arith;
      made = le;
      members = refl;
      everywhere = k.everywhere;
      rows = record { slots = k.rows.slots; pending = k.rows.pending; kept = k.rows.kept; held = k.rows.held };
    }

-- if a system is steady, then so is one that is the same
pub same_keep : (old new : SystemState) → Same old new → IsSteady old → IsSteady new
same_keep old new same h =
    record {
      nodes = λ k live. moved old.config new.config old.views new.views k (old.node k) (new.node k) same.config same.views (same.nodes k) (h.nodes k (rw (same.nodes k) at live));
      letters = λ l m. elim (same.sends.only l m) [
        | inl older ↦ fair_moved old.config new.config old.views new.views l same.config same.views (h.letters l older)
        | inr newer ↦ absurd newer
      ];
    }

-- ---- one view more

view-older : (views : List (List ℕ)) (set : List ℕ) (e : ℕ) → 1 ≤ e → e ≤ length views → nth [] (views ++ set ∷ []) (e - 1) ≡ nth [] views (e - 1)
view-older views set e h g = nth-append [] views (set ∷ []) (e - 1) (omega arith)

view-newest : (views : List (List ℕ)) (set : List ℕ) (e : ℕ) → e ≡ suc (length views) → nth [] (views ++ set ∷ []) (e - 1) ≡ set
view-newest views set e is = let last : e - 1 ≡ length views = omega arith in rw last (nth-last [] views set)

in_each_view : (views : List (List ℕ)) (set : List ℕ) (n e : ℕ) → has n set ≡ true → ((f : ℕ) → 1 ≤ f → f ≤ length views → has n (nth [] views (f - 1)) ≡ true) → 1 ≤ e → e ≤ suc (length views) → has n (nth [] (views ++ set ∷ []) (e - 1)) ≡ true
in_each_view views set n e last before h g =
    elim (cases_eq e (suc (length views))) [
      | inl newest ↦ rw (view-newest views set e newest) last
      | inr older ↦ rw (view-older views set e h (omega arith)) (before e h (omega arith))
    ]

length-more : (views : List (List ℕ)) (set : List ℕ) → length (views ++ set ∷ []) ≡ suc (length views)
length-more views set = omega (arith, length-append views (set ∷ []))

known_viewed : (config : Config) (views : List (List ℕ)) (set : List ℕ) (n : ℕ) (m : Node) → has n set ≡ true → IsKnown config views n m → IsKnown config (views ++ set ∷ []) n m
known_viewed config views set n m last k =
    record {
      within = k.within;
      me = k.me;
      directory = k.directory;
      degree = k.degree;
      first = k.first;
      made = omega (arith, length-more views set, k.made);
      members = rw (view-older views set m.epoch k.first k.made) k.members;
      everywhere = λ e h g. in_each_view views set n e last k.everywhere h (omega (arith, length-more views set));
      rows = k.rows;
    }

fair_viewed : (config : Config) (views : List (List ℕ)) (set : List ℕ) (l : Letter) → IsFair config views l → IsFair config (views ++ set ∷ []) l
fair_viewed config views set l f =
    record {
      first = f.first;
      made = omega (arith, length-more views set, f.made);
      member = rw (view-older views set l.epoch f.first f.made) f.member;
      says = f.says;
    }

view_keep : (old new : SystemState) (set : List ℕ) → NewView old new set → IsSteady old → IsSteady new
view_keep old new set v h =
    record {
      nodes = λ k live.
          let was : IsLive old k = rw (v.nodes k) at live in
          moved old.config new.config (old.views ++ set ∷ []) new.views k (old.node k) (new.node k) v.config v.views (v.nodes k) (known_viewed old.config old.views set k (old.node k) (v.live k was) (h.nodes k was));
      letters = λ l m. elim (v.sends.only l m) [
        | inl older ↦ fair_moved old.config new.config (old.views ++ set ∷ []) new.views l v.config v.views (fair_viewed old.config old.views set l (h.letters l older))
        | inr newer ↦ absurd newer
      ];
    }

-- ---- each move

fair_invalidation : (config : Config) (views : List (List ℕ)) (l : Letter) (r : Invalidation) → l.body ≡ RInv r → IsFair config views l → r.stream.slot < config.slots
unfolding SaysFair
fair_invalidation config views l r is f = rw is at f.says

-- a fair letter that spreads a proposal has one whose stamp is above its base
pub fair_proposal : (config : Config) (views : List (List ℕ)) (l : Letter) (x : ℕ) (p : Proposal) → l.body ≡ OInv x p → IsFair config views l → is_below p.base p.stamp ≡ true
unfolding SaysFair
fair_proposal config views l x p is f = rw is at f.says

-- a fair acknowledgement is of a proposal whose stamp is above its base
pub fair_acknowledgement : (config : Config) (views : List (List ℕ)) (l : Letter) (x : ℕ) (p : Proposal) (c : Option Content) → l.body ≡ OAck x p c → IsFair config views l → is_below p.base p.stamp ≡ true
unfolding SaysFair
fair_acknowledgement config views l x p c is f = rw is at f.says

within_turned : (bound : ℕ) (m : Node) (s : ℕ) (c : Option Current) → IsWithin bound m → IsWithin bound (with_current m s c)
within_turned bound m s c w =
    IsWithin-with_slot bound m s record { current = c; done = (slot m s).done; pending = (slot m s).pending } (λ le. w.pending s le) w

within_committed : (bound : ℕ) (m : Node) (s : ℕ) (c : Current) (ran : Ran) (followers : List ℕ) (writes : List Write) → s < bound → IsWithin bound m → IsWithin bound (committed m s c ran followers writes)
within_committed bound m s c ran followers writes less w =
    let copies = (committed m s c ran followers writes).copies in
    IsWithin-with_slot bound (with_copies m copies) s _ (λ le. absurd (omega arith)) (IsWithin-with_copies bound m copies w)

proposal_keep : (old new : SystemState) (n x : ℕ) (p : Proposal) → is_below p.base p.stamp ≡ true → Changes old new n (holding (old.node n) x p) (IsAboutProposal (old.node n) x p) → IsSteady old → IsSteady new
proposal_keep old new n x p below ch h =
    loud_keep old new n (holding (old.node n) x p) (IsAboutProposal (old.node n) x p) ch h (Keeps-holding (old.node n) x p) (IsWithin-holding old.config.slots (old.node n) x p below)
    (about_fair old.config old.views n (old.node n) x p (h.nodes n ch.live) below)

-- a move from a steady system leads to a steady one
pub move_keep : (old new : SystemState) → Move old new → IsSteady old → IsSteady new
move_keep old new (makes_view set v) h = view_keep old new set v h
move_keep old new (stops n ch) h =
    changes_keep old new n (record (old.node n) { stopped = true }) nothing ch h (stopped_known old.config old.views n (old.node n) (h.nodes n ch.live)) (λ l no. absurd no)
move_keep old new (installs n e less le ch) h =
    changes_keep old new n _ nothing ch h (installed_known old.config old.views n (old.node n) e (dropped (old.node n).gathers) (h.nodes n ch.live) less le) (λ l no. absurd no)
move_keep old new (tells n ch) h =
    changes_keep old new n (old.node n) (IsTellable (old.node n)) ch h (h.nodes n ch.live) (tellable_fair old.config old.views n (old.node n) (h.nodes n ch.live))
move_keep old new (turns n s c ch) h = quiet_keep old new n _ ch h (Keeps-with_slot (old.node n) s _) (within_turned old.config.slots (old.node n) s c)
move_keep old new (settles n x stamp place l at says below ch) h =
    quiet_keep old new n _ ch h (Keeps-settle (old.node n) x stamp place) (IsWithin-settle old.config.slots (old.node n) x stamp place)
move_keep old new (drives n x requester want may ch acked) h =
    let p : Proposal = driven (old.node n) x requester want in
    proposal_keep old new n x p (is_below-lower p.base p.stamp (omega arith)) ch h
move_keep old new (accepts n x p may ch acked) h =
    let l = may.sent.0 in
    proposal_keep old new n x p (fair_proposal old.config old.views l x p may.sent.1 (h.letters l may.sent.2.2)) ch h
move_keep old new (redrives n x p held opened sourced ch) h =
    let k = h.nodes n ch.live in
    changes_keep old new n (old.node n) (IsAboutProposal (old.node n) x p) ch h k
    (about_fair old.config old.views n (old.node n) x p k (k.rows.held x p held))
move_keep old new (gathers n x from p c l is by at below greatest ch) h =
    quiet_keep old new n _ ch h (Keeps-with_gather (old.node n) x _) (IsWithin-with_gather old.config.slots (old.node n) x _)
move_keep old new (decides n x g c is decidable content ch) h =
    quiet_keep old new n _ ch h
    (Keeps-trans (old.node n) (settle (old.node n) x g.proposal.stamp (new_place g.proposal)) _ (Keeps-settle (old.node n) x g.proposal.stamp (new_place g.proposal)) (Keeps-bring (settle (old.node n) x g.proposal.stamp (new_place g.proposal)) x g.proposal c))
    (λ w. IsWithin-bring old.config.slots (settle (old.node n) x g.proposal.stamp (new_place g.proposal)) x g.proposal c (IsWithin-settle old.config.slots (old.node n) x g.proposal.stamp (new_place g.proposal) w))
move_keep old new (raises n d s l foreign at says less ch) h =
    quiet_keep old new n _ ch h (Keeps-raise (old.node n) s d) (IsWithin-raise old.config.slots (old.node n) s d)
move_keep old new (stores n r l foreign at is done number room ch) h =
    quiet_keep old new n _ ch h (Keeps-store (old.node n) r)
    (IsWithin-store old.config.slots (old.node n) r (fair_invalidation old.config old.views l r is (h.letters l at.2)))
move_keep old new (notes_own n s i from l at by is less ch) h =
    quiet_keep old new n _ ch h (Keeps-with_slot (old.node n) s _)
    (λ w. IsWithin-with_slot old.config.slots (old.node n) s _ (λ le. not_empty i (slot (old.node n) s).pending less (w.pending s le)) w)
move_keep old new (notes_kept n i from s l foreign at by is less ch) h =
    quiet_keep old new n _ ch h (Keeps-with_log (old.node n) s _)
    (λ w. IsWithin-with_log old.config.slots (old.node n) s _ (λ le. not_empty i (log (old.node n) s).kept less (w.kept s le)) w)
move_keep old new (passes_own n s less passes ch) h =
    quiet_keep old new n _ ch h (Keeps-pass_own (old.node n) s 1) (IsWithin-pass_own old.config.slots (old.node n) s 1)
move_keep old new (passes_kept n s outside foreign less passes ch) h =
    quiet_keep old new n _ ch h (Keeps-pass_kept (old.node n) s 1) (IsWithin-pass_kept old.config.slots (old.node n) s 1)
move_keep old new (reports n nothing_kept ch) h =
    quiet_keep old new n _ ch h (Keeps-reported (old.node n) _) (λ w. record { slots = w.slots; pending = w.pending; kept = w.kept; held = w.held })
move_keep old new (hears n m l is by at ch) h =
    quiet_keep old new n _ ch h (Keeps-reported (old.node n) _) (λ w. record { slots = w.slots; pending = w.pending; kept = w.kept; held = w.held })
move_keep old new (commits n s c less is cause ch) h =
    let ran = run_here (old.node n) c.tx in
    quiet_keep old new n _ ch h (Keeps-committed (old.node n) s c ran _ _) (within_committed old.config.slots (old.node n) s c ran _ _ less)

-- moves from a steady system lead to a steady one
pub moves_keep : (old new : SystemState) → Moves old new → IsSteady old → IsSteady new
moves_keep old new (none _ _ same) h = same_keep old new same h
moves_keep old new (next _ mid _ m ms) h = moves_keep mid new ms (move_keep old mid m h)
