-- Over whole runs nothing comes of undeclared objects.
use Rattle.std.specs.Prelude.{ℕ, ◌≡◌, ◌-◌, ◌≤◌, true, List, [], ◌∷◌, ◌++◌, length, Option, Some, None}
use Rattle.std.proofs.Common.{arith, refl, sym, ap, ◌∙◌, inl, inr, subst}
use Rattle.std.proofs.lemmas.Bool.{cases_eq}
use Rattle.zeus_base.specs.Order.{is_below}
use Rattle.zeus_base.specs.declared.config.Config.{Config}
use Rattle.zeus_base.specs.declared.order.Stamp.{Stamp}
use Rattle.zeus_base.specs.TableLaws.{nth-append}
use Rattle.zeus_packet.specs.Place.{new_place}
use Rattle.zeus_packet.specs.declared.letter.Body.{Body}
use Rattle.zeus_packet.specs.declared.letter.Body.TheVariants.{OInv, OAck}
use Rattle.zeus_packet.specs.declared.letter.Letter.{Letter}
use Rattle.zeus_packet.specs.declared.place.Place.{Place}
use Rattle.zeus_packet.specs.declared.place.Proposal.{Proposal}
use Rattle.zeus_packet.specs.declared.write.Content.{Content}
use Rattle.zeus_model.specs.Tables.{nth}
use Rattle.zeus_model.specs.State.{Node, entry, gather}
use Rattle.zeus_model.specs.Local.{run_here}
use Rattle.zeus_model.specs.Ownership.{settle, holding, driven, own_content, bring}
use Rattle.zeus_model.specs.declared.state.Gather.{Gather}
use Rattle.machine_moves.specs.SystemState.{SystemState, IsReceivable, Changes, NewView, Same, nothing}
use Rattle.machine_moves.specs.Move.{IsTellable, request, advice, placement, reported, own_entry, kept_entry, stored, own_passed, kept_passed, IsAboutProposal, to_arbiter, to_collector, IsSettling, by_invalidation, by_acknowledgement, by_decision, Move, makes_view, stops, installs, tells, turns, settles, drives, accepts, redrives, gathers, decides, raises, stores, notes_own, notes_kept, passes_own, passes_kept, reports, hears, commits, Moves, none, next}
use Rattle.machine_moves.proofs.Steady.{IsSteady, IsKnown, move_keep}
use Rattle.ownership_safety.specs.Object.{first_stamp}
use Rattle.soundness.proofs.NeverUndeclared.{IsUntouchedProposal, HasNoContent, IsUntouchedHeld, IsUntouchedNode, SaysUntouched, IsUntouchedLetter, IsUntouched, untouched-as, untouched-with_slot, untouched-with_log, untouched-raise, untouched-store, untouched-pass_own, untouched-pass_kept, untouched-committed, untouched-holding, untouched-noted, untouched-settle_other, untouched-bring_other, never_settled, untouched-installed, untouched-content}
use Rattle.zeus_packet.specs.declared.place.Want.{Want}

-- ---- letters

-- what a node tells without a change of its state
tellable_untouched : (directory members : List ℕ) (n : Node) (x : ℕ) (l : Letter) → IsUntouchedNode n x → IsTellable n l → SaysUntouched directory members x l.to l.body
unfolding SaysUntouched
tellable_untouched directory members n x _ h (request to y want) = tt
tellable_untouched directory members n x _ h (advice to y stamp cause) = tt
tellable_untouched directory members n x _ h (placement to y) =
    λ same. (ap (λ (i : ℕ). (entry n i).stamp) same ∙ h.stamp, ap (λ (i : ℕ). (entry n i).place) same ∙ h.place)
tellable_untouched directory members n x _ h (reported to is) = tt
tellable_untouched directory members n x _ h (own_entry to s i less follower member other) = tt
tellable_untouched directory members n x _ h (kept_entry to i s outside less follower member other) = tt
tellable_untouched directory members n x _ h (stored to number s foreign less) = tt
tellable_untouched directory members n x _ h (own_passed to s d le other) = tt
tellable_untouched directory members n x _ h (kept_passed to d s foreign le other) = tt

-- what a node says of a proposal
proposal_untouched : (n : Node) (y x : ℕ) (p : Proposal) (l : Letter) → IsUntouchedNode n x → (y ≡ x → IsUntouchedProposal p) → IsAboutProposal n y p l
    → SaysUntouched n.directory n.members x l.to l.body
unfolding SaysUntouched
proposal_untouched n y x p _ h says (to_arbiter to arbiter) = λ same. (says same, arbiter)
proposal_untouched n y x p _ h says (to_collector to collects ready) =
    λ same. (says same, ap (λ (i : ℕ). own_content n i p.base_place) same ∙ untouched-content n x p.base_place h, collects)

-- who the sender is does not matter, but its view and the directory
untouched_known : (c : Config) (views : List (List ℕ)) (n : ℕ) (m : Node) (x to : ℕ) (body : Body) → IsKnown c views n m → SaysUntouched m.directory m.members x to body
    → SaysUntouched c.directory (nth [] views (m.epoch - 1)) x to body
untouched_known c views n m x to body k h = rw (k.members, k.directory) at h

-- the letters of a proposal are of the node's epoch
epoch_of : (n : Node) (y : ℕ) (p : Proposal) (l : Letter) → IsAboutProposal n y p l → l.epoch ≡ n.epoch
epoch_of n y p _ (to_arbiter to arbiter) = refl
epoch_of n y p _ (to_collector to collects ready) = refl

untouched_letter : (c : Config) (views : List (List ℕ)) (n : ℕ) (m : Node) (y x : ℕ) (p : Proposal) (l : Letter) → IsKnown c views n m → IsUntouchedNode m x
    → (y ≡ x → IsUntouchedProposal p) → IsAboutProposal m y p l → IsUntouchedLetter c.directory views x l
untouched_letter c views n m y x p l k h says about =
    rw (epoch_of m y p l about) (untouched_known c views n m x l.to l.body k (proposal_untouched m y x p l h says about))

-- a letter tells nothing to be settled of an undeclared object
settles_nothing : (directory members : List ℕ) (x : ℕ) (stamp : Stamp) (place : Place) (l : Letter) → IsSettling x stamp place l → SaysUntouched directory members x l.to l.body → stamp ≡ first_stamp
unfolding SaysUntouched
settles_nothing directory members x stamp place _ (by_invalidation from to epoch p is there) h = sym is ∙ (h refl).0.0
settles_nothing directory members x stamp place _ (by_acknowledgement from to epoch p c is there) h = sym is ∙ (h refl).0.0
settles_nothing directory members x stamp place _ (by_decision from to epoch) h = (h refl).0

said_proposal : (directory members : List ℕ) (x y to : ℕ) (p : Proposal) (b : Body) → b ≡ OInv y p → SaysUntouched directory members x to b → y ≡ x → IsUntouchedProposal p
unfolding SaysUntouched
said_proposal directory members x y to p b is h same = ((rw is at h) same).0

said_content : (directory members : List ℕ) (x y to : ℕ) (p : Proposal) (c : Option Content) (b : Body) → b ≡ OAck y p c → SaysUntouched directory members x to b → y ≡ x → c ≡ None
unfolding SaysUntouched
said_content directory members x y to p c b is h same = ((rw is at h) same).1

-- ---- one move

untouched_moved : (c d : Config) (v w : List (List ℕ)) (x : ℕ) (l : Letter) → d ≡ c → w ≡ v → IsUntouchedLetter c.directory v x l → IsUntouchedLetter d.directory w x l
untouched_moved c d v w x l a b h = rw (a, b) h

changes_untouched : (old new : SystemState) (x n : ℕ) (after : Node) (allowed : Letter → Type 0) → Changes old new n after allowed → IsUntouched old x → IsUntouchedNode after x
    → ((l : Letter) → allowed l → IsUntouchedLetter old.config.directory old.views x l) → IsUntouched new x
changes_untouched old new x n after allowed ch h there fair =
    record {
      nodes = λ k. elim (cases_eq k n) [
        | inl same ↦ subst (λ (m : Node). IsUntouchedNode m x) (sym (rw same ch.node)) there
        | inr other ↦ subst (λ (m : Node). IsUntouchedNode m x) (sym (ch.others k other)) (h.nodes k)
      ];
      letters = λ l i. elim (ch.sends.only l i) [
        | inl older ↦ untouched_moved old.config new.config old.views new.views x l ch.config ch.views (h.letters l older)
        | inr newer ↦ untouched_moved old.config new.config old.views new.views x l ch.config ch.views (fair l newer)
      ];
    }

quiet_untouched : (old new : SystemState) (x n : ℕ) (after : Node) → Changes old new n after nothing → IsUntouched old x → IsUntouchedNode after x → IsUntouched new x
quiet_untouched old new x n after ch h there = changes_untouched old new x n after nothing ch h there (λ l no. absurd no)

same_untouched : (old new : SystemState) (x : ℕ) → Same old new → IsUntouched old x → IsUntouched new x
same_untouched old new x same h =
    record {
      nodes = λ k. subst (λ (m : Node). IsUntouchedNode m x) (sym (same.nodes k)) (h.nodes k);
      letters = λ l i. elim (same.sends.only l i) [
        | inl older ↦ untouched_moved old.config new.config old.views new.views x l same.config same.views (h.letters l older)
        | inr newer ↦ absurd newer
      ];
    }

view-older : (views : List (List ℕ)) (set : List ℕ) (e : ℕ) → 1 ≤ e → e ≤ length views → nth [] (views ++ set ∷ []) (e - 1) ≡ nth [] views (e - 1)
view-older views set e h g = nth-append [] views (set ∷ []) (e - 1) (omega arith)

view_untouched : (old new : SystemState) (x : ℕ) (set : List ℕ) → NewView old new set → IsSteady old → IsUntouched old x → IsUntouched new x
view_untouched old new x set v steady h =
    record {
      nodes = λ k. subst (λ (m : Node). IsUntouchedNode m x) (sym (v.nodes k)) (h.nodes k);
      letters = λ l i. elim (v.sends.only l i) [
        | inl older ↦
            let fair = steady.letters l older in
            let same : nth [] (old.views ++ set ∷ []) (l.epoch - 1) ≡ nth [] old.views (l.epoch - 1) = view-older old.views set l.epoch fair.first fair.made in
            untouched_moved old.config new.config (old.views ++ set ∷ []) new.views x l v.config v.views
            (subst (λ (ms : List ℕ). SaysUntouched old.config.directory ms x l.to l.body) (sym same) (h.letters l older))
        | inr newer ↦ absurd newer
      ];
    }

settle_untouched : (old : SystemState) (x n y : ℕ) (stamp : Stamp) (place : Place) (l : Letter) → IsUntouched old x → IsReceivable old n l → IsSettling y stamp place l
    → is_below (entry (old.node n) y).stamp stamp ≡ true → IsUntouchedNode (settle (old.node n) y stamp place) x
settle_untouched old x n y stamp place l h at says below =
    elim (cases_eq x y) [
      | inl same ↦
          let heard : IsUntouchedLetter old.config.directory old.views y l = rw same at (h.letters l at.2) in
          let untouched : IsUntouchedNode (old.node n) y = rw same at (h.nodes n) in
          absurd (never_settled (old.node n) y stamp untouched (settles_nothing old.config.directory _ y stamp place l says heard) below)
      | inr other ↦ untouched-settle_other (old.node n) y stamp place x other (h.nodes n)
    ]

no_content : (g : Gather) (c : Content) → HasNoContent (Some g) → g.content ≡ Some c → ⊥
unfolding HasNoContent
no_content g c h is = absurd cc

decide_untouched : (n : Node) (x y : ℕ) (g : Gather) (c : Content) → IsUntouchedNode n x → gather n y ≡ Some g → g.content ≡ Some c
    → IsUntouchedNode (bring (settle n y g.proposal.stamp (new_place g.proposal)) y g.proposal c) x
decide_untouched n x y g c h is content =
    elim (cases_eq x y) [
      | inl same ↦
          let untouched : HasNoContent (gather n y) = rw same at h.gather in
          absurd (no_content g c (rw is at untouched) content)
      | inr other ↦
          untouched-bring_other (settle n y g.proposal.stamp (new_place g.proposal)) y g.proposal c x other
          (untouched-settle_other n y g.proposal.stamp (new_place g.proposal) x other h)
    ]

held_untouched : (n : Node) (x y : ℕ) (p : Proposal) → IsUntouchedNode n x → (entry n y).proposal ≡ Some p → y ≡ x → IsUntouchedProposal p
unfolding IsUntouchedHeld
held_untouched n x y p h is same =
    let held : IsUntouchedHeld (entry n y).proposal = rw same h.held in
    rw is at held

driven_untouched : (n : Node) (x y requester : ℕ) (want : Want) → IsUntouchedNode n x → y ≡ x → IsUntouchedProposal (driven n y requester want)
driven_untouched n x y requester want h same = (ap (λ (i : ℕ). (entry n i).stamp) same ∙ h.stamp, ap (λ (i : ℕ). (entry n i).place) same ∙ h.place)

hold_untouched : (old new : SystemState) (x n y : ℕ) (p : Proposal) → Changes old new n (holding (old.node n) y p) (IsAboutProposal (old.node n) y p) → IsSteady old → IsUntouched old x
    → (y ≡ x → IsUntouchedProposal p) → IsUntouched new x
hold_untouched old new x n y p ch steady h says =
    changes_untouched old new x n (holding (old.node n) y p) (IsAboutProposal (old.node n) y p) ch h (untouched-holding (old.node n) y p x says (h.nodes n))
    (λ l about. untouched_letter old.config old.views n (old.node n) y x p l (steady.nodes n ch.live) (h.nodes n) says about)

-- if nothing came of an object before a move, then nothing comes of it by the move
pub move_untouched : (old new : SystemState) (x : ℕ) → IsSteady old → Move old new → IsUntouched old x → IsUntouched new x
move_untouched old new x steady (makes_view set v) h = view_untouched old new x set v steady h
move_untouched old new x steady (stops n ch) h = quiet_untouched old new x n _ ch h (untouched-as (old.node n) _ x refl refl refl (h.nodes n))
move_untouched old new x steady (installs n e less le ch) h = quiet_untouched old new x n _ ch h (untouched-installed (old.node n) e _ x (h.nodes n))
move_untouched old new x steady (tells n ch) h =
    changes_untouched old new x n (old.node n) (IsTellable (old.node n)) ch h (h.nodes n) (λ l t. tellable_untouched old.config.directory _ (old.node n) x l (h.nodes n) t)
move_untouched old new x steady (turns n s c ch) h = quiet_untouched old new x n _ ch h (untouched-with_slot (old.node n) s _ x (h.nodes n))
move_untouched old new x steady (settles n y stamp place l at says below ch) h = quiet_untouched old new x n _ ch h (settle_untouched old x n y stamp place l h at says below)
move_untouched old new x steady (drives n y requester want may ch acked) h =
    hold_untouched old new x n y (driven (old.node n) y requester want) ch steady h (driven_untouched (old.node n) x y requester want (h.nodes n))
move_untouched old new x steady (accepts n y p may ch acked) h =
    let l = may.sent.0 in
    hold_untouched old new x n y p ch steady h (said_proposal old.config.directory _ x y l.to p l.body may.sent.1 (h.letters l may.sent.2.2))
move_untouched old new x steady (redrives n y p held opened sourced ch) h =
    changes_untouched old new x n (old.node n) (IsAboutProposal (old.node n) y p) ch h (h.nodes n)
    (λ l about. untouched_letter old.config old.views n (old.node n) y x p l (steady.nodes n ch.live) (h.nodes n) (held_untouched (old.node n) x y p (h.nodes n) held) about)
move_untouched old new x steady (gathers n y from p c l is by at below greatest ch) h =
    quiet_untouched old new x n _ ch h
    (untouched-noted (old.node n) y from p c x (said_content old.config.directory _ x y l.to p c l.body is (h.letters l at.2)) (h.nodes n))
move_untouched old new x steady (decides n y g c is decidable content ch) h = quiet_untouched old new x n _ ch h (decide_untouched (old.node n) x y g c (h.nodes n) is content)
move_untouched old new x steady (raises n d s l foreign at says less ch) h = quiet_untouched old new x n _ ch h (untouched-raise (old.node n) s d x (h.nodes n))
move_untouched old new x steady (stores n r l foreign at is done number room ch) h = quiet_untouched old new x n _ ch h (untouched-store (old.node n) r x (h.nodes n))
move_untouched old new x steady (notes_own n s i from l at by is less ch) h = quiet_untouched old new x n _ ch h (untouched-with_slot (old.node n) s _ x (h.nodes n))
move_untouched old new x steady (notes_kept n i from s l foreign at by is less ch) h = quiet_untouched old new x n _ ch h (untouched-with_log (old.node n) s _ x (h.nodes n))
move_untouched old new x steady (passes_own n s less passes ch) h = quiet_untouched old new x n _ ch h (untouched-pass_own (old.node n) s 1 x (h.nodes n))
move_untouched old new x steady (passes_kept n s outside foreign less passes ch) h = quiet_untouched old new x n _ ch h (untouched-pass_kept (old.node n) s 1 x (h.nodes n))
move_untouched old new x steady (reports n nothing_kept ch) h = quiet_untouched old new x n _ ch h (untouched-as (old.node n) _ x refl refl refl (h.nodes n))
move_untouched old new x steady (hears n m l is by at ch) h = quiet_untouched old new x n _ ch h (untouched-as (old.node n) _ x refl refl refl (h.nodes n))
move_untouched old new x steady (commits n s c less is cause ch) h =
    quiet_untouched old new x n _ ch h (untouched-committed (old.node n) s c (run_here (old.node n) c.tx) _ _ x (h.nodes n))

-- if nothing came of an object before some moves, then nothing comes of it by them
pub moves_untouched : (old new : SystemState) (x : ℕ) → IsSteady old → Moves old new → IsUntouched old x → IsUntouched new x
moves_untouched old new x steady (none _ _ same) h = same_untouched old new x same h
moves_untouched old new x steady (next _ mid _ m ms) h = moves_untouched mid new x (move_keep old mid m steady) ms (move_untouched old mid x steady m h)
