-- Moves that change who is there: a view is made, a node stops, a node goes on to a view.
use Rattle.std.specs.Prelude.{ℕ, suc, ◌≡◌, ◌-◌, ◌≤◌, true, false, List, [], ◌∷◌, length, Option, Some, None, ◌⊎◌}
use Rattle.std.proofs.Common.{arith, refl, sym, ap, subst, ◌∙◌, inl, inr, length-append}
use Rattle.std.proofs.lemmas.Bool.{cases_lt}
use Rattle.zeus_base.specs.Nodes.{is_subset}
use Rattle.zeus_base.specs.NodeLaws.{IsRising, RisesFrom}
use Rattle.zeus_base.specs.Order.{is_below}
use Rattle.zeus_base.specs.OrderLaws.{is_below-irrefl}
use Rattle.zeus_base.specs.declared.order.Stamp.{Stamp}
use Rattle.zeus_base.specs.TableLaws.{nth-append, nth-last}
use Rattle.zeus_packet.specs.declared.place.Place.{Place}
use Rattle.zeus_packet.specs.declared.place.Proposal.{Proposal}
use Rattle.zeus_packet.specs.declared.write.Content.{Content}
use Rattle.zeus_model.specs.declared.state.Gather.{Gather}
use Rattle.zeus_model.specs.Tables.{nth}
use Rattle.ownership_safety.specs.Object.{Object, Letter, Invalidates, Acknowledges, Validates, In, IsView, IsLive, IsMember, view, rank}
use Rattle.ownership_safety.specs.Moves.{SameSetting, SameOthers, Sends, nothing, NewView, Stops, Installs}
use Rattle.ownership_safety.specs.OwnershipInvariant.{OwnershipInvariant, IsViewed, IsGather, IsDecided}
use Rattle.ownership_safety.proofs.Basics.{nth-append_each}
use Rattle.ownership_safety.specs.Kept.{Grows}
use Rattle.ownership_safety.proofs.Grows.{Extends-refl, each_node, rank-not_below, settled-not_below, stopped-kept, epoch-kept, decided-grows, member-grows}
use Rattle.ownership_safety.proofs.Letters.{viewed-grows, live-back, invalidations-viewed, acknowledgements-viewed}
use Rattle.ownership_safety.proofs.NothingSaid.{Quiet, quiet-ownership, held-grows, gather-grows}

-- a move that sends nothing
pub nothing-only : (old new : Object) → Sends old new nothing → (l : Letter) → In l new.letters → In l old.letters
nothing-only old new sends l m = elim (sends.only l m) [ inl before ↦ before | inr now ↦ absurd now ]

-- a move of one node that sends at most validations
pub quiet-node : (old new : Object) (n : ℕ) → SameSetting old new → SameOthers old new n → (old.stopped n ≡ true → new.stopped n ≡ true) → old.epoch n ≤ new.epoch n → is_below (rank new n) (rank old n) ≡ false → is_below (new.entry n).stamp (old.entry n).stamp ≡ false
    → ((l : Letter) → In l old.letters → In l new.letters)
    → ((from to e : ℕ) (p : Proposal) → In (Invalidates from to e p) new.letters → In (Invalidates from to e p) old.letters)
    → ((from to e : ℕ) (p : Proposal) (c : Option Content) → In (Acknowledges from to e p c) new.letters → In (Acknowledges from to e p c) old.letters)
    → Quiet old new
quiet-node old new n setting others stopped epoch rank settled kept invalidations acks =
    record {
      grows = record {
        directory = setting.directory;
        declared = setting.declared;
        viewed = λ e v. (v.0, rw setting.views v.1);
        views = λ e v. rw setting.views refl;
        stopped = stopped-kept old new n others stopped;
        epoch = epoch-kept old new n others epoch;
        rank = rank-not_below old new n others rank;
        settled = settled-not_below old new n others settled;
        letters = kept;
        invalidations = λ from to e p m. inl (invalidations from to e p m);
        acks = λ from to e p c m. inl (acks from to e p c m);
      };
      invalidations = invalidations;
      acks = acks;
    }

-- a quiet move that changes no entry and sends no validation
pub entries-ownership : (old new : Object) (chain : List Proposal) → OwnershipInvariant old chain → Quiet old new → IsViewed new → ((m : ℕ) → new.entry m ≡ old.entry m) → ((m : ℕ) (g : Gather) → new.gather m ≡ Some g → IsGather new m g)
    → ((t : Stamp) (place : Place) → In (Validates t place) new.letters → IsDecided new chain t place) → OwnershipInvariant new chain
entries-ownership old new chain ownership quiet viewed same gathers told =
    quiet-ownership old new quiet chain chain (Extends-refl chain) ownership viewed
    (λ m p h. held-grows old new quiet.grows m (same m) p (ownership.held m p (sym (ap (λ e. e.proposal) (same m)) ∙ h)))
    gathers
    (λ v after before. absurd (omega arith))
    (ownership.known.0, ap (λ e. e.stamp) (same ownership.known.0) ∙ ownership.known.1)
    (λ m. rw (same m) (decided-grows old new quiet.grows chain chain (Extends-refl chain) (old.entry m).stamp (old.entry m).place (ownership.settled m)))
    told

-- if a move sends nothing and takes nothing back, then each placement that was told is decided after it
pub told-kept : (old new : Object) (chain : List Proposal) → OwnershipInvariant old chain → Grows old new → Sends old new nothing → (t : Stamp) (place : Place) → In (Validates t place) new.letters → IsDecided new chain t place
told-kept old new chain ownership grows sends t place m =
    decided-grows old new grows chain chain (Extends-refl chain) t place (ownership.told t place (nothing-only old new sends (Validates t place) m))

-- ---- a view is made

module _ (old new : Object) (set : List ℕ) (made : NewView old new set) where
  view-count : length new.views ≡ suc (length old.views)
  view-count = ap (λ (vs : List (List ℕ)). length vs) made.views ∙ simp length-append (omega arith)

  view-kept : (e : ℕ) → IsView old e → view new e ≡ view old e
  view-kept e v = rw made.views (nth-append [] old.views (set ∷ []) (e - 1) (omega arith))

  view-newest : view new (suc (length old.views)) ≡ set
  view-newest =
      let last : suc (length old.views) - 1 ≡ length old.views = omega arith in
      rw (made.views, last) (nth-last [] old.views set)

  -- a new view takes nothing back and sends nothing about a proposal
  pub quiet_NewView : Quiet old new
  quiet_NewView =
      record {
        grows = record {
          directory = made.directory;
          declared = made.declared;
          viewed = λ e v. (v.0, omega (arith, view-count));
          views = view-kept;
          stopped = λ m h. made.stopped m ∙ h;
          epoch = λ m. let same = made.epoch m in omega arith;
          rank = λ m. rw (made.entry m) (is_below-irrefl (rank old m));
          settled = λ m. rw (made.entry m) (is_below-irrefl (old.entry m).stamp);
          letters = made.sends.kept;
          invalidations = λ from to e p m. inl (nothing-only old new made.sends (Invalidates from to e p) m);
          acks = λ from to e p c m. inl (nothing-only old new made.sends (Acknowledges from to e p c) m);
        };
        invalidations = λ from to e p m. nothing-only old new made.sends (Invalidates from to e p) m;
        acks = λ from to e p c m. nothing-only old new made.sends (Acknowledges from to e p c) m;
      }

  -- a new view takes nothing back
  pub grows_NewView : Grows old new
  grows_NewView = quiet_NewView.grows

  -- the epoch of the new view, or one before it
  view-either : (e : ℕ) → IsView new e → IsView old e ⊎ (e ≡ suc (length old.views))
  view-either e v =
      elim (cases_lt (length old.views) e) [
        | inl after ↦ inr (omega (arith, view-count))
        | inr before ↦ inl (v.0, before)
      ]

  none_rises : IsRising []
  unfolding RisesFrom
  none_rises = tt

  viewed_NewView : IsViewed old → IsViewed new
  viewed_NewView viewed =
      record {
        rising = λ e.
            rw made.views (nth-append_each (λ ms. IsRising ms) [] old.views set none_rises (λ i. subst (λ (j : ℕ). IsRising (nth [] old.views j)) (omega arith) (viewed.rising (suc i))) made.rising (e - 1));
        shrinking = λ e v w.
            elim (view-either (suc e) w) [
              | inl before ↦
                  let kept : IsView old e = (v.0, omega arith) in
                  rw (view-kept e kept, view-kept (suc e) before) (viewed.shrinking e kept before)
              | inr newest ↦
                  let last : e ≡ length old.views = omega arith in
                  let kept : IsView old e = (v.0, omega arith) in
                  rw (view-kept e kept) (subst (λ (f : ℕ). is_subset (view new (suc f)) (view old f) ≡ true) (sym last) (rw view-newest made.subset))
            ];
        live = λ n e live v.
            let was : IsLive old n = sym (made.stopped n) ∙ live in
            elim (view-either e v) [
              | inl before ↦ member-grows old new grows_NewView e n before (viewed.live n e was before)
              | inr newest ↦ subst (λ (f : ℕ). IsMember new f n) (sym newest) (rw view-newest (made.live n was))
            ];
        epochs = λ n live.
            let was : IsLive old n = sym (made.stopped n) ∙ live in
            rw (made.epoch n) (grows_NewView.viewed (old.epoch n) (viewed.epochs n was));
        invalidations = invalidations-viewed old new grows_NewView viewed;
        acknowledgements = acknowledgements-viewed old new grows_NewView viewed;
      }

  -- if the invariant holds, then also after a view is made
  pub keeps_NewView : (chain : List Proposal) → OwnershipInvariant old chain → OwnershipInvariant new chain
  keeps_NewView chain ownership =
      entries-ownership old new chain ownership quiet_NewView (viewed_NewView ownership.viewed) made.entry
      (λ m g h. gather-grows old new grows_NewView m (ap (λ e. e.stamp) (made.entry m)) (made.epoch m) g (ownership.gathers m g (sym (made.gather m) ∙ h)))
      (told-kept old new chain ownership grows_NewView made.sends)

-- ---- a node stops

module _ (old new : Object) (n : ℕ) (stops : Stops old new n) where
  -- a stop takes nothing back and sends nothing about a proposal
  pub quiet_Stops : Quiet old new
  quiet_Stops =
      quiet-node old new n stops.setting stops.others (λ h. stops.stopped) (let same = stops.epoch in omega arith)
      (rw stops.entry (is_below-irrefl (rank old n))) (rw stops.entry (is_below-irrefl (old.entry n).stamp)) stops.sends.kept
      (λ from to e p. nothing-only old new stops.sends (Invalidates from to e p))
      (λ from to e p c. nothing-only old new stops.sends (Acknowledges from to e p c))

  -- a stop takes nothing back
  pub grows_Stops : Grows old new
  grows_Stops = quiet_Stops.grows

  -- if the invariant holds, then also after a node stops
  pub keeps_Stops : (chain : List Proposal) → OwnershipInvariant old chain → OwnershipInvariant new chain
  keeps_Stops chain ownership =
      let entries : (m : ℕ) → new.entry m ≡ old.entry m = each_node (λ m. new.entry m ≡ old.entry m) n stops.entry stops.others.entry in
      let epochs : (m : ℕ) → new.epoch m ≡ old.epoch m = each_node (λ m. new.epoch m ≡ old.epoch m) n stops.epoch stops.others.epoch in
      let gathers : (m : ℕ) → new.gather m ≡ old.gather m = each_node (λ m. new.gather m ≡ old.gather m) n stops.gather stops.others.gather in
      let viewed : IsViewed new =
      viewed-grows old new grows_Stops ownership.viewed stops.setting.views
      (λ m live. rw (epochs m) (grows_Stops.viewed (old.epoch m) (ownership.viewed.epochs m (live-back old new grows_Stops m live))))
      in
      entries-ownership old new chain ownership quiet_Stops viewed entries
      (λ m g h. gather-grows old new grows_Stops m (ap (λ e. e.stamp) (entries m)) (epochs m) g (ownership.gathers m g (sym (gathers m) ∙ h)))
      (told-kept old new chain ownership grows_Stops stops.sends)

-- ---- a node goes on to a view

module _ (old new : Object) (n e : ℕ) (installs : Installs old new n e) where
  -- a node that goes on to a later view takes nothing back and sends nothing about a proposal
  pub quiet_Installs : Quiet old new
  quiet_Installs =
      quiet-node old new n installs.setting installs.others (λ h. installs.stopped ∙ h) (let same = installs.epoch in let later = installs.later in omega arith)
      (rw installs.entry (is_below-irrefl (rank old n))) (rw installs.entry (is_below-irrefl (old.entry n).stamp)) installs.sends.kept
      (λ from to f p. nothing-only old new installs.sends (Invalidates from to f p))
      (λ from to f p c. nothing-only old new installs.sends (Acknowledges from to f p c))

  -- a node that goes on to a later view takes nothing back
  pub grows_Installs : Grows old new
  grows_Installs = quiet_Installs.grows

  -- if the invariant holds, then also after a node goes on to a later view
  pub keeps_Installs : (chain : List Proposal) → OwnershipInvariant old chain → OwnershipInvariant new chain
  keeps_Installs chain ownership =
      let entries : (m : ℕ) → new.entry m ≡ old.entry m = each_node (λ m. new.entry m ≡ old.entry m) n installs.entry installs.others.entry in
      let here : IsLive new n → IsView new (new.epoch n) = λ live.
      rw (installs.epoch, installs.setting.views) (let later = installs.later in omega arith, installs.viewed)
      in
      let viewed : IsViewed new =
      viewed-grows old new grows_Installs ownership.viewed installs.setting.views
      (each_node (λ m. IsLive new m → IsView new (new.epoch m)) n here
      (λ m other live. rw (installs.others.epoch m other) (grows_Installs.viewed (old.epoch m) (ownership.viewed.epochs m (live-back old new grows_Installs m live)))))
      in
      entries-ownership old new chain ownership quiet_Installs viewed entries
      (each_node (λ m. (g : Gather) → new.gather m ≡ Some g → IsGather new m g) n
      (λ g h. absurd (none_some g (sym installs.gather ∙ h)))
      (λ m other g h. gather-grows old new grows_Installs m (ap (λ x. x.stamp) (entries m)) (installs.others.epoch m other) g (ownership.gathers m g (sym (installs.others.gather m other) ∙ h))))
      (told-kept old new chain ownership grows_Installs installs.sends)
    where
      none_some : (g : Gather) → ◌≡◌ {A = Option Gather} None (Some g) → ⊥
      none_some g h = cc
