-- Moves that change neither entries nor what is said: a node notes an acknowledgement, or tells its settled placement.
use Rattle.std.specs.Prelude.{ℕ, ◌≡◌, true, List, [], Option, Some, None, ◌⊎◌}
use Rattle.std.proofs.Common.{arith, refl, sym, ap, subst, ◌∙◌, inl, inr}
use Rattle.std.proofs.lemmas.Bool.{cases_Bool, cases_eq, cond-true, cond-false}
use Rattle.zeus_base.specs.Nodes.{has, with_node}
use Rattle.zeus_base.specs.NodeLaws.{has-with_same, has-with_other}
use Rattle.zeus_base.specs.Order.{same_stamp}
use Rattle.zeus_base.specs.OrderLaws.{is_below-irrefl, same_stamp-true}
use Rattle.zeus_packet.specs.declared.place.Proposal.{Proposal}
use Rattle.zeus_packet.specs.declared.write.Content.{Content}
use Rattle.zeus_model.specs.declared.state.Entry.{Entry}
use Rattle.zeus_model.specs.declared.state.Gather.{Gather}
use Rattle.zeus_model.specs.Ownership.{gather_for, noted}
use Rattle.zeus_model.specs.Tables.{or_else}
use Rattle.ownership_safety.specs.Object.{Object, Letter, Invalidates, Acknowledges, Validates, In, rank}
use Rattle.ownership_safety.specs.Moves.{Acts, Notes, Tells}
use Rattle.ownership_safety.specs.OwnershipInvariant.{OwnershipInvariant, IsViewed, IsGather}
use Rattle.ownership_safety.specs.Kept.{Grows}
use Rattle.ownership_safety.proofs.Grows.{Extends-refl, each_node, decided-grows}
use Rattle.ownership_safety.proofs.Letters.{viewed-grows, live-back}
use Rattle.ownership_safety.proofs.NothingSaid.{Quiet, gather-grows}
use Rattle.ownership_safety.proofs.KeepsViews.{nothing-only, quiet-node, entries-ownership, told-kept}

-- ---- what holds after a live node acted in its epoch

-- if a node acts, then each node stays in its epoch
pub acts-epochs : (old new : Object) (n : ℕ) → Acts old new n → (m : ℕ) → new.epoch m ≡ old.epoch m
acts-epochs old new n acts = each_node (λ m. new.epoch m ≡ old.epoch m) n acts.epoch acts.others.epoch

-- if a node acts and nothing is taken back, then live nodes are still in all views, and letters come from members
pub acts-viewed : (old new : Object) (n : ℕ) → Acts old new n → Grows old new → IsViewed old → IsViewed new
acts-viewed old new n acts grows viewed =
    viewed-grows old new grows viewed acts.setting.views
    (λ m live. rw (acts-epochs old new n acts m) (grows.viewed (old.epoch m) (viewed.epochs m (live-back old new grows m live))))

-- ---- an acknowledgement is noted

or_else-either : {A : Type 0} (a b : Option A) (x : A) → or_else a b ≡ Some x → (a ≡ Some x) ⊎ (b ≡ Some x)
unfolding or_else
or_else-either None b x h = inr h
or_else-either (Some a) b x h = inl h

has-empty : (b : ℕ) → has b [] ≡ true → ⊥
unfolding has
has-empty b h = cc

abbrev empty_gather : Proposal → Gather
empty_gather p = record { proposal = p; acks = []; content = None }

-- the gather that is noted in is empty, or the one of this stamp
gather_for-either : (p : Proposal) (o : Option Gather) → (gather_for p o ≡ empty_gather p) ⊎ ((g : Gather) × (o ≡ Some g) × (g.proposal.stamp ≡ p.stamp) × (gather_for p o ≡ g))
unfolding gather_for
gather_for-either p None = inl refl
gather_for-either p (Some g) =
    elim (cases_Bool (same_stamp g.proposal.stamp p.stamp)) [
      | inl same ↦ inr (g, refl, same_stamp-true g.proposal.stamp p.stamp same, cond-true _ _ _ same)
      | inr other ↦ inl (cond-false _ _ _ other)
    ]

module _ (old new : Object) (n : ℕ) (p : Proposal) (a : ℕ) (c : Option Content) (notes : Notes old new n p a c) where
  quiet_Notes : Quiet old new
  quiet_Notes =
      quiet-node old new n notes.acts.setting notes.acts.others (λ h. notes.acts.stopped ∙ h) (let same = notes.acts.epoch in omega arith)
      (rw notes.entry (is_below-irrefl (rank old n))) (rw notes.entry (is_below-irrefl (old.entry n).stamp)) notes.sends.kept
      (λ from to e q. nothing-only old new notes.sends (Invalidates from to e q))
      (λ from to e q d. nothing-only old new notes.sends (Acknowledges from to e q d))

  -- a noted acknowledgement takes nothing back
  pub grows_Notes : Grows old new
  grows_Notes = quiet_Notes.grows

  -- an acknowledgement that the node had received in its epoch
  notes-kept : (b : ℕ) (d : Option Content) → In (Acknowledges b n (old.epoch n) p d) old.letters → In (Acknowledges b n (new.epoch n) p d) new.letters
  notes-kept b d m =
      subst (λ (e : ℕ). In (Acknowledges b n e p d) new.letters) (sym notes.acts.epoch) (notes.sends.kept (Acknowledges b n (old.epoch n) p d) m)

  -- what is true of a gather of the proposal is true of it with the acknowledgement noted
  noted-gather : (g : Gather) → g.proposal ≡ p
      → ((b : ℕ) → has b g.acks ≡ true → (d : Option Content) × In (Acknowledges b n (old.epoch n) p d) old.letters)
      → ((d : Content) → g.content ≡ Some d → (b : ℕ) × In (Acknowledges b n (old.epoch n) p (Some d)) old.letters)
      → IsGather new n (noted g a c)
  noted-gather g is acks content =
      subst (λ (q : Proposal). IsGather new n record { proposal = q; acks = with_node a g.acks; content = or_else g.content c }) (sym is) record {
        above = rw notes.entry notes.below;
        some = (a, has-with_same a g.acks);
        acks = λ b h.
            elim (cases_eq b a) [
              | inl same ↦ (c, subst (λ (x : ℕ). In (Acknowledges x n (new.epoch n) p c) new.letters) (sym same) (notes-kept a c notes.sent))
              | inr other ↦ let ack = acks b (sym (has-with_other b a g.acks other) ∙ h) in (ack.0, notes-kept b ack.0 ack.1)
            ];
        content = λ d h.
            elim (or_else-either g.content c d h) [
              | inl before ↦ let given = content d before in (given.0, notes-kept given.0 (Some d) given.1)
              | inr now ↦ (a, subst (λ (x : Option Content). In (Acknowledges a n (new.epoch n) p x) new.letters) now (notes-kept a c notes.sent))
            ];
      }

  module _ (chain : List Proposal) (ownership : OwnershipInvariant old chain) where
    -- a gather of the stamp is one of the proposal
    notes-proposal : (g : Gather) → old.gather n ≡ Some g → g.proposal.stamp ≡ p.stamp → g.proposal ≡ p
    notes-proposal g h same =
        let is = ownership.gathers n g h in
        let first = is.acks is.some.0 is.some.1 in
        ownership.one_stamp g.proposal p (old.epoch n) (old.epoch n) (inr (is.some.0, (n, first.0, first.1))) (inr (a, (n, c, notes.sent))) same

    notes-gather : IsGather new n (noted (gather_for p (old.gather n)) a c)
    notes-gather =
        elim (gather_for-either p (old.gather n)) [
          | inl empty ↦
              subst (λ (g : Gather). IsGather new n (noted g a c)) (sym empty)
              (noted-gather (empty_gather p) refl (λ b h. absurd (has-empty b h)) (λ d h. absurd cc))
          | inr (g, h, stamp, is) ↦
              let one : g.proposal ≡ p = notes-proposal g h stamp in
              let was = ownership.gathers n g h in
              subst (λ (x : Gather). IsGather new n (noted x a c)) (sym is)
              (noted-gather g one
              (λ b k. subst (λ (q : Proposal). (d : Option Content) × In (Acknowledges b n (old.epoch n) q d) old.letters) one (was.acks b k))
              (λ d k. subst (λ (q : Proposal). (b : ℕ) × In (Acknowledges b n (old.epoch n) q (Some d)) old.letters) one (was.content d k)))
        ]

    -- if the invariant holds, then also after an acknowledgement is noted
    pub keeps_Notes : OwnershipInvariant new chain
    keeps_Notes =
        let entries : (m : ℕ) → new.entry m ≡ old.entry m = each_node (λ m. new.entry m ≡ old.entry m) n notes.entry notes.acts.others.entry in
        entries-ownership old new chain ownership quiet_Notes (acts-viewed old new n notes.acts grows_Notes ownership.viewed) entries
        (each_node (λ m. (g : Gather) → new.gather m ≡ Some g → IsGather new m g) n
        (λ g h. subst (λ (x : Gather). IsGather new n x) (some_same (noted (gather_for p (old.gather n)) a c) g (sym notes.gather ∙ h)) notes-gather)
        (λ m other g h. gather-grows old new grows_Notes m (ap (λ (x : Entry). x.stamp) (entries m)) (acts-epochs old new n notes.acts m) g (ownership.gathers m g (sym (notes.acts.others.gather m other) ∙ h))))
        (told-kept old new chain ownership grows_Notes notes.sends)
      where
        some_same : (x y : Gather) → ◌≡◌ {A = Option Gather} (Some x) (Some y) → x ≡ y
        some_same x y e = cc

-- ---- the settled placement is told

module _ (old new : Object) (n : ℕ) (tells : Tells old new n) where
  tells-letter : (l : Letter) → In l new.letters → (In l old.letters) ⊎ (l ≡ Validates (old.entry n).stamp (old.entry n).place)
  tells-letter l m = tells.sends.only l m

  quiet_Tells : Quiet old new
  quiet_Tells =
      quiet-node old new n tells.acts.setting tells.acts.others (λ h. tells.acts.stopped ∙ h) (let same = tells.acts.epoch in omega arith)
      (rw tells.entry (is_below-irrefl (rank old n))) (rw tells.entry (is_below-irrefl (old.entry n).stamp)) tells.sends.kept
      (λ from to e q m. elim (tells-letter (Invalidates from to e q) m) [ inl before ↦ before | inr now ↦ absurd cc ])
      (λ from to e q d m. elim (tells-letter (Acknowledges from to e q d) m) [ inl before ↦ before | inr now ↦ absurd cc ])

  -- a told placement takes nothing back
  pub grows_Tells : Grows old new
  grows_Tells = quiet_Tells.grows

  -- if the invariant holds, then also after a node has told its settled placement
  pub keeps_Tells : (chain : List Proposal) → OwnershipInvariant old chain → OwnershipInvariant new chain
  keeps_Tells chain ownership =
      let entries : (m : ℕ) → new.entry m ≡ old.entry m = each_node (λ m. new.entry m ≡ old.entry m) n tells.entry tells.acts.others.entry in
      let gathers : (m : ℕ) → new.gather m ≡ old.gather m = each_node (λ m. new.gather m ≡ old.gather m) n tells.gather tells.acts.others.gather in
      entries-ownership old new chain ownership quiet_Tells (acts-viewed old new n tells.acts grows_Tells ownership.viewed) entries
      (λ m g h. gather-grows old new grows_Tells m (ap (λ (x : Entry). x.stamp) (entries m)) (acts-epochs old new n tells.acts m) g (ownership.gathers m g (sym (gathers m) ∙ h)))
      (λ t place m.
      elim (tells-letter (Validates t place) m) [
        | inl before ↦ decided-grows old new grows_Tells chain chain (Extends-refl chain) t place (ownership.told t place before)
        | inr now ↦
            let stamp : t ≡ (old.entry n).stamp = cc in
            let there : place ≡ (old.entry n).place = cc in
            rw (stamp, there) (decided-grows old new grows_Tells chain chain (Extends-refl chain) (old.entry n).stamp (old.entry n).place (ownership.settled n))
      ])
