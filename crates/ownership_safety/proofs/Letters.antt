-- Letters of before and after a move: they come from members of their epochs, and each node acknowledges in the order of stamps.
use Rattle.std.specs.Prelude.{ℕ, suc, ◌≡◌, ◌-◌, ◌≤◌, true, false, List, [], length, Option}
use Rattle.std.proofs.Common.{arith, sym, ap, subst, ◌∙◌, inl, inr}
use Rattle.std.proofs.lemmas.Bool.{cases_Bool, true≢false}
use Rattle.zeus_base.specs.Order.{is_below}
use Rattle.zeus_base.specs.OrderLaws.{not_below-trans}
use Rattle.zeus_packet.specs.declared.place.Proposal.{Proposal}
use Rattle.zeus_packet.specs.declared.write.Content.{Content}
use Rattle.zeus_model.specs.Tables.{nth}
use Rattle.ownership_safety.specs.Object.{Object, Invalidates, Acknowledges, In, IsView, IsLive, IsMember, HasAcked, view, rank}
use Rattle.ownership_safety.specs.OwnershipInvariant.{OwnershipInvariant, IsViewed}
use Rattle.ownership_safety.proofs.Chain.{ack-rank, ack-epoch}
use Rattle.ownership_safety.specs.Kept.{Grows}
use Rattle.ownership_safety.proofs.Grows.{member-grows}

module _ (old new : Object) (grows : Grows old new) where
  -- a node that is live after a move was live before it
  pub live-back : (n : ℕ) → IsLive new n → IsLive old n
  live-back n live =
      elim (cases_Bool (old.stopped n)) [
        | inl stopped ↦ absurd (true≢false (sym (grows.stopped n stopped) ∙ live))
        | inr is ↦ is
      ]

  -- what letters say of their senders
  speaks-viewed : IsViewed old → (from e : ℕ) → IsLive old from → old.epoch from ≡ e → IsView new e × (e ≤ new.epoch from) × IsMember new e from
  speaks-viewed viewed from e live same =
      let v : IsView old e = subst (λ (f : ℕ). IsView old f) same (viewed.epochs from live) in
      (grows.viewed e v, omega (arith, grows.epoch from), member-grows old new grows e from v (viewed.live from e live v))

  kept-viewed : (from e : ℕ) → IsView old e × (e ≤ old.epoch from) × IsMember old e from → IsView new e × (e ≤ new.epoch from) × IsMember new e from
  kept-viewed from e (v, low, member) =
      (grows.viewed e v, omega (arith, grows.epoch from), member-grows old new grows e from v member)

  -- after a move each invalidation comes from a member of its epoch, which is not above the sender's
  pub invalidations-viewed : IsViewed old → (from to e : ℕ) (p : Proposal) → In (Invalidates from to e p) new.letters → IsView new e × (e ≤ new.epoch from) × IsMember new e from
  invalidations-viewed viewed from to e p m =
      elim (grows.invalidations from to e p m) [
        | inl before ↦ kept-viewed from e (viewed.invalidations from to e p before)
        | inr now ↦ speaks-viewed viewed from e now.live now.epoch
      ]

  -- after a move each acknowledgement comes from a member of its epoch, which is not above the sender's
  pub acknowledgements-viewed : IsViewed old → (from to e : ℕ) (p : Proposal) (c : Option Content) → In (Acknowledges from to e p c) new.letters → IsView new e × (e ≤ new.epoch from) × IsMember new e from
  acknowledgements-viewed viewed from to e p c m =
      elim (grows.acks from to e p c m) [
        | inl before ↦ kept-viewed from e (viewed.acknowledgements from to e p c before)
        | inr now ↦ speaks-viewed viewed from e now.live now.epoch
      ]

  -- a move that makes no view keeps what is known of the views
  pub viewed-grows : IsViewed old → new.views ≡ old.views → ((n : ℕ) → IsLive new n → IsView new (new.epoch n)) → IsViewed new
  viewed-grows viewed same epochs =
      let same_view : (e : ℕ) → view new e ≡ view old e = λ e. ap (λ (vs : List (List ℕ)). nth [] vs (e - 1)) same in
      let count : length new.views ≡ length old.views = ap (λ (vs : List (List ℕ)). length vs) same in
      let back : (e : ℕ) → IsView new e → IsView old e = λ e v. (v.0, omega arith) in
      record {
        rising = λ e. rw (same_view e) (viewed.rising e);
        shrinking = λ e v w. rw (same_view e, same_view (suc e)) (viewed.shrinking e (back e v) (back (suc e) w));
        live = λ n e live v. member-grows old new grows e n (back e v) (viewed.live n e (live-back n live) (back e v));
        epochs = epochs;
        invalidations = invalidations-viewed viewed;
        acknowledgements = acknowledgements-viewed viewed;
      }

  module _ (chain : List Proposal) (ownership : OwnershipInvariant old chain) where
    -- after a move each node still has acknowledged in the order of stamps: the lower stamp in no later epoch
    pub ack_order-grows : (n : ℕ) (p q : Proposal) (e f : ℕ) → HasAcked new n p e → HasAcked new n q f → is_below q.stamp p.stamp ≡ true → f ≤ e
    ack_order-grows n p q e f (to, c, m) (tu, d, k) below =
        elim (grows.acks n to e p c m) [
          | inl m_before ↦ elim (grows.acks n tu f q d k) [
            | inl k_before ↦ ownership.ack_order n p q e f (to, c, m_before) (tu, d, k_before) below
            | inr k_now ↦
                let rank_p : is_below (rank old n) p.stamp ≡ false = ack-rank old chain ownership n p e (to, c, m_before) in
                absurd (true≢false (sym below ∙ not_below-trans p.stamp (rank old n) q.stamp rank_p k_now.rank))
          ]
          | inr m_now ↦ elim (grows.acks n tu f q d k) [
            | inl k_before ↦ omega (arith, ack-epoch old chain ownership n q f (tu, d, k_before), m_now.epoch)
            | inr k_now ↦ omega (arith, k_now.epoch, m_now.epoch)
          ]
        ]
