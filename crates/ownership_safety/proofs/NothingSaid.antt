-- A move that sends no invalidation and no acknowledgement.
use Rattle.std.specs.Prelude.{ℕ, ◌≡◌, ◌≢◌, ◌<◌, ◌≤◌, List, length, Option, Some}
use Rattle.std.proofs.Common.{arith, sym, subst, inl, inr}
use Rattle.std.proofs.lemmas.Bool.{cases_lt}
use Rattle.zeus_base.specs.declared.order.Stamp.{Stamp}
use Rattle.zeus_packet.specs.declared.place.Place.{Place}
use Rattle.zeus_packet.specs.declared.place.Proposal.{Proposal}
use Rattle.zeus_packet.specs.declared.write.Content.{Content}
use Rattle.zeus_model.specs.declared.state.Gather.{Gather}
use Rattle.zeus_model.specs.Tables.{nth}
use Rattle.ownership_safety.specs.Object.{Object, Invalidates, Acknowledges, Validates, In, IsView, IsArbiter, IsSaid, IsBlocked, HasAcked, no_proposal, chain_stamp}
use Rattle.ownership_safety.specs.OwnershipInvariant.{OwnershipInvariant, IsViewed, IsProposal, IsAck, IsHeld, IsGather, IsLink, IsDecided, IsLesser}
use Rattle.ownership_safety.proofs.Basics.{lesser-epoch}
use Rattle.ownership_safety.proofs.Chain.{said-viewed}
use Rattle.ownership_safety.specs.Kept.{Grows}
use Rattle.ownership_safety.proofs.Grows.{Extends, arbiter-grows, acked-grows, proposal-grows, ack-grows, link-grows, blocked-grows}
use Rattle.ownership_safety.proofs.Letters.{ack_order-grows}

-- a move that takes nothing back and sends no invalidation and no acknowledgement
pub record Quiet (old new : Object) : Type 0 where
  pub grows : Grows old new
  pub invalidations : (from to e : ℕ) (p : Proposal) → In (Invalidates from to e p) new.letters → In (Invalidates from to e p) old.letters
  pub acks : (from to e : ℕ) (p : Proposal) (c : Option Content) → In (Acknowledges from to e p c) new.letters → In (Acknowledges from to e p c) old.letters

-- what a node has acknowledged after a quiet move it had acknowledged before
pub acked-back : (old new : Object) → Quiet old new → (n : ℕ) (p : Proposal) (e : ℕ) → HasAcked new n p e → HasAcked old n p e
acked-back old new quiet n p e a = (a.0, a.1, quiet.acks n a.0 e p a.1 a.2)

-- what was said after a quiet move was said before
pub said-back : (old new : Object) → Quiet old new → (p : Proposal) (e : ℕ) → IsSaid new p e → IsSaid old p e
said-back old new quiet p e (inl i) = inl (i.0, i.1, quiet.invalidations i.0 i.1 e p i.2)
said-back old new quiet p e (inr (n, a)) = inr (n, acked-back old new quiet n p e a)

-- blocks on what was said before
pub blocks-kept : (old new : Object) → Grows old new → (chain : List Proposal) → OwnershipInvariant old chain → (p : Proposal) (e1 : ℕ) (t : Stamp) (e : ℕ) → IsSaid old p e1 → t.ver ≡ p.stamp.ver → t ≢ p.stamp → 1 ≤ e → IsLesser e t e1 p.stamp → IsBlocked new t p.base_place e
blocks-kept old new grows chain ownership p e1 t e said ver ne first lesser =
    let v : IsView old e1 = said-viewed old chain ownership p e1 said in
    let w : IsView old e = (first, omega (arith, v.1, lesser-epoch e e1 t p.stamp lesser)) in
    blocked-grows old new grows t p.base_place e w (ownership.blocks p e1 t e said ver ne first lesser)

-- what was held goes on to be held where the entry stays
pub held-grows : (old new : Object) → Grows old new → (n : ℕ) → new.entry n ≡ old.entry n → (p : Proposal) → IsHeld old n p → IsHeld new n p
held-grows old new grows n same p is =
    record {
      base = rw same is.base;
      base_place = rw same is.base_place;
      acked = (is.acked.0, omega (arith, is.acked.1, grows.epoch n), acked-grows old new grows n p is.acked.0 is.acked.2);
    }

-- so does what was gathered where the settled stamp and the epoch stay
pub gather-grows : (old new : Object) → Grows old new → (n : ℕ) → (new.entry n).stamp ≡ (old.entry n).stamp → new.epoch n ≡ old.epoch n → (g : Gather) → IsGather old n g → IsGather new n g
gather-grows old new grows n stamp epoch g is =
    record {
      above = rw stamp is.above;
      some = is.some;
      acks = λ a h.
          let ack = is.acks a h in
          (ack.0, subst (λ (e : ℕ). In (Acknowledges a n e g.proposal ack.0) new.letters) (sym epoch) (grows.letters (Acknowledges a n (old.epoch n) g.proposal ack.0) ack.1));
      content = λ c h.
          let given = is.content c h in
          (given.0, subst (λ (e : ℕ). In (Acknowledges given.0 n e g.proposal (Some c)) new.letters) (sym epoch) (grows.letters (Acknowledges given.0 n (old.epoch n) g.proposal (Some c)) given.1));
    }

module _ (old new : Object) (quiet : Quiet old new) (chain longer : List Proposal) (extends : Extends chain longer) (ownership : OwnershipInvariant old chain) where
  quiet-proposals : (p : Proposal) (e : ℕ) → IsSaid new p e → IsProposal new longer p
  quiet-proposals p e said =
      proposal-grows old new quiet.grows chain longer extends p (ownership.proposals p e (said-back old new quiet p e said))

  quiet-acks : (from to e : ℕ) (p : Proposal) (c : Option Content) → In (Acknowledges from to e p c) new.letters → IsAck new from to e p c
  quiet-acks from to e p c m =
      let before = quiet.acks from to e p c m in
      ack-grows old new quiet.grows from to e p c (ownership.viewed.acknowledgements from to e p c before).0 (ownership.acks from to e p c before)

  quiet-to_arbiters : (from to e : ℕ) (p : Proposal) → In (Invalidates from to e p) new.letters → IsArbiter new e p.base_place to
  quiet-to_arbiters from to e p m =
      let before = quiet.invalidations from to e p m in
      arbiter-grows old new quiet.grows e p.base_place to (ownership.viewed.invalidations from to e p before).0 (ownership.to_arbiters from to e p before)

  quiet-links : ((v : ℕ) → length chain ≤ v → v < length longer → IsLink new longer v (nth no_proposal longer v)) → (v : ℕ) → v < length longer → IsLink new longer v (nth no_proposal longer v)
  quiet-links more v inside =
      elim (cases_lt v (length chain)) [
        | inl before ↦ rw (extends.same v before) (link-grows old new quiet.grows chain longer extends v (nth no_proposal chain v) before (ownership.links v before))
        | inr after ↦ more v after inside
      ]

  -- what is left to show of a move that sends no invalidation and no acknowledgement
  pub quiet-ownership : IsViewed new
      → ((n : ℕ) (p : Proposal) → (new.entry n).proposal ≡ Some p → IsHeld new n p)
      → ((n : ℕ) (g : Gather) → new.gather n ≡ Some g → IsGather new n g)
      → ((v : ℕ) → length chain ≤ v → v < length longer → IsLink new longer v (nth no_proposal longer v))
      → ((n : ℕ) × ((new.entry n).stamp ≡ chain_stamp longer (length longer)))
      → ((n : ℕ) → IsDecided new longer (new.entry n).stamp (new.entry n).place)
      → ((t : Stamp) (place : Place) → In (Validates t place) new.letters → IsDecided new longer t place)
      → OwnershipInvariant new longer
  quiet-ownership viewed held gathers links known settled told =
      record {
        viewed = viewed;
        declared = rw quiet.grows.declared ownership.declared;
        one_stamp = λ p q e f s t. ownership.one_stamp p q e f (said-back old new quiet p e s) (said-back old new quiet q f t);
        proposals = quiet-proposals;
        acks = quiet-acks;
        to_arbiters = quiet-to_arbiters;
        held = held;
        blocks = λ p e1 t e s. blocks-kept old new quiet.grows chain ownership p e1 t e (said-back old new quiet p e1 s);
        ack_order = ack_order-grows old new quiet.grows chain ownership;
        gathers = gathers;
        links = quiet-links links;
        known = known;
        settled = settled;
        told = told;
      }
