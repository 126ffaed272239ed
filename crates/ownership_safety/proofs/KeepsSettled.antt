-- The moves by which a node settles a chosen proposal: it is decided already, or the node decides it.
use Rattle.std.specs.Prelude.{ℕ, zero, suc, ◌≡◌, ◌≢◌, ◌<◌, ◌≤◌, true, false, List, [], ◌∷◌, ◌++◌, length, Option, Some, None, ◌⊎◌}
use Rattle.std.proofs.Common.{arith, refl, sym, ap, subst, ◌∙◌, inl, inr, le_refl, length-append}
use Rattle.std.proofs.lemmas.Bool.{cases_Bool, true≢false, cond-true, cond-false}
use Rattle.zeus_base.specs.NodeLaws.{is_subset-has}
use Rattle.zeus_base.specs.Order.{is_below}
use Rattle.zeus_base.specs.OrderLaws.{is_below-irrefl, is_below-asym}
use Rattle.zeus_base.specs.declared.order.Stamp.{Stamp}
use Rattle.zeus_base.specs.TableLaws.{nth-last}
use Rattle.zeus_packet.specs.Place.{arbiters, new_place}
use Rattle.zeus_packet.specs.declared.place.Proposal.{Proposal}
use Rattle.zeus_model.specs.declared.state.Entry.{Entry}
use Rattle.zeus_model.specs.declared.state.Gather.{Gather}
use Rattle.zeus_model.specs.Ownership.{settled_entry, gather_above}
use Rattle.zeus_model.specs.Tables.{nth, where_true}
use Rattle.ownership_safety.specs.Object.{Object, Invalidates, Acknowledges, Validates, In, IsChosen, view, rank, entry_rank, no_proposal, chain_stamp, place_at, latest}
use Rattle.ownership_safety.specs.Moves.{Acts, Sends, nothing, Settles, Decides}
use Rattle.ownership_safety.specs.OwnershipInvariant.{OwnershipInvariant, IsHeld, IsGather, IsLink, IsDecided}
use Rattle.ownership_safety.specs.Kept.{Grows, IsAgain, IsFirst}
use Rattle.ownership_safety.proofs.Chain.{chain_stamp-suc, chain_place-suc, entry_rank-none, stamp_at-less, chosen-said}
use Rattle.ownership_safety.proofs.Choice.{chosen-chain, chosen-not_below, chosen-clears}
use Rattle.ownership_safety.proofs.Grows.{Extends, Extends-refl, Extends-append, each_node, decided-grows, chosen-grows, stamp_at-grows, place_at-grows}
use Rattle.ownership_safety.proofs.NothingSaid.{Quiet, quiet-ownership, held-grows, gather-grows}
use Rattle.ownership_safety.proofs.KeepsViews.{nothing-only, quiet-node}
use Rattle.ownership_safety.proofs.KeepsGathers.{acts-viewed}

-- a live node settles a proposal that was chosen in this epoch, above its settled stamp
record Fixes (old new : Object) (n : ℕ) (p : Proposal) (e : ℕ) : Type 0 where
  acts : Acts old new n
  chosen : IsChosen old p e
  above : is_below (old.entry n).stamp p.stamp ≡ true
  entry : new.entry n ≡ settled_entry (old.entry n) p.stamp (new_place p)
  gather : new.gather n ≡ gather_above p.stamp (old.gather n)
  sends : Sends old new nothing

rank-below : (t s : Stamp) (held : Option Proposal) → is_below s t ≡ true → ((q : Proposal) → held ≡ Some q → is_below t q.stamp ≡ false) → is_below t (entry_rank s held) ≡ false
unfolding entry_rank
rank-below t s None below least = is_below-asym s t below
rank-below t s (Some q) below least = least q refl

-- what is gathered after a settle was gathered before it, above the stamp
gather_above-some : (t : Stamp) (o : Option Gather) (g : Gather) → gather_above t o ≡ Some g → (o ≡ Some g) × (is_below t g.proposal.stamp ≡ true)
unfolding gather_above where_true
gather_above-some t None g h = absurd cc
gather_above-some t (Some f) g h =
    elim (cases_Bool (is_below t f.proposal.stamp)) [
      | inl above ↦
          let is : ◌≡◌ {A = Option Gather} (Some f) (Some g) = sym (cond-true _ _ _ above) ∙ h in
          let same : f ≡ g = cc in
          (is, subst (λ (x : Gather). is_below t x.proposal.stamp ≡ true) same above)
      | inr not_above ↦
          let is : ◌≡◌ {A = Option Gather} None (Some g) = sym (cond-false _ _ _ not_above) ∙ h in
          absurd cc
    ]

module _ (old new : Object) (n : ℕ) (p : Proposal) (e : ℕ) (fixes : Fixes old new n p e) (chain : List Proposal) (ownership : OwnershipInvariant old chain) where
  fixes-stamp : (new.entry n).stamp ≡ p.stamp
  fixes-stamp = ap (λ (x : Entry). x.stamp) fixes.entry

  fixes-place : (new.entry n).place ≡ new_place p
  fixes-place = ap (λ (x : Entry). x.place) fixes.entry

  fixes-free : (new.entry n).proposal ≡ None
  fixes-free = ap (λ (x : Entry). x.proposal) fixes.entry ∙ chosen-clears old chain ownership p e n fixes.chosen fixes.acts.live fixes.above

  fixes-rank : rank new n ≡ p.stamp
  fixes-rank = entry_rank-none (new.entry n).stamp (new.entry n).proposal fixes-free ∙ fixes-stamp

  quiet_Fixes : Quiet old new
  quiet_Fixes =
      quiet-node old new n fixes.acts.setting fixes.acts.others (λ h. fixes.acts.stopped ∙ h) (let same = fixes.acts.epoch in omega arith)
      (rw fixes-rank (rank-below p.stamp (old.entry n).stamp (old.entry n).proposal fixes.above (λ q h. chosen-not_below old chain ownership p q e n fixes.chosen fixes.acts.live h fixes.above)))
      (rw fixes-stamp (is_below-asym (old.entry n).stamp p.stamp fixes.above)) fixes.sends.kept
      (λ from to f q. nothing-only old new fixes.sends (Invalidates from to f q))
      (λ from to f q c. nothing-only old new fixes.sends (Acknowledges from to f q c))

  fixes-grows : Grows old new
  fixes-grows = quiet_Fixes.grows

  fixes-held : (m : ℕ) (q : Proposal) → (new.entry m).proposal ≡ Some q → IsHeld new m q
  fixes-held =
      each_node (λ m. (q : Proposal) → (new.entry m).proposal ≡ Some q → IsHeld new m q) n
      (λ q h. absurd (none_some q (sym fixes-free ∙ h)))
      (λ m other q h.
      let same = fixes.acts.others.entry m other in
      held-grows old new fixes-grows m same q (ownership.held m q (sym (ap (λ (x : Entry). x.proposal) same) ∙ h)))
    where
      none_some : (q : Proposal) → ◌≡◌ {A = Option Proposal} None (Some q) → ⊥
      none_some q h = cc

  fixes-gather : (g : Gather) → new.gather n ≡ Some g → IsGather new n g
  fixes-gather g h =
      let both = gather_above-some p.stamp (old.gather n) g (sym fixes.gather ∙ h) in
      let was = ownership.gathers n g both.0 in
      let epoch : new.epoch n ≡ old.epoch n = fixes.acts.epoch in
      record {
        above = rw fixes-stamp both.1;
        some = was.some;
        acks = λ a k.
            let ack = was.acks a k in
            (ack.0, subst (λ (f : ℕ). In (Acknowledges a n f g.proposal ack.0) new.letters) (sym epoch) (fixes.sends.kept (Acknowledges a n (old.epoch n) g.proposal ack.0) ack.1));
        content = λ c k.
            let given = was.content c k in
            (given.0, subst (λ (f : ℕ). In (Acknowledges given.0 n f g.proposal (Some c)) new.letters) (sym epoch) (fixes.sends.kept (Acknowledges given.0 n (old.epoch n) g.proposal (Some c)) given.1));
      }

  fixes-gathers : (m : ℕ) (g : Gather) → new.gather m ≡ Some g → IsGather new m g
  fixes-gathers =
      each_node (λ m. (g : Gather) → new.gather m ≡ Some g → IsGather new m g) n fixes-gather
      (λ m other g h.
      gather-grows old new fixes-grows m (ap (λ (x : Entry). x.stamp) (fixes.acts.others.entry m other)) (fixes.acts.others.epoch m other) g
      (ownership.gathers m g (sym (fixes.acts.others.gather m other) ∙ h)))

  module _ (longer : List Proposal) (extends : Extends chain longer) where
    fixes-settled : IsDecided new longer p.stamp (new_place p) → (m : ℕ) → IsDecided new longer (new.entry m).stamp (new.entry m).place
    fixes-settled is =
        each_node (λ m. IsDecided new longer (new.entry m).stamp (new.entry m).place) n (rw (fixes-stamp, fixes-place) is)
        (λ m other. rw (fixes.acts.others.entry m other) (decided-grows old new fixes-grows chain longer extends (old.entry m).stamp (old.entry m).place (ownership.settled m)))

    fixes-ownership : IsDecided new longer p.stamp (new_place p)
        → ((v : ℕ) → length chain ≤ v → v < length longer → IsLink new longer v (nth no_proposal longer v))
        → ((m : ℕ) × ((new.entry m).stamp ≡ chain_stamp longer (length longer))) → OwnershipInvariant new longer
    fixes-ownership decided links known =
        quiet-ownership old new quiet_Fixes chain longer extends ownership
        (acts-viewed old new n fixes.acts fixes-grows ownership.viewed) fixes-held fixes-gathers links known (fixes-settled decided)
        (λ t place m. decided-grows old new fixes-grows chain longer extends t place (ownership.told t place (nothing-only old new fixes.sends (Validates t place) m)))

-- ---- what is decided already is settled

module _ (old new : Object) (chain : List Proposal) (ownership : OwnershipInvariant old chain) (n : ℕ) where
  settles-fixes : (u : ℕ) (settles : Settles old new chain n (suc u)) → (e : ℕ) × Fixes old new n (nth no_proposal chain u) e
  settles-fixes u settles =
      let chosen = (ownership.links u settles.decided).chosen in
      let stamp = chain_stamp-suc chain u in
      let place = chain_place-suc old.declared chain u in (
        chosen.0,
        record {
          acts = settles.acts;
          chosen = chosen.1;
          above = rw (← stamp) settles.above;
          entry = rw (← place, ← stamp) settles.entry;
          gather = rw (← stamp) settles.gather;
          sends = settles.sends;
        },
      )

  link-decided : (u : ℕ) → Grows old new → u < length chain → IsDecided new chain (nth no_proposal chain u).stamp (new_place (nth no_proposal chain u))
  link-decided u grows inside =
      let ver = (ownership.links u inside).ver in
      record {
        ver = omega arith;
        stamp = sym (chain_stamp-suc chain u) ∙ ap (λ (v : ℕ). chain_stamp chain v) (sym ver);
        place = sym (chain_place-suc new.declared chain u) ∙ ap (λ (v : ℕ). place_at new chain v) (sym ver);
      }

  settles-known : (u : ℕ) → Settles old new chain n u → (m : ℕ) × ((new.entry m).stamp ≡ chain_stamp chain (length chain))
  settles-known u settles =
      let m = ownership.known.0 in (
        m,
        each_node (λ x. x ≡ m → (new.entry x).stamp ≡ chain_stamp chain (length chain)) n
            (λ same.
            let last : (old.entry n).stamp ≡ chain_stamp chain (length chain) = ap (λ (x : ℕ). (old.entry x).stamp) same ∙ ownership.known.1 in
            let under : is_below (chain_stamp chain (length chain)) (chain_stamp chain u) ≡ true = rw (← last) settles.above in
            let less = stamp_at-less old chain ownership (length chain) u (le_refl (length chain)) settles.decided under in
            let most = settles.decided in
            absurd (omega arith))
            (λ x other same.
            ap (λ (y : Entry). y.stamp) (settles.acts.others.entry x other) ∙ ap (λ (y : ℕ). (old.entry y).stamp) same ∙ ownership.known.1) m refl,
      )

  -- if a node settles a decided stamp, then nothing is taken back
  pub grows_Settles : (u : ℕ) → Settles old new chain n u → Grows old new
  grows_Settles zero settles = absurd (let first = settles.first in omega arith)
  grows_Settles (suc u) settles =
      let fixes = settles-fixes u settles in
      fixes-grows old new n (nth no_proposal chain u) fixes.0 fixes.1 chain ownership

  -- if the invariant holds, then also after a node settles a decided stamp
  pub keeps_Settles : (u : ℕ) → Settles old new chain n u → OwnershipInvariant new chain
  keeps_Settles zero settles = absurd (let first = settles.first in omega arith)
  keeps_Settles (suc u) settles =
      let fixes = settles-fixes u settles in
      fixes-ownership old new n (nth no_proposal chain u) fixes.0 fixes.1 chain ownership chain (Extends-refl chain)
      (link-decided u (grows_Settles (suc u) settles) settles.decided)
      (λ v after before. absurd (omega arith))
      (settles-known (suc u) settles)

-- ---- what a node has gathered is decided

module _ (old new : Object) (chain : List Proposal) (ownership : OwnershipInvariant old chain) (n : ℕ) (g : Gather) (decides : Decides old new n g) where
  decides-gather : IsGather old n g
  decides-gather = ownership.gathers n g decides.gathered

  decides-chosen : IsChosen old g.proposal (old.epoch n)
  decides-chosen =
      record {
        viewed = ownership.viewed.epochs n decides.acts.live;
        directory = decides.directory;
        source = decides.source;
        acked = λ a h.
            let ack = decides-gather.acks a (is_subset-has a (arbiters g.proposal.base_place (view old (old.epoch n)) old.directory) g.acks decides.complete h) in
            (n, ack.0, ack.1);
      }

  decides-fixes : Fixes old new n g.proposal (old.epoch n)
  decides-fixes =
      record {
        acts = decides.acts;
        chosen = decides-chosen;
        above = decides-gather.above;
        entry = decides.entry;
        gather = decides.gather;
        sends = decides.sends;
      }

  -- a decision takes nothing back
  pub grows_Decides : Grows old new
  grows_Decides = fixes-grows old new n g.proposal (old.epoch n) decides-fixes chain ownership

  -- the proposal was said to this node as its requester, or to another collector since the requester is no member
  decides-requester : (g.proposal.requester ≡ n) ⊎ (old.stopped g.proposal.requester ≡ true)
  decides-requester =
      let r = g.proposal.requester in
      let a = decides-gather.some.0 in
      let ack = decides-gather.acks a decides-gather.some.1 in
      let to_requester = (ownership.acks a n (old.epoch n) g.proposal ack.0 ack.1).to_requester in
      elim (cases_Bool (old.stopped r)) [
        | inl stopped ↦ inr stopped
        | inr live ↦ inl (sym (to_requester (ownership.viewed.live r (old.epoch n) live (ownership.viewed.epochs n decides.acts.live))))
      ]

  module _ (inside : g.proposal.base.ver < length chain) (is : g.proposal ≡ nth no_proposal chain g.proposal.base.ver) where
    again-stamp : chain_stamp chain (suc g.proposal.base.ver) ≡ g.proposal.stamp
    again-stamp = chain_stamp-suc chain g.proposal.base.ver ∙ ap (λ (q : Proposal). q.stamp) (sym is)

    again-place : place_at old chain (suc g.proposal.base.ver) ≡ new_place g.proposal
    again-place = chain_place-suc old.declared chain g.proposal.base.ver ∙ ap (λ (q : Proposal). new_place q) (sym is)

    again-settles : Settles old new chain n (suc g.proposal.base.ver)
    again-settles =
        record {
          acts = decides.acts;
          first = omega arith;
          decided = inside;
          above = rw again-stamp decides-gather.above;
          entry = rw (again-stamp, again-place) decides.entry;
          gather = rw again-stamp decides.gather;
          sends = decides.sends;
        }

    again-requester : g.proposal.requester ≢ n
    again-requester same =
        let link = ownership.links g.proposal.base.ver inside in
        let requester : (old.stopped g.proposal.requester ≡ true) ⊎ (is_below (old.entry g.proposal.requester).stamp g.proposal.stamp ≡ false) =
        subst (λ (q : Proposal). (old.stopped q.requester ≡ true) ⊎ (is_below (old.entry q.requester).stamp q.stamp ≡ false)) (sym is) link.requester
        in
        elim requester [
          | inl stopped ↦ let here : old.stopped n ≡ true = rw same at stopped in true≢false (sym here ∙ decides.acts.live)
          | inr settled ↦
              let here : is_below (old.entry n).stamp g.proposal.stamp ≡ false = subst (λ (r : ℕ). is_below (old.entry r).stamp g.proposal.stamp ≡ false) same settled in
              true≢false (sym decides-gather.above ∙ here)
        ]

    decides-again : IsAgain old new chain n g.proposal
    decides-again =
        let next : g.proposal.stamp.ver ≡ suc g.proposal.base.ver = (ownership.proposals g.proposal (old.epoch n) (chosen-said old chain ownership g.proposal (old.epoch n) decides-chosen)).next in
        record {
          inside = inside;
          link = is;
          requester = again-requester;
          settles = rw next again-settles;
          ownership = keeps_Settles old new chain ownership n (suc g.proposal.base.ver) again-settles;
        }

  module _ (last : g.proposal.base.ver ≡ length chain) where
    abbrev longer : List Proposal
    longer = chain ++ g.proposal ∷ []

    first-length : length longer ≡ suc (length chain)
    first-length = simp length-append (omega arith)

    first-next : g.proposal.stamp.ver ≡ suc (length chain)
    first-next =
        (ownership.proposals g.proposal (old.epoch n) (chosen-said old chain ownership g.proposal (old.epoch n) decides-chosen)).next ∙ ap (λ (v : ℕ). suc v) last

    first-base : g.proposal.base ≡ chain_stamp chain (length chain)
    first-base =
        (ownership.proposals g.proposal (old.epoch n) (chosen-said old chain ownership g.proposal (old.epoch n) decides-chosen)).base ∙ ap (λ (v : ℕ). chain_stamp chain v) last

    first-base_place : g.proposal.base_place ≡ latest old chain
    first-base_place =
        (ownership.proposals g.proposal (old.epoch n) (chosen-said old chain ownership g.proposal (old.epoch n) decides-chosen)).base_place ∙ ap (λ (v : ℕ). place_at old chain v) last

    first-extends : Extends chain longer
    first-extends = Extends-append chain (g.proposal ∷ [])

    first-last : nth no_proposal longer (length chain) ≡ g.proposal
    first-last = nth-last no_proposal chain g.proposal

    first-link : IsLink new longer (length chain) g.proposal
    first-link =
        let said = ownership.proposals g.proposal (old.epoch n) (chosen-said old chain ownership g.proposal (old.epoch n) decides-chosen) in
        record {
          ver = first-next;
          base = first-base ∙ stamp_at-grows old new grows_Decides chain longer first-extends (length chain) (le_refl (length chain));
          base_place = first-base_place ∙ place_at-grows old new grows_Decides chain longer first-extends (length chain) (le_refl (length chain));
          placed = said.placed;
          want = said.want;
          chosen = (old.epoch n, chosen-grows old new grows_Decides g.proposal (old.epoch n) decides-chosen);
          requester = elim decides-requester [
            | inl same ↦
                inr (subst (λ (r : ℕ). is_below (new.entry r).stamp g.proposal.stamp ≡ false) (sym same)
                (rw (fixes-stamp old new n g.proposal (old.epoch n) decides-fixes chain ownership) (is_below-irrefl g.proposal.stamp)))
            | inr stopped ↦ inl (grows_Decides.stopped g.proposal.requester stopped)
          ];
        }

    first-stamp : chain_stamp longer (suc (length chain)) ≡ g.proposal.stamp
    first-stamp = chain_stamp-suc longer (length chain) ∙ ap (λ (q : Proposal). q.stamp) first-last

    first-place : place_at new longer (suc (length chain)) ≡ new_place g.proposal
    first-place = chain_place-suc new.declared longer (length chain) ∙ ap (λ (q : Proposal). new_place q) first-last

    first-decided : IsDecided new longer g.proposal.stamp (new_place g.proposal)
    first-decided =
        record {
          ver = omega (arith, first-next, first-length);
          stamp = sym first-stamp ∙ ap (λ (v : ℕ). chain_stamp longer v) (sym first-next);
          place = sym first-place ∙ ap (λ (v : ℕ). place_at new longer v) (sym first-next);
        }

    decides-first : IsFirst old new chain n g.proposal
    decides-first =
        record {
          last = last;
          ver = first-next;
          base = first-base;
          base_place = first-base_place;
          requester = decides-requester;
          ownership =
              fixes-ownership old new n g.proposal (old.epoch n) decides-fixes chain ownership longer first-extends first-decided
              (λ v after before.
              let at : v ≡ length chain = omega (arith, first-length) in
              subst (λ (x : ℕ). IsLink new longer x (nth no_proposal longer x)) (sym at) (rw first-last first-link))
              (n, fixes-stamp old new n g.proposal (old.epoch n) decides-fixes chain ownership ∙ sym first-stamp ∙ ap (λ (v : ℕ). chain_stamp longer v) (sym first-length));
        }

  -- if the invariant holds, then a decision is of what is decided already, or the first of its version, and it holds after it
  pub keeps_Decides : IsAgain old new chain n g.proposal ⊎ IsFirst old new chain n g.proposal
  keeps_Decides =
      elim (chosen-chain old chain ownership g.proposal (old.epoch n) decides-chosen) [
        | inl again ↦ inl (decides-again again.0 again.1)
        | inr last ↦ inr (decides-first last)
      ]
