-- What every move leaves: epochs, ranks and settled stamps do not fall, letters stay, and who newly speaks is live and speaks in
-- its epoch. Hence what holds of the letters that were there goes on to hold.
use Rattle.std.specs.Prelude.{ℕ, zero, suc, ◌≡◌, ◌≢◌, ◌<◌, ◌≤◌, true, false, List, ◌++◌, length, Option, ◌⊎◌}
use Rattle.std.proofs.Common.{arith, refl, sym, ap, subst, ◌∙◌, inl, inr, le_refl, length-append}
use Rattle.std.proofs.lemmas.Bool.{cases_eq, true≢false}
use Rattle.zeus_base.specs.Order.{is_below}
use Rattle.zeus_base.specs.OrderLaws.{is_below-irrefl, is_below-trans_not_above, not_below-trans}
use Rattle.zeus_base.specs.declared.order.Stamp.{Stamp}
use Rattle.zeus_base.specs.TableLaws.{nth-append}
use Rattle.zeus_packet.specs.Place.{new_place}
use Rattle.zeus_packet.specs.declared.place.Place.{Place}
use Rattle.zeus_packet.specs.declared.place.Proposal.{Proposal}
use Rattle.zeus_packet.specs.declared.write.Content.{Content}
use Rattle.zeus_model.specs.Tables.{nth}
use Rattle.ownership_safety.specs.Object.{Object, Acknowledges, IsView, IsMember, IsSource, IsArbiter, HasAcked, HasAckedStamp, IsChosen, IsBlocked, rank, no_proposal, chain_stamp, chain_place, place_at}
use Rattle.ownership_safety.specs.Moves.{SameOthers}
use Rattle.ownership_safety.specs.OwnershipInvariant.{IsProposal, IsAck, IsLink, IsDecided}
use Rattle.ownership_safety.specs.Kept.{Grows, Rises}

-- a chain that begins with the other
pub record Extends (chain longer : List Proposal) : Type 0 where
  pub at_least : length chain ≤ length longer
  pub same : (v : ℕ) → v < length chain → nth no_proposal longer v ≡ nth no_proposal chain v

-- a chain extends itself
pub Extends-refl : (chain : List Proposal) → Extends chain chain
Extends-refl chain = record { at_least = le_refl (length chain); same = λ v h. refl }

-- a chain with more proposals at the end extends the chain
pub Extends-append : (chain more : List Proposal) → Extends chain (chain ++ more)
Extends-append chain more =
    record { at_least = simp length-append (omega arith); same = λ v h. nth-append no_proposal chain more v h }

-- if a second chain extends the first and a third the second, then the third extends the first
pub Extends-trans : (a b c : List Proposal) → Extends a b → Extends b c → Extends a c
Extends-trans a b c one two =
    let first = one.at_least in
    let second = two.at_least in
    record { at_least = omega arith; same = λ v h. two.same v (omega arith) ∙ one.same v h }

module _ (chain longer : List Proposal) (extends : Extends chain longer) where
  -- if a chain extends another, then it has the same stamps up to the other's length
  pub chain_stamp-longer : (v : ℕ) → v ≤ length chain → chain_stamp longer v ≡ chain_stamp chain v
  unfolding chain_stamp
  chain_stamp-longer zero h = refl
  chain_stamp-longer (suc v) h = ap (λ (p : Proposal). p.stamp) (extends.same v h)

  -- if a chain extends another, then it has the same placements up to the other's length
  pub chain_place-longer : (declared : Place) (v : ℕ) → v ≤ length chain → chain_place declared longer v ≡ chain_place declared chain v
  unfolding chain_place
  chain_place-longer declared zero h = refl
  chain_place-longer declared (suc v) h = ap (λ (p : Proposal). new_place p) (extends.same v h)

-- ---- one node after another

-- what holds of one node and of all others holds of every node
pub each_node : (P : ℕ → Type 0) (n : ℕ) → P n → ((m : ℕ) → m ≢ n → P m) → (m : ℕ) → P m
each_node P n here others m =
    elim (cases_eq m n) [ inl same ↦ subst P (sym same) here | inr other ↦ others m other ]

module _ (old new : Object) (n : ℕ) (others : SameOthers old new n) where
  -- if all nodes but one stay as they are, then each other has the rank that it had
  pub others-rank : (m : ℕ) → m ≢ n → rank new m ≡ rank old m
  others-rank m other = rw (others.entry m other) refl

  -- if all nodes but one stay as they are and the rank of that one does not fall, then no rank falls
  pub rank-not_below : is_below (rank new n) (rank old n) ≡ false → (m : ℕ) → is_below (rank new m) (rank old m) ≡ false
  rank-not_below here =
      each_node (λ m. is_below (rank new m) (rank old m) ≡ false) n here
      (λ m other. rw (others-rank m other) (is_below-irrefl (rank old m)))

  -- if all nodes but one stay as they are and the settled stamp of that one does not fall, then no settled stamp falls
  pub settled-not_below : is_below (new.entry n).stamp (old.entry n).stamp ≡ false → (m : ℕ) → is_below (new.entry m).stamp (old.entry m).stamp ≡ false
  settled-not_below here =
      each_node (λ m. is_below (new.entry m).stamp (old.entry m).stamp ≡ false) n here
      (λ m other. rw (others.entry m other) (is_below-irrefl (old.entry m).stamp))

  -- if all nodes but one stay as they are and that one, if stopped, stays so, then each stopped node stays so
  pub stopped-kept : (old.stopped n ≡ true → new.stopped n ≡ true) → (m : ℕ) → old.stopped m ≡ true → new.stopped m ≡ true
  stopped-kept here =
      each_node (λ m. old.stopped m ≡ true → new.stopped m ≡ true) n here (λ m other h. others.stopped m other ∙ h)

  -- if all nodes but one stay as they are and the epoch of that one does not fall, then no epoch falls
  pub epoch-kept : old.epoch n ≤ new.epoch n → (m : ℕ) → old.epoch m ≤ new.epoch m
  epoch-kept here =
      each_node (λ m. old.epoch m ≤ new.epoch m) n here (λ m other. let same = others.epoch m other in omega arith)

-- ---- what goes on to hold

module _ (old new : Object) (grows : Grows old new) where
  -- a member of a view is still a member of it after a move
  pub member-grows : (e n : ℕ) → IsView old e → IsMember old e n → IsMember new e n
  member-grows e n v h = rw (grows.views e v) h

  -- a member of an old view after a move was a member of it before
  pub member-back : (e n : ℕ) → IsView old e → IsMember new e n → IsMember old e n
  member-back e n v h = rw (← grows.views e v) h

  -- the source in an old epoch is still the source there after a move
  pub source-grows : (e : ℕ) (place : Place) (n : ℕ) → IsView old e → IsSource old e place n → IsSource new e place n
  source-grows e place n v h = rw (grows.views e v) h

  -- the source in an old epoch after a move was the source there before
  pub source-back : (e : ℕ) (place : Place) (n : ℕ) → IsView old e → IsSource new e place n → IsSource old e place n
  source-back e place n v h = rw (← grows.views e v) h

  -- an arbiter in an old epoch is still an arbiter there after a move
  pub arbiter-grows : (e : ℕ) (place : Place) (n : ℕ) → IsView old e → IsArbiter old e place n → IsArbiter new e place n
  arbiter-grows e place n v h = rw (grows.views e v, grows.directory) h

  -- an arbiter in an old epoch after a move was an arbiter there before
  pub arbiter-back : (e : ℕ) (place : Place) (n : ℕ) → IsView old e → IsArbiter new e place n → IsArbiter old e place n
  arbiter-back e place n v h = rw (← grows.views e v, ← grows.directory) h

  -- what a node has acknowledged stays acknowledged after a move
  pub acked-grows : (n : ℕ) (p : Proposal) (e : ℕ) → HasAcked old n p e → HasAcked new n p e
  acked-grows n p e a = (a.0, a.1, grows.letters (Acknowledges n a.0 e p a.1) a.2)

  -- a proposal that is chosen in an epoch stays chosen there after a move
  pub chosen-grows : (p : Proposal) (e : ℕ) → IsChosen old p e → IsChosen new p e
  chosen-grows p e c =
      record {
        viewed = grows.viewed e c.viewed;
        directory = (c.directory.0, rw grows.directory c.directory.1, member-grows e c.directory.0 c.viewed c.directory.2);
        source = (c.source.0, source-grows e p.base_place c.source.0 c.viewed c.source.1);
        acked = λ a h. acked-grows a p e (c.acked a (arbiter-back e p.base_place a c.viewed h));
      }

  -- who has not acknowledged a stamp, and is stopped, past the epoch or above the stamp, does not do so now
  not_acked : (a : ℕ) (t : Stamp) (e : ℕ) → (HasAckedStamp old a t e → ⊥) → (old.stopped a ≡ true) ⊎ ((e < old.epoch a) ⊎ (is_below t (rank old a) ≡ true)) → HasAckedStamp new a t e → ⊥
  not_acked a t e never why (p, is, (to, c, m)) =
      elim (grows.acks a to e p c m) [
        | inl before ↦ never (p, is, (to, c, before))
        | inr now ↦ elim why [
          | inl stopped ↦ true≢false (sym stopped ∙ now.live)
          | inr later ↦ elim later [
            | inl past ↦ let same = now.epoch in omega arith
            | inr above ↦ let none : is_below t (rank old a) ≡ false = rw (← is) now.rank in true≢false (sym above ∙ none)
          ]
        ]
      ]

  -- a stamp that is blocked in an old epoch stays blocked there after a move
  pub blocked-grows : (t : Stamp) (place : Place) (e : ℕ) → IsView old e → IsBlocked old t place e → IsBlocked new t place e
  unfolding IsBlocked
  blocked-grows t place e v (a, arbiter, (never, why)) = (
    a,
    arbiter-grows e place a v arbiter,
    (
      not_acked a t e never why,
      elim why [
        | inl stopped ↦ inl (grows.stopped a stopped)
        | inr later ↦ elim later [
          | inl past ↦ inr (inl (omega (arith, grows.epoch a)))
          | inr above ↦ inr (inr (is_below-trans_not_above t (rank old a) (rank new a) above (grows.rank a)))
        ]
      ],
    ),
  )

  module _ (chain longer : List Proposal) (extends : Extends chain longer) where
    -- if the chain is extended, then each decided version keeps its stamp
    pub stamp_at-grows : (v : ℕ) → v ≤ length chain → chain_stamp chain v ≡ chain_stamp longer v
    stamp_at-grows v h = sym (chain_stamp-longer chain longer extends v h)

    -- if the chain is extended, then each decided version keeps its placement
    pub place_at-grows : (v : ℕ) → v ≤ length chain → place_at old chain v ≡ place_at new longer v
    place_at-grows v h =
        sym (chain_place-longer chain longer extends old.declared v h) ∙ ap (λ (d : Place). chain_place d longer v) (sym grows.declared)

    -- a stamp and a placement that are decided stay decided after a move
    pub decided-grows : (t : Stamp) (place : Place) → IsDecided old chain t place → IsDecided new longer t place
    decided-grows t place is =
        record {
          ver = omega (arith, is.ver, extends.at_least);
          stamp = is.stamp ∙ stamp_at-grows t.ver is.ver;
          place = is.place ∙ place_at-grows t.ver is.ver;
        }

    -- what holds of a proposal that was said still holds after a move
    pub proposal-grows : (p : Proposal) → IsProposal old chain p → IsProposal new longer p
    proposal-grows p is =
        record {
          next = is.next;
          placed = is.placed;
          want = is.want;
          driver = not_below-trans p.stamp (rank old p.stamp.driver) (rank new p.stamp.driver) is.driver (grows.rank p.stamp.driver);
          decided = omega (arith, is.decided, extends.at_least);
          base = is.base ∙ stamp_at-grows p.base.ver is.decided;
          base_place = is.base_place ∙ place_at-grows p.base.ver is.decided;
        }

    -- a link of the chain is still a link after a move
    pub link-grows : (v : ℕ) (p : Proposal) → v < length chain → IsLink old chain v p → IsLink new longer v p
    link-grows v p inside is =
        record {
          ver = is.ver;
          base = is.base ∙ stamp_at-grows v (omega arith);
          base_place = is.base_place ∙ place_at-grows v (omega arith);
          placed = is.placed;
          want = is.want;
          chosen = (is.chosen.0, chosen-grows p is.chosen.0 is.chosen.1);
          requester = elim is.requester [
            | inl stopped ↦ inl (grows.stopped p.requester stopped)
            | inr settled ↦ inr (not_below-trans p.stamp (old.entry p.requester).stamp (new.entry p.requester).stamp settled (grows.settled p.requester))
          ];
        }

  -- what holds of an acknowledgement still holds after a move
  pub ack-grows : (from to e : ℕ) (p : Proposal) (c : Option Content) → IsView old e → IsAck old from to e p c → IsAck new from to e p c
  ack-grows from to e p c v is =
      record {
        rank = not_below-trans p.stamp (rank old from) (rank new from) is.rank (grows.rank from);
        arbiter = arbiter-grows e p.base_place from v is.arbiter;
        content = (λ s. source-grows e p.base_place from v (is.content.0 s), λ s. is.content.1 (source-back e p.base_place from v s));
        to_requester = λ m. is.to_requester (member-back e p.requester v m);
      }

-- ---- one move after another

-- an object that stays as it is rises: nothing of it falls or is taken back
pub Rises-refl : (o : Object) → Rises o o
Rises-refl o =
    record {
      directory = refl;
      declared = refl;
      viewed = λ e v. v;
      views = λ e v. refl;
      stopped = λ n h. h;
      epoch = λ n. le_refl (o.epoch n);
      rank = λ n. is_below-irrefl (rank o n);
      settled = λ n. is_below-irrefl (o.entry n).stamp;
      letters = λ l m. m;
    }

-- a move after others
pub Rises-further : (old mid new : Object) → Rises old mid → Grows mid new → Rises old new
Rises-further old mid new one two =
    record {
      directory = two.directory ∙ one.directory;
      declared = two.declared ∙ one.declared;
      viewed = λ e v. two.viewed e (one.viewed e v);
      views = λ e v. two.views e (one.viewed e v) ∙ one.views e v;
      stopped = λ n h. two.stopped n (one.stopped n h);
      epoch = λ n. omega (arith, one.epoch n, two.epoch n);
      rank = λ n. not_below-trans (rank old n) (rank mid n) (rank new n) (one.rank n) (two.rank n);
      settled = λ n. not_below-trans (old.entry n).stamp (mid.entry n).stamp (new.entry n).stamp (one.settled n) (two.settled n);
      letters = λ l m. two.letters l (one.letters l m);
    }
