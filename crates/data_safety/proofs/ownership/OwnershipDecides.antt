-- A node that decides a proposal keeps what holds of a run: a placement changes only while the object is clean.
use Rattle.std.specs.Prelude.{ℕ, suc, ◌≡◌, ◌≢◌, ◌==◌, ◌+◌, ◌-◌, ◌<◌, ◌≤◌, true, false, List, [], ◌∷◌, ◌++◌, length, Option, Some, None, is_some, ◌⊎◌, ◌↔◌, if◌then◌else◌}
use Rattle.std.proofs.Common.{arith, refl, sym, ap, subst, ◌∙◌, inl, inr}
use Rattle.std.proofs.lemmas.Bool.{cases_Bool, cases_lt, eq-eqb, ne_eqb, true≢false}
use Rattle.std.proofs.lemmas.List.{length-append}
use Rattle.zeus_base.specs.Nodes.{has}
use Rattle.zeus_base.specs.TableLaws.{nth-put_same, nth-put_other, nth-last}
use Rattle.zeus_base.specs.declared.order.Stream.{Stream}
use Rattle.zeus_packet.specs.Place.{new_place}
use Rattle.zeus_packet.specs.declared.place.Place.{Place}
use Rattle.zeus_packet.specs.declared.place.Proposal.{Proposal}
use Rattle.zeus_packet.specs.declared.place.Want.{Want}
use Rattle.zeus_packet.specs.declared.place.Want.TheVariants.{Own, Read, Leave}
use Rattle.zeus_packet.specs.declared.write.Content.{Content}
use Rattle.zeus_txn.specs.Ops.{mentions}
use Rattle.zeus_model.specs.Tables.{nth}
use Rattle.zeus_model.specs.State.{Node, copy, entry, owns, slot}
use Rattle.zeus_model.specs.Commit.{no_pending}
use Rattle.zeus_model.specs.Ownership.{settle, bring, brought}
use Rattle.zeus_model.specs.declared.state.Copy.{Copy}
use Rattle.zeus_model.specs.declared.state.Gather.{Gather}
use Rattle.machine_moves.specs.SystemState.{IsLive, Changes, nothing}
use Rattle.machine_moves.specs.Move.{Move}
use Rattle.ownership_safety.specs.Kept.{IsAgain, IsFirst}
use Rattle.ownership_safety.specs.Object.{HasGiven, IsSaid, no_proposal, chain_stamp, place_at}
use Rattle.ownership_safety.specs.Moves as moves
use Rattle.ownership_safety.specs.OwnershipInvariant.{OwnershipInvariant, IsGather}
use Rattle.ownership_safety.proofs.Arbiters.{new_place-other, new_place-comes, new_place-leaves}
use Rattle.ownership_safety.proofs.Chain.{chain_place-suc, ack-said, stamp_at-ver}
use Rattle.ownership_safety.proofs.KeepsSettled.{keeps_Decides}
use Rattle.replication_safety.specs.StreamState.{Has}
use Rattle.replication_safety.proofs.Consequences.{own-alive}
use Rattle.invariants.specs.Streams.{stream_state}
use Rattle.invariants.specs.Objects.{object}
use Rattle.invariants.proofs.AboutObjects.{object-entry}
use Rattle.invariants.proofs.Frames.{settle-away, bring-quiet}
use Rattle.invariants.proofs.StreamFrames.{stream-home, stream-stopped}
use Rattle.invariants.proofs.ObjectKeeps.{sees_move as object_sees_move}
use Rattle.invariants.proofs.ObjectMoves.{object-live}
use Rattle.invariants.proofs.ObjectSeen.{HasGathered, same_or_not, decide_here}
use Rattle.data_safety.specs.RunState.{RunState, Witness, place_now, Lives}
use Rattle.data_safety.specs.DataInvariant.{DataInvariant, IsClean, left, content_of}
use Rattle.data_safety.proofs.Consequences.{numbered, clean-copy, home-done, home-end}
use Rattle.data_safety.proofs.ownership.StreamsUnchanged.{SameRows, same-rows}
use Rattle.data_safety.proofs.ownership.OwnershipFrame.{IsSameObject, IsRenewed, with_chains}
use Rattle.data_safety.proofs.ownership.OwnershipMoves.{MovesAlone, still-ownership, place-same, given-before, changed-frame, changed-rows, changed-low, changed-owned, low-before, framed-invariant}
use Rattle.data_safety.proofs.ownership.OwnershipProposals.{pending-within}
use Rattle.data_safety.proofs.ownership.OwnershipSettles.{settle-tables, owner-top}

-- ---- what is brought

-- a node that keeps all but a copy
record SameButCopies (before after : Node) : Type 0 where
  me : after.me ≡ before.me
  entries : after.entries ≡ before.entries
  slots : after.slots ≡ before.slots
  logs : after.logs ≡ before.logs

bring-tables : (n : Node) (x : ℕ) (p : Proposal) (c : Content) → SameButCopies n (bring n x p c)
unfolding bring
bring-tables n x p c = elim (cases_Bool (p.requester == n.me)) [
  | inl same ↦ rw same record { me = refl; entries = refl; slots = refl; logs = refl }
  | inr other ↦ rw other record { me = refl; entries = refl; slots = refl; logs = refl }
]

bring-away : (n : Node) (x : ℕ) (p : Proposal) (c : Content) → p.requester ≢ n.me → bring n x p c ≡ n
unfolding bring
bring-away n x p c ne = rw (ne_eqb p.requester n.me ne) refl

bring-here : (n : Node) (x : ℕ) (p : Proposal) (c : Content) → p.requester ≡ n.me → copy (bring n x p c) x ≡ brought p.want c
unfolding bring
bring-here n x p c is = rw (eq-eqb p.requester n.me is) (nth-put_same None n.copies x (brought p.want c))

bring-other : (n : Node) (x w : ℕ) (p : Proposal) (c : Content) → x ≢ w → copy (bring n x p c) w ≡ copy n w
unfolding bring
bring-other n x w p c ne = elim (cases_Bool (p.requester == n.me)) [
  | inl same ↦ rw same (nth-put_other None n.copies x w (brought p.want c) ne)
  | inr other ↦ rw other refl
]

-- a node after a decision
abbrev decided_node : Node → ℕ → Proposal → Content → Node
decided_node n x p c = bring (settle n x p.stamp (new_place p)) x p c

decided-rows : (n : Node) (x : ℕ) (p : Proposal) (c : Content) → SameRows n (decided_node n x p c)
decided-rows n x p c =
    let a = settle-tables n x p.stamp (new_place p) in
    let b = bring-tables (settle n x p.stamp (new_place p)) x p c in
    same-rows n (decided_node n x p c) (b.slots ∙ a.slots) (b.logs ∙ a.logs)

decided-me : (n : Node) (x : ℕ) (p : Proposal) (c : Content) → (decided_node n x p c).me ≡ n.me
decided-me n x p c = (bring-tables (settle n x p.stamp (new_place p)) x p c).me ∙ (settle-tables n x p.stamp (new_place p)).me

decided-copy : (n : Node) (x w : ℕ) (p : Proposal) (c : Content) → x ≢ w → copy (decided_node n x p c) w ≡ copy n w
decided-copy n x w p c ne =
    bring-other (settle n x p.stamp (new_place p)) x w p c ne ∙ ap (λ (k : List (Option Copy)). nth None k w) (settle-tables n x p.stamp (new_place p)).copies

-- where the requester is another, the copies stay
decided-copies : (n : Node) (x w : ℕ) (p : Proposal) (c : Content) → p.requester ≢ n.me → copy (decided_node n x p c) w ≡ copy n w
decided-copies n x w p c ne =
    let a = settle-tables n x p.stamp (new_place p) in
    ap (λ (k : Node). copy k w) (bring-away (settle n x p.stamp (new_place p)) x p c (λ is. ne (is ∙ a.me))) ∙ ap (λ (k : List (Option Copy)). nth None k w) a.copies

decided-brought : (n : Node) (x : ℕ) (p : Proposal) (c : Content) → p.requester ≡ n.me → copy (decided_node n x p c) x ≡ brought p.want c
decided-brought n x p c is = bring-here (settle n x p.stamp (new_place p)) x p c (is ∙ sym (settle-tables n x p.stamp (new_place p)).me)

decided-entry : (n : Node) (x w : ℕ) (p : Proposal) (c : Content) → x ≢ w → entry (decided_node n x p c) w ≡ entry n w
decided-entry n x w p c ne =
    (bring-quiet (settle n x p.stamp (new_place p)) x w p c).entry ∙ (settle-away n x w p.stamp (new_place p) ne).entry

-- ---- a decision, as far as other objects

-- what holds of the object x when the node n decides a placement of it and the chains become those given: only the chain of x may be another
record HoldsDecided (y z : RunState) (u : Witness) (chain : ℕ → List Proposal) (n x : ℕ) : Type 0 where
  others : (w : ℕ) → x ≢ w → chain w ≡ u.chain w
  object_is : x < length y.system.config.objects → IsSameObject y z u (with_chains u chain) x ⊎ IsRenewed y z u (with_chains u chain) x
  ownership : x < length y.system.config.objects → OwnershipInvariant (object z.system x) (chain x)
  unnamed : (a i : ℕ) → i < length (slot (y.system.node n) a).pending → mentions x (nth no_pending (slot (y.system.node n) a).pending i).named ≡ true → owns (y.system.node n) x ≡ true → ⊥
  given : (m e : ℕ) (q : Proposal) (k : Content) → x < length y.system.config.objects → HasGiven (object y.system x) m q k e → q.base.ver ≡ length (chain x) → IsClean y u x × (k ≡ left y x)

decides-with : (y z : RunState) (u : Witness) (f : DataInvariant y u) (n x : ℕ) (p : Proposal) (co : Content) (chain : ℕ → List Proposal)
    → MovesAlone y z n (decided_node (y.system.node n) x p co) nothing → HoldsDecided y z u chain n x → DataInvariant z (with_chains u chain)
unfolding owns
decides-with y z u f n x p co chain alone decided =
    framed-invariant y z u chain f (changed-frame y z u f n (decided_node (y.system.node n) x p co) nothing alone (decided-rows (y.system.node n) x p co))
    (changed-rows y.system z.system n (decided_node (y.system.node n) x p co) nothing alone.change (decided-rows (y.system.node n) x p co)) alone.move
    (λ w within. elim (same_or_not x w) [
      | inl same ↦ subst (λ (v : ℕ). IsSameObject y z u (with_chains u chain) v ⊎ IsRenewed y z u (with_chains u chain) v) same (decided.object_is (rw same within))
      | inr other ↦ inl record { place = place-same y z u (with_chains u chain) w alone.change.config (decided.others w other); copies = copies w other }
    ])
    (λ w within. elim (same_or_not x w) [
      | inl same ↦ subst (λ (v : ℕ). OwnershipInvariant (object z.system v) (chain v)) same (decided.ownership (rw same within))
      | inr other ↦ rw (decided.others w other) (still w within other)
    ])
    (changed-owned y z n (decided_node (y.system.node n) x p co) nothing alone.change record {
      owned = λ a i w inside m own. elim (same_or_not x w) [
        | inl same ↦ absurd (decided.unnamed a i inside (rw same m) (rw same own))
        | inr other ↦ rw (decided-entry (y.system.node n) x w p co other, decided-me (y.system.node n) x p co) own
      ];
    })
    (λ m w e q k within g last.
    let before : HasGiven (object y.system w) m q k e = given-before y.system z.system w nothing alone.change.sends (λ l2 from to e2 p2 k2 no i. no) m e q k g in
    elim (same_or_not x w) [
      | inl same ↦ subst (λ (v : ℕ). IsClean y u v × (k ≡ left y v)) same (decided.given m e q k (rw same within) (subst (λ (v : ℕ). HasGiven (object y.system v) m q k e) (sym same) before) (rw same last))
      | inr other ↦ f.entered.given m w e q k within before (rw (decided.others w other) at last)
    ])
  where
    copies : (w : ℕ) → x ≢ w → (m : ℕ) → IsLive z.system m → copy (z.system.node m) w ≡ copy (y.system.node m) w
    copies w other m live = elim (same_or_not m n) [
      | inl same ↦ rw (same, alone.change.node) (decided-copy (y.system.node n) x w p co other)
      | inr away ↦ rw (alone.change.others m away) refl
    ]

    still : (w : ℕ) → w < length y.system.config.objects → x ≢ w → OwnershipInvariant (object z.system w) (u.chain w)
    still w within other =
        let low : (entry (decided_node (y.system.node n) x p co) w).stamp.ver ≤ length (u.chain w) = rw (decided-entry (y.system.node n) x w p co other) (low-before y u f n w alone.change.live within) in
        still-ownership (object y.system w) (object z.system w) (u.chain w) (f.ownership w within)
        (changed-low y z u f n w (decided_node (y.system.node n) x p co) nothing alone.change within low)
        (object_sees_move y.system z.system w (u.chain w) (numbered y u f) (f.ownership w within) alone.move)

-- ---- a decision of what is decided already

decides-again : (y z : RunState) (u : Witness) (f : DataInvariant y u) (n x : ℕ) (p : Proposal) (co : Content) → MovesAlone y z n (decided_node (y.system.node n) x p co) nothing
    → x < length y.system.config.objects → IsAgain (object y.system x) (object z.system x) (u.chain x) n p → DataInvariant z u
decides-again y z u f n x p co alone within again =
    decides-with y z u f n x p co u.chain alone record {
      others = λ w away. refl;
      object_is = λ h. inl record {
        place = place-same y z u u x alone.change.config refl;
        copies = λ m live. elim (same_or_not m n) [
          | inl same ↦ rw (same, alone.change.node) (decided-copies (y.system.node n) x x p co other)
          | inr away ↦ rw (alone.change.others m away) refl
        ];
      };
      ownership = λ h. again.ownership;
      unnamed = λ a i inside m own. owner-top y u f n x (chain_stamp (u.chain x) p.stamp.ver) within alone.change.live own
          (omega (arith, ver, again.settles.decided)) (ap (λ (v : ℕ). chain_stamp (u.chain x) v) (sym ver)) (rw entry_is at again.settles.above);
      given = λ m e q k h g last. f.entered.given m x e q k h g last;
    }
  where
    other : p.requester ≢ (y.system.node n).me
    other is = again.requester (is ∙ (f.steady.nodes n alone.change.live).me)

    entry_is : (object y.system x).entry n ≡ entry (y.system.node n) x
    entry_is = object-entry y.system x n (f.steady.nodes n alone.change.live).within

    ver : (chain_stamp (u.chain x) p.stamp.ver).ver ≡ p.stamp.ver
    ver = stamp_at-ver (object y.system x) (u.chain x) (f.ownership x within) p.stamp.ver again.settles.decided

-- ---- the first decision of a proposal

-- an entry that a live node has pending can still pass
pub pending-lives : (y : RunState) (u : Witness) (f : DataInvariant y u) (n a i : ℕ) → IsLive y.system n → i < length (slot (y.system.node n) a).pending
    → Lives y u record { node = n; slot = a } ((slot (y.system.node n) a).done + i)
pending-lives y u f n a i live inside =
    let t : Stream = record { node = n; slot = a } in
    let k : ℕ = (slot (y.system.node n) a).done + i in
    let home_live : (stream_state y.system t).stopped (stream_state y.system t).home ≡ false = rw (stream-home y.system t, stream-stopped y.system t n) live in
    let kept : Has (stream_state y.system t) (stream_state y.system t).home k = (omega (arith, home-done y.system t), omega (arith, home-end y.system t, inside)) in
    (own-alive (stream_state y.system t) (u.passed t) k (f.replication t) home_live).1 kept

-- so no pending entry of a live node names a clean object
pub clean-unnamed : (y : RunState) (u : Witness) (f : DataInvariant y u) (n a i x : ℕ) → IsClean y u x → IsLive y.system n → i < length (slot (y.system.node n) a).pending
    → mentions x (nth no_pending (slot (y.system.node n) a).pending i).named ≡ true → ⊥
unfolding IsClean
clean-unnamed y u f n a i x clean live inside m =
    let same : (slot (y.system.node n) a).done + i - (slot (y.system.node n) a).done ≡ i = omega arith in
    clean record { node = n; slot = a } ((slot (y.system.node n) a).done + i) (pending-lives y u f n a i live inside) (rw same m)

-- the chains with one more proposal for an object
longer : Witness → ℕ → Proposal → ℕ → List Proposal
longer u x p w = if w == x then u.chain x ++ p ∷ [] else u.chain w

longer-same : (u : Witness) (x : ℕ) (p : Proposal) → longer u x p x ≡ u.chain x ++ p ∷ []
unfolding longer
longer-same u x p = rw (eq-eqb x x refl) refl

longer-other : (u : Witness) (x : ℕ) (p : Proposal) (w : ℕ) → x ≢ w → longer u x p w ≡ u.chain w
unfolding longer
longer-other u x p w ne = rw (ne_eqb w x (λ is. ne (sym is))) refl

longer-length : (u : Witness) (x : ℕ) (p : Proposal) → length (longer u x p x) ≡ suc (length (u.chain x))
longer-length u x p = ap (λ (c : List Proposal). length c) (longer-same u x p) ∙ one_more (u.chain x) p
  where
    one_more : (c : List Proposal) (p : Proposal) → length (c ++ p ∷ []) ≡ suc (length c)
    one_more c p = omega (arith, length-append c (p ∷ []))

-- the latest placement is then the new one of the proposal
longer-place : (z : RunState) (u : Witness) (x : ℕ) (p : Proposal) → place_now z (with_chains u (longer u x p)) x ≡ new_place p
longer-place z u x p =
    ap (λ (v : ℕ). place_at (object z.system x) (longer u x p x) v) (longer-length u x p)
    ∙ ap (λ (c : List Proposal). place_at (object z.system x) c (suc (length (u.chain x)))) (longer-same u x p)
    ∙ chain_place-suc (object z.system x).declared (u.chain x ++ p ∷ []) (length (u.chain x))
    ∙ ap new_place (nth-last no_proposal (u.chain x) p)

-- what is brought is a copy of the content, but for a leaver
brought-some : (want : Want) (co : Content) → want ≢ Leave → is_some (brought want co) ≡ true
unfolding brought
brought-some Own co ne = refl
brought-some Read co ne = refl
brought-some Leave co ne = absurd (ne refl)

brought-none : (want : Want) (co : Content) → want ≡ Leave → is_some (brought want co) ≡ false
unfolding brought
brought-none Own co is = absurd cc
brought-none Read co is = absurd cc
brought-none Leave co is = refl

brought-content : (want : Want) (co : Content) (c : Copy) → brought want co ≡ Some c → content_of c ≡ co
unfolding brought
brought-content Own co c is = cc
brought-content Read co c is = cc
brought-content Leave co c is = absurd cc

leaves : (want : Want) → (want ≡ Leave) ⊎ (want ≢ Leave)
leaves Own = inr (λ is. cc)
leaves Read = inr (λ is. cc)
leaves Leave = inl refl

-- the requester has a copy afterwards exactly where it is in the new placement
brought-placed : (p : Proposal) (co : Content) → (is_some (brought p.want co) ≡ true) ↔ (has p.requester (new_place p).replicas ≡ true)
brought-placed p co = elim (leaves p.want) [
  | inl leaver ↦ (
    λ h. absurd (true≢false (sym h ∙ brought-none p.want co leaver)),
    λ h. absurd (true≢false (sym h ∙ new_place-leaves p leaver)),
  )
  | inr stays ↦ (λ h. new_place-comes p stays, λ h. brought-some p.want co stays)
]

module _ (y z : RunState) (u : Witness) (f : DataInvariant y u) (n x : ℕ) (p : Proposal) (co : Content)
    (c : Changes y.system z.system n (decided_node (y.system.node n) x p co) nothing) (within : x < length y.system.config.objects)
    (first : IsFirst (object y.system x) (object z.system x) (u.chain x) n p) (clean : IsClean y u x) (is_left : co ≡ left y x) where
  -- a live node other than the one that decides did not request it
  stranger : (m : ℕ) → IsLive y.system m → m ≢ n → m ≢ p.requester
  stranger m live away is = elim first.requester [
    | inl here_now ↦ away (is ∙ here_now)
    | inr stopped ↦
        let off : (object y.system x).stopped m ≡ true = rw is stopped in
        true≢false (sym off ∙ object-live y.system x m live)
  ]

  -- its copy stays, and so does whether it is a replica
  stranger-placed : (m : ℕ) → IsLive y.system m → m ≢ p.requester → (is_some (copy (y.system.node m) x) ≡ true) ↔ (has m (place_now z (with_chains u (longer u x p)) x).replicas ≡ true)
  stranger-placed m live away =
      let before = f.copied.placed m x within live in
      let same : has m (place_now z (with_chains u (longer u x p)) x).replicas ≡ has m (place_now y u x).replicas =
      ap (λ (pl : Place). has m pl.replicas) (longer-place z u x p) ∙ new_place-other p m away ∙ ap (λ (pl : Place). has m pl.replicas) first.base_place in
      rw same before

  came-live : (m : ℕ) → IsLive z.system m → IsLive y.system m
  came-live m live = elim (same_or_not m n) [
    | inl same ↦ rw same c.live
    | inr away ↦ let was : IsLive y.system m = rw (c.others m away) at live in was
  ]

  me_is : (y.system.node n).me ≡ n
  me_is = (f.steady.nodes n c.live).me

  decider-placed : (is_some (copy (decided_node (y.system.node n) x p co) x) ≡ true) ↔ (has n (place_now z (with_chains u (longer u x p)) x).replicas ≡ true)
  decider-placed = elim (same_or_not p.requester n) [
    | inl own ↦
        let taken : copy (decided_node (y.system.node n) x p co) x ≡ brought p.want co = decided-brought (y.system.node n) x p co (own ∙ sym me_is) in
        let placed : (is_some (brought p.want co) ≡ true) ↔ (has n (new_place p).replicas ≡ true) = subst (λ (m : ℕ). (is_some (brought p.want co) ≡ true) ↔ (has m (new_place p).replicas ≡ true)) own (brought-placed p co) in
        rw (taken, longer-place z u x p) placed
    | inr other ↦ rw (decided-copies (y.system.node n) x x p co (λ is. other (is ∙ me_is))) (stranger-placed n c.live (λ is. other (sym is)))
  ]

  first-placed : (m : ℕ) → IsLive z.system m → (is_some (copy (z.system.node m) x) ≡ true) ↔ (has m (place_now z (with_chains u (longer u x p)) x).replicas ≡ true)
  first-placed m live = elim (same_or_not m n) [
    | inl same ↦ rw (same, c.node) decider-placed
    | inr away ↦ rw (c.others m away) (stranger-placed m (came-live m live) (stranger m (came-live m live) away))
  ]

  first-content : (m : ℕ) (k : Copy) → IsLive z.system m → copy (z.system.node m) x ≡ Some k → content_of k ≡ left y x
  first-content m k live is = elim (same_or_not m n) [
    | inr away ↦
        let was : copy (y.system.node m) x ≡ Some k = rw (c.others m away) at is in
        clean-copy y u f m x k within (came-live m live) clean was
    | inl same ↦
        let here_now : copy (decided_node (y.system.node n) x p co) x ≡ Some k = rw (same, c.node) at is in
        elim (same_or_not p.requester n) [
          | inl own ↦ brought-content p.want co k (sym (decided-brought (y.system.node n) x p co (own ∙ sym me_is)) ∙ here_now) ∙ is_left
          | inr other ↦ clean-copy y u f n x k within c.live clean (sym (decided-copies (y.system.node n) x x p co (λ e. other (e ∙ me_is))) ∙ here_now)
        ]
  ]

  first-given : (m e : ℕ) (q : Proposal) (k : Content) → HasGiven (object y.system x) m q k e → q.base.ver ≡ length (longer u x p x) → ⊥
  first-given m e q k given last =
      let ownership : OwnershipInvariant (object y.system x) (u.chain x) = f.ownership x within in
      let said : IsSaid (object y.system x) q e = ack-said (object y.system x) (u.chain x) ownership m q e (given.0, Some k, given.1) in
      omega (arith, (ownership.proposals q e said).decided, last, longer-length u x p)

  decides-first : Move y.system z.system → z.txs ≡ y.txs → z.book ≡ y.book → DataInvariant z (with_chains u (longer u x p))
  decides-first move txs book =
      decides-with y z u f n x p co (longer u x p) record { move = move; change = c; txs = txs; book = book } record {
        others = longer-other u x p;
        object_is = λ h. inr record { clean = clean; placed = first-placed; content = first-content };
        ownership = λ h. rw (longer-same u x p) first.ownership;
        unnamed = λ a i inside m own. clean-unnamed y u f n a i x clean c.live inside m;
        given = λ m e q k h given last. absurd (first-given m e q k given last);
      }

-- ---- whatever it decides

decides-known : (y z : RunState) (u : Witness) (f : DataInvariant y u) (n x : ℕ) (g : Gather) (co : Content) → HasGathered y.system n x g co
    → MovesAlone y z n (decided_node (y.system.node n) x g.proposal co) nothing → x < length y.system.config.objects → (v : Witness) × DataInvariant z v
decides-known y z u f n x g co has_gathered alone within =
    let ownership : OwnershipInvariant (object y.system x) (u.chain x) = f.ownership x within in
    let d : moves.Decides (object y.system x) (object z.system x) n g = decide_here y.system z.system n x g co (u.chain x) (numbered y u f) ownership has_gathered alone.change in
    elim (keeps_Decides (object y.system x) (object z.system x) (u.chain x) ownership n g d) [
      | inl again ↦ (u, decides-again y z u f n x g.proposal co alone within again)
      | inr first ↦
          let held : IsGather (object y.system x) n g = ownership.gathers n g d.gathered in
          let sent = held.content co has_gathered.content in
          let given = f.entered.given sent.0 x ((object y.system x).epoch n) g.proposal co within (n, sent.1) first.last in
          (with_chains u (longer u x g.proposal), decides-first y z u f n x g.proposal co alone.change within first given.0 given.1 alone.move alone.txs alone.book)
    ]

-- if a node decides a proposal that it gathered, then the invariant stays, with a chain that may be longer
pub decides-invariant : (y z : RunState) (u : Witness) (f : DataInvariant y u) (n x : ℕ) (g : Gather) (co : Content) → HasGathered y.system n x g co
    → MovesAlone y z n (decided_node (y.system.node n) x g.proposal co) nothing → (v : Witness) × DataInvariant z v
decides-invariant y z u f n x g co has_gathered alone =
    elim (cases_lt x (length y.system.config.objects)) [
      | inl within ↦ decides-known y z u f n x g co has_gathered alone within
      | inr out ↦ (
        u,
        decides-with y z u f n x g.proposal co u.chain alone record {
          others = λ w other. refl;
          object_is = λ h. absurd (omega (arith, h, out));
          ownership = λ h. absurd (omega (arith, h, out));
          unnamed = λ a i inside m own. let h = pending-within y u f n a i x inside m in omega (arith, h, out);
          given = λ m e q k h given last. absurd (omega (arith, h, out));
        },
      )
    ]
