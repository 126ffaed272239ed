-- A node that settles a decided placement keeps what holds of a run.
use Rattle.std.specs.Prelude.{ℕ, ◌≡◌, ◌<◌, ◌≤◌, true, List, length, Option, None}
use Rattle.std.proofs.Common.{arith, refl, sym, ap, subst, ◌∙◌, inl, inr, le_refl}
use Rattle.std.proofs.lemmas.Bool.{cases_Bool}
use Rattle.zeus_base.specs.Order.{is_below}
use Rattle.zeus_base.specs.declared.order.Stamp.{Stamp}
use Rattle.zeus_packet.specs.declared.place.Place.{Place}
use Rattle.zeus_model.specs.Tables.{nth}
use Rattle.zeus_model.specs.State.{Node, entry, owns}
use Rattle.zeus_model.specs.Ownership.{settle}
use Rattle.zeus_model.specs.declared.state.Copy.{Copy}
use Rattle.zeus_model.specs.declared.state.Entry.{Entry}
use Rattle.machine_moves.specs.SystemState.{IsLive, nothing}
use Rattle.ownership_safety.specs.Object.{IsOwner, chain_stamp}
use Rattle.ownership_safety.specs.OwnershipInvariant.{OwnershipInvariant, IsDecided}
use Rattle.ownership_safety.proofs.Chain.{stamp_at-less}
use Rattle.ownership_safety.proofs.Owner.{owner-stamp}
use Rattle.invariants.specs.Objects.{object}
use Rattle.invariants.proofs.AboutObjects.{object-entry}
use Rattle.invariants.proofs.Frames.{settle-entry, settle-away}
use Rattle.invariants.proofs.ObjectKeeps.{sees_move as object_sees_move}
use Rattle.invariants.proofs.ObjectSeen.{HearsDecided, same_or_not}
use Rattle.invariants.proofs.ObjectSteps.{settling-decided}
use Rattle.data_safety.specs.RunState.{RunState, Witness}
use Rattle.data_safety.specs.DataInvariant.{DataInvariant}
use Rattle.data_safety.proofs.Consequences.{numbered}
use Rattle.data_safety.proofs.history.Running.{owns-owner}
use Rattle.data_safety.proofs.ownership.StreamsUnchanged.{SameRows, same-rows}
use Rattle.data_safety.proofs.ownership.OwnershipMoves.{MovesAlone, still-ownership, given-before, changed-frame, changed-rows, changed-low, changed-owned, changed-copies, low-before, framed-invariant}
use Rattle.data_safety.proofs.ownership.OwnershipProposals.{pending-within}

-- a node that keeps its number, its copies and its streams
pub record SameTables (before after : Node) : Type 0 where
  pub me : after.me ≡ before.me
  pub copies : after.copies ≡ before.copies
  pub slots : after.slots ≡ before.slots
  pub logs : after.logs ≡ before.logs

-- settling keeps a node's number, copies and streams
pub settle-tables : (n : Node) (x : ℕ) (stamp : Stamp) (place : Place) → SameTables n (settle n x stamp place)
unfolding settle
settle-tables n x stamp place = elim (cases_Bool (is_below (entry n x).stamp stamp)) [
  | inl above ↦ rw above record { me = refl; copies = refl; slots = refl; logs = refl }
  | inr not_above ↦ rw not_above record { me = refl; copies = refl; slots = refl; logs = refl }
]

-- an owner's settled stamp is below no decided one
pub owner-top : (y : RunState) (u : Witness) (f : DataInvariant y u) (n x : ℕ) (stamp : Stamp) → x < length y.system.config.objects → IsLive y.system n → owns (y.system.node n) x ≡ true
    → stamp.ver ≤ length (u.chain x) → stamp ≡ chain_stamp (u.chain x) stamp.ver → is_below (entry (y.system.node n) x).stamp stamp ≡ true → ⊥
owner-top y u f n x stamp within live own ver is above =
    let o = object y.system x in
    let ownership : OwnershipInvariant o (u.chain x) = f.ownership x within in
    let owner : IsOwner o n = owns-owner y u f n x live own in
    let here_is : o.entry n ≡ entry (y.system.node n) x = object-entry y.system x n (f.steady.nodes n live).within in
    let last : (entry (y.system.node n) x).stamp ≡ chain_stamp (u.chain x) (length (u.chain x)) = ap (λ (e : Entry). e.stamp) (sym here_is) ∙ owner-stamp o (u.chain x) ownership n owner in
    let under : is_below (chain_stamp (u.chain x) (length (u.chain x))) (chain_stamp (u.chain x) stamp.ver) ≡ true = between _ _ _ _ last is above in
    omega (arith, ver, stamp_at-less o (u.chain x) ownership (length (u.chain x)) stamp.ver (le_refl (length (u.chain x))) ver under)
  where
    between : (a b c d : Stamp) → a ≡ c → b ≡ d → is_below a b ≡ true → is_below c d ≡ true
    between a b c d e g h = rw (e, g) at h

-- if a node settles a placement that it was told, then the invariant stays
pub settles-invariant : (y z : RunState) (u : Witness) (f : DataInvariant y u) (n x : ℕ) (heard : HearsDecided y.system n x)
    → MovesAlone y z n (settle (y.system.node n) x heard.stamp heard.place) nothing → DataInvariant z u
unfolding owns
settles-invariant y z u f n x heard alone =
    framed-invariant y z u u.chain f (changed-frame y z u f n (settle (y.system.node n) x heard.stamp heard.place) nothing alone rows)
    (changed-rows y.system z.system n (settle (y.system.node n) x heard.stamp heard.place) nothing alone.change rows) alone.move
    (λ w within. inl (changed-copies y z u n w (settle (y.system.node n) x heard.stamp heard.place) nothing alone.change (ap (λ (k : List (Option Copy)). nth None k w) same.copies)))
    (λ w within. still-ownership (object y.system w) (object z.system w) (u.chain w) (f.ownership w within)
    (changed-low y z u f n w (settle (y.system.node n) x heard.stamp heard.place) nothing alone.change within (low w within))
    (object_sees_move y.system z.system w (u.chain w) (numbered y u f) (f.ownership w within) alone.move))
    (changed-owned y z n (settle (y.system.node n) x heard.stamp heard.place) nothing alone.change record {
      owned = λ a i w inside m own. elim (same_or_not x w) [
        | inl here_now ↦ absurd (none w (pending-within y u f n a i w inside m) here_now own)
        | inr other ↦ rw ((settle-away (y.system.node n) x w heard.stamp heard.place other).entry, same.me) own
      ];
    })
    (λ m w e p k within given last. f.entered.given m w e p k within (given-before y.system z.system w nothing alone.change.sends (λ l2 from to e2 p2 k2 no i. no) m e p k given) last)
  where
    same : SameTables (y.system.node n) (settle (y.system.node n) x heard.stamp heard.place)
    same = settle-tables (y.system.node n) x heard.stamp heard.place

    rows : SameRows (y.system.node n) (settle (y.system.node n) x heard.stamp heard.place)
    rows = same-rows (y.system.node n) (settle (y.system.node n) x heard.stamp heard.place) same.slots same.logs

    decided : x < length y.system.config.objects → IsDecided (object y.system x) (u.chain x) heard.stamp heard.place
    decided within = settling-decided y.system x (u.chain x) heard.stamp heard.place heard.letter (f.ownership x within) heard.receivable.2 heard.settling

    low_here : (w : ℕ) → w < length y.system.config.objects → x ≡ w → (entry (settle (y.system.node n) x heard.stamp heard.place) w).stamp.ver ≤ length (u.chain w)
    low_here w within here_now =
        let in_x : x < length y.system.config.objects = rw here_now within in
        let at_x : (entry (settle (y.system.node n) x heard.stamp heard.place) x).stamp.ver ≤ length (u.chain x) = rw (settle-entry (y.system.node n) x heard.stamp heard.place heard.above) (decided in_x).ver in
        subst (λ (v : ℕ). (entry (settle (y.system.node n) x heard.stamp heard.place) v).stamp.ver ≤ length (u.chain v)) here_now at_x

    low : (w : ℕ) → w < length y.system.config.objects → (entry (settle (y.system.node n) x heard.stamp heard.place) w).stamp.ver ≤ length (u.chain w)
    low w within = elim (same_or_not x w) [
      | inl here_now ↦ low_here w within here_now
      | inr other ↦ rw ((settle-away (y.system.node n) x w heard.stamp heard.place other).entry) (low-before y u f n w alone.change.live within)
    ]

    none : (w : ℕ) → w < length y.system.config.objects → x ≡ w → owns (y.system.node n) w ≡ true → ⊥
    none w within here_now own =
        let in_x : x < length y.system.config.objects = rw here_now within in
        let own_x : owns (y.system.node n) x ≡ true = rw here_now own in
        owner-top y u f n x heard.stamp in_x alone.change.live own_x (decided in_x).ver (decided in_x).stamp heard.above
