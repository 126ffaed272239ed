-- What each change of a node leaves as it was.
use Rattle.std.specs.Prelude.{ℕ, zero, suc, ◌≡◌, ◌≢◌, Bool, true, false, List, [], ◌∷◌, Option, Some, None, if◌then◌else◌, ◌==◌, nat_lt}
use Rattle.std.proofs.Common.{refl, ap, ◌∙◌, inl, inr}
use Rattle.std.proofs.lemmas.Bool.{cases_Bool}
use Rattle.zeus_base.specs.Order.{is_below}
use Rattle.zeus_base.specs.TableLaws.{nth-put_same, nth-put_other}
use Rattle.zeus_base.specs.declared.order.Stamp.{Stamp}
use Rattle.zeus_base.specs.declared.order.Stream.{Stream}
use Rattle.zeus_packet.specs.declared.place.Place.{Place}
use Rattle.zeus_packet.specs.declared.place.Proposal.{Proposal}
use Rattle.zeus_packet.specs.declared.write.Content.{Content}
use Rattle.zeus_model.specs.Tables.{nth, put}
use Rattle.zeus_model.specs.State.{Node, no_entry, entry, gather, log, with_entry, with_gather}
use Rattle.zeus_model.specs.Commit.{raise}
use Rattle.zeus_model.specs.Membership.{dropped}
use Rattle.zeus_model.specs.Ownership.{settle, settled_entry, gather_above, bring, brought, holding}
use Rattle.zeus_model.specs.declared.state.Gather.{Gather}

-- what a change of a node must leave, for the object to see nothing of it
pub record IsQuiet (before after : Node) (x : ℕ) : Type 0 where
  pub stopped : after.stopped ≡ before.stopped
  pub epoch : after.epoch ≡ before.epoch
  pub entry : entry after x ≡ entry before x
  pub gather : gather after x ≡ gather before x

-- if a stamp is above the settled one, then settling it writes the entry and the gather of that object
pub settle-taken : (n : Node) (x : ℕ) (stamp : Stamp) (place : Place) → is_below (entry n x).stamp stamp ≡ true
    → settle n x stamp place ≡ with_gather (with_entry n x (settled_entry (entry n x) stamp place)) x (gather_above stamp (gather n x))
unfolding settle
settle-taken n x stamp place h = rw h refl

-- if a stamp is above the settled one, then settling it makes the entry the settled one of this stamp and placement
pub settle-entry : (n : Node) (x : ℕ) (stamp : Stamp) (place : Place) → is_below (entry n x).stamp stamp ≡ true
    → entry (settle n x stamp place) x ≡ settled_entry (entry n x) stamp place
settle-entry n x stamp place h = ap (λ (k : Node). entry k x) (settle-taken n x stamp place h) ∙ nth-put_same no_entry n.entries x (settled_entry (entry n x) stamp place)

-- if a stamp is above the settled one, then settling it keeps the gather only if that is above the stamp
pub settle-gather : (n : Node) (x : ℕ) (stamp : Stamp) (place : Place) → is_below (entry n x).stamp stamp ≡ true
    → gather (settle n x stamp place) x ≡ gather_above stamp (gather n x)
settle-gather n x stamp place h = ap (λ (k : Node). gather k x) (settle-taken n x stamp place h) ∙ nth-put_same None n.gathers x (gather_above stamp (gather n x))

-- settling leaves whether the node is stopped
pub settle-stopped : (n : Node) (x : ℕ) (stamp : Stamp) (place : Place) → (settle n x stamp place).stopped ≡ n.stopped
unfolding settle
settle-stopped n x stamp place = elim (is_below (entry n x).stamp stamp) as (λ (b : Bool). (if b then with_gather (with_entry n x (settled_entry (entry n x) stamp place)) x (gather_above stamp (gather n x)) else n).stopped ≡ n.stopped) [ true ↦ refl | false ↦ refl ]

-- settling leaves the node's epoch
pub settle-epoch : (n : Node) (x : ℕ) (stamp : Stamp) (place : Place) → (settle n x stamp place).epoch ≡ n.epoch
unfolding settle
settle-epoch n x stamp place = elim (is_below (entry n x).stamp stamp) as (λ (b : Bool). (if b then with_gather (with_entry n x (settled_entry (entry n x) stamp place)) x (gather_above stamp (gather n x)) else n).epoch ≡ n.epoch) [ true ↦ refl | false ↦ refl ]

-- settling one object is quiet for each other one
pub settle-other : (n : Node) (x y : ℕ) (stamp : Stamp) (place : Place) → is_below (entry n x).stamp stamp ≡ true → x ≢ y
    → IsQuiet n (settle n x stamp place) y
settle-other n x y stamp place h ne = record {
  stopped = settle-stopped n x stamp place;
  epoch = settle-epoch n x stamp place;
  entry = ap (λ (k : Node). entry k y) (settle-taken n x stamp place h) ∙ nth-put_other no_entry n.entries x y (settled_entry (entry n x) stamp place) ne;
  gather = ap (λ (k : Node). gather k y) (settle-taken n x stamp place h) ∙ nth-put_other None n.gathers x y (gather_above stamp (gather n x)) ne;
}

settle-not : (n : Node) (x : ℕ) (stamp : Stamp) (place : Place) → is_below (entry n x).stamp stamp ≡ false → settle n x stamp place ≡ n
unfolding settle
settle-not n x stamp place h = rw h refl

-- whether or not it settles, another object sees nothing
pub settle-away : (n : Node) (x y : ℕ) (stamp : Stamp) (place : Place) → x ≢ y → IsQuiet n (settle n x stamp place) y
settle-away n x y stamp place ne =
    elim (cases_Bool (is_below (entry n x).stamp stamp)) [
      | inl above ↦ settle-other n x y stamp place above ne
      | inr not_above ↦ rw (settle-not n x stamp place not_above) record { stopped = refl; epoch = refl; entry = refl; gather = refl }
    ]

-- a node that holds a proposal keeps the settled stamp and placement
pub holding-entry : (n : Node) (x : ℕ) (p : Proposal)
    → entry (holding n x p) x ≡ record { stamp = (entry n x).stamp; place = (entry n x).place; proposal = Some p }
holding-entry n x p = nth-put_same no_entry n.entries x record { stamp = (entry n x).stamp; place = (entry n x).place; proposal = Some p }

-- holding a proposal for one object is quiet for each other one
pub holding-other : (n : Node) (x y : ℕ) (p : Proposal) → x ≢ y → IsQuiet n (holding n x p) y
holding-other n x y p ne = record {
  stopped = refl;
  epoch = refl;
  entry = nth-put_other no_entry n.entries x y record { stamp = (entry n x).stamp; place = (entry n x).place; proposal = Some p } ne;
  gather = refl;
}

-- writing the gather of one object is quiet for each other one
pub with_gather-other : (n : Node) (x y : ℕ) (g : Option Gather) → x ≢ y → IsQuiet n (with_gather n x g) y
with_gather-other n x y g ne = record { stopped = refl; epoch = refl; entry = refl; gather = nth-put_other None n.gathers x y g ne }

-- what is brought to the requester is a copy alone
pub bring-quiet : (n : Node) (x y : ℕ) (p : Proposal) (c : Content) → IsQuiet n (bring n x p c) y
unfolding bring
bring-quiet n x y p c =
    elim (p.requester == n.me) as (λ (b : Bool). IsQuiet n (if b then record n { copies = put None n.copies x (brought p.want c) } else n) y) [
      | true ↦ record { stopped = refl; epoch = refl; entry = refl; gather = refl }
      | false ↦ record { stopped = refl; epoch = refl; entry = refl; gather = refl }
    ]

-- raising the count of a stream is quiet for every object
pub raise-quiet : (n : Node) (s : Stream) (d y : ℕ) → IsQuiet n (raise n s d) y
unfolding raise
raise-quiet n s d y = elim (cases_Bool (nat_lt (log n s).done d)) [
  | inl above ↦ rw above record { stopped = refl; epoch = refl; entry = refl; gather = refl }
  | inr not_above ↦ rw not_above record { stopped = refl; epoch = refl; entry = refl; gather = refl }
]

-- two changes that are quiet for an object are quiet for it together
pub quiet-then : (a b c : Node) (y : ℕ) → IsQuiet a b y → IsQuiet b c y → IsQuiet a c y
quiet-then a b c y f g = record {
  stopped = g.stopped ∙ f.stopped;
  epoch = g.epoch ∙ f.epoch;
  entry = g.entry ∙ f.entry;
  gather = g.gather ∙ f.gather;
}

-- once all gathers are dropped, no object has one
pub dropped-none : (gs : List (Option Gather)) (x : ℕ) → nth None (dropped gs) x ≡ None
unfolding nth dropped
dropped-none [] x = refl
dropped-none (g ∷ gs) zero = refl
dropped-none (g ∷ gs) (suc x) = dropped-none gs x
