-- What letters say of an object, and how a change of a system looks to it.
use Rattle.std.specs.Prelude.{ℕ, ◌≡◌, ◌==◌, ◌<◌, List, [], ◌∷◌, Option}
use Rattle.std.proofs.Common.{arith, refl, inl, inr, subst}
use Rattle.std.proofs.lemmas.Bool.{lt-ltb, eq-eqb, cases_Bool}
use Rattle.std.proofs.lemmas.Bool.Decides.{nat_tests}
use Rattle.zeus_base.specs.declared.order.Stamp.{Stamp}
use Rattle.zeus_packet.specs.declared.letter.Body.TheVariants.{OInv, OAck, OVal}
use Rattle.zeus_packet.specs.declared.letter.Letter.{Letter}
use Rattle.zeus_packet.specs.declared.place.Place.{Place}
use Rattle.zeus_packet.specs.declared.place.Proposal.{Proposal}
use Rattle.zeus_packet.specs.declared.write.Content.{Content}
use Rattle.zeus_model.specs.In.{In, here, there}
use Rattle.zeus_model.specs.State.{entry, gather}
use Rattle.zeus_model.specs.InLaws.{In-append_left, In-append_right, In-append}
use Rattle.machine_moves.specs.SystemState.{SystemState, Sends}
use Rattle.ownership_safety.specs.Object.{Invalidates, Acknowledges, Validates, Letter as Said}
use Rattle.ownership_safety.specs.Moves as moves
use Rattle.invariants.specs.Objects.{object, about, said_of, only_about}

-- what a letter says of the object
abbrev pub says : ℕ → Letter → List Said
says x l = said_of x l.from l.to l.epoch l.body

-- ---- letters and what they say

-- if a letter is among letters, then what it says of an object is among what they say of it
pub about-in : (x : ℕ) (m : Said) (l : Letter) (ls : List Letter) → In l ls → In m (says x l) → In m (about x ls)
unfolding about
about-in x m l [] i s = elim i [ ]
about-in x m l (k ∷ ks) (here _ _ e) s = In-append_left m (says x k) (about x ks) (subst (λ (z : Letter). In m (says x z)) e s)
about-in x m l (k ∷ ks) (there _ _ i) s = In-append_right m (says x k) (about x ks) (about-in x m l ks i s)

-- what letters say of an object is said by one of them
pub about-from : (x : ℕ) (m : Said) (ls : List Letter) → In m (about x ls) → (l : Letter) × In l ls × In m (says x l)
unfolding about
about-from x m [] i = elim i [ ]
about-from x m (k ∷ ks) i =
    elim (In-append m (says x k) (about x ks) i) [
      | inl s ↦ (k, here k ks refl, s)
      | inr r ↦ let found : (l : Letter) × In l ks × In m (says x l) = about-from x m ks r in (found.0, there k ks found.1, found.2)
    ]

only_about-same : (x : ℕ) (m : Said) → In m (only_about x x m)
unfolding only_about
only_about-same x m = rw (eq-eqb x x refl) (here m [] refl)

-- a proposal that is sent to be held says its invalidation of its object
pub says-oinv : (x from to e : ℕ) (p : Proposal) → In (Invalidates from to e p) (says x record { from = from; to = to; epoch = e; body = OInv x p })
unfolding said_of
says-oinv x from to e p = only_about-same x (Invalidates from to e p)

-- an acknowledgement of a proposal says so of its object
pub says-oack : (x from to e : ℕ) (p : Proposal) (c : Option Content)
    → In (Acknowledges from to e p c) (says x record { from = from; to = to; epoch = e; body = OAck x p c })
unfolding said_of
says-oack x from to e p c = only_about-same x (Acknowledges from to e p c)

-- the word of a settled placement says so of its object
pub says-oval : (x from to e : ℕ) (t : Stamp) (p : Place) → In (Validates t p) (says x record { from = from; to = to; epoch = e; body = OVal x t p })
unfolding said_of
says-oval x from to e t p = only_about-same x (Validates t p)

-- what is in a list of one element is that element
pub In-one : {A : Type 0} (a b : A) → In a (b ∷ []) → a ≡ b
In-one a b (here _ _ e) = e
In-one a b (there _ _ i) = elim i [ ]

-- only a letter about the object itself says something of it
pub only_about-from : (x y : ℕ) (m l : Said) → In m (only_about x y l) → (y ≡ x) × (m ≡ l)
unfolding only_about
only_about-from x y m l i =
    elim (cases_Bool (y == x)) [
      | inl same ↦ let e : y ≡ x = grind (arith, nat_tests) in (e, In-one m l (rw same at i))
      | inr other ↦ let none : In m [] = rw other at i in elim none [ ]
    ]

-- ---- how a change of a system looks to an object

-- for a node of the configuration the object's entry is the one that the node has
pub object-entry : (s : SystemState) (x n : ℕ) → n < s.config.nodes → (object s x).entry n ≡ entry (s.node n) x
unfolding object
object-entry s x n h = rw (lt-ltb n s.config.nodes h) refl

-- for a node of the configuration the object's gather is the one that the node has
pub object-gather : (s : SystemState) (x n : ℕ) → n < s.config.nodes → (object s x).gather n ≡ gather (s.node n) x
unfolding object
object-gather s x n h = rw (lt-ltb n s.config.nodes h) refl

-- the letters of a system as the object sees them
pub sends_object : (old new : SystemState) (x : ℕ) (allowed : Letter → Type 0) (heard : Said → Type 0)
    → Sends old new allowed → ((l : Letter) (m : Said) → allowed l → In m (says x l) → heard m)
    → moves.Sends (object old x) (object new x) heard
unfolding object
sends_object old new x allowed heard sends hears = record {
  kept = λ m i.
      let found : (l : Letter) × In l old.letters × In m (says x l) = about-from x m old.letters i in
      about-in x m found.0 new.letters (sends.stay found.0 found.1) found.2;
  only = λ m i.
      let found : (l : Letter) × In l new.letters × In m (says x l) = about-from x m new.letters i in
      elim (sends.only found.0 found.1) [
        | inl before ↦ inl (about-in x m found.0 old.letters before found.2)
        | inr new_one ↦ inr (hears found.0 m new_one found.2)
      ];
}
