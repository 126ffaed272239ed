-- What letters say of a stream, and how a change of a system looks to it.
use Rattle.std.specs.Prelude.{ℕ, ◌≡◌, List, [], ◌∷◌}
use Rattle.std.proofs.Common.{refl, inl, inr, subst}
use Rattle.std.proofs.lemmas.Bool.{cases_Bool}
use Rattle.zeus_base.specs.Order.{same_stream}
use Rattle.zeus_base.specs.OrderLaws.{same_stream-true, same_stream-refl}
use Rattle.zeus_base.specs.declared.order.Stream.{Stream}
use Rattle.zeus_packet.specs.declared.letter.Body.TheVariants.{RInv, RAck, RVal, Recovered}
use Rattle.zeus_packet.specs.declared.letter.Letter.{Letter}
use Rattle.zeus_packet.specs.declared.letter.RInv.{RInv as Invalidation}
use Rattle.zeus_model.specs.In.{In, here, there}
use Rattle.zeus_model.specs.InLaws.{In-append_left, In-append_right, In-append}
use Rattle.machine_moves.specs.SystemState.{SystemState, Sends}
use Rattle.replication_safety.specs.StreamState.{Stores, Stored, Passes, Reports, Letter as Said}
use Rattle.replication_safety.specs.Moves as moves
use Rattle.invariants.specs.Streams.{stream_state, about, said_of, only_of}
use Rattle.invariants.proofs.AboutObjects.{In-one}

-- what a letter says of the stream
abbrev pub says : Stream → Letter → List Said
says t l = said_of t l.from l.to l.epoch l.body

-- if a letter is among letters, then what it says of a stream is among what they say of it
pub about-in : (t : Stream) (m : Said) (l : Letter) (ls : List Letter) → In l ls → In m (says t l) → In m (about t ls)
unfolding about
about-in t m l [] i s = elim i [ ]
about-in t m l (k ∷ ks) (here _ _ e) s = In-append_left m (says t k) (about t ks) (subst (λ (z : Letter). In m (says t z)) e s)
about-in t m l (k ∷ ks) (there _ _ i) s = In-append_right m (says t k) (about t ks) (about-in t m l ks i s)

-- what letters say of a stream is said by one of them
pub about-from : (t : Stream) (m : Said) (ls : List Letter) → In m (about t ls) → (l : Letter) × In l ls × In m (says t l)
unfolding about
about-from t m [] i = elim i [ ]
about-from t m (k ∷ ks) i =
    elim (In-append m (says t k) (about t ks) i) [
      | inl s ↦ (k, here k ks refl, s)
      | inr r ↦ let found : (l : Letter) × In l ks × In m (says t l) = about-from t m ks r in (found.0, there k ks found.1, found.2)
    ]

only_of-same : (t : Stream) (m : Said) → In m (only_of t t m)
unfolding only_of
only_of-same t m = rw (same_stream-refl t) (here m [] refl)

-- only a letter about the stream itself says something of it
pub only_of-from : (t u : Stream) (m l : Said) → In m (only_of t u l) → (u ≡ t) × (m ≡ l)
unfolding only_of
only_of-from t u m l i =
    elim (cases_Bool (same_stream u t)) [
      | inl same ↦ (same_stream-true u t same, In-one m l (rw same at i))
      | inr other ↦ let none : In m [] = rw other at i in elim none [ ]
    ]

-- a letter with an entry of the stream says that the entry is to be stored
pub says-rinv : (t : Stream) (from to e : ℕ) (r : Invalidation) → r.stream ≡ t
    → In (Stores from to e r.number r.done record { followers = r.followers; writes = r.writes }) (said_of t from to e (RInv r))
unfolding said_of
says-rinv t from to e r is = rw is (only_of-same t (Stores from to e r.number r.done record { followers = r.followers; writes = r.writes }))

-- an acknowledgement of the stream says that its sender has stored up to the number
pub says-rack : (t : Stream) (from to e k : ℕ) → In (Stored from k) (said_of t from to e (RAck t k))
unfolding said_of
says-rack t from to e k = only_of-same t (Stored from k)

-- the word that entries of the stream have passed says so to its receiver
pub says-rval : (t : Stream) (from to e d : ℕ) → In (Passes to d) (said_of t from to e (RVal t d))
unfolding said_of
says-rval t from to e d = only_of-same t (Passes to d)

-- the word that a node has reported says so of each stream
pub says-recovered : (t : Stream) (from to e : ℕ) → In (Reports from e) (said_of t from to e Recovered)
unfolding said_of
says-recovered t from to e = here (Reports from e) [] refl

-- the letters of a system as the stream sees them
pub sends_stream : (old new : SystemState) (t : Stream) (allowed : Letter → Type 0) (heard : Said → Type 0)
    → Sends old new allowed → ((l : Letter) (m : Said) → allowed l → In m (says t l) → heard m)
    → moves.Sends (stream_state old t) (stream_state new t) heard
unfolding stream_state
sends_stream old new t allowed heard sends hears = record {
  stay = λ m i.
      let found : (l : Letter) × In l old.letters × In m (says t l) = about-from t m old.letters i in
      about-in t m found.0 new.letters (sends.stay found.0 found.1) found.2;
  only = λ m i.
      let found : (l : Letter) × In l new.letters × In m (says t l) = about-from t m new.letters i in
      elim (sends.only found.0 found.1) [
        | inl before ↦ inl (about-in t m found.0 old.letters before found.2)
        | inr new_one ↦ inr (hears found.0 m new_one found.2)
      ];
}
