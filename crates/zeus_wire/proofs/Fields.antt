-- The fields that several letters have: what was written is read again.
use Rattle.std.proofs.Common.{◌≡◌, ℕ, ◌^◌, ◌<◌, ◌≤◌, Bool, true, false, not, nat_lt, ◌==◌, List, [], ◌∷◌, ◌++◌, Option, Ok, refl, append_assoc, arith}
use Rattle.std.proofs.lemmas.Bool.Decides.{nat_tests}
use Rattle.zeus_base.specs.Bits.{bits_of}
use Rattle.zeus_base.specs.Nodes.{has}
use Rattle.zeus_base.specs.declared.config.Limits.{Limits}
use Rattle.zeus_base.specs.declared.order.Stamp.{Stamp}
use Rattle.zeus_base.specs.declared.order.Stream.{Stream}
use Rattle.zeus_packet.specs.Fits.{nodes_fit, object_fits, place_fits, proposal_fits, stamp_fits, stream_fits, want_fits}
use Rattle.zeus_packet.specs.declared.place.Place.{Place}
use Rattle.zeus_packet.specs.declared.place.Proposal.{Proposal}
use Rattle.zeus_packet.specs.declared.place.Want.{Want}
use Rattle.zeus_packet.specs.declared.place.Want.TheVariants.{Own, Read, Leave}
use Rattle.zeus_wire.specs.Ranges.{IsProposal, IsSet}
use Rattle.zeus_model.specs.PacketSpelling.{place_bytes, proposal_bytes, set_bytes, stamp_bytes, stream_bytes, u16_bytes, u64_bytes, wish_bytes}
use Rattle.zeus_wire.specs.Reading.{and_then, any_set_at, has_leaver, leaver_of, may_own, node_at, object_at, place_at, proposal_at, set_at, slot_at, stamp_at, stream_at, u16_at, u8_at, want_at, want_of}
use Rattle.zeus_wire.proofs.Booleans.{both_true}
use Rattle.zeus_wire.proofs.Numbers.{checked_again, u16_again, u64_again, u8_again}

-- a node that was written is read again
pub node_again : (limits : Limits) (n : ℕ) (rest : List ℕ) → nat_lt n limits.nodes ≡ true → node_at limits (n ∷ rest) ≡ Ok (n, rest)
unfolding node_at
node_again limits n rest fits = checked_again (λ n. nat_lt n limits.nodes) u8_at (n ∷ rest) n rest (u8_again n rest) fits

-- a slot that was written is read again
pub slot_again : (limits : Limits) (s : ℕ) (rest : List ℕ) → nat_lt s limits.slots ≡ true → slot_at limits (s ∷ rest) ≡ Ok (s, rest)
unfolding slot_at
slot_again limits s rest fits = checked_again (λ s. nat_lt s limits.slots) u8_at (s ∷ rest) s rest (u8_again s rest) fits

-- an object that was written is read again
pub object_again : (limits : Limits) (x : ℕ) (rest : List ℕ) → limits.objects ≤ 2 ^ 16 → object_fits limits x ≡ true → object_at limits (u16_bytes x ++ rest) ≡ Ok (x, rest)
unfolding object_at object_fits
object_again limits x rest few fits = checked_again (λ x. nat_lt x limits.objects) u16_at (u16_bytes x ++ rest) x rest (u16_again x rest (grind (arith, nat_tests))) fits

-- a set of nodes that was written is read again
pub set_again : (limits : Limits) (ns : List ℕ) (rest : List ℕ) → IsSet ns → nodes_fit limits ns ≡ true → set_at limits (set_bytes ns ++ rest) ≡ Ok (ns, rest)
unfolding set_at any_set_at set_bytes and_then
set_again limits ns rest is fits = rw (u8_again (bits_of ns) rest, is.back, fits) refl

-- a stream that was written is read again
pub stream_again : (limits : Limits) (s : Stream) (rest : List ℕ) → stream_fits limits s ≡ true → stream_at limits (stream_bytes s ++ rest) ≡ Ok (s, rest)
unfolding stream_at stream_bytes stream_fits and_then
stream_again limits s rest fits =
    let node : nat_lt s.node limits.nodes ≡ true = grind arith in
    let slot : nat_lt s.slot limits.slots ≡ true = grind arith in
    rw (node_again limits s.node (s.slot ∷ rest) node, slot_again limits s.slot rest slot) refl

-- a stamp that was written is read again
pub stamp_again : (limits : Limits) (s : Stamp) (rest : List ℕ) → s.ver < 2 ^ 64 → stamp_fits limits s ≡ true → stamp_at limits (stamp_bytes s ++ rest) ≡ Ok (s, rest)
unfolding stamp_at stamp_bytes stamp_fits and_then
stamp_again limits s rest is fits =
    rw (append_assoc (u64_bytes s.ver) (s.driver ∷ []) rest, u64_again s.ver (s.driver ∷ rest) is, node_again limits s.driver rest fits) refl

-- a placement that was written is read again
pub place_again : (limits : Limits) (leaver : Option ℕ) (p : Place) (rest : List ℕ) → IsSet p.replicas → place_fits limits p ≡ true → may_own leaver p.owner ≡ true → has_leaver leaver p.replicas ≡ true
    → place_at limits leaver (place_bytes p ++ rest) ≡ Ok (p, rest)
unfolding place_at place_bytes place_fits and_then
place_again limits leaver p rest is fits own leaves =
    let node : nat_lt p.owner limits.nodes ≡ true = grind arith in
    let nodes : nodes_fit limits p.replicas ≡ true = grind arith in
    let holds : has p.owner p.replicas ≡ true = grind arith in
    rw (node_again limits p.owner (set_bytes p.replicas ++ rest) node, own, set_again limits p.replicas rest is nodes, holds, leaves) refl

may_own_wish : (want : Want) (requester : ℕ) (base : Place) → want_fits want requester base ≡ true → may_own (leaver_of want requester) base.owner ≡ true
unfolding want_fits may_own leaver_of
may_own_wish Own requester base fits = refl
may_own_wish Read requester base fits = refl
may_own_wish Leave requester base fits = (both_true (not (base.owner == requester)) (has requester base.replicas) fits).0

has_wish_leaver : (want : Want) (requester : ℕ) (base : Place) → want_fits want requester base ≡ true → has_leaver (leaver_of want requester) base.replicas ≡ true
unfolding want_fits has_leaver leaver_of
has_wish_leaver Own requester base fits = refl
has_wish_leaver Read requester base fits = refl
has_wish_leaver Leave requester base fits = (both_true (not (base.owner == requester)) (has requester base.replicas) fits).1

-- a proposal that was written is read again
pub proposal_again : (limits : Limits) (p : Proposal) (rest : List ℕ) → IsProposal p → proposal_fits limits p ≡ true → proposal_at limits p.want (proposal_bytes p ++ rest) ≡ Ok (p, rest)
unfolding proposal_at proposal_bytes proposal_fits and_then
proposal_again limits p rest is fits =
    let stamp : stamp_fits limits p.stamp ≡ true = grind arith in
    let requester : nat_lt p.requester limits.nodes ≡ true = grind arith in
    let base : stamp_fits limits p.base ≡ true = grind arith in
    let place : place_fits limits p.base_place ≡ true = grind arith in
    let wish : want_fits p.want p.requester p.base_place ≡ true = grind arith in
    let behind : List ℕ = place_bytes p.base_place ++ rest in
    let regrouped : (stamp_bytes p.stamp ++ (p.requester ∷ stamp_bytes p.base ++ place_bytes p.base_place)) ++ rest ≡ stamp_bytes p.stamp ++ (p.requester ∷ (stamp_bytes p.base ++ (place_bytes p.base_place ++ rest))) = simp append_assoc in
    rw (regrouped, stamp_again limits p.stamp (p.requester ∷ (stamp_bytes p.base ++ behind)) is.stamp stamp, node_again limits p.requester (stamp_bytes p.base ++ behind) requester, stamp_again limits p.base behind is.base base, place_again limits (leaver_of p.want p.requester) p.base_place rest is.replicas place (may_own_wish p.want p.requester p.base_place wish) (has_wish_leaver p.want p.requester p.base_place wish)) refl

-- a wish other than Own has a byte
unfoldable pub has_wish : Want → Bool
has_wish Own = false
has_wish Read = true
has_wish Leave = true

-- a wish that was written is read again
pub want_again : (want : Want) (rest : List ℕ) → want_at (has_wish want) (wish_bytes want ++ rest) ≡ Ok (want, rest)
unfolding want_at want_of wish_bytes has_wish u8_at and_then
want_again Own rest = refl
want_again Read rest = refl
want_again Leave rest = refl
