-- The fields that several letters have: what was read was written so, and keeps its range.
use Rattle.std.proofs.Common.{◌≡◌, ℕ, zero, suc, ◌^◌, ◌<◌, Bool, true, false, ◌&&◌, nat_lt, nat_le, List, [], ◌∷◌, Option, Ok, refl, arith}
use Rattle.std.proofs.lemmas.Bool.Decides.{nat_tests}
use Rattle.zeus_base.specs.Bits.{nodes_of}
use Rattle.zeus_base.specs.Nodes.{has}
use Rattle.zeus_base.specs.declared.config.Limits.{Limits}
use Rattle.zeus_base.specs.declared.order.Stamp.{Stamp}
use Rattle.zeus_base.specs.declared.order.Stream.{Stream}
use Rattle.zeus_packet.specs.Fits.{nodes_fit, object_fits, place_fits, proposal_fits, stamp_fits, stream_fits, want_fits}
use Rattle.zeus_packet.specs.declared.place.Place.{Place}
use Rattle.zeus_packet.specs.declared.place.Proposal.{Proposal}
use Rattle.zeus_packet.specs.declared.place.Want.{Want}
use Rattle.zeus_packet.specs.declared.place.Want.TheVariants.{Own, Read, Leave}
use Rattle.zeus_wire.specs.Ranges.{AreBytes, IsProposal, IsSet}
use Rattle.zeus_model.specs.PacketSpelling.{place_bytes, proposal_bytes, set_bytes, stamp_bytes, stream_bytes, u16_bytes, wish_bytes}
use Rattle.zeus_wire.specs.Reading.{any_set_at, has_leaver, leaver_of, may_own, node_at, object_at, place_at, proposal_at, set_at, slot_at, stamp_at, stream_at, u16_at, u8_at, want_at, want_of}
use Rattle.zeus_wire.proofs.Booleans.{both_true}
use Rattle.zeus_wire.proofs.Sets.{set_of_byte}
use Rattle.zeus_wire.proofs.Fields.{has_wish}
use Rattle.zeus_wire.proofs.Found.{Took, took_both, and_then_ok, checked_ok, gives_ok, u8_found, u16_found, u64_found}

-- a node that was read was written so, and keeps its range
pub node_found : (limits : Limits) (bytes : List ℕ) (y : ℕ × List ℕ) → AreBytes bytes → node_at limits bytes ≡ Ok y → Took bytes (y.0 ∷ []) y.1 × (nat_lt y.0 limits.nodes ≡ true)
unfolding node_at
node_found limits bytes y are e =
    let c = checked_ok (λ n. nat_lt n limits.nodes) u8_at bytes y e in
    ((u8_found bytes y are c.0).0, c.1)

-- a slot that was read was written so, and keeps its range
pub slot_found : (limits : Limits) (bytes : List ℕ) (y : ℕ × List ℕ) → AreBytes bytes → slot_at limits bytes ≡ Ok y → Took bytes (y.0 ∷ []) y.1 × (nat_lt y.0 limits.slots ≡ true)
unfolding slot_at
slot_found limits bytes y are e =
    let c = checked_ok (λ s. nat_lt s limits.slots) u8_at bytes y e in
    ((u8_found bytes y are c.0).0, c.1)

-- an object that was read was written so, and keeps its range
pub object_found : (limits : Limits) (bytes : List ℕ) (y : ℕ × List ℕ) → AreBytes bytes → object_at limits bytes ≡ Ok y → Took bytes (u16_bytes y.0) y.1 × (object_fits limits y.0 ≡ true)
unfolding object_at object_fits
object_found limits bytes y are e =
    let c = checked_ok (λ x. nat_lt x limits.objects) u16_at bytes y e in
    ((u16_found bytes y are c.0).0, c.1)

any_set_found : (bytes : List ℕ) (y : List ℕ × List ℕ) → AreBytes bytes → any_set_at bytes ≡ Ok y → Took bytes (set_bytes y.0) y.1 × IsSet y.0
unfolding any_set_at set_bytes
any_set_found bytes y are e =
    let a = and_then_ok _ _ _ e in
    let byte = u8_found bytes a.0 are a.1 in
    let made : y ≡ (nodes_of a.0.0, a.0.1) = gives_ok (nodes_of a.0.0) a.0.1 y a.2 in
    let set = set_of_byte a.0.0 (nodes_of a.0.0) refl (omega (arith, byte.1)) in
    rw made (rw set.1 byte.0, set.0)

-- a set of nodes that was read was written so, and keeps its range
pub set_found : (limits : Limits) (bytes : List ℕ) (y : List ℕ × List ℕ) → AreBytes bytes → set_at limits bytes ≡ Ok y → Took bytes (set_bytes y.0) y.1 × IsSet y.0 × (nodes_fit limits y.0 ≡ true)
unfolding set_at
set_found limits bytes y are e =
    let c = checked_ok (nodes_fit limits) any_set_at bytes y e in
    let set = any_set_found bytes y are c.0 in
    (set.0, set.1, c.1)

-- a stream that was read was written so, and keeps its range
pub stream_found : (limits : Limits) (bytes : List ℕ) (y : Stream × List ℕ) → AreBytes bytes → stream_at limits bytes ≡ Ok y → Took bytes (stream_bytes y.0) y.1 × (stream_fits limits y.0 ≡ true)
unfolding stream_at stream_bytes stream_fits
stream_found limits bytes y are e =
    let a = and_then_ok _ _ _ e in
    let b = and_then_ok _ _ _ a.2 in
    let node = node_found limits bytes a.0 are a.1 in
    let slot = slot_found limits a.0.1 b.0 node.0.left b.1 in
    rw (gives_ok _ _ _ b.2) (took_both _ _ _ _ _ node.0 slot.0, rw (node.1, slot.1) refl)

-- a stamp that was read was written so, and keeps its range
pub stamp_found : (limits : Limits) (bytes : List ℕ) (y : Stamp × List ℕ) → AreBytes bytes → stamp_at limits bytes ≡ Ok y → Took bytes (stamp_bytes y.0) y.1 × (y.0.ver < 2 ^ 64) × (stamp_fits limits y.0 ≡ true)
unfolding stamp_at stamp_bytes stamp_fits
stamp_found limits bytes y are e =
    let a = and_then_ok _ _ _ e in
    let b = and_then_ok _ _ _ a.2 in
    let ver = u64_found bytes a.0 are a.1 in
    let driver = node_found limits a.0.1 b.0 ver.0.left b.1 in
    rw (gives_ok _ _ _ b.2) (took_both _ _ _ _ _ ver.0 driver.0, ver.1, driver.1)

-- a placement that was read was written so, and keeps its range
pub place_found : (limits : Limits) (leaver : Option ℕ) (bytes : List ℕ) (y : Place × List ℕ) → AreBytes bytes → place_at limits leaver bytes ≡ Ok y
    → Took bytes (place_bytes y.0) y.1 × IsSet y.0.replicas × (place_fits limits y.0 ≡ true) × (may_own leaver y.0.owner ≡ true) × (has_leaver leaver y.0.replicas ≡ true)
unfolding place_at place_bytes place_fits
place_found limits leaver bytes y are e =
    let a = and_then_ok _ _ _ e in
    let b = and_then_ok _ _ _ a.2 in
    let owned = checked_ok (may_own leaver) (node_at limits) bytes a.0 a.1 in
    let owner = node_found limits bytes a.0 are owned.0 in
    let held = checked_ok (λ ns. has a.0.0 ns && has_leaver leaver ns) (set_at limits) a.0.1 b.0 b.1 in
    let replicas = set_found limits a.0.1 b.0 owner.0.left held.0 in
    let both = both_true (has a.0.0 b.0.0) (has_leaver leaver b.0.0) held.1 in
    rw (gives_ok _ _ _ b.2) (took_both _ _ _ _ _ owner.0 replicas.0, replicas.1, rw (owner.1, replicas.2, both.0) refl, owned.1, both.1)

wish_fits : (want : Want) (requester : ℕ) (base : Place) → may_own (leaver_of want requester) base.owner ≡ true → has_leaver (leaver_of want requester) base.replicas ≡ true → want_fits want requester base ≡ true
unfolding want_fits may_own has_leaver leaver_of
wish_fits Own requester base own leaves = refl
wish_fits Read requester base own leaves = refl
wish_fits Leave requester base own leaves = rw (own, leaves) refl

-- a proposal that was read was written so, and keeps its range
pub proposal_found : (limits : Limits) (want : Want) (bytes : List ℕ) (y : Proposal × List ℕ) → AreBytes bytes → proposal_at limits want bytes ≡ Ok y
    → Took bytes (proposal_bytes y.0) y.1 × IsProposal y.0 × (proposal_fits limits y.0 ≡ true) × (y.0.want ≡ want)
unfolding proposal_at proposal_bytes proposal_fits
proposal_found limits want bytes y are e =
    let a = and_then_ok _ _ _ e in
    let b = and_then_ok _ _ _ a.2 in
    let c = and_then_ok _ _ _ b.2 in
    let d = and_then_ok _ _ _ c.2 in
    let stamp = stamp_found limits bytes a.0 are a.1 in
    let requester = node_found limits a.0.1 b.0 stamp.0.left b.1 in
    let base = stamp_found limits b.0.1 c.0 requester.0.left c.1 in
    let place = place_found limits (leaver_of want b.0.0) c.0.1 d.0 base.0.left d.1 in
    let wish = wish_fits want b.0.0 d.0.0 place.3 place.4 in
    rw (gives_ok _ _ _ d.2) (
      took_both _ _ _ _ _ stamp.0 (took_both _ _ _ _ _ requester.0 (took_both _ _ _ _ _ base.0 place.0)),
      record { stamp = stamp.1; base = base.1; replicas = place.1 },
      rw (stamp.2, requester.1, base.2, place.2, wish) refl,
      refl,
    )

test_want : (byte : ℕ) → (nat_le 1 byte && nat_le byte 2) ≡ true → (byte ∷ [] ≡ wish_bytes (want_of byte)) × (has_wish (want_of byte) ≡ true)
unfolding want_of wish_bytes has_wish
test_want zero h = absurd cc
test_want (suc zero) h = (refl, refl)
test_want (suc (suc zero)) h = (refl, refl)
test_want (suc (suc (suc n))) h = absurd (grind (arith, nat_tests))

-- a wish that was read was written so, and keeps its range
pub want_found : (wishes : Bool) (bytes : List ℕ) (y : Want × List ℕ) → AreBytes bytes → want_at wishes bytes ≡ Ok y → Took bytes (wish_bytes y.0) y.1 × (has_wish y.0 ≡ wishes)
unfolding want_at wish_bytes has_wish
want_found false bytes y are e = rw (gives_ok Own bytes y e) (record { parts = refl; left = are }, refl)
want_found true bytes y are e =
    let a = and_then_ok _ _ _ e in
    let c = checked_ok (λ byte. nat_le 1 byte && nat_le byte 2) u8_at bytes a.0 a.1 in
    let byte = u8_found bytes a.0 are c.0 in
    let wish = test_want a.0.0 c.1 in
    rw (gives_ok _ _ _ a.2) (rw (← wish.0) byte.0, wish.1)
