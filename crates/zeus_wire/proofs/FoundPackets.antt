-- A packet that was read was written so, and fits.
use Rattle.std.proofs.Common.{◌≡◌, ℕ, true, nat_le, ◌==◌, List, [], ◌∷◌, ◌++◌, Ok, refl, subst}
use Rattle.std.proofs.lemmas.Bool.{eqb-true}
use Rattle.zeus_base.specs.declared.config.Limits.{Limits}
use Rattle.zeus_packet.specs.Fits.{fits}
use Rattle.zeus_packet.specs.declared.letter.Packet.{Packet}
use Rattle.zeus_wire.specs.Ranges.{AreBytes, IsPacket}
use Rattle.zeus_model.specs.PacketSpelling.{packet_bytes}
use Rattle.zeus_wire.specs.Reading.{packet_at, u8_at, u32_at}
use Rattle.zeus_wire.proofs.Found.{Took, took_both, and_then_ok, checked_ok, gives_ok, u8_found, u32_found}
use Rattle.zeus_wire.proofs.FoundFields.{node_found}
use Rattle.zeus_wire.proofs.FoundBodies.{body_found}

-- a packet that was read was written so, and keeps its range
pub packet_found : (limits : Limits) (bytes : List ℕ) (y : Packet × List ℕ) → AreBytes bytes → packet_at limits bytes ≡ Ok y → Took bytes (packet_bytes limits.version y.0) y.1 × IsPacket y.0 × (fits y.0.letter limits ≡ true)
unfolding packet_at packet_bytes fits
packet_found limits bytes y are e =
    let a = and_then_ok _ _ _ e in
    let b = and_then_ok _ _ _ a.2 in
    let c = and_then_ok _ _ _ b.2 in
    let d = and_then_ok _ _ _ c.2 in
    let f = and_then_ok _ _ _ d.2 in
    let g = and_then_ok _ _ _ f.2 in
    let known = checked_ok (λ v. v == limits.version) u8_at bytes a.0 a.1 in
    let version = u8_found bytes a.0 are known.0 in
    let same : a.0.0 ≡ limits.version = eqb-true a.0.0 limits.version known.1 in
    let number = u32_found a.0.1 b.0 version.0.left b.1 in
    let from = node_found limits b.0.1 c.0 number.0.left c.1 in
    let to = node_found limits c.0.1 d.0 from.0.left d.1 in
    let begun = checked_ok (λ e. nat_le 1 e) u32_at d.0.1 f.0 f.1 in
    let epoch = u32_found d.0.1 f.0 to.0.left begun.0 in
    let body = body_found limits f.0.1 g.0 epoch.0.left g.1 in
    let first : Took bytes (limits.version ∷ []) a.0.1 = subst (λ v. Took bytes (v ∷ []) a.0.1) same version.0 in
    rw (gives_ok _ _ _ g.2) (
      took_both _ _ _ _ _ first (took_both _ _ _ _ _ number.0 (took_both _ _ _ _ _ from.0 (took_both _ _ _ _ _ to.0 (took_both _ _ _ _ _ epoch.0 body.0)))),
      record { number = number.1; epoch = epoch.1; body = body.1 },
      rw (from.1, to.1, begun.1, body.2) refl,
    )

-- what is read is spelled so, and fits
pub one_spelling : (limits : Limits) (bytes : List ℕ) (p : Packet) (rest : List ℕ) → AreBytes bytes → packet_at limits bytes ≡ Ok (p, rest)
    → (bytes ≡ packet_bytes limits.version p ++ rest) × IsPacket p × (fits p.letter limits ≡ true)
one_spelling limits bytes p rest are e =
    let found = packet_found limits bytes (p, rest) are e in
    (found.0.parts, found.1, found.2)
