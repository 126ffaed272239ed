-- A packet that was written is read again from the front of any bytes, and so no spelling begins another.
use Rattle.std.proofs.Common.{◌≡◌, ℕ, true, nat_lt, nat_le, List, ◌∷◌, ◌++◌, Result, Ok, refl, ap, ◌∙◌, append_assoc, arith}
use Rattle.std.proofs.lemmas.Bool.{eq-eqb}
use Rattle.zeus_base.specs.declared.config.Limits.{Limits}
use Rattle.zeus_packet.specs.Fits.{body_fits, fits}
use Rattle.zeus_packet.specs.declared.letter.Packet.{Packet}
use Rattle.zeus_wire.specs.declared.fault.Fault.{Fault}
use Rattle.zeus_wire.specs.Ranges.{AreLimits, IsPacket}
use Rattle.zeus_model.specs.PacketSpelling.{body_bytes, packet_bytes, u32_bytes}
use Rattle.zeus_wire.specs.Reading.{and_then, packet_at}
use Rattle.zeus_wire.proofs.Numbers.{u32_again, u8_again}
use Rattle.zeus_wire.proofs.Fields.{node_again}
use Rattle.zeus_wire.proofs.Bodies.{body_again}

-- a packet that was written is read again
pub packet_again : (limits : Limits) (p : Packet) (rest : List ℕ) → AreLimits limits → IsPacket p → fits p.letter limits ≡ true → packet_at limits (packet_bytes limits.version p ++ rest) ≡ Ok (p, rest)
unfolding packet_at packet_bytes fits and_then
packet_again limits p rest are is fit =
    let from : nat_lt p.letter.from limits.nodes ≡ true = grind arith in
    let to : nat_lt p.letter.to limits.nodes ≡ true = grind arith in
    let epoch : nat_le 1 p.letter.epoch ≡ true = grind arith in
    let body : body_fits limits p.letter.body ≡ true = grind arith in
    let last : List ℕ = body_bytes limits.version p.letter.body ++ rest in
    let regrouped : packet_bytes limits.version p ++ rest ≡ limits.version ∷ (u32_bytes p.number ++ (p.letter.from ∷ p.letter.to ∷ (u32_bytes p.letter.epoch ++ (body_bytes limits.version p.letter.body ++ rest)))) = simp append_assoc in
    rw (
      regrouped,
      u8_again limits.version (u32_bytes p.number ++ (p.letter.from ∷ p.letter.to ∷ (u32_bytes p.letter.epoch ++ last))),
      eq-eqb limits.version limits.version refl,
      u32_again p.number (p.letter.from ∷ p.letter.to ∷ (u32_bytes p.letter.epoch ++ last)) is.number,
      node_again limits p.letter.from (p.letter.to ∷ (u32_bytes p.letter.epoch ++ last)) from,
      node_again limits p.letter.to (u32_bytes p.letter.epoch ++ last) to,
      u32_again p.letter.epoch last is.epoch,
      epoch,
      body_again limits p.letter.body rest are is.body body,
    ) refl

one_value : (x y : Packet × List ℕ) (read : Result (Packet × List ℕ) Fault) → read ≡ Ok x → read ≡ Ok y → x ≡ y
one_value x y read first second = cc

one_read : (p q : Packet) (rest more : List ℕ) (read : Result (Packet × List ℕ) Fault) → read ≡ Ok (p, rest) → read ≡ Ok (q, more) → (p ≡ q) × (rest ≡ more)
one_read p q rest more read first second =
    let same : (p, rest) ≡ (q, more) = one_value (p, rest) (q, more) read first second in
    (ap (λ (x : Packet × List ℕ). x.0) same, ap (λ (x : Packet × List ℕ). x.1) same)

-- no spelling begins another
pub no_prefix : (limits : Limits) (p q : Packet) (rest more : List ℕ) → AreLimits limits → IsPacket p → fits p.letter limits ≡ true → IsPacket q → fits q.letter limits ≡ true
    → packet_bytes limits.version p ++ rest ≡ packet_bytes limits.version q ++ more → (p ≡ q) × (rest ≡ more)
no_prefix limits p q rest more are isp fitp isq fitq same =
    one_read p q rest more (packet_at limits (packet_bytes limits.version p ++ rest)) (packet_again limits p rest are isp fitp) (ap (packet_at limits) same ∙ packet_again limits q more are isq fitq)
