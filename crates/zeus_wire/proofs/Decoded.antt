-- All of the bytes are one packet: what is decoded is spelled so, and what is spelled so is decoded.
use Rattle.std.proofs.Common.{◌≡◌, ℕ, ◌-◌, ◌≤◌, Bool, true, false, cond, ltb, List, [], ◌++◌, length, Result, Ok, Err, refl, sym, ap, ◌∙◌, arith}
use Rattle.std.specs.Prelude.{IfOk}
use Rattle.std.proofs.lemmas.Bool.{le-ltb, ltb-false}
use Rattle.std.proofs.lemmas.List.{append-nil, nil_from_length, length-append}
use Rattle.zeus_base.specs.declared.config.Limits.{Limits}
use Rattle.zeus_packet.specs.Fits.{fits}
use Rattle.zeus_packet.specs.declared.letter.Packet.{Packet}
use Rattle.zeus_wire.specs.declared.fault.Fault.{Fault}
use Rattle.zeus_wire.specs.declared.fault.WireFault.{WireFault}
use Rattle.zeus_wire.specs.declared.fault.WireFault.TheVariants as wire
use Rattle.zeus_wire.specs.Ranges.{AreBytes, AreLimits, IsPacket}
use Rattle.zeus_model.specs.PacketSpelling.{packet_bytes}
use Rattle.zeus_wire.specs.Reading.{counted, decoded, decoded_front, packet_at, without_rest}
use Rattle.zeus_wire.proofs.Again.{packet_again}
use Rattle.zeus_wire.proofs.FoundPackets.{one_spelling}

-- the packet at the front is read, and how many bytes it has
pub front_again : (limits : Limits) (p : Packet) (rest : List ℕ) → AreLimits limits → IsPacket p → fits p.letter limits ≡ true
    → decoded_front limits (packet_bytes limits.version p ++ rest) ≡ Ok (p, length (packet_bytes limits.version p))
unfolding decoded_front counted
front_again limits p rest are is fit =
    let count : length (packet_bytes limits.version p ++ rest) - length rest ≡ length (packet_bytes limits.version p) = omega (arith, length-append (packet_bytes limits.version p) rest) in
    rw (packet_again limits p rest are is fit, count) refl

-- all of a spelling is decoded as its packet
pub decoded_again : (limits : Limits) (p : Packet) → AreLimits limits → IsPacket p → fits p.letter limits ≡ true → decoded limits (packet_bytes limits.version p) ≡ Ok p
unfolding decoded without_rest
decoded_again limits p are is fit =
    let front : decoded_front limits (packet_bytes limits.version p) ≡ Ok (p, length (packet_bytes limits.version p)) = rw append-nil at (front_again limits p [] are is fit) in
    rw (front, le-ltb (length (packet_bytes limits.version p)) (length (packet_bytes limits.version p)) (omega arith)) refl

test_ok : (b : Bool) (fault : WireFault) (x y : Packet) → cond b (Err fault) (Ok x) ≡ Ok y → (b ≡ false) × (x ≡ y)
test_ok true fault x y e = absurd cc
test_ok false fault x y e = (refl, cc)

-- the packet of a reading that leaves nothing
whole_found : (count : ℕ) (read : Result (Packet × List ℕ) Fault) (p : Packet) → ((x : Packet × List ℕ) → read ≡ Ok x → length x.1 ≤ count) → without_rest count (counted count read) ≡ Ok p → read ≡ Ok (p, [])
unfolding without_rest counted
whole_found count (Ok x) p within e =
    let t = test_ok (ltb (count - length x.1) count) (wire.Extra (count - length x.1)) x.0 p e in
    let most : length x.1 ≤ count = within x refl in
    let none : x.1 ≡ [] = nil_from_length x.1 (omega (arith, ltb-false _ _ t.0)) in
    ap (λ (q : Packet). Ok (q, x.1)) t.1 ∙ ap (λ (rest : List ℕ). Ok (p, rest)) none
whole_found count (Err fault) p within e = absurd cc

-- what was decoded is spelled so, and fits
pub decoded_found : (limits : Limits) (bytes : List ℕ) (p : Packet) → AreBytes bytes → decoded limits bytes ≡ Ok p → (bytes ≡ packet_bytes limits.version p) × (fits p.letter limits ≡ true)
unfolding decoded decoded_front
decoded_found limits bytes p are e =
    let within : (x : Packet × List ℕ) → packet_at limits bytes ≡ Ok x → length x.1 ≤ length bytes = λ x read.
    let found = one_spelling limits bytes x.0 x.1 are read in
    omega (arith, ap length found.0, length-append (packet_bytes limits.version x.0) x.1) in
    let found = one_spelling limits bytes p [] are (whole_found (length bytes) (packet_at limits bytes) p within e) in
    (found.0 ∙ append-nil (packet_bytes limits.version p), found.2)

-- the same of a result that may be a fault
pub is_found : (limits : Limits) (bytes : List ℕ) (r : Result Packet WireFault) → AreBytes bytes → r ≡ decoded limits bytes → IfOk r (λ p. (bytes ≡ packet_bytes limits.version p) × (fits p.letter limits ≡ true))
is_found limits bytes (Ok p) are e = decoded_found limits bytes p are (sym e)
is_found limits bytes (Err fault) are e = tt
