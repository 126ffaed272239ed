-- Numbers as bytes: what was written is read again, and what was read was written so.
use Rattle.std.proofs.Common.{◌≡◌, ℕ, ◌^◌, ◌<◌, Bool, true, false, ltb, List, [], ◌∷◌, ◌++◌, length, Ok, refl, arith}
use Rattle.std.specs.Prelude.{get_or}
use Rattle.std.specs.Int.{w16, w32, w64, to_be_bytes}
use Rattle.std.proofs.lemmas.Bool.{le-ltb}
use Rattle.std.proofs.lemmas.List.{take_at, drop_at, length-append}
use Rattle.std.proofs.lemmas.Nat.{from_be_bytes-to_be_bytes_2, from_be_bytes-to_be_bytes_4, from_be_bytes-to_be_bytes_8}
use Rattle.zeus_base.specs.Bits.{bits_of}
use Rattle.zeus_base.specs.declared.order.Stamp.{Stamp}
use Rattle.zeus_packet.specs.declared.place.Proposal.{Proposal}
use Rattle.zeus_model.specs.PacketSpelling.{u16_bytes, u32_bytes, u64_bytes, set_bytes, stamp_bytes, place_bytes, proposal_bytes}
use Rattle.zeus_wire.specs.Reading.{Reader, and_then, checked, bytes_at, u8_at, u16_at, u32_at, u64_at}

-- ---- the bytes of a number, told one by one

-- the four bytes of a number of 32 bits, in front of others
pub four_bytes : (n : ℕ) (bs rest : List ℕ) → bs ≡ to_be_bytes w32 n → get_or bs 0 0 ∷ get_or bs 1 0 ∷ get_or bs 2 0 ∷ get_or bs 3 0 ∷ rest ≡ u32_bytes n ++ rest
unfolding u32_bytes
four_bytes n bs rest is = rw is refl

-- the two bytes of a number of 16 bits, and nothing behind them
pub two_alone : (n : ℕ) (bs : List ℕ) → bs ≡ to_be_bytes w16 n → get_or bs 0 0 ∷ get_or bs 1 0 ∷ [] ≡ u16_bytes n
unfolding u16_bytes
two_alone n bs is = rw is refl

-- the four bytes of a number of 32 bits, and nothing behind them
pub four_alone : (n : ℕ) (bs : List ℕ) → bs ≡ to_be_bytes w32 n → get_or bs 0 0 ∷ get_or bs 1 0 ∷ get_or bs 2 0 ∷ get_or bs 3 0 ∷ [] ≡ u32_bytes n
unfolding u32_bytes
four_alone n bs is = rw is refl

-- the bytes of both versions of a proposal, and those of its nodes
pub proposal_spelled : (p : Proposal) (vs bs : List ℕ) (byte : ℕ) → byte ≡ bits_of p.base_place.replicas → vs ≡ u64_bytes p.stamp.ver → bs ≡ u64_bytes p.base.ver → get_or vs 0 0 ∷ get_or vs 1 0 ∷ get_or vs 2 0 ∷ get_or vs 3 0 ∷ get_or vs 4 0 ∷ get_or vs 5 0 ∷ get_or vs 6 0 ∷ get_or vs 7 0 ∷ p.stamp.driver ∷ p.requester ∷ get_or bs 0 0 ∷ get_or bs 1 0 ∷ get_or bs 2 0 ∷ get_or bs 3 0 ∷ get_or bs 4 0 ∷ get_or bs 5 0 ∷ get_or bs 6 0 ∷ get_or bs 7 0 ∷ p.base.driver ∷ p.base_place.owner ∷ byte ∷ [] ≡ proposal_bytes p
unfolding u64_bytes set_bytes stamp_bytes place_bytes proposal_bytes
proposal_spelled p vs bs byte set stamp base = rw (set, stamp, base) refl

-- the head of a packet: the version, a number, two nodes and an epoch
pub head_spelled : (version number from to epoch : ℕ) (ns es : List ℕ) → ns ≡ to_be_bytes w32 number → es ≡ to_be_bytes w32 epoch → version ∷ get_or ns 0 0 ∷ get_or ns 1 0 ∷ get_or ns 2 0 ∷ get_or ns 3 0 ∷ from ∷ to ∷ get_or es 0 0 ∷ get_or es 1 0 ∷ get_or es 2 0 ∷ get_or es 3 0 ∷ [] ≡ version ∷ (u32_bytes number ++ from ∷ to ∷ u32_bytes epoch)
unfolding u32_bytes
head_spelled version number from to epoch ns es numbered timed = rw (numbered, timed) refl

-- ---- what was written is read again

-- a byte that was written is read again
pub u8_again : (b : ℕ) (rest : List ℕ) → u8_at (b ∷ rest) ≡ Ok (b, rest)
unfolding u8_at
u8_again b rest = refl

-- so many bytes at the front are read again
pub bytes_again : (n : ℕ) (bytes rest : List ℕ) → length bytes ≡ n → bytes_at n (bytes ++ rest) ≡ Ok (bytes, rest)
unfolding bytes_at
bytes_again n bytes rest len =
    let long : ltb (length (bytes ++ rest)) n ≡ false = le-ltb (length (bytes ++ rest)) n (omega (arith, length-append bytes rest)) in
    rw (long, take_at bytes rest n len, drop_at bytes rest n len) refl

-- a number of 16 bits that was written is read again
pub u16_again : (n : ℕ) (rest : List ℕ) → n < 2 ^ 16 → u16_at (u16_bytes n ++ rest) ≡ Ok (n, rest)
unfolding u16_at u16_bytes and_then
u16_again n rest fits = rw (bytes_again 2 (to_be_bytes w16 n) rest refl, from_be_bytes-to_be_bytes_2 n fits) refl

-- a number of 32 bits that was written is read again
pub u32_again : (n : ℕ) (rest : List ℕ) → n < 2 ^ 32 → u32_at (u32_bytes n ++ rest) ≡ Ok (n, rest)
unfolding u32_at u32_bytes and_then
u32_again n rest fits = rw (bytes_again 4 (to_be_bytes w32 n) rest refl, from_be_bytes-to_be_bytes_4 n fits) refl

-- a number of 64 bits that was written is read again
pub u64_again : (n : ℕ) (rest : List ℕ) → n < 2 ^ 64 → u64_at (u64_bytes n ++ rest) ≡ Ok (n, rest)
unfolding u64_at u64_bytes and_then
u64_again n rest fits = rw (bytes_again 8 (to_be_bytes w64 n) rest refl, from_be_bytes-to_be_bytes_8 n fits) refl

-- a field that passes its test is read as without the test
pub checked_again : {A : Type 0} (test : A → Bool) (r : Reader A) (bytes : List ℕ) (x : A) (rest : List ℕ) → r bytes ≡ Ok (x, rest) → test x ≡ true → checked test r bytes ≡ Ok (x, rest)
unfolding and_then
checked_again test r bytes x rest read passes = rw (read, passes) refl
