-- Reading writes one after the other, as a loop does.
use Rattle.std.proofs.Common.{◌≡◌, ℕ, suc, ◌-◌, ◌+◌, ◌≤◌, ◌<◌, List, [], ◌∷◌, ◌++◌, Result, Ok, Err, refl, sym, ◌∙◌, arith}
use Rattle.zeus_base.specs.declared.config.Limits.{Limits}
use Rattle.zeus_packet.specs.declared.write.Write.{Write}
use Rattle.zeus_wire.specs.declared.fault.Fault.{Fault}
use Rattle.zeus_wire.specs.Reading.{and_then, write_at, writes_at}

-- one more write read, and the rest is still the same reading
pub goes_on : (limits : Limits) (count i : ℕ) (before : List Write) (bytes : List ℕ) (w : Write) (rest : List ℕ) (total : Result (List Write × List ℕ) Fault)
    → i < count → write_at limits before bytes ≡ Ok (w, rest) → writes_at limits (count - i) before bytes ≡ total
    → writes_at limits (count - (i + 1)) (before ++ w ∷ []) rest ≡ total
unfolding writes_at and_then
goes_on limits count i before bytes w rest total lt h so_far =
    let k : count - i ≡ suc (count - (i + 1)) = omega arith in
    let one : writes_at limits (count - i) before bytes ≡ writes_at limits (count - (i + 1)) (before ++ w ∷ []) rest = rw (k, h) refl in
    sym one ∙ so_far

-- a fault in a write is the fault of them all
pub ends : (limits : Limits) (count i : ℕ) (before : List Write) (bytes : List ℕ) (fault : Fault) (total : Result (List Write × List ℕ) Fault)
    → i < count → write_at limits before bytes ≡ Err fault → writes_at limits (count - i) before bytes ≡ total → total ≡ Err fault
unfolding writes_at and_then
ends limits count i before bytes fault total lt h so_far =
    let k : count - i ≡ suc (count - (i + 1)) = omega arith in
    let one : writes_at limits (count - i) before bytes ≡ Err fault = rw (k, h) refl in
    sym so_far ∙ one

-- no write is left to be read
pub is_done : (limits : Limits) (count i : ℕ) (before : List Write) (bytes : List ℕ) (total : Result (List Write × List ℕ) Fault)
    → count ≤ i → writes_at limits (count - i) before bytes ≡ total → total ≡ Ok (before, bytes)
unfolding writes_at
is_done limits count i before bytes total le so_far =
    let k : count - i ≡ 0 = omega arith in
    let one : writes_at limits (count - i) before bytes ≡ Ok (before, bytes) = rw k refl in
    sym so_far ∙ one
