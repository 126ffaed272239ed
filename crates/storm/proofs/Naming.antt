-- The names of a storm's objects.
use Rattle.std.proofs.Common.{ℕ, ◌≡◌, ◌+◌, ◌%◌, ◌<◌, ◌≤◌, ◌^◌, List, [], ◌∷◌, ◌++◌, length, arith, inl, inr, length-append}
use Rattle.std.specs.Prelude.{All, codes, decimal}
use Rattle.std.proofs.lemmas.Fmt.{decimal_by_steps, length-decimal-le}
use Rattle.std.proofs.lemmas.List.Elements.{All-append, All-cons, All-nil}
use Rattle.zeus_model.specs.Names.{IsName, IsNameByte}
use Rattle.storm.specs.Script.{storm_name}

digit_byte : (n : ℕ) → n < 10 → IsNameByte (48 + n)
digit_byte n h = inr (inr (inl (omega arith, omega arith)))

-- the digits of a number may stand in a name
decimal_bytes : (n : ℕ) → n < 2 ^ 64 → All IsNameByte (decimal n)
decimal_bytes n h =
    decimal_by_steps (λ m ds. All IsNameByte ds)
    (λ m few. All-cons IsNameByte (48 + m) [] (digit_byte m few) (All-nil IsNameByte))
    (λ m ds many front. All-append IsNameByte ds ((48 + m % 10) ∷ []) front (All-cons IsNameByte (48 + m % 10) [] (digit_byte (m % 10) (omega arith)) (All-nil IsNameByte)))
    n h

-- the name of an object below 256 is a name
pub storm_name-is : (i : ℕ) → i < 256 → IsName (storm_name i)
unfolding storm_name
storm_name-is i h =
    let few : length (decimal i) ≤ 3 = length-decimal-le 3 i (omega arith) (omega arith) (omega arith) in (
      omega arith,
      omega arith,
      inr (omega arith, omega arith),
      All-cons IsNameByte 111 (decimal i) (inr (inl (omega arith, omega arith))) (decimal_bytes i (omega arith)),
    )
