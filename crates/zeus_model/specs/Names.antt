-- Names of objects, as the list of their bytes and as 16 bytes of which the first are the name.
use Rattle.std.specs.Prelude.{ℕ, ◌≡◌, ◌≤◌, ◌⊎◌, ◌-◌, List, ◌++◌, length, take, drop, replicate, slice_index, All}
use Rattle.std.proofs.Common.{arith, refl, ◌∙◌}
use Rattle.std.proofs.Math.Seq.{take-append_seam, drop-append_seam}
use Rattle.std.proofs.lemmas.List.{take-append-drop, length-take-le, length-append, length-replicate, drop-replicate}
use Rattle.zeus_model.specs.declared.script.Name.TheInside.{Inside}

-- an ASCII letter
abbrev pub IsLetter : ℕ → Type 0
IsLetter b = ((65 ≤ b) × (b ≤ 90)) ⊎ ((97 ≤ b) × (b ≤ 122))

-- a letter, a decimal digit or `_`
abbrev pub IsNameByte : ℕ → Type 0
IsNameByte b = ((65 ≤ b) × (b ≤ 90)) ⊎ ((97 ≤ b) × (b ≤ 122)) ⊎ ((48 ≤ b) × (b ≤ 57)) ⊎ (b ≡ 95)

-- a name has 1 to 16 bytes: first a letter, then letters, digits or `_`
abbrev pub IsName : List ℕ → Type 0
IsName bytes = (1 ≤ length bytes) × (length bytes ≤ 16) × IsLetter (slice_index bytes 0) × All IsNameByte bytes

-- behind the name stand bytes 0 alone
pub record IsPadded (kept : Inside) : Type 0 where
  pub name : IsName (take kept.len kept.bytes)
  pub whole : length kept.bytes ≡ 16
  pub fits : kept.len ≤ 16
  pub padding : drop kept.len kept.bytes ≡ replicate (16 - kept.len) 0

-- the name kept in 16 bytes
abbrev pub padded : List ℕ → Inside
padded bytes = record { len = length bytes; bytes = bytes ++ replicate (16 - length bytes) 0 }

-- the name gives the 16 bytes back
pub padded-take : (t : Inside) → IsPadded t → padded (take t.len t.bytes) ≡ t
padded-take t h =
    let taken : length (take t.len t.bytes) ≡ t.len = length-take-le t.len t.bytes (omega (arith, h.whole, h.fits)) in
    let parts : take t.len t.bytes ++ drop t.len t.bytes ≡ t.bytes = take-append-drop t.len t.bytes in
    rw (taken, ← h.padding, parts) refl

-- a name, and bytes 0 up to 16 behind it
IsPadded-append : (bytes front rest : List ℕ) → IsName bytes → front ≡ bytes → rest ≡ replicate (16 - length bytes) 0 → IsPadded record { len = length bytes; bytes = front ++ rest }
IsPadded-append bytes front rest name is zeros =
    let short : length bytes ≤ 16 = name.1 in
    let first : take (length bytes) (front ++ rest) ≡ bytes = rw is (take-append_seam bytes rest) in
    let last : drop (length bytes) (front ++ rest) ≡ rest = rw is (drop-append_seam bytes rest) in
    let room : length rest ≡ 16 - length bytes = rw zeros (length-replicate (16 - length bytes) 0) in
    record {
      name = rw first name;
      whole = rw (is, length-append bytes rest, room) (omega arith);
      fits = short;
      padding = last ∙ zeros;
    }

-- a name that is copied over the front of 16 bytes 0
pub IsPadded-copied : (bytes front : List ℕ) → IsName bytes → front ≡ bytes → IsPadded record { len = length bytes; bytes = front ++ drop (length bytes) (replicate {A = ℕ} 16 0) }
IsPadded-copied bytes front name is =
    IsPadded-append bytes front (drop (length bytes) (replicate {A = ℕ} 16 0)) name is (drop-replicate {X = ℕ} (length bytes) 16 0)
