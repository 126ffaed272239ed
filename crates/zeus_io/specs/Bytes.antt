-- What reading to the end and writing to the end do to the bytes of a source and a sink.
use Rattle.std.specs.Prelude.{ℕ, ◌+◌, ◌<◌, ◌≤◌, ◌≡◌, List, length, take, Option, Result, IfOk, IsOk}
use Rattle.std.specs.Io.KnownBytes.{Consumes, Appends}

-- some bytes were taken from the front of what was left, and P holds of them
pub record Takes (before after : Option (List ℕ)) (P : List ℕ → Type 0) : Type 0 where
  pub taken : List ℕ
  pub from_front : Consumes before after taken
  pub holds : P taken

-- a front of these bytes, and not all of them, came behind what was held
pub record AppendsFront (before after : Option (List ℕ)) (bytes : List ℕ) : Type 0 where
  pub count : ℕ
  pub short : count < length bytes
  pub appended : Appends before after (take count bytes)

-- room is used up only by the bytes that are taken
abbrev pub UsesRoom : ℕ → ℕ → ℕ → Type 0
UsesRoom before after taken = before ≤ after + taken

-- a write into a sink with room left is taken without a fault, and uses up no more room than it took
pub record WritesInRoom {E : Type 0} (before after faults_before faults_after : ℕ) (result : Result ℕ E) : Type 0 where
  pub uses : IfOk result (UsesRoom before after)
  pub ok : 0 < before → IsOk result
  pub no_fault : 0 < before → faults_after ≡ faults_before
