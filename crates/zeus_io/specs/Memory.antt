-- What contracts see of the sources and the sinks in memory.
use Rattle.std.specs.Prelude.{ℕ, List}

-- a sink with a fixed room: the bytes that it holds, the room left, and how often a write failed
pub record Bounded : Type 0 where
  pub held : List ℕ
  pub room : ℕ
  pub faults : ℕ

-- a source that fails by plan: the bytes left, the most that a call moves, the numbers of the calls that fail, how many
-- calls came, and how often one failed
pub record PlannedSource : Type 0 where
  pub left : List ℕ
  pub piece : ℕ
  pub fails : List ℕ
  pub calls : ℕ
  pub faults : ℕ

-- a sink that fails by plan: the bytes held, the room left, the most that a call moves, the numbers of the calls that
-- fail, how many calls came, and how often one failed
pub record PlannedSink : Type 0 where
  pub held : List ℕ
  pub room : ℕ
  pub piece : ℕ
  pub fails : List ℕ
  pub calls : ℕ
  pub faults : ℕ
