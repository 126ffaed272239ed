-- The answer to `storm`.
use Rattle.std.specs.Prelude.{ℕ, ◌≡◌, ◌==◌, List, take, if◌then◌else◌}
use Rattle.zeus_io.specs.declared.status.Status.{Status}
use Rattle.zeus_io.specs.declared.status.Status.TheVariants.{Done, Unfinished}
use Rattle.soundness.specs.Promise.{KeepsPromise}
use Rattle.storm.specs.Storm.{storm_end, storm_start, storm_steps}
use Rattle.storm.specs.Summary.{summary}
use Rattle.storm.specs.declared.numbers.StormNumbers.{StormNumbers}

-- a storm is finished if each of its transactions is closed
unfoldable pub storm_status : StormNumbers → Status
storm_status n = if (storm_end n).unfinished == 0 then Done else Unfinished

-- the summary of the storm, whose run keeps the whole promise after each of its steps
pub record IsStormAnswer (n : StormNumbers) (status : Status) (text : List ℕ) : Type 0 where
  pub status_is : status ≡ storm_status n
  pub text_is : text ≡ summary (storm_end n)
  pub promise : (k : ℕ) → KeepsPromise (storm_start n) (take k (storm_steps n))
