-- What no move takes back.
use Rattle.std.specs.Prelude.{ℕ, ◌≡◌, ◌<◌, ◌≤◌}
use Rattle.replication_safety.specs.StreamState.{StreamState, IsLive, top, end, entry}

-- no stopped node lives again; no node's epoch falls, nor what it knows to have passed, nor its next number; nor does the
-- number of committed entries, and an entry that its own node keeps stays what it is
pub record Rises (old new : StreamState) : Type 0 where
  pub home : new.home ≡ old.home
  pub live : (n : ℕ) → IsLive new n → IsLive old n
  pub epoch : (n : ℕ) → old.epoch n ≤ new.epoch n
  pub done : (n : ℕ) → old.done n ≤ new.done n
  pub top : (n : ℕ) → top old n ≤ top new n
  pub committed : end old ≤ end new
  pub entry : (k : ℕ) → new.done new.home ≤ k → k < end old → entry new k ≡ entry old k
