-- How every stream begins.
use Rattle.std.specs.Prelude.{ℕ, ◌≡◌, ◌≤◌, [], length}
use Rattle.replication_safety.specs.StreamState.{StreamState, Letter, In, IsLive, IsMember}

-- nothing was said, passed or kept, there is one view, and each live node is in it and in its epoch
pub record IsStart (l : StreamState) : Type 0 where
  pub unsaid : (x : Letter) → In x l.letters → ⊥
  pub one_view : length l.views ≡ 1
  pub live : (n : ℕ) → IsLive l n → (l.epoch n ≡ 1) × IsMember l 1 n
  pub bounded : (n : ℕ) → l.epoch n ≤ 1
  pub done : (n : ℕ) → l.done n ≡ 0
  pub kept : (n : ℕ) → l.kept n ≡ []
