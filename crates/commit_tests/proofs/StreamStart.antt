-- The streams at the start.
use Rattle.std.proofs.Common.{◌≡◌, List, arith, Ok, Err}
use Rattle.std.specs.Prelude.{IfOk, Result, replicate}
use Rattle.zeus_model.specs.State.{StreamLog, no_log}
use Rattle.reliable_commit.specs.Following.{IsFollowed}
use Rattle.reliable_commit.specs.FollowLaws.{IsFollowed-start}

-- if the stored streams are empty ones of three nodes with a slot each, then the stream of node 0's slot 0 is followed
pub start_if : {E : Type 0} (r : Result (List (List StreamLog)) E) → IfOk r (λ logs. logs ≡ replicate 3 (replicate 1 no_log)) → IfOk r (λ logs. IsFollowed 1 logs record { node = 0; slot = 0 })
start_if (Ok logs) h = rw h (IsFollowed-start 1 3 1 record { node = 0; slot = 0 } (omega arith) (omega arith))
start_if (Err e) h = tt
