use Rattle.reached_worlds.proofs.Reaching.{reached_known}
use Rattle.reached_worlds.proofs.every_reached_world_is_ranged.Goals as goal

pub returns : goal.returns
returns c = λ w r. (reached_known w r).ranged
