use Rattle.ownership_safety.proofs.OneNode.{one_decision}
use Rattle.ownership_safety.proofs.rules_can_be_met.Goals as goal

pub returns : goal.returns
returns c = one_decision
