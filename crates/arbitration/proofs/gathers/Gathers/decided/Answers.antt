use Rattle.arbitration.proofs.Noting.{decision-none, decision-some}
use Rattle.arbitration.proofs.gathers.Gathers.decided.Goals as goal

pub returns-in-None : goal.returns-in-None
returns-in-None c = λ n is. decision-none n _ _ _ c.args.obj is c.in-None.ensures

pub returns-in-Some : goal.returns-in-Some
returns-in-Some c = λ n is.
    decision-some n _ _ _ c.args.obj _ _ is c.in-Some.ensures (c.decision_of.ensures n is.members is.directory)
