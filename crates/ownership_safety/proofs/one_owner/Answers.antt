use Rattle.ownership_safety.proofs.Owner.{one_owner, owner-latest, owner-unacked}
use Rattle.ownership_safety.proofs.Reached.{reached-ownership}
use Rattle.ownership_safety.proofs.one_owner.Goals as goal

pub returns-clause-one : goal.returns-clause-one
returns-clause-one c = λ o chain n m reached one two. one_owner o chain (reached-ownership o chain reached) n m one two

pub returns-clause-at_end : goal.returns-clause-at_end
returns-clause-at_end c = λ o chain n reached owns. owner-latest o chain (reached-ownership o chain reached) n owns

pub returns-clause-unasked : goal.returns-clause-unasked
returns-clause-unasked c =
    λ o chain n a e p d reached owns last given. owner-unacked o chain (reached-ownership o chain reached) n a e p d owns last given
