use Rattle.ownership_safety.proofs.Received.{invalidation-arbiter, ack-collector, base-own_place, told-own_place, ack-own_place}
use Rattle.ownership_safety.proofs.Reached.{reached-ownership}
use Rattle.ownership_safety.proofs.letters_fit.Goals as goal

pub returns-clause-arbiter : goal.returns-clause-arbiter
returns-clause-arbiter c = λ o chain from n p reached m. invalidation-arbiter o chain (reached-ownership o chain reached) from n p m

pub returns-clause-collector : goal.returns-clause-collector
returns-clause-collector c = λ o chain a n p d reached m. ack-collector o chain (reached-ownership o chain reached) a n p d m

pub returns-clause-base : goal.returns-clause-base
returns-clause-base c =
    λ o chain n e p reached live said above named. base-own_place o chain (reached-ownership o chain reached) n e p live said above named

pub returns-clause-told : goal.returns-clause-told
returns-clause-told c =
    λ o chain n t place reached live told above named. told-own_place o chain (reached-ownership o chain reached) n t place live told above named

pub returns-clause-taken_over : goal.returns-clause-taken_over
returns-clause-taken_over c =
    λ o chain a n p d reached live m not_below below named other.
    ack-own_place o chain (reached-ownership o chain reached) a n p d live m not_below below named other
