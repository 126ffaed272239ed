use Rattle.std.proofs.Common.{◌≡◌, true, false, refl, arith}
use Rattle.zeus_base.specs.Order.{is_below}
use Rattle.owner_entry.proofs.Entries.{settle_above, settle_same}
use Rattle.owner_entry.proofs.entry.EntryOwnerEntry.settle.Goals as goal

pub returns-then-not-is_below-clause-after : goal.returns-then-not-is_below-clause-after
returns-then-not-is_below-clause-after c = λ n x here.
    let below : is_below c.args.self.now.stamp c.args.stamp ≡ false = grind arith in
    settle_same n x _ c.args.stamp c.args.place here below

pub returns-clause-after : goal.returns-clause-after
returns-clause-after c = λ n x here.
    let above : is_below c.args.self.now.stamp c.args.stamp ≡ true = grind arith in
    rw (settle_above n x _ c.args.stamp c.args.place here above, c.proposal_above-proposal.ensures) refl
