use Rattle.std.proofs.Common.{◌≡◌, ◌∙◌, true, false, Some, None, refl, sym, arith}
use Rattle.zeus_base.specs.Order.{is_below}
use Rattle.zeus_packet.specs.declared.letter.Cause.TheVariants.{Proposed}
use Rattle.zeus_model.specs.Ownership.{greater_cause, refusal}
use Rattle.owner_entry.specs.Acceptance.{cause_of, outcome_of}
use Rattle.owner_entry.proofs.Entries.{holding_answer, holding_node, on_proposal-held, on_proposal-older, on_proposal-settled}
use Rattle.owner_entry.proofs.entry.EntryOwnerEntry.accept.Goals as goal

pub returns-then-not-is_below-clause-answer : goal.returns-then-not-is_below-clause-answer
unfolding outcome_of
returns-then-not-is_below-clause-answer c = λ n from x here.
    let below : is_below c.args.self.now.stamp c.args.p.now.stamp ≡ false = grind arith in
    rw (on_proposal-settled n from x _ c.args.p.now here below, here) refl

pub returns-then-not-is_below-clause-after : goal.returns-then-not-is_below-clause-after
returns-then-not-is_below-clause-after c = λ n from x here.
    let below : is_below c.args.self.now.stamp c.args.p.now.stamp ≡ false = grind arith in
    rw (on_proposal-settled n from x _ c.args.p.now here below) (sym here)

pub returns-in-Some-clause-answer : goal.returns-in-Some-clause-answer
unfolding outcome_of cause_of refusal
returns-in-Some-clause-answer c = λ n from x here.
    let above : is_below c.args.self.now.stamp c.args.p.now.stamp ≡ true = grind arith in
    let greater : Some (Proposed c.in-Some.stamp) ≡ greater_cause c.args.p.now.stamp c.args.self.now.proposal = c.in-Some.ensures in
    rw (on_proposal-older n from x _ c.args.p.now c.in-Some.stamp here above greater) refl

pub returns-in-Some-clause-after : goal.returns-in-Some-clause-after
unfolding cause_of
returns-in-Some-clause-after c = λ n from x here.
    let above : is_below c.args.self.now.stamp c.args.p.now.stamp ≡ true = grind arith in
    let greater : Some (Proposed c.in-Some.stamp) ≡ greater_cause c.args.p.now.stamp c.args.self.now.proposal = c.in-Some.ensures in
    rw (on_proposal-older n from x _ c.args.p.now c.in-Some.stamp here above greater) (sym here)

pub returns-then-hold-clause-answer : goal.returns-then-hold-clause-answer
unfolding outcome_of cause_of
returns-then-hold-clause-answer c = λ n from x here.
    let above : is_below c.args.self.now.stamp c.args.p.now.stamp ≡ true = grind arith in
    let none : None ≡ greater_cause c.args.p.now.stamp c.args.self.now.proposal = c.in_default.ensures in
    rw (on_proposal-held n from x _ c.args.p.now here above none, holding_answer n from x _ c.args.p.now here true (sym c.if-hold.true ∙ c.hold.ensures.new)) refl

pub returns-then-hold-clause-after : goal.returns-then-hold-clause-after
unfolding cause_of
returns-then-hold-clause-after c = λ n from x here.
    let above : is_below c.args.self.now.stamp c.args.p.now.stamp ≡ true = grind arith in
    let none : None ≡ greater_cause c.args.p.now.stamp c.args.self.now.proposal = c.in_default.ensures in
    rw (on_proposal-held n from x _ c.args.p.now here above none) (c.hold.ensures.after n x here ∙ holding_node n from x c.args.p.now)

pub returns-else-hold-clause-answer : goal.returns-else-hold-clause-answer
unfolding outcome_of cause_of
returns-else-hold-clause-answer c = λ n from x here.
    let above : is_below c.args.self.now.stamp c.args.p.now.stamp ≡ true = grind arith in
    let none : None ≡ greater_cause c.args.p.now.stamp c.args.self.now.proposal = c.in_default.ensures in
    rw (on_proposal-held n from x _ c.args.p.now here above none, holding_answer n from x _ c.args.p.now here false (sym c.if-hold.false ∙ c.hold.ensures.new)) refl

pub returns-else-hold-clause-after : goal.returns-else-hold-clause-after
unfolding cause_of
returns-else-hold-clause-after c = λ n from x here.
    let above : is_below c.args.self.now.stamp c.args.p.now.stamp ≡ true = grind arith in
    let none : None ≡ greater_cause c.args.p.now.stamp c.args.self.now.proposal = c.in_default.ensures in
    rw (on_proposal-held n from x _ c.args.p.now here above none) (c.hold.ensures.after n x here ∙ holding_node n from x c.args.p.now)
