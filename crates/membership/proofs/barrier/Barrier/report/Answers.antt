use Rattle.std.proofs.Common.{◌≡◌, ◌∙◌, true, false, refl, sym}
use Rattle.zeus_base.specs.Nodes.{has}
use Rattle.membership.proofs.Reporting.{on_recovered-again, on_recovered-answer, on_recovered-reported}
use Rattle.membership.proofs.barrier.Barrier.report.Goals as goal

pub returns-then-has-clause-answer : goal.returns-then-has-clause-answer
returns-then-has-clause-answer c = λ m is.
    let here : has c.args.n c.args.self.now ≡ true = rw (← c.self.view_is) (sym c.has.ensures ∙ c.if-has.true) in
    rw (on_recovered-again m c.args.n _ is here) refl

pub returns-then-has-clause-after : goal.returns-then-has-clause-after
returns-then-has-clause-after c = λ m is.
    let here : has c.args.n c.args.self.now ≡ true = rw (← c.self.view_is) (sym c.has.ensures ∙ c.if-has.true) in
    rw (on_recovered-again m c.args.n _ is here) (sym is)

pub returns-clause-answer : goal.returns-clause-answer
returns-clause-answer c = λ m is.
    let new : has c.args.n c.args.self.now ≡ false = rw (← c.self.view_is) (sym c.has.ensures ∙ c.if-has.false) in
    on_recovered-answer m c.args.n _ is new

pub returns-clause-after : goal.returns-clause-after
returns-clause-after c = λ m is.
    let new : has c.args.n c.args.self.now ≡ false = rw (← c.self.view_is) (sym c.has.ensures ∙ c.if-has.false) in
    rw (c.insert-self-inside.ensures, c.self.view_is) (on_recovered-reported m c.args.n _ is new)
