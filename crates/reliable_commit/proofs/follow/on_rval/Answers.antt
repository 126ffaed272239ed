use Rattle.std.proofs.Common.{◌≡◌, refl, sym, ◌∙◌}
use Rattle.reliable_commit.specs.Following.{rval_outcome}
use Rattle.reliable_commit.proofs.Taking.{done_high, done_low, on_rval-again, on_rval-own, on_rval-taken, other_is, own_is, raised_node}
use Rattle.reliable_commit.proofs.follow.on_rval.Goals as goal

pub returns-then-eq-clause-answer : goal.returns-then-eq-clause-answer
unfolding rval_outcome
returns-then-eq-clause-answer c = λ n node.
    rw (on_rval-own n c.args.s c.args.done (own_is _ _ (sym c.eq.ensures ∙ c.if-eq.true) ∙ sym node.me)) refl

pub returns-then-done-clause-answer : goal.returns-then-done-clause-answer
unfolding rval_outcome
returns-then-done-clause-answer c = λ n node.
    let other = λ (same : c.args.s.node ≡ n.me). other_is _ _ (sym c.eq.ensures ∙ c.if-eq.false) (same ∙ node.me) in
    rw (on_rval-again n c.args.s c.args.done other (done_high _ _ _ _ c.args.s _ _ node c.done.ensures.passed c.if-done.true)) refl

pub returns-clause-answer : goal.returns-clause-answer
unfolding rval_outcome
returns-clause-answer c = λ n node.
    let other = λ (same : c.args.s.node ≡ n.me). other_is _ _ (sym c.eq.ensures ∙ c.if-eq.false) (same ∙ node.me) in
    rw (on_rval-taken n c.args.s c.args.done other (done_low _ _ _ _ c.args.s _ _ node c.done.ensures.passed c.if-done.false)) refl

pub returns-then-eq-clause-copies : goal.returns-then-eq-clause-copies
returns-then-eq-clause-copies c = λ n node.
    rw (on_rval-own n c.args.s c.args.done (own_is _ _ (sym c.eq.ensures ∙ c.if-eq.true) ∙ sym node.me)) (sym node.copies)

pub returns-then-done-clause-copies : goal.returns-then-done-clause-copies
returns-then-done-clause-copies c = λ n node.
    let other = λ (same : c.args.s.node ≡ n.me). other_is _ _ (sym c.eq.ensures ∙ c.if-eq.false) (same ∙ node.me) in
    rw (on_rval-again n c.args.s c.args.done other (done_high _ _ _ _ c.args.s _ _ node c.done.ensures.passed c.if-done.true)) (sym node.copies)

pub returns-clause-copies : goal.returns-clause-copies
returns-clause-copies c = λ n node.
    let other = λ (same : c.args.s.node ≡ n.me). other_is _ _ (sym c.eq.ensures ∙ c.if-eq.false) (same ∙ node.me) in
    let raised = raised_node n _ _ _ _ _ c.args.s c.args.done node c.raise.ensures.copies c.raise.ensures.logs in
    rw (on_rval-taken n c.args.s c.args.done other (done_low _ _ _ _ c.args.s _ _ node c.done.ensures.passed c.if-done.false)) (sym raised.copies)

pub returns-then-eq-clause-logs : goal.returns-then-eq-clause-logs
returns-then-eq-clause-logs c = λ n node.
    rw (on_rval-own n c.args.s c.args.done (own_is _ _ (sym c.eq.ensures ∙ c.if-eq.true) ∙ sym node.me)) (sym node.logs)

pub returns-then-done-clause-logs : goal.returns-then-done-clause-logs
returns-then-done-clause-logs c = λ n node.
    let other = λ (same : c.args.s.node ≡ n.me). other_is _ _ (sym c.eq.ensures ∙ c.if-eq.false) (same ∙ node.me) in
    rw (on_rval-again n c.args.s c.args.done other (done_high _ _ _ _ c.args.s _ _ node c.done.ensures.passed c.if-done.true)) (sym node.logs)

pub returns-clause-logs : goal.returns-clause-logs
returns-clause-logs c = λ n node.
    let other = λ (same : c.args.s.node ≡ n.me). other_is _ _ (sym c.eq.ensures ∙ c.if-eq.false) (same ∙ node.me) in
    let raised = raised_node n _ _ _ _ _ c.args.s c.args.done node c.raise.ensures.copies c.raise.ensures.logs in
    rw (on_rval-taken n c.args.s c.args.done other (done_low _ _ _ _ c.args.s _ _ node c.done.ensures.passed c.if-done.false)) (sym raised.logs)
