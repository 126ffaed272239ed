use Rattle.std.proofs.Common.{sym, ◌∙◌}
use Rattle.zeus_node.proofs.Bodies.{rejection-closed, rejection-not_mine, rejection-other_epoch, rejection-stopped}
use Rattle.zeus_node.proofs.receiving.rejection.Goals as goal

pub returns-then-is_stopped : goal.returns-then-is_stopped
returns-then-is_stopped c = rejection-stopped c.args.state.now c.args.letter.now (sym c.is_stopped.ensures ∙ c.if-is_stopped.true)

pub returns-then-ne : goal.returns-then-ne
returns-then-ne c =
    rejection-not_mine c.args.state.now c.args.letter.now (sym c.is_stopped.ensures ∙ c.if-is_stopped.false) (sym (rw c.me.ensures.number at c.ne.ensures) ∙ c.if-ne.true)

pub returns-then-letter-epoch : goal.returns-then-letter-epoch
returns-then-letter-epoch c =
    rw c.epoch-then-letter-epoch.ensures
    (rejection-other_epoch c.args.state.now c.args.letter.now (sym c.is_stopped.ensures ∙ c.if-is_stopped.false) (sym (rw c.me.ensures.number at c.ne.ensures) ∙ c.if-ne.false) (rw c.epoch.ensures at c.if-letter-epoch.true))

pub returns : goal.returns
returns c =
    c.closed.ensures
    ∙ rejection-closed c.args.state.now c.args.letter.now (sym c.is_stopped.ensures ∙ c.if-is_stopped.false) (sym (rw c.me.ensures.number at c.ne.ensures) ∙ c.if-ne.false) (rw c.epoch.ensures at c.if-letter-epoch.false)
