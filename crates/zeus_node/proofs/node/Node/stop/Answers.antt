use Rattle.std.proofs.Common.{refl, sym, ◌∙◌}
use Rattle.zeus_node.proofs.Views.{stop-running, stop-stopped}
use Rattle.zeus_node.proofs.node.Node.stop.Goals as goal

pub returns-then-is_stopped : goal.returns-then-is_stopped
returns-then-is_stopped c =
    rw (stop-stopped c.args.self.now (rw c.self.view_is at (sym c.is_stopped.ensures ∙ c.if-is_stopped.true))) (record { answer = refl; after = refl })

pub returns : goal.returns
returns c =
    rw (stop-running c.args.self.now (rw c.self.view_is at (sym c.is_stopped.ensures ∙ c.if-is_stopped.false)))
    (record { answer = refl; after = rw c.self.view_is at c.stop.ensures })
