use Rattle.std.proofs.Common.{refl, sym, ◌∙◌}
use Rattle.zeus_model.specs.Membership.{install}
use Rattle.zeus_node.proofs.Cleared.{cleared-passed, cleared-room, cleared-sent}
use Rattle.zeus_node.proofs.Views.{install-old, install-stopped, installed}
use Rattle.zeus_node.proofs.node.Node.install.Goals as goal

pub returns-then-is_stopped : goal.returns-then-is_stopped
returns-then-is_stopped c =
    let stopped = rw c.self.view_is at (sym c.is_stopped.ensures ∙ c.if-is_stopped.true) in
    rw (install-stopped c.args.self.now c.args.view.now stopped)
    (record { answer = refl; after = refl; sent = c.requires.cleared.unsent; passed = c.requires.cleared.unpassed })

pub returns-then-view-epoch : goal.returns-then-view-epoch
returns-then-view-epoch c =
    let running = rw c.self.view_is at (sym c.is_stopped.ensures ∙ c.if-is_stopped.false) in
    let epoch = rw c.self.view_is at c.epoch-epoch.ensures in
    rw (install-old c.args.self.now c.args.view.now running (rw epoch at c.if-view-epoch.true))
    (record { answer = rw epoch refl; after = refl; sent = c.requires.cleared.unsent; passed = c.requires.cleared.unpassed })

pub finish-requires-clause-room : goal.finish-requires-clause-room
finish-requires-clause-room c = cleared-room c.args.out.now c.requires.cleared

pub finish-requires-clause-passes : goal.finish-requires-clause-passes
finish-requires-clause-passes c = c.requires.cleared.unpassed

pub returns : goal.returns
returns c =
    let running = rw c.self.view_is at (sym c.is_stopped.ensures ∙ c.if-is_stopped.false) in
    let epoch = rw c.self.view_is at c.epoch-epoch.ensures in
    let viewed = rw c.self.view_is at c.take_view.ensures in
    let done = installed c.args.self.now c.args.view.now c.take_view.new.self c.finish.new.node c.args.out.now c.finish.new.out running (rw epoch at c.if-view-epoch.false) viewed (cleared-room c.args.out.now c.requires.cleared) c.finish.ensures in
    record {
      answer = done.says;
      after = done.becomes;
      sent = cleared-sent (install c.args.self.now c.args.view.now) _ c.finish.new.node c.args.out.now c.finish.new.out c.requires.cleared done;
      passed = cleared-passed (install c.args.self.now c.args.view.now) _ c.finish.new.node c.args.out.now c.finish.new.out c.requires.cleared done;
    }
