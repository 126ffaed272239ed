use Rattle.std.proofs.Common.{sym, ◌∙◌}
use Rattle.zeus_base.specs.TableLaws.{nth-past}
use Rattle.zeus_model.specs.State.{no_entry}
use Rattle.zeus_node.proofs.node.Node.known_entry.Goals as goal

pub returns-else-obj-object_count : goal.returns-else-obj-object_count
returns-else-obj-object_count c =
    let past = rw (c.object_count.ensures.count, c.obj.view_is) at c.if-obj-object_count.false in
    rw (← c.self.view_is) (c.no_entry.ensures ∙ sym (nth-past no_entry c.self.inside.state.entries c.args.obj past))
