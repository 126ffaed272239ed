use Rattle.std.proofs.Common.{sym, ◌∙◌}
use Rattle.local_rules.proofs.Trying.{is_read, is_written, tried-slots, try-nothing, try-read, try-stopped, try-write}
use Rattle.local_rules.proofs.tries.try_slot.Goals as goal

pub returns-then-is_stopped : goal.returns-then-is_stopped
returns-then-is_stopped c = try-stopped c.args.node.now c.args.slot c.args.out.now (sym c.is_stopped.ensures ∙ c.if-is_stopped.true) c.requires.sent

pub read-requires-clause-slot : goal.read-requires-clause-slot
read-requires-clause-slot c = tried-slots c.args.node.now _ c.args.slot _ c.requires.slot c.try_current.ensures

pub write-requires-clause-slot : goal.write-requires-clause-slot
write-requires-clause-slot c = tried-slots c.args.node.now _ c.args.slot _ c.requires.slot c.try_current.ensures

pub returns-in-Nothing : goal.returns-in-Nothing
returns-in-Nothing c =
    try-nothing c.args.node.now _ c.args.slot _ c.args.out.now (sym c.is_stopped.ensures ∙ c.if-is_stopped.false) c.in-Nothing.is c.try_current.ensures c.requires.sent

pub returns-in-Read : goal.returns-in-Read
returns-in-Read c =
    let h = is_read c.args.node.now _ c.args.slot _ _ _ c.in-Read.is c.try_current.ensures in
    try-read c.args.node.now _ _ c.args.slot _ _ _ _ _ (sym c.is_stopped.ensures ∙ c.if-is_stopped.false) h (c.read.ensures c.args.node.now h)

pub returns-in-Write : goal.returns-in-Write
returns-in-Write c =
    let h = is_written c.args.node.now _ c.args.slot _ _ _ c.in-Write.is c.try_current.ensures in
    try-write c.args.node.now _ _ c.args.slot _ _ _ _ _ (sym c.is_stopped.ensures ∙ c.if-is_stopped.false) h (c.write.ensures c.args.node.now h)
