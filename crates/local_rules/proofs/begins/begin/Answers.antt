use Rattle.std.proofs.Common.{refl, sym, ◌∙◌}
use Rattle.local_rules.proofs.Beginning.{begin-begun, begin-busy, begin-stopped, tx_fits}
use Rattle.local_rules.proofs.begins.begin.Goals as goal

pub returns-then-is_stopped : goal.returns-then-is_stopped
returns-then-is_stopped c =
    let e = begin-stopped c.args.node.now c.args.slot c.args.id c.args.tx.now (sym c.is_stopped.ensures ∙ c.if-is_stopped.true) in
    record { answer = rw e refl; after = rw e refl }

pub returns-in-Some : goal.returns-in-Some
returns-in-Some c =
    let e = begin-busy c.args.node.now c.args.slot c.args.id c.args.tx.now _ (sym c.is_stopped.ensures ∙ c.if-is_stopped.false) c.in-Some.ensures in
    record { answer = rw e refl; after = rw e refl }

pub set_current-requires-clause-fits : goal.set_current-requires-clause-fits
set_current-requires-clause-fits c = rw c.duplicate-tx.ensures (tx_fits c.args.node.now c.args.id c.args.tx.now c.requires.made c.requires.objects)

pub returns : goal.returns
returns c =
    let e = begin-begun c.args.node.now c.args.slot c.args.id c.args.tx.now (sym c.is_stopped.ensures ∙ c.if-is_stopped.false) c.in_default.ensures in
    record { answer = rw e refl; after = rw (e, c.set_current.ensures, c.duplicate-tx.ensures) refl }
