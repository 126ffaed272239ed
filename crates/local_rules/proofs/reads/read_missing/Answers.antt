use Rattle.std.proofs.Common.{sym, ◌∙◌}
use Rattle.local_rules.proofs.Reading.{missing-asked, missing-refused, none_fits}
use Rattle.local_rules.proofs.reads.read_missing.Goals.{in-None, in-Some}
use Rattle.local_rules.proofs.reads.read_missing.Goals as goal

pub set_current-requires-clause-fits : goal.set_current-requires-clause-fits
set_current-requires-clause-fits c = none_fits c.args.node.now

pub returns : goal.returns
returns c = λ tx current.
    elim c.match-degree.branch [
      | in-None w ↦ rw (w.node-is, w.out-is)
          (missing-refused c.args.node.now _ c.args.slot record { id = c.args.id; tx = tx } c.args.object c.args.node.now.degree c.args.out.now (sym c.degree.ensures ∙ w.in-None.is) w.set_current.ensures c.requires.sent)
      | in-Some w ↦ rw (w.node-is, w.out-is)
          (missing-asked c.args.node.now c.args.slot record { id = c.args.id; tx = tx } c.args.object _ c.args.node.now.degree _ _ (sym c.degree.ensures ∙ w.in-Some.is) current w.ask_for_copies.ensures)
    ]
