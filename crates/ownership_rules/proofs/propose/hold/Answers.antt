use Rattle.std.specs.Prelude.{not, if◌then◌else◌}
use Rattle.std.proofs.Common.{◌≡◌, true, false, Bool, refl, sym, ◌∙◌}
use Rattle.zeus_model.specs.declared.answer.Outcome.TheVariants.{Taken, Again}
use Rattle.zeus_model.specs.Ownership.{hold_or_refuse, is_held}
use Rattle.zeus_model.specs.State.{entry}
use Rattle.ownership_rules.proofs.propose.hold.Goals as goal

new_taken : (b : Bool) → true ≡ not b → Taken ≡ (if b then Again else Taken)
new_taken true e = absurd cc
new_taken false e = refl

old_again : (b : Bool) → false ≡ not b → Again ≡ (if b then Again else Taken)
old_again true e = refl
old_again false e = absurd cc

pub returns-then-hold : goal.returns-then-hold
unfolding hold_or_refuse
returns-then-hold c =
    record {
      says = new_taken (is_held c.args.p.now (entry c.args.node.now c.args.obj).proposal) (sym c.if-hold.true ∙ c.hold.ensures.new);
      becomes = c.hold.ensures.after;
      adds = rw c.collector-to.ensures at c.acknowledge.ensures;
    }

pub returns-else-hold : goal.returns-else-hold
unfolding hold_or_refuse
returns-else-hold c =
    record {
      says = old_again (is_held c.args.p.now (entry c.args.node.now c.args.obj).proposal) (sym c.if-hold.false ∙ c.hold.ensures.new);
      becomes = c.hold.ensures.after;
      adds = rw c.collector-to.ensures at c.acknowledge.ensures;
    }
