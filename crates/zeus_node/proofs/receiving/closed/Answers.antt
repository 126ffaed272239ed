use Rattle.std.specs.Prelude.{◌&&◌, not}
use Rattle.std.proofs.Common.{◌≡◌, Bool, true, false, None, refl, sym, ◌∙◌}
use Rattle.zeus_model.specs.declared.answer.Outcome.TheVariants.{NotOpen}
use Rattle.zeus_model.specs.Receive.{needs_open}
use Rattle.zeus_model.specs.Tables.{where_true}
use Rattle.zeus_node.proofs.receiving.closed.Goals as goal

open_none : (needs : Bool) → None ≡ where_true (needs && not true) NotOpen
unfolding where_true
open_none true = refl
open_none false = refl

pub returns-then-is_open : goal.returns-then-is_open
returns-then-is_open c = rw (sym c.is_open.ensures ∙ c.if-is_open.true) (open_none (needs_open c.args.body.now))

pub returns-then-needs_open : goal.returns-then-needs_open
unfolding where_true
returns-then-needs_open c = rw (sym c.is_open.ensures ∙ c.if-is_open.false, sym c.needs_open.ensures ∙ c.if-needs_open.true) refl

pub returns-else-needs_open : goal.returns-else-needs_open
unfolding where_true
returns-else-needs_open c = rw (sym c.is_open.ensures ∙ c.if-is_open.false, sym c.needs_open.ensures ∙ c.if-needs_open.false) refl
