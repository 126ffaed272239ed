-- Begins that do not come to a node.
use Rattle.std.proofs.Common.{ℕ, ◌≡◌, Bool, true, false, not, refl}
use Rattle.std.specs.Prelude.{is_some, Some, Option}
use Rattle.zeus_model.specs.Book.{record_of}
use Rattle.zeus_model.specs.Tables.{or_else, where_true}
use Rattle.zeus_model.specs.World.{World, begin_refused, node, tx_decl, waits_for}
use Rattle.zeus_model.specs.declared.answer.Answer.{Answer}
use Rattle.zeus_model.specs.declared.answer.Answer.TheVariants.{Begin as BeginAnswer, Twice}
use Rattle.zeus_model.specs.declared.answer.Begin.TheVariants.{Stopped}

-- if a transaction is begun, then another begin of it is refused as its second
pub refused_twice : (w : World) (k : ℕ) → is_some (record_of w.book k).begun ≡ true → Some Twice ≡ begin_refused w k
unfolding begin_refused where_true or_else
refused_twice w k e = rw e refl

-- if the node of a transaction is stopped, then its begin is refused because of that
pub refused_stopped :
    (w : World) (k : ℕ) → is_some (record_of w.book k).begun ≡ false → (node w (tx_decl w k).node).stopped ≡ true → Some (BeginAnswer Stopped) ≡ begin_refused w k
unfolding begin_refused where_true or_else
refused_stopped w k e f = rw (e, f) refl

-- if a transaction is not begun and its node is live, then at most what it waits for stands against its begin
pub refused_else :
    (w : World) (k : ℕ) → is_some (record_of w.book k).begun ≡ false → (node w (tx_decl w k).node).stopped ≡ false → waits_for w (tx_decl w k).after ≡ begin_refused w k
unfolding begin_refused where_true or_else
refused_else w k e f = rw (e, f) refl

-- if a node is not live, then it is stopped
pub stopped_of : (b : Bool) → not b ≡ false → b ≡ true
stopped_of true h = refl
stopped_of false h = cc

-- if a node is not stopped, then it is live
pub live_of : (b : Bool) → not b ≡ true → b ≡ false
live_of true h = cc
live_of false h = refl
