-- The causes against a source, one after another.
use Rattle.std.proofs.Common.{ℕ, ◌≡◌, ◌∙◌, Bool, true, false, nat_lt, Option, Some, None, refl, sym, ap}
use Rattle.std.specs.Prelude.{if◌then◌else◌}
use Rattle.zeus_packet.specs.declared.letter.Cause.{Cause}
use Rattle.zeus_base.specs.Tables.{nth}
use Rattle.zeus_model.specs.Ownership.{held_cause, keeper, kept_by, kept_cause, missing_cause, source_cause, state_cause, unready_cause}
use Rattle.zeus_model.specs.State.{Node, copy, holder}
use Rattle.zeus_model.specs.Tables.{or_else}
use Rattle.object_table.specs.Table.{Table, hold_slot}
use Rattle.arbitration.specs.Giving.{IsSourceWith, give_up_cause}

or_else-assoc : {A : Type 0} (a b c : Option A) → or_else (or_else a b) c ≡ or_else a (or_else b c)
unfolding or_else
or_else-assoc None b c = refl
or_else-assoc (Some a) b c = refl

or_else-none : {A : Type 0} (a : Option A) → or_else a None ≡ a
unfolding or_else
or_else-none None = refl
or_else-none (Some a) = refl

kept_by-where : (b : Bool) (k : Option ℕ) → kept_by (if b then k else None) ≡ (if b then kept_by k else None)
unfolding kept_by
kept_by-where true k = refl
kept_by-where false k = refl

no_keeper : (b : Bool) → (if b then kept_by None else None) ≡ None
unfolding kept_by
no_keeper true = refl
no_keeper false = refl

in_order : (m h s k : Option Cause) → or_else m (or_else h (or_else s k)) ≡ or_else (or_else m (or_else h s)) k
in_order m h s k = ap (or_else m) (sym (or_else-assoc h s k)) ∙ sym (or_else-assoc m (or_else h s) k)

-- the causes by the table are those of the node
pub give_up_cause-known : (n : Node) (x : ℕ) (t : Table) (m requester : ℕ) (k : Option ℕ) → IsSourceWith n x t m → or_else (missing_cause (nth None t.copies x)) (or_else (held_cause (hold_slot (nth None t.holds x))) (or_else (state_cause (nth None t.copies x)) (kept_by (if nat_lt m requester then k else None)))) ≡ give_up_cause n x requester k
unfolding unready_cause
give_up_cause-known n x t m requester k is =
    rw (← is.copy, ← is.holder, ← is.me, kept_by-where (nat_lt n.me requester) k)
    (in_order (missing_cause (copy n x)) (held_cause (holder n x)) (state_cause (copy n x)) (if nat_lt n.me requester then kept_by k else None))

-- with the node's keeper they are all the source's causes
pub give_up_cause-kept : (n : Node) (x requester : ℕ) (k : Option ℕ) → k ≡ keeper n x → give_up_cause n x requester k ≡ source_cause n x requester
unfolding source_cause kept_cause
give_up_cause-kept n x requester k is = rw is refl

-- with none they are all but the last
pub give_up_cause-unkept : (n : Node) (x requester : ℕ) (k : Option ℕ) → k ≡ None → give_up_cause n x requester k ≡ unready_cause n x
give_up_cause-unkept n x requester k is = rw (is, no_keeper (nat_lt n.me requester)) (or_else-none (unready_cause n x))
