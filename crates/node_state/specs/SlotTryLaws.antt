-- What the answer to a try says of what stood against the transaction.
use Rattle.std.specs.Prelude.{ℕ, ◌≡◌, Bool, true, false, List, [], ◌∷◌, Option, Some, None, refl}
use Rattle.std.proofs.Common.{sym, ap, ◌∙◌}
use Rattle.zeus_txn.specs.declared.ops.Op.{Op}
use Rattle.zeus_txn.specs.declared.reply.Reply.{Reply}
use Rattle.zeus_model.specs.declared.answer.Tried.{Tried}
use Rattle.zeus_model.specs.declared.answer.Tried.TheVariants as rules
use Rattle.zeus_model.specs.declared.state.Current.{Current}
use Rattle.zeus_model.specs.Local.{commit, commit_entry, full_cause, held_elsewhere, holder_cause, owner_cause, worn_cause, write_cause, write_row}
use Rattle.zeus_model.specs.State.{Node, holder}
use Rattle.zeus_model.specs.Tables.{first_of, or_else, where_true}
use Rattle.local_txn.specs.TriesLaws.{told_back}

-- ---- what stands against a transaction is no commit

unfoldable pub IsUncommitted : Option Tried → Type 0
IsUncommitted None = Unit {0}
IsUncommitted (Some (rules.Committed id number reply)) = ⊥
IsUncommitted (Some t) = Unit {0}

uncommitted-where : (b : Bool) (t : Tried) → IsUncommitted (Some t) → IsUncommitted (where_true b t)
unfolding where_true IsUncommitted
uncommitted-where true t h = h
uncommitted-where false t h = tt

uncommitted-or : (a b : Option Tried) → IsUncommitted a → IsUncommitted b → IsUncommitted (or_else a b)
unfolding or_else
uncommitted-or None b h k = k
uncommitted-or (Some t) b h k = h

uncommitted-first : (f : ℕ → Option Tried) (xs : List ℕ) → ((x : ℕ) → IsUncommitted (f x)) → IsUncommitted (first_of f xs)
unfolding first_of IsUncommitted
uncommitted-first f [] h = tt
uncommitted-first f (x ∷ xs) h = uncommitted-or (f x) (first_of f xs) (h x) (uncommitted-first f xs h)

uncommitted-held : (s x : ℕ) (o : Option ℕ) → IsUncommitted (held_elsewhere s x o)
unfolding held_elsewhere IsUncommitted
uncommitted-held s x None = tt
uncommitted-held s x (Some t) = uncommitted-where _ (rules.Held x t) tt

-- what stands against a commit is never that it was made
pub uncommitted-cause : (n : Node) (s : ℕ) (tx : List Op) → IsUncommitted (write_cause n s tx)
unfolding write_cause full_cause owner_cause holder_cause worn_cause IsUncommitted
uncommitted-cause n s tx =
    uncommitted-or _ _ (uncommitted-where _ rules.PipeFull tt)
    (uncommitted-or _ _ (uncommitted-first _ _ (λ x. uncommitted-where _ (rules.NotOwner x) tt))
    (uncommitted-or _ _ (uncommitted-first _ _ (λ x. uncommitted-held s x (holder n x)))
    (uncommitted-or _ _ (uncommitted-where _ rules.WornOut tt) (uncommitted-first _ _ (λ x. uncommitted-where _ rules.WornOut tt)))))

-- ---- what the answer says

uncommitted_only : (k number : ℕ) (reply : Reply) (r : Tried) → r ≡ rules.Committed k number reply → IsUncommitted (Some r) → ⊥
unfolding IsUncommitted
uncommitted_only k number reply r e h = rw e at h

cause_told : (n : Node) (s : ℕ) (c : Current) (o : Option Tried) (r : Tried) → IsUncommitted (Some r) → r ≡ (write_row n s c o).answer → o ≡ Some r
unfolding write_row commit commit_entry
cause_told n s c None r h e = absurd (uncommitted_only _ _ _ r e h)
cause_told n s c (Some t) r h e = ap Some (sym (e ∙ told_back n s c t))

none_told : (n : Node) (s : ℕ) (c : Current) (o : Option Tried) (k number : ℕ) (reply : Reply) → IsUncommitted o → rules.Committed k number reply ≡ (write_row n s c o).answer → o ≡ None
none_told n s c None k number reply h e = refl
none_told n s c (Some t) k number reply h e = absurd (uncommitted_only k number reply t (sym (e ∙ told_back n s c t)) h)

-- an answer that is no commit is what stands against the transaction
pub cause-refused : (n : Node) (s : ℕ) (c : Current) (r : Tried) → IsUncommitted (Some r) → r ≡ (write_row n s c (write_cause n s c.tx)).answer → write_cause n s c.tx ≡ Some r
cause-refused n s c r h e = cause_told n s c (write_cause n s c.tx) r h e

-- nothing stands against one that is committed
pub cause-committed : (n : Node) (s : ℕ) (c : Current) (k number : ℕ) (reply : Reply) → rules.Committed k number reply ≡ (write_row n s c (write_cause n s c.tx)).answer → write_cause n s c.tx ≡ None
cause-committed n s c k number reply e = none_told n s c (write_cause n s c.tx) k number reply (uncommitted-cause n s c.tx) e
