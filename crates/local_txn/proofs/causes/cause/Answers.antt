use Rattle.std.proofs.Common.{◌≡◌, ◌+◌, length, sym, ◌∙◌, arith}
use Rattle.std.proofs.lemmas.Bool.{eqb-false}
use Rattle.local_txn.specs.Tries.{told_held}
use Rattle.local_txn.proofs.Against.{against_full, against_holder, against_none, against_owner, against_worn}
use Rattle.local_txn.proofs.Worn.{or_false}
use Rattle.local_txn.proofs.causes.cause.Goals as goal

pub returns-then-len-eq-WINDOW_DEPTH-clause-first : goal.returns-then-len-eq-WINDOW_DEPTH-clause-first
returns-then-len-eq-WINDOW_DEPTH-clause-first c = λ n id is.
    against_full _ _ _ _ _ n is c.args.tx.now id (sym c.len.ensures.count ∙ c.if-len-eq-WINDOW_DEPTH.true)

pub returns-in-Some-clause-first : goal.returns-in-Some-clause-first
returns-in-Some-clause-first c = λ n id is.
    against_owner _ _ _ _ _ n is c.args.tx.now id c.in-Some.object (λ e. c.if-len-eq-WINDOW_DEPTH.false (c.len.ensures.count ∙ e)) (rw (c.as_slice-objects.ensures.list ∙ c.named-named.ensures) at c.in-Some.ensures)

pub returns-in-Some-first_held-clause-first : goal.returns-in-Some-first_held-clause-first
returns-in-Some-first_held-clause-first c = λ n id is.
    against_holder _ _ _ _ _ n is c.args.tx.now id c.in-Some-first_held.held (λ e. c.if-len-eq-WINDOW_DEPTH.false (c.len.ensures.count ∙ e)) (rw (c.as_slice-objects.ensures.list ∙ c.named-named.ensures) at c.in_default.ensures) (rw (c.as_slice-objects.ensures.list ∙ c.named-named.ensures) at c.in-Some-first_held.ensures)

pub returns-then-is_worn-clause-first : goal.returns-then-is_worn-clause-first
returns-then-is_worn-clause-first c = λ n id is.
    against_worn _ _ _ _ _ n is c.args.tx.now id _ (λ e. c.if-len-eq-WINDOW_DEPTH.false (c.len.ensures.count ∙ e)) (rw (c.as_slice-objects.ensures.list ∙ c.named-named.ensures) at c.in_default.ensures) (rw (c.as_slice-objects.ensures.list ∙ c.named-named.ensures) at c.in_default-first_held.ensures) c.is_worn.ensures c.if-is_worn.true

pub returns-clause-first : goal.returns-clause-first
returns-clause-first c = λ n id is.
    against_none _ _ _ _ _ n is c.args.tx.now id _ (λ e. c.if-len-eq-WINDOW_DEPTH.false (c.len.ensures.count ∙ e)) (rw (c.as_slice-objects.ensures.list ∙ c.named-named.ensures) at c.in_default.ensures) (rw (c.as_slice-objects.ensures.list ∙ c.named-named.ensures) at c.in_default-first_held.ensures) c.is_worn.ensures c.if-is_worn.false

pub returns-clause-clear : goal.returns-clause-clear
unfolding told_held
returns-clause-clear c =
    let parts = or_false _ _ (sym c.is_worn.ensures ∙ c.if-is_worn.false) in
    let low : c.args.pipe.now.done + length c.args.pipe.now.pending ≡ 4294967295 → ⊥ = eqb-false _ _ parts.0 in
    record {
      room = omega arith;
      numbered = omega arith;
      free = rw (c.as_slice-objects.ensures.list ∙ c.named-named.ensures) at c.in_default-first_held.ensures;
      unworn = parts.1;
    }
