-- A few operations make a transaction.
use Rattle.std.proofs.Common.{ℕ, ◌≡◌, ◌+◌, ◌≤◌, false, List, [], ◌∷◌, length, arith, length-append}
use Rattle.std.specs.Prelude.{nat_lt, Ok, ◌++◌}
use Rattle.std.proofs.lemmas.Bool.{cond_both}
use Rattle.std.proofs.lemmas.Bool.Decides.{nat_tests}
use Rattle.zeus_txn.specs.Ops.{mentioned, mentions, named, named_after, object_of}
use Rattle.zeus_txn.specs.Tx.{IsTx, made_tx}
use Rattle.zeus_txn.specs.declared.ops.Op.{Op}

mentioned-few : (x : ℕ) (xs : List ℕ) → length (mentioned xs x) ≤ length xs + 1
unfolding mentioned
mentioned-few x xs =
    cond_both (mentions x xs) xs (xs ++ x ∷ []) (λ (ys : List ℕ). length ys ≤ length xs + 1) (λ _. omega arith) (λ _. omega (arith, length-append xs (x ∷ [])))

named-few : (seen : List ℕ) (ops : List Op) → length (named_after seen ops) ≤ length seen + length ops
unfolding named_after
named-few seen [] = omega arith
named-few seen (op ∷ ops) =
    let one = mentioned-few (object_of op) seen in
    let rest = named-few (mentioned seen (object_of op)) ops in
    omega arith

-- 1 to 8 operations are a transaction, since they name no more objects than they are
pub few-tx : (ops : List Op) → 1 ≤ length ops → length ops ≤ 8 → IsTx ops
unfolding named
few-tx ops some few =
    let objects = named-few [] ops in
    record { some = some; few = omega arith; objects = omega arith }

-- 1 to 8 operations make a transaction
pub few-made : (ops : List Op) → 1 ≤ length ops → length ops ≤ 8 → made_tx ops ≡ Ok ops
unfolding made_tx named
few-made ops some few =
    let objects = named-few [] ops in
    let a : nat_lt (length ops) 1 ≡ false = grind (arith, nat_tests) in
    let b : nat_lt 16 (length ops) ≡ false = grind (arith, nat_tests) in
    let d : nat_lt 8 (length (named_after [] ops)) ≡ false = grind (arith, nat_tests) in
    simp (a, b, d)
