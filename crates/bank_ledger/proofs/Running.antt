-- What the operations of a bank's transactions reply and write.
use Rattle.std.proofs.Common.{ℕ, ◌≡◌, ◌+◌, ◌-◌, ◌*◌, ◌%◌, ◌^◌, ◌<◌, ◌≤◌, Bool, true, false, List, [], ◌∷◌, Some, None, refl, ap, ◌∙◌, arith}
use Rattle.std.specs.Prelude.{◌==◌, nat_lt, if◌then◌else◌}
use Rattle.std.proofs.Math.Nat.{add-mul-mod_self_left}
use Rattle.std.proofs.lemmas.Bool.Decides.{nat_tests}
use Rattle.zeus_base.specs.declared.value.Value.{Value}
use Rattle.zeus_base.specs.declared.value.Value.TheVariants.{Num}
use Rattle.zeus_txn.specs.Ops.{object_of}
use Rattle.zeus_txn.specs.Run.{added, effect, fails_at, given, latest, reaches, rewritten, run, run_from, stored, succeeds, tested}
use Rattle.zeus_txn.specs.RunLaws.{run_from-none, run_from-some}
use Rattle.zeus_txn.specs.declared.ops.Op.{Op}
use Rattle.zeus_txn.specs.declared.ops.Op.TheVariants.{Get, Add, Need}
use Rattle.bank_ledger.specs.Operations.{taking}

-- ---- effects

-- an addition gives and stores the sum
effect_add : (x v n s : ℕ) (found : Value) → found ≡ Num n → (n + v) % 2 ^ 64 ≡ s → effect (Add x v) found ≡ Some record { gives = Some (Num s); stores = Some (Num s) }
unfolding effect added
effect_add x v n s found is e = rw (← e) (ap (λ (u : Value). effect (Add x v) u) is)

effect_need : (x v n : ℕ) (found : Value) (b : Bool) → found ≡ Num n → nat_lt n v ≡ b → effect (Need x v) found ≡ tested (if b then false else true)
unfolding effect reaches
effect_need x v n found b is e = ap (λ (u : Value). effect (Need x v) u) is ∙ ap (λ (c : Bool). tested (if c then false else true)) e

-- to take an amount from a number that is not below it
pub taken : (n v : ℕ) → nat_lt n v ≡ false → n < 2 ^ 64 → v ≤ 2 ^ 64 → (n + taking v) % 2 ^ 64 ≡ n - v
taken n v enough low small =
    let le : v ≤ n = grind (arith, nat_tests) in
    let e : n + (2 ^ 64 - v) ≡ (n - v) + 2 ^ 64 * 1 = omega arith in
    let short : n - v < 2 ^ 64 = omega arith in
    rw e (add-mul-mod_self_left (n - v) (2 ^ 64) 1 ∙ omega arith)

-- ---- runs

-- two gets reply both values and write nothing
pub run_get : (found : ℕ → Value) (x y : ℕ) → run found (Get x ∷ Get y ∷ []) ≡ succeeds (found x ∷ found y ∷ []) []
unfolding run run_from effect object_of given stored latest
run_get found x y = refl

-- an add replies the sum modulo 2^64 and writes it
pub run_add : (found : ℕ → Value) (x v n s : ℕ) → found x ≡ Num n → (n + v) % 2 ^ 64 ≡ s → run found (Add x v ∷ []) ≡ succeeds (Num s ∷ []) ((x, Num s) ∷ [])
unfolding run run_from object_of given stored rewritten latest
run_add found x v n s is e =
    run_from-some found 0 [] [] (Add x v) [] record { gives = Some (Num s); stores = Some (Num s) } (effect_add x v n s (found x) is e)

-- a need that is not met
pub run_lacking : (found : ℕ → Value) (x v n : ℕ) (ops : List Op) → found x ≡ Num n → nat_lt n v ≡ true → run found (Need x v ∷ ops) ≡ fails_at 0 []
unfolding run object_of latest tested
run_lacking found x v n ops is e = run_from-none found 0 [] [] (Need x v) ops (effect_need x v n (found x) true is e)

needed : (found : ℕ → Value) (x v n : ℕ) (ops : List Op) → found x ≡ Num n → nat_lt n v ≡ false → run found (Need x v ∷ ops) ≡ run_from found 1 [] [] ops
unfolding run object_of latest tested given stored
needed found x v n ops is e = run_from-some found 0 [] [] (Need x v) ops record { gives = None; stores = None } (effect_need x v n (found x) false is e)

-- an amount is taken
pub run_take : (found : ℕ → Value) (x v n s : ℕ) → found x ≡ Num n → nat_lt n v ≡ false → (n + taking v) % 2 ^ 64 ≡ s
    → run found (Need x v ∷ Add x (taking v) ∷ []) ≡ succeeds (Num s ∷ []) ((x, Num s) ∷ [])
unfolding run_from object_of given stored rewritten latest
run_take found x v n s is enough e =
    needed found x v n (Add x (taking v) ∷ []) is enough
    ∙ run_from-some found 1 [] [] (Add x (taking v)) [] record { gives = Some (Num s); stores = Some (Num s) } (effect_add x (taking v) n s (found x) is e)

-- an amount is taken, and put to something; k is what stands there then
move_on : (found : ℕ → Value) (x y v n s k r : ℕ) → found x ≡ Num n → nat_lt n v ≡ false → (n + taking v) % 2 ^ 64 ≡ s
    → latest ((x, Num s) ∷ []) y (found y) ≡ Num k → (k + v) % 2 ^ 64 ≡ r
    → run found (Need x v ∷ Add x (taking v) ∷ Add y v ∷ []) ≡ succeeds (Num s ∷ Num r ∷ []) (rewritten ((x, Num s) ∷ []) y (Num r))
unfolding run_from object_of given stored rewritten latest
move_on found x y v n s k r is enough e there f =
    needed found x v n (Add x (taking v) ∷ Add y v ∷ []) is enough
    ∙ run_from-some found 1 [] [] (Add x (taking v)) (Add y v ∷ []) record { gives = Some (Num s); stores = Some (Num s) } (effect_add x (taking v) n s (found x) is e)
    ∙ run_from-some found 2 (Num s ∷ []) ((x, Num s) ∷ []) (Add y v) [] record { gives = Some (Num r); stores = Some (Num r) } (effect_add y v k r (latest ((x, Num s) ∷ []) y (found y)) there f)

-- to another object
pub run_move : (found : ℕ → Value) (x y v n s k r : ℕ) → (y == x) ≡ false → found x ≡ Num n → nat_lt n v ≡ false → (n + taking v) % 2 ^ 64 ≡ s
    → found y ≡ Num k → (k + v) % 2 ^ 64 ≡ r
    → run found (Need x v ∷ Add x (taking v) ∷ Add y v ∷ []) ≡ succeeds (Num s ∷ Num r ∷ []) ((x, Num s) ∷ (y, Num r) ∷ [])
unfolding latest rewritten
run_move found x y v n s k r other is enough e there f =
    let stands : latest ((x, Num s) ∷ []) y (found y) ≡ Num k = ap (λ (b : Bool). if b then Num s else found y) other ∙ there in
    let second : rewritten ((x, Num s) ∷ []) y (Num r) ≡ (x, Num s) ∷ (y, Num r) ∷ [] = ap (λ (b : Bool). if b then (y, Num r) ∷ [] else (x, Num s) ∷ (y, Num r) ∷ []) other in
    move_on found x y v n s k r is enough e stands f ∙ ap (λ (ws : List (ℕ × Value)). succeeds (Num s ∷ Num r ∷ []) ws) second

-- back to the same object
pub run_move_back : (found : ℕ → Value) (x y v n s r : ℕ) → (y == x) ≡ true → found x ≡ Num n → nat_lt n v ≡ false → (n + taking v) % 2 ^ 64 ≡ s
    → (s + v) % 2 ^ 64 ≡ r
    → run found (Need x v ∷ Add x (taking v) ∷ Add y v ∷ []) ≡ succeeds (Num s ∷ Num r ∷ []) ((y, Num r) ∷ [])
unfolding latest rewritten
run_move_back found x y v n s r same is enough e f =
    let stands : latest ((x, Num s) ∷ []) y (found y) ≡ Num s = ap (λ (b : Bool). if b then Num s else found y) same in
    let second : rewritten ((x, Num s) ∷ []) y (Num r) ≡ (y, Num r) ∷ [] = ap (λ (b : Bool). if b then (y, Num r) ∷ [] else (x, Num s) ∷ (y, Num r) ∷ []) same in
    move_on found x y v n s s r is enough e stands f ∙ ap (λ (ws : List (ℕ × Value)). succeeds (Num s ∷ Num r ∷ []) ws) second
