-- Versions and numbers that are at their end.
use Rattle.std.proofs.Common.{ℕ, suc, ◌≡◌, ◌≢◌, ◌-◌, ◌^◌, Bool, true, false, List, [], ◌∷◌, ◌++◌, Option, Some, None, refl, sym, ap, ◌∙◌}
use Rattle.std.specs.Prelude.{◌&&◌, ◌||◌, ◌==◌, if◌then◌else◌}
use Rattle.std.specs.List.{list_any}
use Rattle.std.proofs.lemmas.Bool.{eqb-false, eqb-true}
use Rattle.zeus_base.specs.declared.value.Value.{Value}
use Rattle.zeus_base.specs.declared.value.Value.TheVariants.{Num, Text}
use Rattle.zeus_base.specs.Values.{same_value}
use Rattle.zeus_txn.specs.Ops.{mentions, mentioned, object_of, stores, written, written_after}
use Rattle.zeus_txn.specs.Run.{effect, added, tested, reaches, given, latest, rewritten, stored, fails_at, run_from, run}
use Rattle.zeus_txn.specs.declared.ops.Op.{Op}
use Rattle.zeus_txn.specs.declared.ops.Op.TheVariants.{Get, Put, Add, Need, Same}
use Rattle.zeus_txn.specs.declared.reply.Ran.{Ran}
use Rattle.zeus_model.specs.declared.answer.Tried.TheVariants.{WornOut}
use Rattle.zeus_model.specs.declared.state.Copy.{Copy}
use Rattle.zeus_model.specs.Local.{worn_cause}
use Rattle.zeus_model.specs.State.{Node, next_number, slot, version_of}
use Rattle.zeus_model.specs.Tables.{first_of, nth, or_else, where_true}
use Rattle.local_txn.specs.Tries.{AreRising, worn_at}

-- ---- what is worn

worn_version : List (Option Copy) → ℕ → Bool
worn_version cs x = version_of (nth None cs x) == 2 ^ 64 - 1

first_worn : (cs : List (Option Copy)) (xs : List ℕ) → first_of (λ x. where_true (version_of (nth None cs x) == 2 ^ 64 - 1) WornOut) xs ≡ where_true (list_any (worn_version cs) xs) WornOut
unfolding first_of or_else where_true worn_version
first_worn cs [] = refl
first_worn cs (x ∷ xs) =
    elim (version_of (nth None cs x) == 2 ^ 64 - 1) as (λ b.
    or_else (if b then Some WornOut else None) (first_of (λ y. where_true (version_of (nth None cs y) == 2 ^ 64 - 1) WornOut) xs)
    ≡ (if b || list_any (worn_version cs) xs then Some WornOut else None)) [
      | true ↦ refl
      | false ↦ first_worn cs xs
    ]

or_zero : (a : Bool) → (a || false) ≡ a
or_zero true = refl
or_zero false = refl

worn_new : (cs : List (Option Copy)) (x : ℕ) (seen : List ℕ) → list_any (worn_version cs) (seen ++ x ∷ []) ≡ list_any (worn_version cs) seen || worn_version cs x
worn_new cs x [] = or_zero (worn_version cs x)
worn_new cs x (y ∷ ys) =
    elim (worn_version cs y) as (λ b. b || list_any (worn_version cs) (ys ++ x ∷ []) ≡ (b || list_any (worn_version cs) ys) || worn_version cs x) [
      | true ↦ refl
      | false ↦ worn_new cs x ys
    ]

or_twice : (a b : Bool) → (b ≡ true → a ≡ true) → a ≡ (a || b)
or_twice true b h = refl
or_twice false true h = h refl
or_twice false false h = refl

or_right : (a b : Bool) → b ≡ true → (a || b) ≡ true
or_right true b e = refl
or_right false b e = e

worn_in : (cs : List (Option Copy)) (x : ℕ) (seen : List ℕ) → mentions x seen ≡ true → worn_version cs x ≡ true → list_any (worn_version cs) seen ≡ true
unfolding mentions
worn_in cs x [] m w = cc
worn_in cs x (y ∷ ys) m w =
    elim (x == y) as (λ b. (x == y) ≡ b → (b || mentions x ys) ≡ true → (worn_version cs y || list_any (worn_version cs) ys) ≡ true) [
      | true ↦ λ e _. let same : x ≡ y = eqb-true x y e in rw (← same, w) refl
      | false ↦ λ _ rest. or_right (worn_version cs y) _ (worn_in cs x ys rest w)
    ] refl m

worn_old : (cs : List (Option Copy)) (x : ℕ) (seen : List ℕ) → mentions x seen ≡ true → list_any (worn_version cs) seen ≡ list_any (worn_version cs) seen || worn_version cs x
worn_old cs x seen e = or_twice _ _ (worn_in cs x seen e)

worn_mentioned : (cs : List (Option Copy)) (x : ℕ) (seen : List ℕ) → list_any (worn_version cs) (mentioned seen x) ≡ list_any (worn_version cs) seen || worn_version cs x
unfolding mentioned
worn_mentioned cs x seen =
    elim (mentions x seen) as (λ b. mentions x seen ≡ b → list_any (worn_version cs) (if b then seen else seen ++ x ∷ []) ≡ list_any (worn_version cs) seen || worn_version cs x) [
      | true ↦ λ e. worn_old cs x seen e
      | false ↦ λ _. worn_new cs x seen
    ] refl

or_assoc : (a b c : Bool) → ((a || b) || c) ≡ (a || (b || c))
or_assoc true b c = refl
or_assoc false b c = refl

-- the written objects that are worn are those of operations that store at such an object
worn_after : (cs : List (Option Copy)) (ops : List Op) (seen : List ℕ) → list_any (worn_version cs) (written_after seen ops) ≡ list_any (worn_version cs) seen || list_any (worn_at cs) ops
unfolding written_after worn_at worn_version
worn_after cs [] seen = sym (or_zero _)
worn_after cs (op ∷ ops) seen =
    elim (stores op) as (λ b.
    list_any (λ x. version_of (nth None cs x) == 2 ^ 64 - 1) (written_after (if b then mentioned seen (object_of op) else seen) ops)
    ≡ list_any (λ x. version_of (nth None cs x) == 2 ^ 64 - 1) seen || ((b && (version_of (nth None cs (object_of op)) == 2 ^ 64 - 1)) || list_any (worn_at cs) ops)) [
      | true ↦
          worn_after cs ops (mentioned seen (object_of op)) ∙ ap (λ a. a || list_any (worn_at cs) ops) (worn_mentioned cs (object_of op) seen)
          ∙ or_assoc (list_any (worn_version cs) seen) (worn_version cs (object_of op)) (list_any (worn_at cs) ops)
      | false ↦ worn_after cs ops seen
    ]

-- a transaction is worn out if the next number is the last of 32 bits, or the version of an object is at its end
pub worn_is : (n : Node) (s : ℕ) (tx : List Op) (b : Bool) → (next_number (slot n s) == 2 ^ 32 - 1) ≡ b → worn_cause n s tx ≡ where_true (b || list_any (worn_at n.copies) tx) WornOut
unfolding worn_cause written
worn_is n s tx b e =
    rw (e, first_worn n.copies (written_after [] tx), worn_after n.copies tx [])
    (elim b as (λ c. or_else (where_true c WornOut) (where_true (list_any (worn_version n.copies) [] || list_any (worn_at n.copies) tx) WornOut) ≡ where_true (c || list_any (worn_at n.copies) tx) WornOut) [
      | true ↦ unfold or_else where_true in refl
      | false ↦ unfold or_else where_true in refl
    ])

-- if "or" of two tests is false, then both are false
pub or_false : (a b : Bool) → (a || b) ≡ false → (a ≡ false) × (b ≡ false)
or_false true b e = cc
or_false false b e = (refl, e)

-- ---- what a transaction writes rises

rising_rewritten : (cs : List (Option Copy)) (ws : List (ℕ × Value)) (x : ℕ) (v : Value) → AreRising cs ws → version_of (nth None cs x) ≢ 2 ^ 64 - 1 → AreRising cs (rewritten ws x v)
unfolding AreRising rewritten
rising_rewritten cs [] x v h k = (k, tt)
rising_rewritten cs (w ∷ ws) x v h k =
    elim (x == w.0) as (λ b. AreRising cs (if b then (x, v) ∷ ws else w ∷ rewritten ws x v)) [
      | true ↦ (k, h.1)
      | false ↦ (h.0, rising_rewritten cs ws x v h.1 k)
    ]

rising_none : (cs : List (Option Copy)) → AreRising cs []
unfolding AreRising
rising_none cs = tt

-- the operations that are left keep to it
abbrev Keeps : List (Option Copy) → (ℕ → Value) → List Op → Type 0
Keeps cs found ops = (place : ℕ) (vs : List Value) (ws : List (ℕ × Value)) → AreRising cs ws → AreRising cs (run_from found place vs ws ops).writes

rising_added : (cs : List (Option Copy)) (found : ℕ → Value) (ops : List Op) → Keeps cs found ops → (x d place : ℕ) (vs : List Value) (ws : List (ℕ × Value)) → version_of (nth None cs x) ≢ 2 ^ 64 - 1 → AreRising cs ws → (u : Value) → AreRising cs (let r : Ran = elim (added u d) [ None ↦ fails_at place vs | Some e ↦ run_from found (suc place) (given vs e.gives) (stored ws x e.stores) ops ] in r).writes
unfolding added stored
rising_added cs found ops rest x d place vs ws h k (Num m) = rest _ _ _ (rising_rewritten cs ws x _ k h)
rising_added cs found ops rest x d place vs ws h k (Text t) = rising_none cs

rising_tested : (cs : List (Option Copy)) (found : ℕ → Value) (ops : List Op) → Keeps cs found ops → (x place : ℕ) (vs : List Value) (ws : List (ℕ × Value)) → AreRising cs ws → (b : Bool) → AreRising cs (let r : Ran = elim (tested b) [ None ↦ fails_at place vs | Some e ↦ run_from found (suc place) (given vs e.gives) (stored ws x e.stores) ops ] in r).writes
unfolding tested stored
rising_tested cs found ops rest x place vs ws k true = rest _ _ _ k
rising_tested cs found ops rest x place vs ws k false = rising_none cs

unworn : (cs : List (Option Copy)) (op : Op) → stores op ≡ true → worn_at cs op ≡ false → version_of (nth None cs (object_of op)) ≢ 2 ^ 64 - 1
unfolding worn_at
unworn cs op e w = eqb-false _ _ (rw e at w)

rising_step : (cs : List (Option Copy)) (found : ℕ → Value) (ops : List Op) → Keeps cs found ops → (op : Op) (place : ℕ) (vs : List Value) (ws : List (ℕ × Value)) → (stores op ≡ true → version_of (nth None cs (object_of op)) ≢ 2 ^ 64 - 1) → AreRising cs ws → AreRising cs (run_from found place vs ws (op ∷ ops)).writes
unfolding run_from effect stored stores object_of
rising_step cs found ops rest (Get x) place vs ws h k = rest _ _ _ k
rising_step cs found ops rest (Put x w) place vs ws h k = rest _ _ _ (rising_rewritten cs ws x w k (h refl))
rising_step cs found ops rest (Add x d) place vs ws h k = rising_added cs found ops rest x d place vs ws (h refl) k (latest ws x (found x))
rising_step cs found ops rest (Need x m) place vs ws h k = rising_tested cs found ops rest x place vs ws k (reaches (latest ws x (found x)) m)
rising_step cs found ops rest (Same x w) place vs ws h k = rising_tested cs found ops rest x place vs ws k (same_value (latest ws x (found x)) w)

rising_from : (cs : List (Option Copy)) (found : ℕ → Value) (ops : List Op) → list_any (worn_at cs) ops ≡ false → (place : ℕ) (vs : List Value) (ws : List (ℕ × Value)) → AreRising cs ws → AreRising cs (run_from found place vs ws ops).writes
unfolding run_from
rising_from cs found [] w place vs ws k = k
rising_from cs found (op ∷ ops) w place vs ws k =
    let parts = or_false (worn_at cs op) (list_any (worn_at cs) ops) w in
    rising_step cs found ops (rising_from cs found ops parts.1) op place vs ws (λ st. unworn cs op st parts.0) k

-- if no version that the operations write is at its end, then none of the writes' objects has one there
pub run_rising : (cs : List (Option Copy)) (found : ℕ → Value) (tx : List Op) → list_any (worn_at cs) tx ≡ false → AreRising cs (run found tx).writes
unfolding run
run_rising cs found tx w = rising_from cs found tx w 0 [] [] (rising_none cs)
