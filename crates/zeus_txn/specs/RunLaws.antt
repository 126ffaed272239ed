-- Laws of running operations: what one step does, that only the values of the named objects count, and what is written.
use Rattle.std.specs.Prelude.{ℕ, suc, Bool, true, false, ◌||◌, ◌==◌, ◌≡◌, ◌+◌, ◌≤◌, List, [], ◌∷◌, ◌++◌, length, map, Option, Some, None, refl, if◌then◌else◌}
use Rattle.std.proofs.Common.{arith, sym, ap, ◌∙◌, length-append}
use Rattle.std.proofs.lemmas.Bool.{eqb-true}
use Rattle.std.proofs.lemmas.Bool.Decides.{nat_tests}
use Rattle.zeus_base.specs.declared.value.Value.{Value}
use Rattle.zeus_txn.specs.declared.ops.Op.{Op}
use Rattle.zeus_txn.specs.declared.reply.Ran.{Ran}
use Rattle.zeus_txn.specs.declared.run.Effect.{Effect}
use Rattle.zeus_txn.specs.declared.ops.Op.TheVariants.{Get, Put, Add, Need, Same}
use Rattle.zeus_base.specs.Values.{same_value}
use Rattle.zeus_txn.specs.Ops.{object_of, stores, mentions, mentioned, named, is_write}
use Rattle.zeus_txn.specs.OpLaws.{AllIn, mentions-append, mentions-one, mentions-mentioned, mentioned-new, mentioned-old, named-all}
use Rattle.zeus_txn.specs.Run.{effect, reaches, tested, given, latest, rewritten, stored, fails_at, run_from, run, value_at}

-- ---- one operation after another

-- if the first operation left has no effect on the object's latest value, then the transaction fails at that place
pub run_from-none : (found : ℕ → Value) (place : ℕ) (vs : List Value) (ws : List (ℕ × Value)) (op : Op) (ops : List Op) → effect op (latest ws (object_of op) (found (object_of op))) ≡ None → run_from found place vs ws (op ∷ ops) ≡ fails_at place vs
unfolding run_from
run_from-none found place vs ws op ops h = rw (h, run_from) refl

-- if the first operation left has an effect, then the run goes on with what it gives and stores
pub run_from-some : (found : ℕ → Value) (place : ℕ) (vs : List Value) (ws : List (ℕ × Value)) (op : Op) (ops : List Op) (e : Effect) → effect op (latest ws (object_of op) (found (object_of op))) ≡ Some e → run_from found place vs ws (op ∷ ops) ≡ run_from found (suc place) (given vs e.gives) (stored ws (object_of op) e.stores) ops
unfolding run_from
run_from-some found place vs ws op ops e h = rw (h, run_from) refl

-- ---- only the values of the named objects count

both_ways : (o : Option Effect) (a : Ran) (f g : Effect → Ran) → ((e : Effect) → f e ≡ g e) → ◌≡◌ {A = Ran} (elim o [ None ↦ a | Some e ↦ f e ]) (elim o [ None ↦ a | Some e ↦ g e ])
both_ways None a f g h = refl
both_ways (Some e) a f g h = h e

-- if two readings agree on the objects named, then a transaction over these objects runs the same with both
pub run_from-agree : (f g : ℕ → Value) (ns : List ℕ) → ((x : ℕ) → mentions x ns ≡ true → f x ≡ g x) → (place : ℕ) (vs : List Value) (ws : List (ℕ × Value)) (ops : List Op) → AllIn ns ops → run_from f place vs ws ops ≡ run_from g place vs ws ops
unfolding run_from AllIn
run_from-agree f g ns same place vs ws [] all = refl
run_from-agree f g ns same place vs ws (op ∷ ops) all =
    let x = object_of op in
    let head : f x ≡ g x = same x all.0 in
    rw (head, run_from) (both_ways (effect op (latest ws x (g x))) (fails_at place vs) (λ e. run_from f (suc place) (given vs e.gives) (stored ws x e.stores) ops) (λ e. run_from g (suc place) (given vs e.gives) (stored ws x e.stores) ops) (λ e. run_from-agree f g ns same (suc place) (given vs e.gives) (stored ws x e.stores) ops all.1))

-- where two views of the values agree on the objects that operations name, they reply and write the same
pub run-agree : (f g : ℕ → Value) (ops : List Op) → ((x : ℕ) → mentions x (named ops) ≡ true → f x ≡ g x) → run f ops ≡ run g ops
unfolding run
run-agree f g ops same = run_from-agree f g (named ops) same 0 [] [] ops (named-all ops)

-- if an object is among the names, then its value in the list made by a function is the function's
pub value_at-map : (f : ℕ → Value) (ns : List ℕ) (x : ℕ) → mentions x ns ≡ true → value_at ns (map f ns) x ≡ f x
unfolding value_at mentions
value_at-map f [] x h = absurd cc
value_at-map f (n ∷ ns) x h =
    elim (x == n) as (λ b. (x == n) ≡ b → (b || mentions x ns) ≡ true → (if b then f n else value_at ns (map f ns) x) ≡ f x) [
      | true ↦ λ is _. ap f (sym (eqb-true x n is))
      | false ↦ λ _ rest. value_at-map f ns x rest
    ] refl h

-- the values of the named objects, in the order of their naming, are all that operations need
pub run-value_at : (f : ℕ → Value) (ops : List Op) → run (value_at (named ops) (map f (named ops))) ops ≡ run f ops
run-value_at f ops = run-agree (value_at (named ops) (map f (named ops))) f ops (λ x. value_at-map f (named ops) x)

-- ---- which objects are written

-- the objects of writes
unfoldable pub keys : List (ℕ × Value) → List ℕ
keys [] = []
keys (w ∷ ws) = w.0 ∷ keys ws

-- there are as many keys as writes
pub length-keys : (ws : List (ℕ × Value)) → length (keys ws) ≡ length ws
unfolding keys
length-keys [] = refl
length-keys (w ∷ ws) = ap suc (length-keys ws)

mentioned-cons : (x k : ℕ) (ks : List ℕ) → (x == k) ≡ false → mentioned (k ∷ ks) x ≡ k ∷ mentioned ks x
unfolding mentioned mentions
mentioned-cons x k ks h = grind arith

mentioned-first : (x k : ℕ) (ks : List ℕ) → (x == k) ≡ true → mentioned (k ∷ ks) x ≡ k ∷ ks
unfolding mentioned mentions
mentioned-first x k ks h = grind arith

-- rewriting an object's value adds the object to the keys, if it is not among them
pub keys-rewritten : (ws : List (ℕ × Value)) (x : ℕ) (v : Value) → keys (rewritten ws x v) ≡ mentioned (keys ws) x
unfolding keys rewritten
keys-rewritten [] x v = unfold mentioned mentions in refl
keys-rewritten (w ∷ ws) x v =
    elim (x == w.0) as (λ b. (x == w.0) ≡ b → keys (if b then (x, v) ∷ ws else w ∷ rewritten ws x v) ≡ mentioned (w.0 ∷ keys ws) x) [
      | true ↦ λ is. ap (λ k. k ∷ keys ws) (eqb-true x w.0 is) ∙ sym (mentioned-first x w.0 (keys ws) is)
      | false ↦ λ is. ap (λ ks. w.0 ∷ ks) (keys-rewritten ws x v) ∙ sym (mentioned-cons x w.0 (keys ws) is)
    ] refl

-- how many of the names are not written yet
unfoldable pub missing : List ℕ → List ℕ → ℕ
missing ks [] = 0
missing ks (n ∷ ns) = (if mentions n ks then 0 else 1) + missing ks ns

missing-none : (ns : List ℕ) → missing [] ns ≡ length ns
unfolding missing mentions
missing-none [] = refl
missing-none (n ∷ ns) = omega (arith, missing-none ns)

missing-fewer : (x : ℕ) (ks ns : List ℕ) → missing (mentioned ks x) ns ≤ missing ks ns
unfolding missing
missing-fewer x ks [] = omega arith
missing-fewer x ks (n ∷ ns) = grind (arith, nat_tests, missing-fewer x ks ns, mentions-mentioned n x ks)

missing-one_fewer : (x : ℕ) (ks ns : List ℕ) → mentions x ks ≡ false → mentions x ns ≡ true → missing (mentioned ks x) ns + 1 ≤ missing ks ns
unfolding missing mentions
missing-one_fewer x ks [] h g = absurd cc
missing-one_fewer x ks (n ∷ ns) h g = grind (arith, nat_tests, missing-fewer x ks ns, missing-one_fewer x ks ns h, mentions-mentioned n x ks)

-- the written objects and the names that are not written yet are not more than the names
unfoldable pub HasRoom : List ℕ → List ℕ → Type 0
HasRoom ks ns = length ks + missing ks ns ≤ length ns

-- no writes have room among any names
pub HasRoom-none : (ns : List ℕ) → HasRoom [] ns
unfolding HasRoom
HasRoom-none ns = omega (arith, missing-none ns)

-- if keys have room among names, then so have they with one of the names added
pub HasRoom-mentioned : (x : ℕ) (ks ns : List ℕ) → HasRoom ks ns → mentions x ns ≡ true → HasRoom (mentioned ks x) ns
unfolding HasRoom
HasRoom-mentioned x ks ns h g =
    elim (mentions x ks) as (λ b. mentions x ks ≡ b → length (mentioned ks x) + missing (mentioned ks x) ns ≤ length ns) [
      | true ↦ λ old. rw (mentioned-old x ks old) h
      | false ↦ λ new.
          let fewer = missing-one_fewer x ks ns new g in
          let longer : length (mentioned ks x) ≡ length ks + 1 = ap length (mentioned-new x ks new) ∙ length-append ks (x ∷ []) in
          omega arith
    ] refl

-- if keys have room among names, then they are no more than the names
pub HasRoom-few : (ks ns : List ℕ) → HasRoom ks ns → length ks ≤ length ns
unfolding HasRoom
HasRoom-few ks ns h = omega arith

-- if the keys of writes have room among names, then so have they after a store to one of the names
pub HasRoom-stored : (ws : List (ℕ × Value)) (x : ℕ) (o : Option Value) (ns : List ℕ) → HasRoom (keys ws) ns → mentions x ns ≡ true → HasRoom (keys (stored ws x o)) ns
unfolding stored
HasRoom-stored ws x None ns h g = h
HasRoom-stored ws x (Some v) ns h g = rw keys-rewritten (HasRoom-mentioned x (keys ws) ns h g)

-- if the keys of writes have room among names, then the writes are no more than the names
pub HasRoom-length : (ws : List (ℕ × Value)) (ns : List ℕ) → HasRoom (keys ws) ns → length ws ≤ length ns
unfolding HasRoom
HasRoom-length ws ns h = omega (arith, length-keys ws)

-- no object stands twice
unfoldable pub AreDistinct : List ℕ → Type 0
AreDistinct [] = Unit {0}
AreDistinct (k ∷ ks) = (mentions k ks ≡ false) × AreDistinct ks

distinct-append : (x : ℕ) (ks : List ℕ) → AreDistinct ks → mentions x ks ≡ false → AreDistinct (ks ++ x ∷ [])
unfolding AreDistinct mentions
distinct-append x [] d h = (refl, tt)
distinct-append x (k ∷ ks) d h =
    (grind (arith, nat_tests, d.0, mentions-append k ks (x ∷ []), mentions-one k x), distinct-append x ks d.1 (grind (arith, nat_tests)))

-- distinct objects with one more that is mentioned are distinct
pub distinct-mentioned : (x : ℕ) (ks : List ℕ) → AreDistinct ks → AreDistinct (mentioned ks x)
distinct-mentioned x ks d =
    elim (mentions x ks) as (λ b. mentions x ks ≡ b → AreDistinct (mentioned ks x)) [
      | true ↦ λ old. rw (mentioned-old x ks old) d
      | false ↦ λ new. rw (mentioned-new x ks new) (distinct-append x ks d new)
    ] refl

-- writes are of different objects, each one of those that are named
pub record AreOf (ns : List ℕ) (ws : List (ℕ × Value)) : Type 0 where
  pub distinct : AreDistinct (keys ws)
  pub named : (x : ℕ) → mentions x (keys ws) ≡ true → mentions x ns ≡ true

AreOf-none : (ns : List ℕ) → AreOf ns []
unfolding AreDistinct keys mentions
AreOf-none ns = record { distinct = tt; named = λ x h. absurd cc }

AreOf-rewritten : (ns : List ℕ) (ws : List (ℕ × Value)) (x : ℕ) (v : Value) → AreOf ns ws → mentions x ns ≡ true → AreOf ns (rewritten ws x v)
AreOf-rewritten ns ws x v are h =
    record {
      distinct = rw keys-rewritten (distinct-mentioned x (keys ws) are.distinct);
      named = λ y g.
          let either : ((y == x) || mentions y (keys ws)) ≡ true = sym (mentions-mentioned y x (keys ws)) ∙ (ap (λ ks. mentions y ks) (sym (keys-rewritten ws x v)) ∙ g) in
          elim (y == x) as (λ b. (y == x) ≡ b → (b || mentions y (keys ws)) ≡ true → mentions y ns ≡ true) [
            | true ↦ λ is _. rw (eqb-true y x is) h
            | false ↦ λ _ old. are.named y old
          ] refl either;
    }

AreOf-stored : (ns : List ℕ) (ws : List (ℕ × Value)) (x : ℕ) (o : Option Value) → AreOf ns ws → mentions x ns ≡ true → AreOf ns (stored ws x o)
unfolding stored
AreOf-stored ns ws x None are h = are
AreOf-stored ns ws x (Some v) are h = AreOf-rewritten ns ws x v are h

either_way : (P : Ran → Type 0) (o : Option Effect) (a : Ran) (f : Effect → Ran) → P a → ((e : Effect) → P (f e)) → P (elim o [ None ↦ a | Some e ↦ f e ])
either_way P None a f h g = h
either_way P (Some e) a f h g = g e

run_from-are_of : (found : ℕ → Value) (ns : List ℕ) (place : ℕ) (vs : List Value) (ws : List (ℕ × Value)) (ops : List Op) → AllIn ns ops → AreOf ns ws → AreOf ns (run_from found place vs ws ops).writes
unfolding run_from AllIn
run_from-are_of found ns place vs ws [] all are = are
run_from-are_of found ns place vs ws (op ∷ ops) all are =
    let x = object_of op in
    either_way (λ r. AreOf ns r.writes) (effect op (latest ws x (found x))) (fails_at place vs) (λ e. run_from found (suc place) (given vs e.gives) (stored ws x e.stores) ops) (AreOf-none ns) (λ e. run_from-are_of found ns (suc place) (given vs e.gives) (stored ws x e.stores) ops all.1 (AreOf-stored ns ws x e.stores are all.0))

-- what operations write are different objects that they name
pub run-are_of : (found : ℕ → Value) (ops : List Op) → AreOf (named ops) (run found ops).writes
unfolding run
run-are_of found ops = run_from-are_of found (named ops) 0 [] [] ops (named-all ops) (AreOf-none (named ops))

-- ---- transactions that write nothing

stores_none : (a e : Effect) → a.stores ≡ None → ◌≡◌ {A = Option Effect} (Some a) (Some e) → e.stores ≡ None
stores_none a e none is = let same : a ≡ e = cc in rw (← same) none

tested_stores : (b : Bool) (e : Effect) → tested b ≡ Some e → e.stores ≡ None
unfolding tested
tested_stores true e is = stores_none record { gives = None; stores = None } e refl is
tested_stores false e is = absurd cc

effect_stores : (op : Op) (v : Value) (e : Effect) → stores op ≡ false → effect op v ≡ Some e → e.stores ≡ None
unfolding effect stores
effect_stores (Get x) v e h is = stores_none record { gives = Some v; stores = None } e refl is
effect_stores (Put x w) v e h is = absurd cc
effect_stores (Add x d) v e h is = absurd cc
effect_stores (Need x n) v e h is = tested_stores (reaches v n) e is
effect_stores (Same x w) v e h is = tested_stores (same_value v w) e is

neither : (a b : Bool) → (a || b) ≡ false → (a ≡ false) × (b ≡ false)
neither true b h = absurd cc
neither false b h = (refl, h)

reads_from : (ops : List Op) (found : ℕ → Value) (place : ℕ) (vs : List Value) → is_write ops ≡ false → (run_from found place vs [] ops).writes ≡ []
unfolding is_write run_from stored
reads_from [] found place vs h = refl
reads_from (op ∷ ops) found place vs h =
    by_effect (effect op (latest [] (object_of op) (found (object_of op)))) refl (λ next wider. reads_from ops found next wider (neither (stores op) (is_write ops) h).1)
  where
    by_effect : (o : Option Effect) → effect op (latest [] (object_of op) (found (object_of op))) ≡ o → ((next : ℕ) (wider : List Value) → (run_from found next wider [] ops).writes ≡ []) → (run_from found place vs [] (op ∷ ops)).writes ≡ []
    by_effect None is later = ap (λ (r : Ran). r.writes) (run_from-none found place vs [] op ops is)
    by_effect (Some e) is later =
        let parts = neither (stores op) (is_write ops) h in
        let none : e.stores ≡ None = effect_stores op (latest [] (object_of op) (found (object_of op))) e parts.0 is in
        ap (λ (r : Ran). r.writes) (run_from-some found place vs [] op ops e is)
        ∙ ap (λ (o : Option Value). (run_from found (suc place) (given vs e.gives) (stored [] (object_of op) o) ops).writes) none
        ∙ later (suc place) (given vs e.gives)

-- a transaction without a put or an add writes nothing
pub reads_write_nothing : (found : ℕ → Value) (ops : List Op) → is_write ops ≡ false → (run found ops).writes ≡ []
unfolding run
reads_write_nothing found ops h = reads_from ops found 0 [] h
