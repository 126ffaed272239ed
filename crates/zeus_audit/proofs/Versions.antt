-- Versions stay few: a point writes at most eight objects, each once.
use Rattle.std.proofs.Common.{ℕ, zero, suc, ◌≡◌, ◌<◌, ◌≤◌, ◌+◌, Bool, true, false, cond, List, [], ◌∷◌, inl, inr, length, map, refl, arith}
use Rattle.std.specs.Prelude.{◌==◌, Option, Some, None, replicate}
use Rattle.std.proofs.lemmas.Bool.{cases_eq, cond_both}
use Rattle.zeus_base.specs.TableLaws.{nth-put_same, nth-put_other}
use Rattle.zeus_base.specs.Tables.{nth, put}
use Rattle.zeus_base.specs.declared.config.Config.{Config}
use Rattle.zeus_base.specs.declared.config.ObjectDecl.{ObjectDecl}
use Rattle.zeus_base.specs.declared.value.Value.{Value}
use Rattle.zeus_txn.specs.Map.{applied_map, content, declared_content, no_content, run_at, start_map, written_map}
use Rattle.zeus_txn.specs.Ops.{object_of}
use Rattle.zeus_txn.specs.Run.{effect, latest, given, rewritten, stored, fails_at, run_from, run}
use Rattle.zeus_txn.specs.declared.map.Versioned.{Versioned}
use Rattle.zeus_txn.specs.declared.ops.Op.{Op}
use Rattle.zeus_txn.specs.declared.reply.Ran.{Ran}
use Rattle.zeus_audit.specs.declared.stage.Mark.{Mark}
use Rattle.zeus_audit.specs.declared.stage.Mark.TheVariants as marks
use Rattle.zeus_audit.specs.Fitting.{has_point, count_of_points}

-- ---- writes

put_few : (m : List Versioned) (k : ℕ) (v : Value) (b y : ℕ) → ((x : ℕ) → (content m x).ver ≤ b) → (content (put no_content m k record { ver = (content m k).ver + 1; value = v }) y).ver ≤ suc b
put_few m k v b y h =
    elim (cases_eq k y) [
      | inl same ↦ let at = h k in rw (← same, nth-put_same no_content m k record { ver = (content m k).ver + 1; value = v }) (omega arith)
      | inr other ↦ let at = h y in rw (nth-put_other no_content m k y record { ver = (content m k).ver + 1; value = v } other) (omega arith)
    ]

-- each write raises one version by one
pub written_few : (ws : List (ℕ × Value)) (m : List Versioned) (b y : ℕ) → ((x : ℕ) → (content m x).ver ≤ b) → (content (written_map m ws) y).ver ≤ length ws + b
unfolding written_map
written_few [] m b y h = let at = h y in omega arith
written_few (w ∷ ws) m b y h =
    let rest = written_few ws (put no_content m w.0 record { ver = (content m w.0).ver + 1; value = w.1 }) (suc b) y (λ x. put_few m w.0 w.1 b x h) in
    omega arith

put_least : (m : List Versioned) (k : ℕ) (v : Versioned) → length m ≤ length (put no_content m k v)
unfolding put
put_least [] k v = omega arith
put_least (x ∷ m) zero v = omega arith
put_least (x ∷ m) (suc k) v = let rest = put_least m k v in omega arith

-- no object goes
pub written_least : (ws : List (ℕ × Value)) (m : List Versioned) → length m ≤ length (written_map m ws)
unfolding written_map
written_least [] m = omega arith
written_least (w ∷ ws) m =
    let v : Versioned = record { ver = (content m w.0).ver + 1; value = w.1 } in
    let here = put_least m w.0 v in
    let rest = written_least ws (put no_content m w.0 v) in
    omega arith

either_way : {E : Type 0} (P : Ran → Type 0) (o : Option E) (a : Ran) (f : E → Ran) → P a → ((e : E) → P (f e)) → P (elim o [ None ↦ a | Some e ↦ f e ])
either_way P None a f h g = h
either_way P (Some e) a f h g = g e

length-rewritten : (ws : List (ℕ × Value)) (x : ℕ) (v : Value) → length (rewritten ws x v) ≤ suc (length ws)
unfolding rewritten
length-rewritten [] x v = omega arith
length-rewritten (w ∷ ws) x v =
    let rest = length-rewritten ws x v in
    cond_both (x == w.0) ((x, v) ∷ ws) (w ∷ rewritten ws x v) (λ l. length l ≤ suc (suc (length ws))) (λ _. omega arith) (λ _. omega arith)

length-stored : (ws : List (ℕ × Value)) (x : ℕ) (o : Option Value) → length (stored ws x o) ≤ suc (length ws)
unfolding stored
length-stored ws x None = omega arith
length-stored ws x (Some v) = length-rewritten ws x v

-- no more writes than operations
run_from-few : (found : ℕ → Value) (place : ℕ) (vs : List Value) (ws : List (ℕ × Value)) (ops : List Op) → length (run_from found place vs ws ops).writes ≤ length ws + length ops
unfolding run_from
run_from-few found place vs ws [] = omega arith
run_from-few found place vs ws (op ∷ ops) =
    let x = object_of op in
    either_way (λ r. length r.writes ≤ length ws + suc (length ops)) (effect op (latest ws x (found x))) (fails_at place vs) (λ e. run_from found (suc place) (given vs e.gives) (stored ws x e.stores) ops)
    (omega arith)
    (λ e. let rest = run_from-few found (suc place) (given vs e.gives) (stored ws x e.stores) ops in let one = length-stored ws x e.stores in omega arith)

-- a point of few operations raises no version by more
pub applied_few : (m : List Versioned) (ops : List Op) (b y : ℕ) → length ops ≤ 16 → ((x : ℕ) → (content m x).ver ≤ b) → (content (applied_map m ops) y).ver ≤ 16 + b
unfolding run
applied_few m ops b y few h =
    let writes = run_from-few (λ x. (content m x).value) 0 [] [] ops in
    let all = written_few (run_at m ops).writes m b y h in
    omega arith

-- operations do not make a map shorter
pub applied_least : (m : List Versioned) (ops : List Op) → length m ≤ length (applied_map m ops)
applied_least m ops = written_least (run_at m ops).writes m

-- ---- the start

start_vers : (os : List ObjectDecl) (x : ℕ) → (content (map declared_content os) x).ver ≤ 0
unfolding nth declared_content
start_vers [] x = omega arith
start_vers (o ∷ os) zero = omega arith
start_vers (o ∷ os) (suc x) = start_vers os x

-- at the start each version is 0
pub start_few : (c : Config) (x : ℕ) → (content (start_map c) x).ver ≤ 0
unfolding start_map
start_few c x = start_vers c.objects x

start_size : (os : List ObjectDecl) → length os ≤ length (map declared_content os)
start_size [] = omega arith
start_size (o ∷ os) = let rest = start_size os in omega arith

-- the map at the start has at least as many places as the configuration has objects
pub start_least : (c : Config) → length c.objects ≤ length (start_map c)
unfolding start_map
start_least c = start_size c.objects

-- ---- how many points there are

-- one if the test is true, else none
abbrev pub one_if : Bool → ℕ
one_if true = 1
one_if false = 0

-- another mark changes the count by what it says itself
pub count-put : (ms : List Mark) (k : ℕ) (m : Mark) → k < length ms → count_of_points (put marks.New ms k m) + one_if (has_point (nth marks.New ms k)) ≡ count_of_points ms + one_if (has_point m)
unfolding count_of_points put nth
count-put [] k m h = absurd (omega arith)
count-put (x ∷ ms) zero m h = swapped (has_point x) (has_point m) (count_of_points ms)
  where
    swapped : (a b : Bool) (n : ℕ) → cond b (suc n) n + one_if a ≡ cond a (suc n) n + one_if b
    swapped true true n = refl
    swapped true false n = omega arith
    swapped false true n = omega arith
    swapped false false n = refl
count-put (x ∷ ms) (suc k) m h =
    further (has_point x) (count_of_points (put marks.New ms k m)) (count_of_points ms) (one_if (has_point (nth marks.New ms k))) (one_if (has_point m)) (count-put ms k m (omega arith))
  where
    further : (a : Bool) (n n' p q : ℕ) → n + p ≡ n' + q → cond a (suc n) n + p ≡ cond a (suc n') n' + q
    further true n n' p q h = omega arith
    further false n n' p q h = h

-- there are at most as many points as marks
pub count_few : (ms : List Mark) → count_of_points ms ≤ length ms
unfolding count_of_points
count_few [] = omega arith
count_few (m ∷ ms) = go (has_point m) (count_of_points ms) (count_few ms)
  where
    go : (b : Bool) (n : ℕ) → n ≤ length ms → cond b (suc n) n ≤ suc (length ms)
    go true n h = omega arith
    go false n h = omega arith

-- at the start there is no point
pub count_start : (n : ℕ) → count_of_points (replicate n marks.New) ≡ 0
unfolding count_of_points has_point
count_start zero = refl
count_start (suc n) = count_start n
