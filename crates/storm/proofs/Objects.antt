-- The configuration of a storm keeps the limits.
use Rattle.std.proofs.Common.{ℕ, zero, suc, true, ◌≡◌, ◌+◌, ◌%◌, ◌<◌, ◌≤◌, List, [], ◌∷◌, length, map, refl, ap, arith}
use Rattle.std.specs.Prelude.{All, min}
use Rattle.std.proofs.Math.Nat.{le-min, min-le_left}
use Rattle.std.proofs.lemmas.Bool.Decides.{nat_tests}
use Rattle.std.proofs.lemmas.List.Elements.{All-nil, All-cons}
use Rattle.std.proofs.lemmas.Nat.{mod_below}
use Rattle.zeus_base.specs.Limits.{KeepsDeclaration, KeepsLimits}
use Rattle.zeus_base.specs.Nodes.{has, with_node}
use Rattle.zeus_base.specs.NodeLaws.{IsBelow, IsBelow-with_node, RisesFrom, RisesFrom-with_node, has-head, has-tail, has-with_node, has-with_same}
use Rattle.zeus_base.specs.Tables.{below, numbers_from}
use Rattle.zeus_base.specs.Values.{is_num}
use Rattle.zeus_base.specs.declared.config.ObjectDecl.{ObjectDecl}
use Rattle.storm.specs.Numbers.{AreInRange}
use Rattle.storm.specs.Script.{storm_config, storm_object}
use Rattle.storm.specs.declared.numbers.StormNumbers.{StormNumbers}

declared_limits : (nodes i : ℕ) → 0 < nodes → KeepsDeclaration 1 nodes (storm_object nodes i)
unfolding storm_object is_num RisesFrom has
declared_limits nodes i some =
    let owner : i % nodes < nodes = mod_below i nodes some in
    let next : (i % nodes + 1) % nodes < nodes = mod_below (i % nodes + 1) nodes some in
    record {
      owner = owner;
      rising = RisesFrom-with_node 0 ((i % nodes + 1) % nodes) (with_node (i % nodes) []) (omega arith) (RisesFrom-with_node 0 (i % nodes) [] (omega arith) tt);
      replicas = IsBelow-with_node nodes ((i % nodes + 1) % nodes) (with_node (i % nodes) []) next (IsBelow-with_node nodes (i % nodes) [] owner (λ k h. absurd cc));
      own_copy = grind (arith, nat_tests, has-with_node (i % nodes) ((i % nodes + 1) % nodes) (with_node (i % nodes) []), has-with_same (i % nodes) []);
      number = λ e. refl;
    }

objects_limits : (nodes i count : ℕ) → 0 < nodes → All (KeepsDeclaration 1 nodes) (map (storm_object nodes) (numbers_from i count))
unfolding numbers_from
objects_limits nodes i zero some = All-nil (KeepsDeclaration 1 nodes)
objects_limits nodes i (suc count) some =
    All-cons (KeepsDeclaration 1 nodes) (storm_object nodes i) (map (storm_object nodes) (numbers_from (suc i) count)) (declared_limits nodes i some) (objects_limits nodes (suc i) count some)

counted_from : {A : Type 0} (f : ℕ → A) (i count : ℕ) → length (map f (numbers_from i count)) ≡ count
unfolding numbers_from
counted_from f i zero = refl
counted_from f i (suc count) = ap suc (counted_from f (suc i) count)

-- as many objects as there are to be
pub count-objects : (nodes count : ℕ) → length (map (storm_object nodes) (below count)) ≡ count
count-objects nodes count = counted_from (storm_object nodes) 0 count

rises-numbers : (i count : ℕ) → RisesFrom i (numbers_from i count)
unfolding numbers_from RisesFrom
rises-numbers i zero = tt
rises-numbers i (suc count) = (omega arith, rises-numbers (suc i) count)

has-numbers : (k i count bound : ℕ) → i + count ≤ bound → has k (numbers_from i count) ≡ true → k < bound
unfolding numbers_from has
has-numbers k i zero bound few h = absurd cc
has-numbers k i (suc count) bound few h = grind (arith, nat_tests, has-numbers k (suc i) count bound (omega arith))

some-numbers : (count : ℕ) → 0 < count → below count ≡ [] → ⊥
unfolding numbers_from
some-numbers zero some e = omega arith
some-numbers (suc count) some e = cc

-- the configuration of a storm keeps the limits
pub storm_limits : (n : StormNumbers) → AreInRange n → KeepsLimits (storm_config n)
storm_limits n h =
    let count = count-objects n.nodes n.objects in
    let nodes = h.nodes in
    let objects = h.objects in
    let first : min n.nodes 3 ≤ n.nodes = min-le_left n.nodes 3 in
    let some : 1 ≤ min n.nodes 3 = le-min (omega arith) (omega arith) in
    record {
      version = (omega arith, omega arith);
      nodes = h.nodes;
      slots = h.slots;
      directory = some-numbers (min n.nodes 3) (omega arith);
      rising = rises-numbers 0 (min n.nodes 3);
      directory_nodes = λ k m. has-numbers k 0 (min n.nodes 3) n.nodes (omega arith) m;
      degree = tt;
      objects = (omega arith, omega arith);
      declared = objects_limits n.nodes 0 n.objects (omega arith);
    }
