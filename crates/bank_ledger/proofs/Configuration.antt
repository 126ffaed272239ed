-- The configuration of a bank keeps the limits, and its map begins with the first balances.
use Rattle.std.proofs.Common.{ℕ, zero, suc, ◌≡◌, ◌+◌, ◌*◌, ◌%◌, ◌≤◌, List, [], ◌∷◌, length, map, refl, ap, arith}
use Rattle.std.specs.Prelude.{All, replicate}
use Rattle.std.proofs.lemmas.List.Elements.{All-nil, All-cons}
use Rattle.zeus_base.specs.Limits.{KeepsDeclaration, KeepsLimits}
use Rattle.zeus_base.specs.Nodes.{has, with_node}
use Rattle.std.proofs.lemmas.Bool.Decides.{nat_tests}
use Rattle.zeus_base.specs.NodeLaws.{IsBelow-with_node, RisesFrom, RisesFrom-with_node, has-with_node, has-with_same}
use Rattle.zeus_base.specs.Values.{is_num}
use Rattle.zeus_base.specs.declared.value.Value.{Value}
use Rattle.zeus_base.specs.declared.value.Value.TheVariants.{Num}
use Rattle.zeus_txn.specs.Map.{declared_content, start_map}
use Rattle.bank_ledger.specs.Bank.{bank_config, bank_object, first_balances, objects_from, opening, value_of}
use Rattle.bank_ledger.proofs.Tables.{Shows, total}

declared_limits : (a : ℕ) → KeepsDeclaration 1 4 (bank_object a)
unfolding bank_object is_num RisesFrom has
declared_limits a =
    record {
      owner = omega arith;
      rising = RisesFrom-with_node 0 ((a + 1) % 4) (with_node (a % 4) []) (omega arith) (RisesFrom-with_node 0 (a % 4) [] (omega arith) tt);
      replicas = IsBelow-with_node 4 ((a + 1) % 4) (with_node (a % 4) []) (omega arith) (IsBelow-with_node 4 (a % 4) [] (omega arith) (λ k h. absurd cc));
      own_copy = grind (arith, nat_tests, has-with_node (a % 4) ((a + 1) % 4) (with_node (a % 4) []), has-with_same (a % 4) []);
      number = λ e. refl;
    }

objects_limits : (a n : ℕ) → All (KeepsDeclaration 1 4) (objects_from a n)
unfolding objects_from
objects_limits a zero = All-nil (KeepsDeclaration 1 4)
objects_limits a (suc n) =
    All-cons (KeepsDeclaration 1 4) (bank_object a) (bank_object a ∷ objects_from (suc a) n) (declared_limits a)
    (All-cons (KeepsDeclaration 1 4) (bank_object a) (objects_from (suc a) n) (declared_limits a) (objects_limits (suc a) n))

-- n accounts have 2n objects
pub length-objects_from : (a n : ℕ) → length (objects_from a n) ≡ 2 * n
unfolding objects_from
length-objects_from a zero = refl
length-objects_from a (suc n) = let rest = length-objects_from (suc a) n in omega arith

-- a bank of 1 to 128 accounts keeps the limits
pub bank_limits : (accounts : ℕ) → 1 ≤ accounts → accounts ≤ 128 → KeepsLimits (bank_config accounts)
unfolding RisesFrom has
bank_limits accounts some few =
    let count = length-objects_from 0 accounts in
    record {
      version = (omega arith, omega arith);
      nodes = (omega arith, omega arith);
      slots = (omega arith, omega arith);
      directory = λ e. cc;
      rising = (omega arith, (omega arith, (omega arith, tt)));
      directory_nodes = λ k h. grind (arith, nat_tests);
      degree = tt;
      objects = (omega arith, omega arith);
      declared = objects_limits 0 accounts;
    }

-- ---- the map at the start

values_from : (a n : ℕ) → map value_of (map declared_content (objects_from a n)) ≡ map Num (replicate (2 * n) opening)
unfolding objects_from bank_object declared_content
values_from a zero = refl
values_from a (suc n) =
    let twice : 2 * suc n ≡ suc (suc (2 * n)) = omega arith in
    rw twice (ap (λ (vs : List Value). Num opening ∷ Num opening ∷ vs) (values_from (suc a) n))

-- the map at the start shows the first balances
pub start_shown : (accounts : ℕ) → Shows (start_map (bank_config accounts)) (first_balances accounts)
unfolding start_map
start_shown accounts = record { same = values_from 0 accounts }

-- n objects with the first balance make n times that
pub total-opening : (n : ℕ) → total (replicate n opening) ≡ n * opening
unfolding total
total-opening zero = refl
total-opening (suc n) = let rest = total-opening n in omega arith
