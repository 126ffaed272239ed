-- A configuration of two nodes and two objects keeps the limits.
use Rattle.std.proofs.Common.{ℕ, ◌≡◌, ◌≤◌, true, List, [], ◌∷◌, Option, refl, arith}
use Rattle.std.specs.Prelude.{IfSome}
use Rattle.std.proofs.lemmas.Bool.Decides.{nat_tests}
use Rattle.std.proofs.lemmas.List.Elements.{All-cons, All-nil}
use Rattle.zeus_base.specs.Limits.{KeepsDeclaration, KeepsLimits}
use Rattle.zeus_base.specs.NodeLaws.{IsBelow, IsRising, RisesFrom}
use Rattle.zeus_base.specs.Nodes.{has}
use Rattle.zeus_base.specs.Values.{is_num}
use Rattle.zeus_base.specs.declared.config.Config.{Config}
use Rattle.zeus_base.specs.declared.config.ObjectDecl.{ObjectDecl}
use Rattle.zeus_base.specs.declared.value.Value.TheVariants.{Num}

-- an object of node 0 with these replicas
abbrev pub declared : List ℕ → ObjectDecl
declared replicas = record { value = Num 5; owner = 0; replicas = replicas }

abbrev pub two_nodes : Option ℕ → Config
two_nodes degree =
    record { version = 1; nodes = 2; slots = 1; directory = 0 ∷ []; degree = degree; objects = declared (0 ∷ 1 ∷ []) ∷ declared (0 ∷ []) ∷ [] }

rising_one : IsRising (0 ∷ [])
unfolding RisesFrom
rising_one = (omega arith, tt)

rising_two : IsRising (0 ∷ 1 ∷ [])
unfolding RisesFrom
rising_two = (omega arith, (omega arith, tt))

below_one : IsBelow 2 (0 ∷ [])
unfolding has
below_one = λ k h. grind (arith, nat_tests)

below_two : IsBelow 2 (0 ∷ 1 ∷ [])
unfolding has
below_two = λ k h. grind (arith, nat_tests)

keeps : (replicas : List ℕ) → IsRising replicas → IsBelow 2 replicas → has 0 replicas ≡ true → KeepsDeclaration 1 2 (declared replicas)
unfolding is_num
keeps replicas rising below own = record { owner = omega arith; rising = rising; replicas = below; own_copy = own; number = λ _. refl }

own_one : has 0 (0 ∷ []) ≡ true
unfolding has
own_one = refl

own_two : has 0 (0 ∷ 1 ∷ []) ≡ true
unfolding has
own_two = refl

-- if the degree, where there is one, is from 1 to 8, then the configuration of two nodes keeps the limits
pub two_nodes-limits : (degree : Option ℕ) → IfSome degree (λ d. (1 ≤ d) × (d ≤ 8)) → KeepsLimits (two_nodes degree)
two_nodes-limits degree h =
    let P : ObjectDecl → Type 0 = KeepsDeclaration 1 2 in
    record {
      version = (omega arith, omega arith);
      nodes = (omega arith, omega arith);
      slots = (omega arith, omega arith);
      directory = λ e. cc;
      rising = rising_one;
      directory_nodes = below_one;
      degree = h;
      objects = (omega arith, omega arith);
      declared = All-cons P (declared (0 ∷ 1 ∷ [])) (declared (0 ∷ []) ∷ []) (keeps (0 ∷ 1 ∷ []) rising_two below_two own_two)
          (All-cons P (declared (0 ∷ [])) [] (keeps (0 ∷ []) rising_one below_one own_one) (All-nil P));
    }
