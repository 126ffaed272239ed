-- A configuration of two nodes and one object keeps the limits.
use Rattle.std.proofs.Common.{◌≡◌, true, [], ◌∷◌, None, refl, arith}
use Rattle.std.proofs.lemmas.Bool.Decides.{nat_tests}
use Rattle.std.proofs.lemmas.List.Elements.{All-cons, All-nil}
use Rattle.zeus_base.specs.Limits.{KeepsDeclaration, KeepsLimits}
use Rattle.zeus_base.specs.NodeLaws.{IsBelow, IsRising, RisesFrom}
use Rattle.zeus_base.specs.Nodes.{has}
use Rattle.zeus_base.specs.Values.{is_num}
use Rattle.zeus_base.specs.declared.config.Config.{Config}
use Rattle.zeus_base.specs.declared.config.ObjectDecl.{ObjectDecl}
use Rattle.zeus_base.specs.declared.value.Value.TheVariants.{Num}

abbrev pub one_object : ObjectDecl
one_object = record { value = Num 5; owner = 0; replicas = 0 ∷ [] }

abbrev pub two_nodes : Config
two_nodes = record { version = 1; nodes = 2; slots = 1; directory = 0 ∷ []; degree = None; objects = one_object ∷ [] }

rising : IsRising (0 ∷ [])
unfolding RisesFrom
rising = (omega arith, tt)

below : IsBelow 2 (0 ∷ [])
unfolding has
below = λ k h. grind (arith, nat_tests)

own : has 0 (0 ∷ []) ≡ true
unfolding has
own = refl

keeps : KeepsDeclaration 1 2 one_object
unfolding is_num
keeps = record { owner = omega arith; rising = rising; replicas = below; own_copy = own; number = λ _. refl }

-- the configuration of two nodes keeps the limits
pub two_nodes-limits : KeepsLimits two_nodes
two_nodes-limits =
    record {
      version = (omega arith, omega arith);
      nodes = (omega arith, omega arith);
      slots = (omega arith, omega arith);
      directory = λ e. cc;
      rising = rising;
      directory_nodes = below;
      degree = tt;
      objects = (omega arith, omega arith);
      declared = All-cons (KeepsDeclaration 1 2) one_object [] keeps (All-nil (KeepsDeclaration 1 2));
    }
