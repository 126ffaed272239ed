-- A configuration of two nodes and one object keeps the limits, and an entry of node 0 fits it.
use Rattle.std.specs.Prelude.{ℕ, ◌≡◌, ◌<◌, true, List, [], ◌∷◌, None, length, refl}
use Rattle.std.proofs.Common.{ap, ◌∙◌, arith}
use Rattle.std.proofs.lemmas.Bool.Decides.{nat_tests}
use Rattle.std.proofs.lemmas.List.Elements.{All-cons, All-nil}
use Rattle.zeus_base.specs.Limits.{KeepsDeclaration, KeepsLimits, limits_of as configured}
use Rattle.zeus_base.specs.NodeLaws.{IsBelow, IsRising, RisesFrom}
use Rattle.zeus_base.specs.Nodes.{has}
use Rattle.zeus_base.specs.Values.{is_num}
use Rattle.zeus_base.specs.declared.config.Config.{Config}
use Rattle.zeus_base.specs.declared.config.Limits.{Limits}
use Rattle.zeus_base.specs.declared.config.ObjectDecl.{ObjectDecl}
use Rattle.zeus_base.specs.declared.value.Value.TheVariants.{Num}
use Rattle.zeus_packet.specs.Fits.{are_once, inv_fits, nodes_fit, object_fits, stream_fits, value_fits, write_fits, writes_fit}
use Rattle.zeus_packet.specs.declared.letter.RInv.{RInv}
use Rattle.zeus_model.specs.State.{Node}
use Rattle.zeus_model.specs.World.{start_node}
use Rattle.node_ranges.specs.Ranges.{KeepsRanges, limits_of}
use Rattle.node_ranges.specs.StartRanges.{KeepsRanges-start}

abbrev declared : ObjectDecl
declared = record { value = Num 5; owner = 0; replicas = 0 ∷ 1 ∷ [] }

abbrev pub two_nodes : Config
two_nodes = record { version = 1; nodes = 2; slots = 1; directory = 0 ∷ []; degree = None; objects = declared ∷ [] }

rising_one : IsRising (0 ∷ [])
unfolding RisesFrom
rising_one = (omega arith, tt)

rising_two : IsRising (0 ∷ 1 ∷ [])
unfolding RisesFrom
rising_two = (omega arith, (omega arith, tt))

below_one : IsBelow 2 (0 ∷ [])
unfolding has
below_one = λ k h. grind (arith, nat_tests)

below_two : IsBelow 2 (0 ∷ 1 ∷ [])
unfolding has
below_two = λ k h. grind (arith, nat_tests)

keeps : KeepsDeclaration 1 2 declared
unfolding is_num has
keeps = record { owner = omega arith; rising = rising_two; replicas = below_two; own_copy = refl; number = λ _. refl }

-- the configuration of two nodes keeps the limits
pub two_nodes-limits : KeepsLimits two_nodes
two_nodes-limits =
    let P : ObjectDecl → Type 0 = KeepsDeclaration 1 2 in
    record {
      version = (omega arith, omega arith);
      nodes = (omega arith, omega arith);
      slots = (omega arith, omega arith);
      directory = λ e. cc;
      rising = rising_one;
      directory_nodes = below_one;
      degree = tt;
      objects = (omega arith, omega arith);
      declared = All-cons P declared [] keeps (All-nil P);
    }

-- the limits of a node at the start
pub start-limits : (c : Config) (me : ℕ) (n : Node) → KeepsLimits c → me < c.nodes → c.nodes ≡ 2 → c.slots ≡ 1 → length c.objects ≡ 1 → n ≡ start_node c me → limits_of n ≡ record { version = 2; nodes = 2; slots = 1; objects = 1 }
start-limits c me n keeps within nodes slots objects is =
    let k : KeepsRanges (configured c) (start_node c me) = KeepsRanges-start c me keeps within in
    ap limits_of is ∙ rw (k.sizes.nodes, k.sizes.slots, k.sizes.entries, nodes, slots, objects) refl

-- the first entry of node 0
abbrev pub first_entry : RInv
first_entry = record { stream = record { node = 0; slot = 0 }; number = 0; done = 0; followers = 1 ∷ []; writes = record { obj = 0; ver = 1; value = Num 9 } ∷ [] }

-- the first entry fits two nodes, a slot each and one object
pub first_entry-fits : (limits : Limits) → limits ≡ record { version = 2; nodes = 2; slots = 1; objects = 1 } → inv_fits limits first_entry ≡ true
unfolding inv_fits stream_fits nodes_fit writes_fit write_fits object_fits value_fits are_once
first_entry-fits limits is = rw is refl

-- the nodes 0 and 1 are nodes of the limits
pub two_nodes-fit : (limits : Limits) (members : List ℕ) → limits ≡ record { version = 2; nodes = 2; slots = 1; objects = 1 } → members ≡ 0 ∷ 1 ∷ [] → nodes_fit limits members ≡ true
unfolding nodes_fit
two_nodes-fit limits members is these = rw (is, these) refl
