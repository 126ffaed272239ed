-- What the tests start with: a configuration of two nodes and one object, its nodes, and a proposal at one of them.
use Rattle.std.proofs.Common.{ℕ, ◌≡◌, ◌≤◌, true, [], ◌∷◌, None, length, refl, arith}
use Rattle.std.proofs.lemmas.Bool.Decides.{nat_tests}
use Rattle.std.proofs.lemmas.List.{length-map, length-replicate}
use Rattle.std.specs.Prelude.{replicate}
use Rattle.std.proofs.lemmas.List.Elements.{All-cons, All-nil}
use Rattle.zeus_base.specs.Limits.{KeepsDeclaration, KeepsLimits}
use Rattle.zeus_base.specs.NodeLaws.{IsBelow, IsRising, RisesFrom}
use Rattle.zeus_base.specs.Nodes.{has}
use Rattle.zeus_base.specs.Tables.{below, numbers_from}
use Rattle.zeus_base.specs.Values.{is_num}
use Rattle.zeus_base.specs.declared.config.Config.{Config}
use Rattle.zeus_base.specs.declared.config.Limits.{Limits}
use Rattle.zeus_base.specs.declared.config.ObjectDecl.{ObjectDecl}
use Rattle.zeus_base.specs.declared.value.Value.TheVariants.{Num}
use Rattle.zeus_packet.specs.Fits.{proposal_fits, want_fits}
use Rattle.zeus_packet.specs.declared.place.Want.TheVariants.{Own}
use Rattle.zeus_model.specs.State.{no_log}
use Rattle.zeus_model.specs.World.{start_entry, start_node}
use Rattle.node_ranges.specs.NodeSets.{nodes_fit-below}
use Rattle.node_ranges.specs.Places.{place_fits-from, proposal_fits-from, stamp_fits-from}

abbrev pub object : ObjectDecl
object = record { value = Num 5; owner = 0; replicas = 0 ∷ 1 ∷ [] }

abbrev pub two_nodes : Config
two_nodes = record { version = 1; nodes = 2; slots = 1; directory = 0 ∷ []; degree = None; objects = object ∷ [] }

rising_one : IsRising (0 ∷ [])
unfolding RisesFrom
rising_one = (omega arith, tt)

rising_two : IsRising (0 ∷ 1 ∷ [])
unfolding RisesFrom
rising_two = (omega arith, (omega arith, tt))

below_one : IsBelow 2 (0 ∷ [])
unfolding has
below_one = λ k h. grind (arith, nat_tests)

below_two : IsBelow 2 (0 ∷ 1 ∷ [])
unfolding has
below_two = λ k h. grind (arith, nat_tests)

keeps : KeepsDeclaration 1 2 object
unfolding is_num has
keeps = record { owner = omega arith; rising = rising_two; replicas = below_two; own_copy = refl; number = λ _. refl }

-- the configuration keeps the limits
pub two_nodes-limits : KeepsLimits two_nodes
two_nodes-limits =
    record {
      version = (omega arith, omega arith);
      nodes = (omega arith, omega arith);
      slots = (omega arith, omega arith);
      directory = λ e. cc;
      rising = rising_one;
      directory_nodes = below_one;
      degree = tt;
      objects = (omega arith, omega arith);
      declared = All-cons (KeepsDeclaration 1 2) object [] keeps (All-nil (KeepsDeclaration 1 2));
    }

-- a node has logs of each node, and an entry of each object
pub start-logs : (c : Config) (me : ℕ) → length (start_node c me).logs ≡ c.nodes
unfolding start_node
start-logs c me = length-replicate c.nodes (replicate c.slots no_log)

-- at the start a node has an entry for each declared object
pub start-entries : (c : Config) (me : ℕ) → length (start_node c me).entries ≡ length c.objects
unfolding start_node
start-entries c me = length-map c.objects start_entry

owner_there : has 0 (below 2) ≡ true
unfolding has numbers_from
owner_there = refl

-- the proposal of the tests fits where there are two nodes
pub proposal-fits : (limits : Limits) → 2 ≤ limits.nodes → proposal_fits limits record { stamp = record { ver = 1; driver = 0 }; requester = 1; base = record { ver = 0; driver = 0 }; base_place = record { owner = 0; replicas = below 2 }; want = Own } ≡ true
unfolding want_fits
proposal-fits limits two =
    proposal_fits-from limits _ (record {
      stamp = stamp_fits-from limits (record { ver = 1; driver = 0 }) (omega arith);
      requester = omega arith;
      base = stamp_fits-from limits (record { ver = 0; driver = 0 }) (omega arith);
      place = place_fits-from limits (record { owner = 0; replicas = below 2 }) (record { owner = omega arith; replicas = nodes_fit-below limits 2 two; own_copy = owner_there });
      want = refl;
    })
