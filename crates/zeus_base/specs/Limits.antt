-- The limits and rules that a configuration keeps, and the ranges of its numbers.
use Rattle.std.specs.Prelude.{ℕ, true, ◌≡◌, ◌≢◌, ◌<◌, ◌≤◌, [], length, IfSome, All}
use Rattle.zeus_base.specs.declared.config.Config.{Config}
use Rattle.zeus_base.specs.declared.config.Limits.{Limits}
use Rattle.zeus_base.specs.declared.config.ObjectDecl.{ObjectDecl}
use Rattle.zeus_base.specs.Nodes.{has}
use Rattle.zeus_base.specs.NodeLaws.{IsRising, IsBelow}
use Rattle.zeus_base.specs.Values.{is_num}

-- an object's owner and replicas are nodes that there are, and the owner is a replica; in version 1 its value is a number
pub record KeepsDeclaration (version nodes : ℕ) (declared : ObjectDecl) : Type 0 where
  pub owner : declared.owner < nodes
  pub rising : IsRising declared.replicas
  pub replicas : IsBelow nodes declared.replicas
  pub own_copy : has declared.owner declared.replicas ≡ true
  pub number : version ≡ 1 → is_num declared.value ≡ true

-- a configuration has version 1 or 2, 1 to 8 nodes and slots, some directory of its nodes, a degree of 1 to 8 if any, and 1 to 256 objects that keep the rules
pub record KeepsLimits (config : Config) : Type 0 where
  pub version : (1 ≤ config.version) × (config.version ≤ 2)
  pub nodes : (1 ≤ config.nodes) × (config.nodes ≤ 8)
  pub slots : (1 ≤ config.slots) × (config.slots ≤ 8)
  pub directory : config.directory ≢ []
  pub rising : IsRising config.directory
  pub directory_nodes : IsBelow config.nodes config.directory
  pub degree : IfSome config.degree (λ d. (1 ≤ d) × (d ≤ 8))
  pub objects : (1 ≤ length config.objects) × (length config.objects ≤ 256)
  pub declared : All (KeepsDeclaration config.version config.nodes) config.objects

-- the ranges of the numbers of a configuration
abbrev pub limits_of : Config → Limits
limits_of config = record { version = config.version; nodes = config.nodes; slots = config.slots; objects = length config.objects }
