-- The store that one thread runs transactions on, one after another.
use Rattle.std.specs.Prelude.{ℕ, ◌+◌, List, [], ◌∷◌, map}
use Rattle.zeus_base.specs.Tables.{nth, put}
use Rattle.zeus_base.specs.declared.config.Config.{Config}
use Rattle.zeus_base.specs.declared.config.ObjectDecl.{ObjectDecl}
use Rattle.zeus_base.specs.declared.value.Value.{Value}
use Rattle.zeus_base.specs.declared.value.Value.TheVariants.{Num}
use Rattle.zeus_txn.specs.declared.map.Versioned.{Versioned}
use Rattle.zeus_txn.specs.declared.ops.Op.{Op}
use Rattle.zeus_txn.specs.declared.reply.Ran.{Ran}
use Rattle.zeus_txn.specs.Run.{run}

abbrev pub no_content : Versioned
no_content = record { ver = 0; value = Num 0 }

-- the value and version of an object in a map
abbrev pub content : List Versioned → ℕ → Versioned
content map x = nth no_content map x

unfoldable pub declared_content : ObjectDecl → Versioned
declared_content o = record { ver = 0; value = o.value }

-- the start map has the declared values at version 0
unfoldable pub start_map : Config → List Versioned
start_map c = map declared_content c.objects

-- each written object gets its last value, and its version rises by one, once
unfoldable pub written_map : List Versioned → List (ℕ × Value) → List Versioned
written_map map [] = map
written_map map (w ∷ ws) = written_map (put no_content map w.0 record { ver = (content map w.0).ver + 1; value = w.1 }) ws

-- a transaction's reply and what it writes, at a map
abbrev pub run_at : List Versioned → List Op → Ran
run_at map tx = run (λ x. (content map x).value) tx

-- the map after a transaction
abbrev pub applied_map : List Versioned → List Op → List Versioned
applied_map map tx = written_map map (run_at map tx).writes
