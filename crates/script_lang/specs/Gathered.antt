-- Operations that are gathered into a transaction, with the objects that they name.
use Rattle.std.specs.Prelude.{◌≡◌, ℕ, Bool, ◌≤◌, ◌||◌, nat_lt, List, length}
use Rattle.zeus_txn.specs.declared.ops.Op.{Op}
use Rattle.zeus_txn.specs.Ops.{mentions, named}
use Rattle.script_lang.specs.declared.builder.TxBuilder.TheInside.{Inside}

-- whether an operation on the object may follow: it is named already, or fewer than 8 are
unfoldable pub takes_object : List Op → ℕ → Bool
takes_object before x = mentions x (named before) || nat_lt (length (named before)) 8

-- at most 16 operations on at most 8 objects, and the objects that they name
pub record IsGathered (o : Inside) : Type 0 where
  pub ops_room : o.ops.capacity ≡ 16
  pub named_room : o.named.capacity ≡ 8
  pub few : length o.ops.items ≤ 16
  pub objects : length o.named.items ≤ 8
  pub names : o.named.items ≡ named o.ops.items
