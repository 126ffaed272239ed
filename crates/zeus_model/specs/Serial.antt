-- The replies and the map of transactions that run one after another: what every history is compared with.
use Rattle.std.specs.Prelude.{List, [], ◌∷◌}
pub use Rattle.zeus_txn.specs.Map.{content, run_at, applied_map}
unfoldable pub use Rattle.zeus_txn.specs.Map.{start_map, written_map}
use Rattle.zeus_txn.specs.declared.map.Versioned.{Versioned}
use Rattle.zeus_txn.specs.declared.ops.Op.{Op}
use Rattle.zeus_txn.specs.declared.reply.Reply.{Reply}

-- the replies of transactions that run one after another
unfoldable pub serial_replies : List Versioned → List (List Op) → List Reply
serial_replies map [] = []
serial_replies map (tx ∷ txs) = (run_at map tx).reply ∷ serial_replies (applied_map map tx) txs

-- the map that they leave
unfoldable pub serial_map : List Versioned → List (List Op) → List Versioned
serial_map map [] = map
serial_map map (tx ∷ txs) = serial_map (applied_map map tx) txs
