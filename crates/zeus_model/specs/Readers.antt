-- What a reader of a world asks: who owns an object, whether it is lost, and how far a transaction has come.
use Rattle.std.specs.Prelude.{ℕ, zero, suc, Bool, true, false, ◌&&◌, ◌||◌, not, List, [], ◌∷◌, length, Option, Some, None, is_some, if◌then◌else◌}
use Rattle.zeus_model.specs.declared.answer.TxState.{TxState}
use Rattle.zeus_model.specs.declared.answer.TxState.TheVariants.{New, Current, Pending, Passed, Acked, Refused}
use Rattle.zeus_model.specs.Tables.{below, first_of, where_true}
use Rattle.zeus_model.specs.State.{owns}
use Rattle.zeus_model.specs.Book.{TxRecord, record_of}
use Rattle.zeus_model.specs.Sound.{latest_place}
use Rattle.zeus_model.specs.World.{World, node, tx_decl}

-- whether a node runs
abbrev pub is_live : World → ℕ → Bool
is_live w n = not (node w n).stopped

-- the owner of an object: the first live node that owns it (in a sound world there is at most one)
unfoldable pub owner : World → ℕ → Option ℕ
owner w x = first_of (λ n. where_true (is_live w n && owns (node w n) x) n) (below w.config.nodes)

-- the live nodes of the list
unfoldable pub live_among : World → List ℕ → List ℕ
live_among w [] = []
live_among w (n ∷ ns) = if is_live w n then n ∷ live_among w ns else live_among w ns

unfoldable pub no_nodes : List ℕ → Bool
no_nodes [] = true
no_nodes (n ∷ ns) = false

-- an object is lost where no live node is in its latest placement
unfoldable pub is_lost : World → ℕ → Bool
is_lost w x = no_nodes (live_among w (latest_place w x).replicas)

-- how far a transaction has come, by what the book has of it
unfoldable pub state_of : TxRecord → TxState
state_of r =
    if r.refused then Refused else (if is_some r.acked then Acked else (if is_some r.point then Passed else (if is_some r.entry then Pending else (if is_some r.begun then Current else New))))

abbrev pub tx_state : World → ℕ → TxState
tx_state w k = state_of (record_of w.book k)

abbrev pub is_acked : World → ℕ → Bool
is_acked w k = is_some (record_of w.book k).acked

-- whether a transaction was refused, or its node is stopped
abbrev pub is_ended : World → ℕ → Bool
is_ended w k = (record_of w.book k).refused || (node w (tx_decl w k).node).stopped

-- whether a transaction waits in vain for another: that one is not acknowledged, and it was refused, or its node is
-- stopped, or it waits in vain itself; so many transactions are looked at
unfoldable pub waits_in_vain : World → ℕ → Option ℕ → Bool
waits_in_vain w links None = false
waits_in_vain w zero (Some j) = false
waits_in_vain w (suc links) (Some j) =
    not (is_acked w j) && (is_ended w j || waits_in_vain w links (tx_decl w j).after)

-- a transaction is closed where it is acknowledged, or refused, or its node is stopped, or it waits in vain
unfoldable pub is_closed : World → ℕ → Bool
is_closed w k = is_acked w k || is_ended w k || waits_in_vain w k (tx_decl w k).after

unfoldable pub each_closed : World → List ℕ → Bool
each_closed w [] = true
each_closed w (k ∷ ks) = is_closed w k && each_closed w ks

-- whether all transactions are closed
abbrev pub all_closed : World → Bool
all_closed w = each_closed w (below (length w.txs))
