-- Which transactions are closed, read off the cells.
use Rattle.std.specs.Prelude.{ℕ, zero, suc, Bool, true, false, ◌&&◌, ◌||◌, not, List, [], ◌∷◌, length, Option, Some, None, is_some}
use Rattle.zeus_model.specs.Book.{record_of}
use Rattle.zeus_model.specs.Tables.{below}
use Rattle.live_model.specs.Cell.{Core, declared}
use Rattle.live_model.specs.Cluster.{Plan, Cluster}

-- the cell of a transaction's node
abbrev pub home : Plan → Cluster → ℕ → Core
home p k id = (k.cells (declared p.txs id).node).core

-- whether its cell has acknowledged it
abbrev pub acked_at_home : Plan → Cluster → ℕ → Bool
acked_at_home p k id = is_some (record_of (home p k id).book id).acked

-- it was refused, or its node is stopped
abbrev pub ended_at_home : Plan → Cluster → ℕ → Bool
ended_at_home p k id = (record_of (home p k id).book id).refused || ((home p k id).node).stopped

-- whether it waits for one that will never be acknowledged; so many are looked at
unfoldable pub in_vain : Plan → Cluster → ℕ → Option ℕ → Bool
in_vain p k links None = false
in_vain p k zero (Some j) = false
in_vain p k (suc links) (Some j) = not (acked_at_home p k j) && (ended_at_home p k j || in_vain p k links (declared p.txs j).after)

-- a transaction is closed where its cell has acknowledged or refused it, or is stopped, or where it waits in vain
unfoldable pub closed_at_home : Plan → Cluster → ℕ → Bool
closed_at_home p k id = acked_at_home p k id || ended_at_home p k id || in_vain p k id (declared p.txs id).after

-- whether each of these is closed
unfoldable pub each_closed_at_home : Plan → Cluster → List ℕ → Bool
each_closed_at_home p k [] = true
each_closed_at_home p k (id ∷ ids) = closed_at_home p k id && each_closed_at_home p k ids

-- all transactions are closed
abbrev pub all_closed_at_home : Plan → Cluster → Bool
all_closed_at_home p k = each_closed_at_home p k (below (length p.txs))
