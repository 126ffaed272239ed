-- A system with its book: what has been told so far, and what it leaves.
use Rattle.std.specs.Prelude.{ℕ, zero, suc, ◌-◌, ◌==◌, List, [], ◌∷◌, if◌then◌else◌}
use Rattle.zeus_base.specs.declared.order.Stream.{Stream}
use Rattle.zeus_packet.specs.declared.place.Place.{Place}
use Rattle.zeus_packet.specs.declared.place.Proposal.{Proposal}
use Rattle.zeus_packet.specs.declared.write.Content.{Content}
use Rattle.zeus_packet.specs.declared.write.Write.{Write}
use Rattle.zeus_txn.specs.declared.ops.Op.{Op}
use Rattle.zeus_txn.specs.declared.tx.TxDecl.{TxDecl}
use Rattle.zeus_model.specs.Tables.{nth}
use Rattle.zeus_model.specs.State.{slot}
use Rattle.zeus_model.specs.Commit.{no_pending}
use Rattle.zeus_model.specs.Book.{Book, Point}
use Rattle.zeus_model.specs.World.{World, no_tx}
use Rattle.zeus_model.specs.declared.state.Pending.{Pending}
use Rattle.machine_moves.specs.SystemState.{SystemState, system}
use Rattle.ownership_safety.specs.Object.{latest}
use Rattle.replication_safety.specs.StreamState.{IsAlive}
use Rattle.invariants.specs.Streams.{stream_state}
use Rattle.invariants.specs.Objects.{object}

-- the system, the declared transactions, and the book
pub record RunState : Type 0 where
  pub system : SystemState
  pub txs : List TxDecl
  pub book : Book

-- the run of a world
abbrev pub run_state : World → RunState
run_state w = record { system = system w; txs = w.txs; book = w.book }

-- what nobody can see, but what is so: the decided placements of each object, and how many entries of each stream have passed
pub record Witness : Type 0 where
  pub chain : ℕ → List Proposal
  pub passed : Stream → ℕ

-- the operations of a declared transaction
abbrev pub tx_ops : RunState → ℕ → List Op
tx_ops y id = (nth no_tx y.txs id).tx

-- the transactions of points, in order
unfoldable pub txs_of : RunState → List Point → List (List Op)
txs_of y [] = []
txs_of y (p ∷ ps) = tx_ops y p.id ∷ txs_of y ps

-- the latest decided placement of an object
abbrev pub place_now : RunState → Witness → ℕ → Place
place_now y u x = latest (object y.system x) (u.chain x)

-- the entry of a number that its own node keeps
abbrev pub pending_at : RunState → Stream → ℕ → Pending
pending_at y t k = nth no_pending (slot (y.system.node t.node) t.slot).pending (k - (slot (y.system.node t.node) t.slot).done)

-- an entry that can still pass
abbrev pub Lives : RunState → Witness → Stream → ℕ → Type 0
Lives y u t k = IsAlive (stream_state y.system t) (u.passed t) k

-- the contents after writes, each object being written once
unfoldable pub overwritten : (ℕ → Content) → List Write → ℕ → Content
overwritten found [] x = found x
overwritten found (w ∷ ws) x = if x == w.obj then record { ver = w.ver; value = w.value } else overwritten found ws x

-- the contents that the entries of a stream find: those of the history, with the writes of its first unpassed entries
unfoldable pub running : (ℕ → Content) → (ℕ → List Write) → ℕ → ℕ → Content
running found writes zero = found
running found writes (suc j) = overwritten (running found writes j) (writes j)
