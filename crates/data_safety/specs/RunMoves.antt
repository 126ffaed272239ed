-- What may happen in a run: the moves of the machine, with what they write into the book.
use Rattle.std.specs.Prelude.{ℕ, ◌≡◌, ◌≢◌, ◌<◌, ◌≤◌, true, false, length, Some, None}
use Rattle.zeus_base.specs.Nodes.{has, without}
use Rattle.zeus_base.specs.declared.order.Stream.{Stream}
use Rattle.zeus_txn.specs.Ops.{is_write}
use Rattle.zeus_model.specs.State.{slot, log, next_number}
use Rattle.zeus_model.specs.Book.{record_of, book_begin, book_commit, book_read, book_refuse, pass_tx, tx_of}
use Rattle.zeus_model.specs.Commit.{no_kept, passes, pass_own, pass_kept}
use Rattle.zeus_model.specs.Local.{with_current, committed, write_cause, hindrance, run_here, new_writes, replicas_of}
use Rattle.zeus_model.specs.Tables.{nth}
use Rattle.zeus_model.specs.World.{no_tx}
use Rattle.zeus_model.specs.declared.state.Current.{Current}
use Rattle.machine_moves.specs.SystemState.{Changes, Same, nothing}
use Rattle.machine_moves.specs.Move.{Move, own_kept}
unfoldable pub use Rattle.machine_moves.specs.Plain.{IsPlain}
use Rattle.data_safety.specs.RunState.{RunState}

-- one move of a run: a move of the machine, or a reordering of letters, with what it writes into the book
pub data RunMove (old new : RunState) : Type 0 where
  plain : (move : Move old.system new.system) → IsPlain old.system new.system move → new.txs ≡ old.txs → new.book ≡ old.book → RunMove old new
  -- only the order of letters, and the count of steps, have changed
  stutters : Same old.system new.system → new.txs ≡ old.txs → new.book ≡ record old.book { steps = new.book.steps } → old.book.steps ≤ new.book.steps → RunMove old new
  -- a transaction is begun at a free slot of its own
  begins : (n s id : ℕ) (c : Current) → c.id ≡ id → c.tx ≡ (nth no_tx old.txs id).tx → (nth no_tx old.txs id).node ≡ n → (nth no_tx old.txs id).slot ≡ s
      → id < length old.txs → (record_of old.book id).begun ≡ None → (slot (old.system.node n) s).current ≡ None
      → Changes old.system new.system n (with_current (old.system.node n) s (Some c)) nothing
      → new.txs ≡ old.txs → new.book ≡ book_begin old.book id → RunMove old new
  -- a read-only transaction reads valid copies, and is gone from its slot
  reads : (n s : ℕ) (c : Current) → (slot (old.system.node n) s).current ≡ Some c → is_write c.tx ≡ false → hindrance (old.system.node n) c.tx ≡ None
      → Changes old.system new.system n (with_current (old.system.node n) s None) nothing
      → new.txs ≡ old.txs → new.book ≡ (book_read old.book c.id (run_here (old.system.node n) c.tx).reply).book → RunMove old new
  -- a transaction is refused for good, and is gone from its slot
  refuses : (n s : ℕ) (c : Current) → (slot (old.system.node n) s).current ≡ Some c → is_write c.tx ≡ false
      → Changes old.system new.system n (with_current (old.system.node n) s None) nothing
      → new.txs ≡ old.txs → new.book ≡ book_refuse old.book c.id → RunMove old new
  -- a write transaction is committed
  commits_tx : (n s : ℕ) (c : Current) → s < old.system.config.slots → (slot (old.system.node n) s).current ≡ Some c → is_write c.tx ≡ true → write_cause (old.system.node n) s c.tx ≡ None
      → Changes old.system new.system n (committed (old.system.node n) s c (run_here (old.system.node n) c.tx)
      (without n (replicas_of (old.system.node n) (new_writes (old.system.node n) (run_here (old.system.node n) c.tx).writes)))
      (new_writes (old.system.node n) (run_here (old.system.node n) c.tx).writes)) nothing
      → new.txs ≡ old.txs
      → new.book ≡ book_commit old.book record { node = n; slot = s } c.id (next_number (slot (old.system.node n) s)) (run_here (old.system.node n) c.tx).reply
      → RunMove old new
  -- the first entry of an own stream passes
  passes_own_tx : (n s : ℕ) → 0 < length (slot (old.system.node n) s).pending
      → passes (old.system.node n) (nth no_kept (own_kept (old.system.node n) s) 0) ≡ true
      → Changes old.system new.system n (pass_own (old.system.node n) s 1) nothing
      → new.txs ≡ old.txs
      → new.book ≡ (pass_tx old.book true (tx_of old.book record { node = n; slot = s } (slot (old.system.node n) s).done)).book → RunMove old new
  -- the first entry that is stored of a non-member's stream passes
  passes_kept_tx : (n : ℕ) (s : Stream) → has s.node (old.system.node n).members ≡ false → s.node ≢ n → 0 < length (log (old.system.node n) s).kept
      → passes (old.system.node n) (nth no_kept (log (old.system.node n) s).kept 0) ≡ true
      → Changes old.system new.system n (pass_kept (old.system.node n) s 1) nothing
      → new.txs ≡ old.txs
      → new.book ≡ (pass_tx old.book false (tx_of old.book s (log (old.system.node n) s).done)).book → RunMove old new

-- moves of a run one after another
pub data RunMoves : RunState → RunState → Type 0 where
  ended : (y : RunState) → RunMoves y y
  onward : (old mid new : RunState) → RunMove old mid → RunMoves mid new → RunMoves old new
