-- Transactions as lines.
use Rattle.std.specs.Prelude.{ℕ, Bool, true, false, List, Option, Some, None, Result, Ok, codes}
use Rattle.zeus_txn.specs.declared.tx.TxDecl.{TxDecl}
use Rattle.zeus_model.specs.declared.fault.Kind.{Kind}
use Rattle.script_lang.specs.Reads.{◌>>=◌, word_if}
use Rattle.script_lang.specs.Numbers.{range_at}
use Rattle.script_lang.specs.Operations.{ops_at}

-- the number behind `after`, where that word came
unfoldable pub number_if : ℕ → Bool × List (List ℕ) → Result (Option ℕ × List (List ℕ)) Kind
number_if k (true, ws) = range_at 0 k ws >>= λ j. Ok (Some j.0, j.1)
number_if k (false, ws) = Ok (None, ws)

-- what the transaction of number k waits for, if for any
unfoldable pub after_at : ℕ → List (List ℕ) → Result (Option ℕ × List (List ℕ)) Kind
after_at k ws = number_if k (word_if (codes "after") ws)

-- the words behind `tx`: node, slot, what is waited for, and the operations
unfoldable pub tx_at : ℕ → ℕ → ℕ → List (List ℕ) → ℕ → List (List ℕ) → Result TxDecl Kind
tx_at version nodes slots names k ws = do
  node ← range_at 0 nodes ws
  slot ← range_at 0 slots node.1
  after ← after_at k slot.1
  tx ← ops_at version names after.1
  Ok (record { node = node.0; slot = slot.0; after = after.0; tx = tx })
