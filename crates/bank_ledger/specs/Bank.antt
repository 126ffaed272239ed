-- A bank in the store: its configuration, its transactions, and what holds of its money in every run.
use Rattle.std.specs.Prelude.{ℕ, zero, suc, ◌+◌, ◌*◌, ◌%◌, ◌^◌, ◌≡◌, ◌<◌, ◌≤◌, List, [], ◌∷◌, length, map, None, All, replicate}
use Rattle.zeus_base.specs.Nodes.{with_node}
use Rattle.zeus_base.specs.declared.config.Config.{Config}
use Rattle.zeus_base.specs.declared.config.ObjectDecl.{ObjectDecl}
use Rattle.zeus_base.specs.declared.value.Value.{Value}
use Rattle.zeus_base.specs.declared.value.Value.TheVariants.{Num}
use Rattle.zeus_txn.specs.declared.map.Versioned.{Versioned}
use Rattle.zeus_txn.specs.declared.tx.TxDecl.{TxDecl}
use Rattle.zeus_model.specs.Serial.{start_map, serial_map}
use Rattle.zeus_model.specs.Sound.{history_txs}
use Rattle.zeus_model.specs.World.{World}
use Rattle.bank_ledger.specs.declared.bank_tx.BankTx.{BankTx}
use Rattle.bank_ledger.specs.Operations.{operations, FitsBank}
use Rattle.bank_ledger.specs.Balances.{balance, balances}
use Rattle.bank_ledger.specs.Money.{held, history_of, paid_in, paid_out}

-- each account begins with this much in its checking and in its savings
abbrev pub opening : ℕ
opening = 1000

-- the accounts are dealt out to the four nodes in turn; the next node has a copy
unfoldable pub bank_object : ℕ → ObjectDecl
bank_object a = record { value = Num opening; owner = a % 4; replicas = with_node ((a + 1) % 4) (with_node (a % 4) []) }

-- the objects of so many accounts, from account a on
unfoldable pub objects_from : ℕ → ℕ → List ObjectDecl
objects_from a zero = []
objects_from a (suc n) = bank_object a ∷ bank_object a ∷ objects_from (suc a) n

-- four nodes with two slots each, and the directory at the first three
abbrev pub bank_config : ℕ → Config
bank_config accounts =
    record { version = 1; nodes = 4; slots = 2; directory = 0 ∷ 1 ∷ 2 ∷ []; degree = None; objects = objects_from 0 accounts }

-- the balances at the start
abbrev pub first_balances : ℕ → List ℕ
first_balances accounts = replicate (2 * accounts) opening

-- the operations of declared transactions
abbrev pub ops_of : TxDecl → List Rattle.zeus_txn.specs.declared.ops.Op.Op
ops_of t = t.tx

-- these declared transactions are those of the bank, of 1 to 128 accounts
pub record IsBank (accounts : ℕ) (txs : List BankTx) (declared : List TxDecl) : Type 0 where
  pub some : 1 ≤ accounts
  pub few : accounts ≤ 128
  pub each : All (FitsBank accounts) txs
  pub operations : map ops_of declared ≡ map operations txs

-- the value of a versioned one
abbrev pub value_of : Versioned → Value
value_of v = v.value

-- the map that the history leaves
abbrev pub map_left : World → List Versioned
map_left w = serial_map (start_map w.config) (history_txs w w.book.points)

-- the balances that the history leaves, in whole numbers
abbrev pub balances_left : ℕ → List BankTx → World → List ℕ
balances_left accounts txs w = balances (first_balances accounts) (history_of txs w.book.points)

-- no money is lost or made in a world of the bank
pub record KeepsMoney (accounts : ℕ) (txs : List BankTx) (w : World) : Type 0 where
  -- each account has two balances
  pub size : length (map_left w) ≡ 2 * accounts
  -- the values that the history leaves are the balances in whole numbers: none is below 0,
  pub balanced : map value_of (map_left w) ≡ map Num (balances_left accounts txs w)
  -- and none has come to 2^64, where it would wrap;
  pub in_range : (x : ℕ) → balance (balances_left accounts txs w) x < 2 ^ 64
  -- nor have the sums
  pub counted : (held (map_left w) < 2 ^ 64) × (paid_in txs w.book.points < 2 ^ 64) × (paid_out txs w.book.points < 2 ^ 64)
  -- the bank holds what it held at the start and was paid in, less what was paid out; a transaction that failed paid nothing
  pub even : held (map_left w) + paid_out txs w.book.points ≡ 2 * accounts * opening + paid_in txs w.book.points
