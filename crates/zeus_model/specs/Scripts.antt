-- Which configurations, names, transactions and steps make a script.
use Rattle.std.specs.Prelude.{ℕ, suc, ◌≡◌, ◌≢◌, ◌<◌, ◌≤◌, ◌^◌, List, [], ◌∷◌, length, IfSome, All, AllPairs}
use Rattle.zeus_base.specs.Limits.{KeepsLimits}
use Rattle.zeus_base.specs.NodeLaws.{IsRising, IsBelow}
use Rattle.zeus_base.specs.Texts.{IsText}
use Rattle.zeus_base.specs.declared.config.Config.{Config}
use Rattle.zeus_base.specs.declared.step.Step.{Step}
use Rattle.zeus_base.specs.declared.step.Step.TheVariants.{Begin, Try, Deliver, Tick, Stop, View, Install}
use Rattle.zeus_base.specs.declared.value.Value.{Value}
use Rattle.zeus_base.specs.declared.value.Value.TheVariants.{Num, Text}
use Rattle.zeus_txn.specs.Ops.{object_of}
use Rattle.zeus_txn.specs.Tx.{IsTx}
use Rattle.zeus_txn.specs.declared.ops.Op.{Op}
use Rattle.zeus_txn.specs.declared.ops.Op.TheVariants.{Get, Put, Add, Need, Same}
use Rattle.zeus_txn.specs.declared.tx.TxDecl.{TxDecl}
use Rattle.zeus_model.specs.declared.script.Script.{Script}
use Rattle.zeus_model.specs.Names.{IsName}
use Rattle.zeus_model.specs.Spelling.{spelling}

-- a value is a number below 2^64, or in version 2 a text of 1 to 32 bytes from 33 to 126
unfoldable pub FitsValue : ℕ → Value → Type 0
FitsValue version (Num n) = n < 2 ^ 64
FitsValue version (Text bytes) = (version ≡ 2) × IsText bytes

-- numbers are below 2^64, values fit the version, and only version 2 has `same`
unfoldable pub FitsVersion : ℕ → Op → Type 0
FitsVersion version (Get x) = Unit {0}
FitsVersion version (Put x v) = FitsValue version v
FitsVersion version (Add x n) = n < 2 ^ 64
FitsVersion version (Need x n) = n < 2 ^ 64
FitsVersion version (Same x v) = (version ≡ 2) × FitsValue version v

-- an operation names a declared object, and fits the version
pub record FitsOp (config : Config) (op : Op) : Type 0 where
  pub object : object_of op < length config.objects
  pub version : FitsVersion config.version op

-- the transaction of number k is at a node and slot that there are, waits for an earlier one if for any, has 1 to 16
-- operations on at most 8 objects, and each of them fits
pub record FitsTx (config : Config) (k : ℕ) (t : TxDecl) : Type 0 where
  pub node : t.node < config.nodes
  pub slot : t.slot < config.slots
  pub after : IfSome t.after (λ j. j < k)
  pub tx : IsTx t.tx
  pub ops : All (FitsOp config) t.tx

-- each transaction fits at its number, counted from k
unfoldable pub FitTxs : Config → ℕ → List TxDecl → Type 0
FitTxs config k [] = Unit {0}
FitTxs config k (t ∷ ts) = FitsTx config k t × FitTxs config (suc k) ts

-- a step names transactions, nodes and slots that there are; a packet's number is below 2^32; an epoch is from 1 to 2^32 - 1
unfoldable pub FitsStep : Config → ℕ → Step → Type 0
FitsStep config txs (Begin k) = k < txs
FitsStep config txs (Try n s) = (n < config.nodes) × (s < config.slots)
FitsStep config txs (Deliver sender receiver i) = (sender < config.nodes) × (receiver < config.nodes) × (i < 2 ^ 32)
FitsStep config txs (Tick n) = n < config.nodes
FitsStep config txs (Stop n) = n < config.nodes
FitsStep config txs (View nodes) = IsRising nodes × IsBelow config.nodes nodes
FitsStep config txs (Install n e) = (n < config.nodes) × (1 ≤ e) × (e < 2 ^ 32)

-- transactions that a configuration can run
pub record FitsTxs (config : Config) (txs : List TxDecl) : Type 0 where
  pub few : length txs ≤ 10000
  pub each : FitTxs config 0 txs

-- names of objects: as many, each well-formed, and no two the same
pub record FitsNames (config : Config) (names : List (List ℕ)) : Type 0 where
  pub count : length names ≡ length config.objects
  pub each : All IsName names
  pub distinct : AllPairs (λ a b. a ≢ b) names

-- a script keeps the limits and the rules of its parts; the number of its steps aside
pub record FitsScript (s : Script) : Type 0 where
  pub config : KeepsLimits s.config
  pub values : All (λ o. FitsValue s.config.version o.value) s.config.objects
  pub names : FitsNames s.config s.names
  pub txs : FitsTxs s.config s.txs
  pub steps : All (FitsStep s.config (length s.txs)) s.steps

-- a script that can be read has at most 50,000 steps, and its text at most 4,194,304 bytes
pub record IsScript (s : Script) : Type 0 where
  pub fits : FitsScript s
  pub few_steps : length s.steps ≤ 50000
  pub few_bytes : length (spelling s) ≤ 4194304

-- bytes are those of a script where they are its spelling
pub record IsSpelled (bytes : List ℕ) (s : Script) : Type 0 where
  pub script : IsScript s
  pub spelled : bytes ≡ spelling s
