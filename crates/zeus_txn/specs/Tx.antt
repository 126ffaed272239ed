-- Which operations make a transaction.
use Rattle.std.specs.Prelude.{◌≤◌, nat_lt, List, length, Result, Ok, Err, if◌then◌else◌}
use Rattle.zeus_txn.specs.declared.ops.Op.{Op}
use Rattle.zeus_txn.specs.declared.tx.TxFault.{TxFault}
use Rattle.zeus_txn.specs.declared.tx.TxFault.TheVariants.{Empty, ManyOps, ManyObjects}
use Rattle.zeus_txn.specs.Ops.{named}

-- a transaction has 1 to 16 operations on at most 8 objects
pub record IsTx (ops : List Op) : Type 0 where
  pub some : 1 ≤ length ops
  pub few : length ops ≤ 16
  pub objects : length (named ops) ≤ 8

-- operations make a transaction where there are some, at most 16, and on at most 8 objects; else the first fault that applies
unfoldable pub made_tx : List Op → Result (List Op) TxFault
made_tx ops =
    if nat_lt (length ops) 1 then Err Empty
    else (if nat_lt 16 (length ops) then Err ManyOps else (if nat_lt 8 (length (named ops)) then Err ManyObjects else Ok ops))
