-- A pending entry holds an object that its transaction only read.
use Rattle.std.specs.Prelude.{ℕ, List, [], ◌∷◌, codes, None}
use Rattle.zeus_base.specs.declared.step.Step.TheVariants.{Begin, Try, Deliver}
use Rattle.zeus_base.specs.declared.value.Value.TheVariants.{Num}
use Rattle.zeus_txn.specs.declared.ops.Op.TheVariants.{Get, Put, Add}
use Rattle.zeus_model.specs.declared.script.Script.{Script}
use Rattle.worked_runs.specs.Lines.{lines}

abbrev pub pending_read_holds_script : Script
pending_read_holds_script =
    record {
      config =
          record {
            version = 1;
            nodes = 2;
            slots = 2;
            directory = 0 ∷ [];
            degree = None;
            objects =
                record { value = Num 5; owner = 0; replicas = 0 ∷ 1 ∷ [] } ∷
                record { value = Num 7; owner = 0; replicas = 0 ∷ 1 ∷ [] } ∷ [];
          };
      names = codes "x" ∷ codes "y" ∷ [];
      txs =
          record { node = 0; slot = 0; after = None; tx = Get 1 ∷ Add 0 1 ∷ [] } ∷
          record { node = 0; slot = 1; after = None; tx = Put 1 (Num 9) ∷ [] } ∷ [];
      steps =
          Begin 0 ∷ Try 0 0 ∷ Begin 1 ∷ Try 0 1 ∷ Deliver 0 1 0 ∷ Deliver 1 0 0 ∷ Try 0 1 ∷ [];
    }

-- the script as it is written
abbrev pub pending_read_holds_text : List ℕ
pending_read_holds_text =
    lines
    (
    codes "zeus 1" ∷
    codes "nodes 2" ∷
    codes "slots 2" ∷
    codes "directory 0" ∷
    codes "object x 5 0 1" ∷
    codes "object y 7 0 1" ∷
    codes "tx 0 0 get y ; add x 1" ∷
    codes "tx 0 1 put y 9" ∷
    codes "run" ∷
    codes "begin 0" ∷
    codes "try 0 0" ∷
    codes "begin 1" ∷
    codes "try 0 1" ∷
    codes "deliver 0 1 0" ∷
    codes "deliver 1 0 0" ∷
    codes "try 0 1" ∷
    codes "end" ∷ []
    )

-- what a run of it prints
abbrev pub pending_read_holds_report : List ℕ
pending_read_holds_report =
    lines
    (
    codes "report 1" ∷
    codes "0 begin 0 = begun" ∷
    codes "1 try 0 0 = committed 0" ∷
    codes "> 0 1 0 1 rinv 0.0 0 0 1 x 1 6" ∷
    codes "2 begin 1 = begun" ∷
    codes "3 try 0 1 = held y 0" ∷
    codes "4 deliver 0 1 0 = taken" ∷
    codes "> 1 0 0 1 rack 0.0 0" ∷
    codes "5 deliver 1 0 0 = taken" ∷
    codes "* 0 ok 7 6" ∷
    codes "! 0" ∷
    codes "> 0 1 1 1 rval 0.0 1" ∷
    codes "6 try 0 1 = committed 0" ∷
    codes "> 0 1 2 1 rinv 0.1 0 0 1 y 1 9" ∷
    codes "history 0" ∷
    codes "tx 0 acked" ∷
    codes "tx 1 pending" ∷
    codes "object x 0 0,1" ∷
    codes "copy x 0 valid 1 6" ∷
    codes "copy x 1 invalid 1 6" ∷
    codes "object y 0 0,1" ∷
    codes "copy y 0 write 1 9" ∷
    codes "copy y 1 valid 0 7" ∷
    codes "end" ∷ []
    )
