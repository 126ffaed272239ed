-- Of two entries of a stopped node the one that a survivor stored survives.
use Rattle.std.specs.Prelude.{ℕ, List, [], ◌∷◌, codes, None}
use Rattle.zeus_base.specs.declared.step.Step.TheVariants.{Begin, Try, Deliver, Tick, Stop, View, Install}
use Rattle.zeus_base.specs.declared.value.Value.TheVariants.{Num}
use Rattle.zeus_txn.specs.declared.ops.Op.TheVariants.{Add}
use Rattle.zeus_model.specs.declared.script.Script.{Script}
use Rattle.worked_runs.specs.Lines.{lines}

abbrev pub what_was_stored_survives_script : Script
what_was_stored_survives_script =
    record {
      config =
          record {
            version = 1;
            nodes = 3;
            slots = 2;
            directory = 1 ∷ [];
            degree = None;
            objects =
                record { value = Num 5; owner = 0; replicas = 0 ∷ 1 ∷ 2 ∷ [] } ∷
                record { value = Num 7; owner = 0; replicas = 0 ∷ 1 ∷ 2 ∷ [] } ∷ [];
          };
      names = codes "x" ∷ codes "y" ∷ [];
      txs =
          record { node = 0; slot = 0; after = None; tx = Add 0 1 ∷ [] } ∷
          record { node = 0; slot = 1; after = None; tx = Add 1 1 ∷ [] } ∷ [];
      steps =
          Begin 0 ∷ Try 0 0 ∷ Begin 1 ∷ Try 0 1 ∷ Deliver 0 1 1 ∷ Stop 0 ∷ View (1 ∷ 2 ∷ []) ∷ Install 1 2 ∷
          Install 2 2 ∷ Tick 1 ∷ Deliver 1 2 0 ∷ Deliver 2 1 1 ∷ Deliver 0 2 0 ∷ [];
    }

-- the script as it is written
abbrev pub what_was_stored_survives_text : List ℕ
what_was_stored_survives_text =
    lines
    (
    codes "zeus 1" ∷
    codes "nodes 3" ∷
    codes "slots 2" ∷
    codes "directory 1" ∷
    codes "object x 5 0 1 2" ∷
    codes "object y 7 0 1 2" ∷
    codes "tx 0 0 add x 1" ∷
    codes "tx 0 1 add y 1" ∷
    codes "run" ∷
    codes "begin 0" ∷
    codes "try 0 0" ∷
    codes "begin 1" ∷
    codes "try 0 1" ∷
    codes "deliver 0 1 1" ∷
    codes "stop 0" ∷
    codes "view 1 2" ∷
    codes "install 1 2" ∷
    codes "install 2 2" ∷
    codes "tick 1" ∷
    codes "deliver 1 2 0" ∷
    codes "deliver 2 1 1" ∷
    codes "deliver 0 2 0" ∷
    codes "end" ∷ []
    )

-- what a run of it prints
abbrev pub what_was_stored_survives_report : List ℕ
what_was_stored_survives_report =
    lines
    (
    codes "report 1" ∷
    codes "0 begin 0 = begun" ∷
    codes "1 try 0 0 = committed 0" ∷
    codes "> 0 1 0 1 rinv 0.0 0 0 1,2 x 1 6" ∷
    codes "> 0 2 0 1 rinv 0.0 0 0 1,2 x 1 6" ∷
    codes "2 begin 1 = begun" ∷
    codes "3 try 0 1 = committed 0" ∷
    codes "> 0 1 1 1 rinv 0.1 0 0 1,2 y 1 8" ∷
    codes "> 0 2 1 1 rinv 0.1 0 0 1,2 y 1 8" ∷
    codes "4 deliver 0 1 1 = taken" ∷
    codes "> 1 0 0 1 rack 0.1 0" ∷
    codes "5 stop 0 = done" ∷
    codes "6 view 1 2 = installed 2" ∷
    codes "7 install 1 2 = installed" ∷
    codes "8 install 2 2 = installed" ∷
    codes "> 2 1 0 2 recovered" ∷
    codes "9 tick 1 = ticked" ∷
    codes "> 1 2 0 2 rinv 0.1 0 0 1,2 y 1 8" ∷
    codes "10 deliver 1 2 0 = taken" ∷
    codes "> 2 1 1 2 rack 0.1 0" ∷
    codes "11 deliver 2 1 1 = taken" ∷
    codes "* 1 ok 8" ∷
    codes "> 1 2 1 2 rval 0.1 1" ∷
    codes "> 1 2 2 2 recovered" ∷
    codes "12 deliver 0 2 0 = other epoch 1 2" ∷
    codes "history 1" ∷
    codes "tx 0 pending" ∷
    codes "tx 1 passed" ∷
    codes "object x - 0,1,2" ∷
    codes "copy x 1 valid 0 5" ∷
    codes "copy x 2 valid 0 5" ∷
    codes "object y - 0,1,2" ∷
    codes "copy y 1 valid 1 8" ∷
    codes "copy y 2 invalid 1 8" ∷
    codes "end" ∷ []
    )
