-- A new owner writes and stops, and the others decide its ownership and take over.
use Rattle.std.specs.Prelude.{ℕ, List, [], ◌∷◌, codes, None}
use Rattle.zeus_base.specs.declared.step.Step.TheVariants.{Begin, Try, Deliver, Tick, Stop, View, Install}
use Rattle.zeus_base.specs.declared.value.Value.TheVariants.{Num}
use Rattle.zeus_txn.specs.declared.ops.Op.TheVariants.{Add}
use Rattle.zeus_model.specs.declared.script.Script.{Script}
use Rattle.worked_runs.specs.Lines.{lines}

abbrev pub new_owner_stops_script : Script
new_owner_stops_script =
    record {
      config =
          record {
            version = 1;
            nodes = 3;
            slots = 1;
            directory = 0 ∷ [];
            degree = None;
            objects =
                record { value = Num 5; owner = 0; replicas = 0 ∷ 1 ∷ [] } ∷ [];
          };
      names = codes "x" ∷ [];
      txs =
          record { node = 2; slot = 0; after = None; tx = Add 0 1 ∷ [] } ∷
          record { node = 1; slot = 0; after = None; tx = Add 0 10 ∷ [] } ∷ [];
      steps =
          Begin 0 ∷ Try 2 0 ∷ Deliver 2 0 0 ∷ Deliver 0 2 0 ∷ Try 2 0 ∷ Deliver 2 1 1 ∷ Stop 2 ∷ View (0 ∷ 1 ∷ []) ∷
          Install 0 2 ∷ Install 1 2 ∷ Tick 1 ∷ Deliver 1 0 0 ∷ Deliver 0 1 1 ∷ Deliver 1 0 1 ∷ Deliver 1 0 2 ∷ Tick 0 ∷
          Deliver 0 0 0 ∷ Begin 1 ∷ Try 1 0 ∷ Deliver 1 0 3 ∷ Deliver 0 1 4 ∷ Try 1 0 ∷ [];
    }

-- the script as it is written
abbrev pub new_owner_stops_text : List ℕ
new_owner_stops_text =
    lines
    (
    codes "zeus 1" ∷
    codes "nodes 3" ∷
    codes "slots 1" ∷
    codes "directory 0" ∷
    codes "object x 5 0 1" ∷
    codes "tx 2 0 add x 1" ∷
    codes "tx 1 0 add x 10" ∷
    codes "run" ∷
    codes "begin 0" ∷
    codes "try 2 0" ∷
    codes "deliver 2 0 0" ∷
    codes "deliver 0 2 0" ∷
    codes "try 2 0" ∷
    codes "deliver 2 1 1" ∷
    codes "stop 2" ∷
    codes "view 0 1" ∷
    codes "install 0 2" ∷
    codes "install 1 2" ∷
    codes "tick 1" ∷
    codes "deliver 1 0 0" ∷
    codes "deliver 0 1 1" ∷
    codes "deliver 1 0 1" ∷
    codes "deliver 1 0 2" ∷
    codes "tick 0" ∷
    codes "deliver 0 0 0" ∷
    codes "begin 1" ∷
    codes "try 1 0" ∷
    codes "deliver 1 0 3" ∷
    codes "deliver 0 1 4" ∷
    codes "try 1 0" ∷
    codes "end" ∷ []
    )

-- what a run of it prints
abbrev pub new_owner_stops_report : List ℕ
new_owner_stops_report =
    lines
    (
    codes "report 1" ∷
    codes "0 begin 0 = begun" ∷
    codes "1 try 2 0 = not owner x" ∷
    codes "> 2 0 0 1 oreq x" ∷
    codes "2 deliver 2 0 0 = taken" ∷
    codes "> 0 2 0 1 oack x 1.0 2 0.0 0 0,1 0 5" ∷
    codes "3 deliver 0 2 0 = taken" ∷
    codes "> 2 0 1 1 oval x 1.0 2 0,1,2" ∷
    codes "> 2 1 0 1 oval x 1.0 2 0,1,2" ∷
    codes "4 try 2 0 = committed 0" ∷
    codes "> 2 0 2 1 rinv 2.0 0 0 0,1 x 1 6" ∷
    codes "> 2 1 1 1 rinv 2.0 0 0 0,1 x 1 6" ∷
    codes "5 deliver 2 1 1 = taken" ∷
    codes "> 1 2 0 1 rack 2.0 0" ∷
    codes "6 stop 2 = done" ∷
    codes "7 view 0 1 = installed 2" ∷
    codes "8 install 0 2 = installed" ∷
    codes "> 0 1 0 2 recovered" ∷
    codes "9 install 1 2 = installed" ∷
    codes "10 tick 1 = ticked" ∷
    codes "> 1 0 0 2 rinv 2.0 0 0 0,1 x 1 6" ∷
    codes "11 deliver 1 0 0 = taken" ∷
    codes "> 0 1 1 2 rack 2.0 0" ∷
    codes "12 deliver 0 1 1 = taken" ∷
    codes "* 0 ok 6" ∷
    codes "> 1 0 1 2 rval 2.0 1" ∷
    codes "> 1 0 2 2 recovered" ∷
    codes "13 deliver 1 0 1 = taken" ∷
    codes "14 deliver 1 0 2 = taken" ∷
    codes "15 tick 0 = ticked" ∷
    codes "> 0 1 2 2 recovered" ∷
    codes "> 0 0 0 2 oack x 1.0 2 0.0 0 0,1 1 6" ∷
    codes "16 deliver 0 0 0 = taken" ∷
    codes "> 0 1 3 2 oval x 1.0 2 0,1,2" ∷
    codes "17 begin 1 = begun" ∷
    codes "18 try 1 0 = not owner x" ∷
    codes "> 1 0 3 2 oreq x" ∷
    codes "19 deliver 1 0 3 = taken" ∷
    codes "> 0 1 4 2 oack x 2.0 1 1.0 2 0,1,2 1 6" ∷
    codes "20 deliver 0 1 4 = taken" ∷
    codes "> 1 0 4 2 oval x 2.0 1 0,1,2" ∷
    codes "21 try 1 0 = committed 0" ∷
    codes "> 1 0 5 2 rinv 1.0 0 0 0,2 x 2 16" ∷
    codes "history 0" ∷
    codes "tx 0 passed" ∷
    codes "tx 1 pending" ∷
    codes "object x 1 0,1,2" ∷
    codes "copy x 0 valid 1 6" ∷
    codes "copy x 1 write 2 16" ∷
    codes "end" ∷ []
    )
