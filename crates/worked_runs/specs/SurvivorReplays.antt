-- A follower replays the entry of an owner that stopped.
use Rattle.std.specs.Prelude.{ℕ, List, [], ◌∷◌, codes, None}
use Rattle.zeus_base.specs.declared.step.Step.TheVariants.{Begin, Try, Deliver, Tick, Stop, View, Install}
use Rattle.zeus_base.specs.declared.value.Value.TheVariants.{Num}
use Rattle.zeus_txn.specs.declared.ops.Op.TheVariants.{Get, Add}
use Rattle.zeus_model.specs.declared.script.Script.{Script}
use Rattle.worked_runs.specs.Lines.{lines}

abbrev pub survivor_replays_script : Script
survivor_replays_script =
    record {
      config =
          record {
            version = 1;
            nodes = 3;
            slots = 1;
            directory = 0 ∷ [];
            degree = None;
            objects =
                record { value = Num 5; owner = 0; replicas = 0 ∷ 1 ∷ 2 ∷ [] } ∷ [];
          };
      names = codes "x" ∷ [];
      txs =
          record { node = 0; slot = 0; after = None; tx = Add 0 1 ∷ [] } ∷
          record { node = 1; slot = 0; after = None; tx = Get 0 ∷ [] } ∷ [];
      steps =
          Begin 0 ∷ Try 0 0 ∷ Deliver 0 1 0 ∷ Deliver 0 2 0 ∷ Deliver 1 0 0 ∷ Deliver 2 0 0 ∷ Stop 0 ∷
          View (1 ∷ 2 ∷ []) ∷ Install 1 2 ∷ Install 2 2 ∷ Deliver 0 1 1 ∷ Tick 1 ∷ Deliver 1 2 0 ∷ Deliver 2 1 0 ∷
          Deliver 1 2 1 ∷ Begin 1 ∷ Try 1 0 ∷ [];
    }

-- the script as it is written
abbrev pub survivor_replays_text : List ℕ
survivor_replays_text =
    lines
    (
    codes "zeus 1" ∷
    codes "nodes 3" ∷
    codes "slots 1" ∷
    codes "directory 0" ∷
    codes "object x 5 0 1 2" ∷
    codes "tx 0 0 add x 1" ∷
    codes "tx 1 0 get x" ∷
    codes "run" ∷
    codes "begin 0" ∷
    codes "try 0 0" ∷
    codes "deliver 0 1 0" ∷
    codes "deliver 0 2 0" ∷
    codes "deliver 1 0 0" ∷
    codes "deliver 2 0 0" ∷
    codes "stop 0" ∷
    codes "view 1 2" ∷
    codes "install 1 2" ∷
    codes "install 2 2" ∷
    codes "deliver 0 1 1" ∷
    codes "tick 1" ∷
    codes "deliver 1 2 0" ∷
    codes "deliver 2 1 0" ∷
    codes "deliver 1 2 1" ∷
    codes "begin 1" ∷
    codes "try 1 0" ∷
    codes "end" ∷ []
    )

-- what a run of it prints
abbrev pub survivor_replays_report : List ℕ
survivor_replays_report =
    lines
    (
    codes "report 1" ∷
    codes "0 begin 0 = begun" ∷
    codes "1 try 0 0 = committed 0" ∷
    codes "> 0 1 0 1 rinv 0.0 0 0 1,2 x 1 6" ∷
    codes "> 0 2 0 1 rinv 0.0 0 0 1,2 x 1 6" ∷
    codes "2 deliver 0 1 0 = taken" ∷
    codes "> 1 0 0 1 rack 0.0 0" ∷
    codes "3 deliver 0 2 0 = taken" ∷
    codes "> 2 0 0 1 rack 0.0 0" ∷
    codes "4 deliver 1 0 0 = taken" ∷
    codes "5 deliver 2 0 0 = taken" ∷
    codes "* 0 ok 6" ∷
    codes "! 0" ∷
    codes "> 0 1 1 1 rval 0.0 1" ∷
    codes "> 0 2 1 1 rval 0.0 1" ∷
    codes "6 stop 0 = done" ∷
    codes "7 view 1 2 = installed 2" ∷
    codes "8 install 1 2 = installed" ∷
    codes "9 install 2 2 = installed" ∷
    codes "10 deliver 0 1 1 = other epoch 1 2" ∷
    codes "11 tick 1 = ticked" ∷
    codes "> 1 2 0 2 rinv 0.0 0 0 1,2 x 1 6" ∷
    codes "12 deliver 1 2 0 = again" ∷
    codes "> 2 1 0 2 rack 0.0 0" ∷
    codes "13 deliver 2 1 0 = taken" ∷
    codes "> 1 2 1 2 rval 0.0 1" ∷
    codes "> 1 2 2 2 recovered" ∷
    codes "14 deliver 1 2 1 = taken" ∷
    codes "> 2 1 1 2 recovered" ∷
    codes "15 begin 1 = begun" ∷
    codes "16 try 1 0 = read" ∷
    codes "* 1 ok 6" ∷
    codes "! 1" ∷
    codes "history 0 1" ∷
    codes "tx 0 acked" ∷
    codes "tx 1 acked" ∷
    codes "object x - 0,1,2" ∷
    codes "copy x 1 valid 1 6" ∷
    codes "copy x 2 valid 1 6" ∷
    codes "end" ∷ []
    )
