-- A requester that has not seen the new view decides in the old epoch.
use Rattle.std.specs.Prelude.{ℕ, List, [], ◌∷◌, codes, None}
use Rattle.zeus_base.specs.declared.step.Step.TheVariants.{Begin, Try, Deliver, Stop, View, Install}
use Rattle.zeus_base.specs.declared.value.Value.TheVariants.{Num}
use Rattle.zeus_txn.specs.declared.ops.Op.TheVariants.{Add}
use Rattle.zeus_model.specs.declared.script.Script.{Script}
use Rattle.worked_runs.specs.Lines.{lines}

abbrev pub decision_in_an_old_epoch_script : Script
decision_in_an_old_epoch_script =
    record {
      config =
          record {
            version = 1;
            nodes = 4;
            slots = 1;
            directory = 0 ∷ 1 ∷ [];
            degree = None;
            objects =
                record { value = Num 5; owner = 0; replicas = 0 ∷ [] } ∷ [];
          };
      names = codes "x" ∷ [];
      txs =
          record { node = 2; slot = 0; after = None; tx = Add 0 1 ∷ [] } ∷
          record { node = 1; slot = 0; after = None; tx = Add 0 5 ∷ [] } ∷ [];
      steps =
          Begin 0 ∷ Try 2 0 ∷ Deliver 2 0 0 ∷ Deliver 0 1 0 ∷ Stop 3 ∷ View (0 ∷ 1 ∷ 2 ∷ []) ∷ Install 0 2 ∷
          Install 1 2 ∷ Deliver 0 2 0 ∷ Deliver 1 2 0 ∷ Deliver 2 0 1 ∷ Begin 1 ∷ Try 1 0 ∷ Deliver 1 1 0 ∷
          Install 2 2 ∷ Deliver 2 1 1 ∷ Deliver 0 1 1 ∷ Deliver 1 1 0 ∷ [];
    }

-- the script as it is written
abbrev pub decision_in_an_old_epoch_text : List ℕ
decision_in_an_old_epoch_text =
    lines
    (
    codes "zeus 1" ∷
    codes "nodes 4" ∷
    codes "slots 1" ∷
    codes "directory 0 1" ∷
    codes "object x 5 0" ∷
    codes "tx 2 0 add x 1" ∷
    codes "tx 1 0 add x 5" ∷
    codes "run" ∷
    codes "begin 0" ∷
    codes "try 2 0" ∷
    codes "deliver 2 0 0" ∷
    codes "deliver 0 1 0" ∷
    codes "stop 3" ∷
    codes "view 0 1 2" ∷
    codes "install 0 2" ∷
    codes "install 1 2" ∷
    codes "deliver 0 2 0" ∷
    codes "deliver 1 2 0" ∷
    codes "deliver 2 0 1" ∷
    codes "begin 1" ∷
    codes "try 1 0" ∷
    codes "deliver 1 1 0" ∷
    codes "install 2 2" ∷
    codes "deliver 2 1 1" ∷
    codes "deliver 0 1 1" ∷
    codes "deliver 1 1 0" ∷
    codes "end" ∷ []
    )

-- what a run of it prints
abbrev pub decision_in_an_old_epoch_report : List ℕ
decision_in_an_old_epoch_report =
    lines
    (
    codes "report 1" ∷
    codes "0 begin 0 = begun" ∷
    codes "1 try 2 0 = not owner x" ∷
    codes "> 2 0 0 1 oreq x" ∷
    codes "2 deliver 2 0 0 = taken" ∷
    codes "> 0 1 0 1 oinv x 1.0 2 0.0 0 0" ∷
    codes "> 0 2 0 1 oack x 1.0 2 0.0 0 0 0 5" ∷
    codes "3 deliver 0 1 0 = taken" ∷
    codes "> 1 2 0 1 oack x 1.0 2 0.0 0 0 -" ∷
    codes "4 stop 3 = done" ∷
    codes "5 view 0 1 2 = installed 2" ∷
    codes "6 install 0 2 = installed" ∷
    codes "> 0 1 1 2 recovered" ∷
    codes "> 0 2 1 2 recovered" ∷
    codes "7 install 1 2 = installed" ∷
    codes "> 1 0 0 2 recovered" ∷
    codes "> 1 2 1 2 recovered" ∷
    codes "8 deliver 0 2 0 = taken" ∷
    codes "9 deliver 1 2 0 = taken" ∷
    codes "> 2 0 1 1 oval x 1.0 2 0,2" ∷
    codes "> 2 1 0 1 oval x 1.0 2 0,2" ∷
    codes "> 2 3 0 1 oval x 1.0 2 0,2" ∷
    codes "10 deliver 2 0 1 = other epoch 1 2" ∷
    codes "11 begin 1 = begun" ∷
    codes "12 try 1 0 = not owner x" ∷
    codes "> 1 1 0 2 oreq x" ∷
    codes "13 deliver 1 1 0 = not open" ∷
    codes "14 install 2 2 = installed" ∷
    codes "> 2 0 2 2 recovered" ∷
    codes "> 2 1 1 2 recovered" ∷
    codes "15 deliver 2 1 1 = taken" ∷
    codes "16 deliver 0 1 1 = taken" ∷
    codes "17 deliver 1 1 0 = refused proposed 1.0" ∷
    codes "> 1 1 1 2 onack x 0.0 proposed 1.0" ∷
    codes "history" ∷
    codes "tx 0 current" ∷
    codes "tx 1 current" ∷
    codes "object x 2 0,2" ∷
    codes "copy x 0 valid 0 5" ∷
    codes "copy x 2 valid 0 5" ∷
    codes "end" ∷ []
    )
