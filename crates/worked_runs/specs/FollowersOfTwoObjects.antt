-- A follower of the second entry alone learns by the tick that the first has passed.
use Rattle.std.specs.Prelude.{ℕ, List, [], ◌∷◌, codes, None}
use Rattle.zeus_base.specs.declared.step.Step.TheVariants.{Begin, Try, Deliver, Tick}
use Rattle.zeus_base.specs.declared.value.Value.TheVariants.{Num}
use Rattle.zeus_txn.specs.declared.ops.Op.TheVariants.{Add}
use Rattle.zeus_model.specs.declared.script.Script.{Script}
use Rattle.worked_runs.specs.Lines.{lines}

abbrev pub followers_of_two_objects_script : Script
followers_of_two_objects_script =
    record {
      config =
          record {
            version = 1;
            nodes = 3;
            slots = 1;
            directory = 0 ∷ [];
            degree = None;
            objects =
                record { value = Num 5; owner = 0; replicas = 0 ∷ 1 ∷ [] } ∷
                record { value = Num 7; owner = 0; replicas = 0 ∷ 2 ∷ [] } ∷ [];
          };
      names = codes "x" ∷ codes "y" ∷ [];
      txs =
          record { node = 0; slot = 0; after = None; tx = Add 0 1 ∷ [] } ∷
          record { node = 0; slot = 0; after = None; tx = Add 1 1 ∷ [] } ∷ [];
      steps =
          Begin 0 ∷ Try 0 0 ∷ Begin 1 ∷ Try 0 0 ∷ Deliver 0 2 0 ∷ Deliver 0 1 0 ∷ Deliver 1 0 0 ∷ Tick 0 ∷
          Deliver 0 2 1 ∷ Deliver 2 0 0 ∷ [];
    }

-- the script as it is written
abbrev pub followers_of_two_objects_text : List ℕ
followers_of_two_objects_text =
    lines
    (
    codes "zeus 1" ∷
    codes "nodes 3" ∷
    codes "slots 1" ∷
    codes "directory 0" ∷
    codes "object x 5 0 1" ∷
    codes "object y 7 0 2" ∷
    codes "tx 0 0 add x 1" ∷
    codes "tx 0 0 add y 1" ∷
    codes "run" ∷
    codes "begin 0" ∷
    codes "try 0 0" ∷
    codes "begin 1" ∷
    codes "try 0 0" ∷
    codes "deliver 0 2 0" ∷
    codes "deliver 0 1 0" ∷
    codes "deliver 1 0 0" ∷
    codes "tick 0" ∷
    codes "deliver 0 2 1" ∷
    codes "deliver 2 0 0" ∷
    codes "end" ∷ []
    )

-- what a run of it prints
abbrev pub followers_of_two_objects_report : List ℕ
followers_of_two_objects_report =
    lines
    (
    codes "report 1" ∷
    codes "0 begin 0 = begun" ∷
    codes "1 try 0 0 = committed 0" ∷
    codes "> 0 1 0 1 rinv 0.0 0 0 1 x 1 6" ∷
    codes "2 begin 1 = begun" ∷
    codes "3 try 0 0 = committed 1" ∷
    codes "> 0 2 0 1 rinv 0.0 1 0 2 y 1 8" ∷
    codes "4 deliver 0 2 0 = gap 0" ∷
    codes "5 deliver 0 1 0 = taken" ∷
    codes "> 1 0 0 1 rack 0.0 0" ∷
    codes "6 deliver 1 0 0 = taken" ∷
    codes "* 0 ok 6" ∷
    codes "! 0" ∷
    codes "> 0 1 1 1 rval 0.0 1" ∷
    codes "7 tick 0 = ticked" ∷
    codes "> 0 2 1 1 rinv 0.0 1 1 2 y 1 8" ∷
    codes "> 0 1 2 1 rval 0.0 1" ∷
    codes "> 0 2 2 1 rval 0.0 1" ∷
    codes "8 deliver 0 2 1 = taken" ∷
    codes "> 2 0 0 1 rack 0.0 1" ∷
    codes "9 deliver 2 0 0 = taken" ∷
    codes "* 1 ok 8" ∷
    codes "! 1" ∷
    codes "> 0 2 3 1 rval 0.0 2" ∷
    codes "history 0 1" ∷
    codes "tx 0 acked" ∷
    codes "tx 1 acked" ∷
    codes "object x 0 0,1" ∷
    codes "copy x 0 valid 1 6" ∷
    codes "copy x 1 invalid 1 6" ∷
    codes "object y 0 0,2" ∷
    codes "copy y 0 valid 1 8" ∷
    codes "copy y 2 invalid 1 8" ∷
    codes "end" ∷ []
    )
