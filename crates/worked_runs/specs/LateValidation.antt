-- A copy is invalid until a validation comes, which a tick sends again.
use Rattle.std.specs.Prelude.{ℕ, List, [], ◌∷◌, codes, None}
use Rattle.zeus_base.specs.declared.step.Step.TheVariants.{Begin, Try, Deliver, Tick}
use Rattle.zeus_base.specs.declared.value.Value.TheVariants.{Num}
use Rattle.zeus_txn.specs.declared.ops.Op.TheVariants.{Get, Add}
use Rattle.zeus_model.specs.declared.script.Script.{Script}
use Rattle.worked_runs.specs.Lines.{lines}

abbrev pub late_validation_script : Script
late_validation_script =
    record {
      config =
          record {
            version = 1;
            nodes = 2;
            slots = 1;
            directory = 0 ∷ [];
            degree = None;
            objects =
                record { value = Num 5; owner = 0; replicas = 0 ∷ 1 ∷ [] } ∷ [];
          };
      names = codes "x" ∷ [];
      txs =
          record { node = 0; slot = 0; after = None; tx = Add 0 3 ∷ [] } ∷
          record { node = 1; slot = 0; after = None; tx = Get 0 ∷ [] } ∷ [];
      steps =
          Begin 0 ∷ Try 0 0 ∷ Deliver 0 1 0 ∷ Deliver 1 0 0 ∷ Begin 1 ∷ Try 1 0 ∷ Tick 0 ∷ Deliver 0 1 2 ∷ Try 1 0 ∷ [];
    }

-- the script as it is written
abbrev pub late_validation_text : List ℕ
late_validation_text =
    lines
    (
    codes "zeus 1" ∷
    codes "nodes 2" ∷
    codes "slots 1" ∷
    codes "directory 0" ∷
    codes "object x 5 0 1" ∷
    codes "tx 0 0 add x 3" ∷
    codes "tx 1 0 get x" ∷
    codes "run" ∷
    codes "begin 0" ∷
    codes "try 0 0" ∷
    codes "deliver 0 1 0" ∷
    codes "deliver 1 0 0" ∷
    codes "begin 1" ∷
    codes "try 1 0" ∷
    codes "tick 0" ∷
    codes "deliver 0 1 2" ∷
    codes "try 1 0" ∷
    codes "end" ∷ []
    )

-- what a run of it prints
abbrev pub late_validation_report : List ℕ
late_validation_report =
    lines
    (
    codes "report 1" ∷
    codes "0 begin 0 = begun" ∷
    codes "1 try 0 0 = committed 0" ∷
    codes "> 0 1 0 1 rinv 0.0 0 0 1 x 1 8" ∷
    codes "2 deliver 0 1 0 = taken" ∷
    codes "> 1 0 0 1 rack 0.0 0" ∷
    codes "3 deliver 1 0 0 = taken" ∷
    codes "* 0 ok 8" ∷
    codes "! 0" ∷
    codes "> 0 1 1 1 rval 0.0 1" ∷
    codes "4 begin 1 = begun" ∷
    codes "5 try 1 0 = not valid x invalid" ∷
    codes "6 tick 0 = ticked" ∷
    codes "> 0 1 2 1 rval 0.0 1" ∷
    codes "7 deliver 0 1 2 = taken" ∷
    codes "8 try 1 0 = read" ∷
    codes "* 1 ok 8" ∷
    codes "! 1" ∷
    codes "history 0 1" ∷
    codes "tx 0 acked" ∷
    codes "tx 1 acked" ∷
    codes "object x 0 0,1" ∷
    codes "copy x 0 valid 1 8" ∷
    codes "copy x 1 valid 1 8" ∷
    codes "end" ∷ []
    )
