-- An entry that comes before the one below it is not stored.
use Rattle.std.specs.Prelude.{ℕ, List, [], ◌∷◌, codes, None}
use Rattle.zeus_base.specs.declared.step.Step.TheVariants.{Begin, Try, Deliver}
use Rattle.zeus_base.specs.declared.value.Value.TheVariants.{Num}
use Rattle.zeus_txn.specs.declared.ops.Op.TheVariants.{Add}
use Rattle.zeus_model.specs.declared.script.Script.{Script}
use Rattle.worked_runs.specs.Lines.{lines}

abbrev pub second_entry_first_script : Script
second_entry_first_script =
    record {
      config =
          record {
            version = 1;
            nodes = 2;
            slots = 1;
            directory = 0 ∷ [];
            degree = None;
            objects =
                record { value = Num 5; owner = 0; replicas = 0 ∷ 1 ∷ [] } ∷ [];
          };
      names = codes "x" ∷ [];
      txs =
          record { node = 0; slot = 0; after = None; tx = Add 0 3 ∷ [] } ∷
          record { node = 0; slot = 0; after = None; tx = Add 0 1 ∷ [] } ∷ [];
      steps =
          Begin 0 ∷ Try 0 0 ∷ Begin 1 ∷ Try 0 0 ∷ Deliver 0 1 1 ∷ Deliver 0 1 0 ∷ Deliver 0 1 1 ∷ Deliver 1 0 1 ∷
          Deliver 1 0 0 ∷ [];
    }

-- the script as it is written
abbrev pub second_entry_first_text : List ℕ
second_entry_first_text =
    lines
    (
    codes "zeus 1" ∷
    codes "nodes 2" ∷
    codes "slots 1" ∷
    codes "directory 0" ∷
    codes "object x 5 0 1" ∷
    codes "tx 0 0 add x 3" ∷
    codes "tx 0 0 add x 1" ∷
    codes "run" ∷
    codes "begin 0" ∷
    codes "try 0 0" ∷
    codes "begin 1" ∷
    codes "try 0 0" ∷
    codes "deliver 0 1 1" ∷
    codes "deliver 0 1 0" ∷
    codes "deliver 0 1 1" ∷
    codes "deliver 1 0 1" ∷
    codes "deliver 1 0 0" ∷
    codes "end" ∷ []
    )

-- what a run of it prints
abbrev pub second_entry_first_report : List ℕ
second_entry_first_report =
    lines
    (
    codes "report 1" ∷
    codes "0 begin 0 = begun" ∷
    codes "1 try 0 0 = committed 0" ∷
    codes "> 0 1 0 1 rinv 0.0 0 0 1 x 1 8" ∷
    codes "2 begin 1 = begun" ∷
    codes "3 try 0 0 = committed 1" ∷
    codes "> 0 1 1 1 rinv 0.0 1 0 1 x 2 9" ∷
    codes "4 deliver 0 1 1 = gap 0" ∷
    codes "5 deliver 0 1 0 = taken" ∷
    codes "> 1 0 0 1 rack 0.0 0" ∷
    codes "6 deliver 0 1 1 = taken" ∷
    codes "> 1 0 1 1 rack 0.0 1" ∷
    codes "7 deliver 1 0 1 = taken" ∷
    codes "8 deliver 1 0 0 = taken" ∷
    codes "* 0 ok 8" ∷
    codes "* 1 ok 9" ∷
    codes "! 0" ∷
    codes "! 1" ∷
    codes "> 0 1 2 1 rval 0.0 2" ∷
    codes "history 0 1" ∷
    codes "tx 0 acked" ∷
    codes "tx 1 acked" ∷
    codes "object x 0 0,1" ∷
    codes "copy x 0 valid 2 9" ∷
    codes "copy x 1 invalid 2 9" ∷
    codes "end" ∷ []
    )
