-- A transaction begins once, behind the one that it waits for, at a free slot.
use Rattle.std.specs.Prelude.{ℕ, List, [], ◌∷◌, codes, Some, None}
use Rattle.zeus_base.specs.declared.step.Step.TheVariants.{Begin}
use Rattle.zeus_base.specs.declared.value.Value.TheVariants.{Num}
use Rattle.zeus_txn.specs.declared.ops.Op.TheVariants.{Get, Add}
use Rattle.zeus_model.specs.declared.script.Script.{Script}
use Rattle.worked_runs.specs.Lines.{lines}

abbrev pub busy_slot_script : Script
busy_slot_script =
    record {
      config =
          record {
            version = 1;
            nodes = 2;
            slots = 1;
            directory = 0 ∷ [];
            degree = None;
            objects =
                record { value = Num 5; owner = 0; replicas = 0 ∷ 1 ∷ [] } ∷ [];
          };
      names = codes "x" ∷ [];
      txs =
          record { node = 0; slot = 0; after = None; tx = Add 0 3 ∷ [] } ∷
          record { node = 0; slot = 0; after = Some 0; tx = Get 0 ∷ [] } ∷
          record { node = 0; slot = 0; after = None; tx = Get 0 ∷ [] } ∷ [];
      steps =
          Begin 0 ∷ Begin 0 ∷ Begin 1 ∷ Begin 2 ∷ [];
    }

-- the script as it is written
abbrev pub busy_slot_text : List ℕ
busy_slot_text =
    lines
    (
    codes "zeus 1" ∷
    codes "nodes 2" ∷
    codes "slots 1" ∷
    codes "directory 0" ∷
    codes "object x 5 0 1" ∷
    codes "tx 0 0 add x 3" ∷
    codes "tx 0 0 after 0 get x" ∷
    codes "tx 0 0 get x" ∷
    codes "run" ∷
    codes "begin 0" ∷
    codes "begin 0" ∷
    codes "begin 1" ∷
    codes "begin 2" ∷
    codes "end" ∷ []
    )

-- what a run of it prints
abbrev pub busy_slot_report : List ℕ
busy_slot_report =
    lines
    (
    codes "report 1" ∷
    codes "0 begin 0 = begun" ∷
    codes "1 begin 0 = twice" ∷
    codes "2 begin 1 = waits 0" ∷
    codes "3 begin 2 = busy 0" ∷
    codes "history" ∷
    codes "tx 0 current" ∷
    codes "tx 1 new" ∷
    codes "tx 2 new" ∷
    codes "object x 0 0,1" ∷
    codes "copy x 0 valid 0 5" ∷
    codes "copy x 1 valid 0 5" ∷
    codes "end" ∷ []
    )
