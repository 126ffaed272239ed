-- In version 2 values are texts too: additions fail at them, and `same` compares.
use Rattle.std.specs.Prelude.{ℕ, List, [], ◌∷◌, codes, None}
use Rattle.zeus_base.specs.declared.step.Step.TheVariants.{Begin, Try, Deliver}
use Rattle.zeus_base.specs.declared.value.Value.TheVariants.{Text}
use Rattle.zeus_txn.specs.declared.ops.Op.TheVariants.{Get, Put, Add, Same}
use Rattle.zeus_model.specs.declared.script.Script.{Script}
use Rattle.worked_runs.specs.Lines.{lines}

abbrev pub texts_as_values_script : Script
texts_as_values_script =
    record {
      config =
          record {
            version = 2;
            nodes = 2;
            slots = 1;
            directory = 0 ∷ [];
            degree = None;
            objects =
                record { value = Text (codes "idle"); owner = 0; replicas = 0 ∷ 1 ∷ [] } ∷ [];
          };
      names = codes "x" ∷ [];
      txs =
          record { node = 0; slot = 0; after = None; tx = Get 0 ∷ Same 0 (Text (codes "idle")) ∷ Put 0 (Text (codes "busy")) ∷ [] } ∷
          record { node = 0; slot = 0; after = None; tx = Add 0 1 ∷ [] } ∷ [];
      steps =
          Begin 0 ∷ Try 0 0 ∷ Begin 1 ∷ Try 0 0 ∷ Deliver 0 1 0 ∷ Deliver 1 0 0 ∷ [];
    }

-- the script as it is written
abbrev pub texts_as_values_text : List ℕ
texts_as_values_text =
    lines
    (
    codes "zeus 2" ∷
    codes "nodes 2" ∷
    codes "slots 1" ∷
    codes "directory 0" ∷
    codes "object x 'idle 0 1" ∷
    codes "tx 0 0 get x ; same x 'idle ; put x 'busy" ∷
    codes "tx 0 0 add x 1" ∷
    codes "run" ∷
    codes "begin 0" ∷
    codes "try 0 0" ∷
    codes "begin 1" ∷
    codes "try 0 0" ∷
    codes "deliver 0 1 0" ∷
    codes "deliver 1 0 0" ∷
    codes "end" ∷ []
    )

-- what a run of it prints
abbrev pub texts_as_values_report : List ℕ
texts_as_values_report =
    lines
    (
    codes "report 2" ∷
    codes "0 begin 0 = begun" ∷
    codes "1 try 0 0 = committed 0" ∷
    codes "> 0 1 0 1 rinv 0.0 0 0 1 x 1 'busy" ∷
    codes "2 begin 1 = begun" ∷
    codes "3 try 0 0 = committed 1" ∷
    codes "4 deliver 0 1 0 = taken" ∷
    codes "> 1 0 0 1 rack 0.0 0" ∷
    codes "5 deliver 1 0 0 = taken" ∷
    codes "* 0 ok 'idle" ∷
    codes "* 1 failed 0" ∷
    codes "! 0" ∷
    codes "! 1" ∷
    codes "> 0 1 1 1 rval 0.0 2" ∷
    codes "history 0 1" ∷
    codes "tx 0 acked" ∷
    codes "tx 1 acked" ∷
    codes "object x 0 0,1" ∷
    codes "copy x 0 valid 1 'busy" ∷
    codes "copy x 1 invalid 1 'busy" ∷
    codes "end" ∷ []
    )
