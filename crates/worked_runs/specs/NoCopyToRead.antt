-- Without a degree a read without a copy is refused.
use Rattle.std.specs.Prelude.{ℕ, List, [], ◌∷◌, codes, None}
use Rattle.zeus_base.specs.declared.step.Step.TheVariants.{Begin, Try}
use Rattle.zeus_base.specs.declared.value.Value.TheVariants.{Num}
use Rattle.zeus_txn.specs.declared.ops.Op.TheVariants.{Get}
use Rattle.zeus_model.specs.declared.script.Script.{Script}
use Rattle.worked_runs.specs.Lines.{lines}

abbrev pub no_copy_to_read_script : Script
no_copy_to_read_script =
    record {
      config =
          record {
            version = 1;
            nodes = 3;
            slots = 1;
            directory = 0 ∷ [];
            degree = None;
            objects =
                record { value = Num 5; owner = 0; replicas = 0 ∷ 1 ∷ [] } ∷ [];
          };
      names = codes "x" ∷ [];
      txs =
          record { node = 2; slot = 0; after = None; tx = Get 0 ∷ [] } ∷ [];
      steps =
          Begin 0 ∷ Try 2 0 ∷ [];
    }

-- the script as it is written
abbrev pub no_copy_to_read_text : List ℕ
no_copy_to_read_text =
    lines
    (
    codes "zeus 1" ∷
    codes "nodes 3" ∷
    codes "slots 1" ∷
    codes "directory 0" ∷
    codes "object x 5 0 1" ∷
    codes "tx 2 0 get x" ∷
    codes "run" ∷
    codes "begin 0" ∷
    codes "try 2 0" ∷
    codes "end" ∷ []
    )

-- what a run of it prints
abbrev pub no_copy_to_read_report : List ℕ
no_copy_to_read_report =
    lines
    (
    codes "report 1" ∷
    codes "0 begin 0 = begun" ∷
    codes "1 try 2 0 = no copy x" ∷
    codes "history" ∷
    codes "tx 0 refused" ∷
    codes "object x 0 0,1" ∷
    codes "copy x 0 valid 0 5" ∷
    codes "copy x 1 valid 0 5" ∷
    codes "end" ∷ []
    )
