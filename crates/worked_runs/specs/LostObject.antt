-- An object is lost where its only replica has stopped.
use Rattle.std.specs.Prelude.{ℕ, List, [], ◌∷◌, codes, None}
use Rattle.zeus_base.specs.declared.step.Step.TheVariants.{Stop}
use Rattle.zeus_base.specs.declared.value.Value.TheVariants.{Num}
use Rattle.zeus_model.specs.declared.script.Script.{Script}
use Rattle.worked_runs.specs.Lines.{lines}

abbrev pub lost_object_script : Script
lost_object_script =
    record {
      config =
          record {
            version = 1;
            nodes = 2;
            slots = 1;
            directory = 0 ∷ [];
            degree = None;
            objects =
                record { value = Num 5; owner = 0; replicas = 0 ∷ [] } ∷ [];
          };
      names = codes "x" ∷ [];
      txs = [];
      steps =
          Stop 0 ∷ [];
    }

-- the script as it is written
abbrev pub lost_object_text : List ℕ
lost_object_text =
    lines
    (
    codes "zeus 1" ∷
    codes "nodes 2" ∷
    codes "slots 1" ∷
    codes "directory 0" ∷
    codes "object x 5 0" ∷
    codes "run" ∷
    codes "stop 0" ∷
    codes "end" ∷ []
    )

-- what a run of it prints
abbrev pub lost_object_report : List ℕ
lost_object_report =
    lines
    (
    codes "report 1" ∷
    codes "0 stop 0 = done" ∷
    codes "history" ∷
    codes "object x - 0" ∷
    codes "lost x" ∷
    codes "end" ∷ []
    )
