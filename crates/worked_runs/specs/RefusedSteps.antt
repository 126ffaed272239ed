-- Steps that the world itself answers change nothing.
use Rattle.std.specs.Prelude.{ℕ, List, [], ◌∷◌, codes, None}
use Rattle.zeus_base.specs.declared.step.Step.TheVariants.{Try, Deliver, Tick, Stop, View, Install}
use Rattle.zeus_base.specs.declared.value.Value.TheVariants.{Num}
use Rattle.zeus_model.specs.declared.script.Script.{Script}
use Rattle.worked_runs.specs.Lines.{lines}

abbrev pub refused_steps_script : Script
refused_steps_script =
    record {
      config =
          record {
            version = 1;
            nodes = 2;
            slots = 1;
            directory = 0 ∷ [];
            degree = None;
            objects =
                record { value = Num 5; owner = 0; replicas = 0 ∷ 1 ∷ [] } ∷ [];
          };
      names = codes "x" ∷ [];
      txs = [];
      steps =
          View (0 ∷ []) ∷ Deliver 0 1 0 ∷ Install 1 2 ∷ View [] ∷ Try 0 0 ∷ Stop 1 ∷ Tick 1 ∷ View (0 ∷ []) ∷
          View (0 ∷ 1 ∷ []) ∷ Install 0 2 ∷ Install 0 1 ∷ [];
    }

-- the script as it is written
abbrev pub refused_steps_text : List ℕ
refused_steps_text =
    lines
    (
    codes "zeus 1" ∷
    codes "nodes 2" ∷
    codes "slots 1" ∷
    codes "directory 0" ∷
    codes "object x 5 0 1" ∷
    codes "run" ∷
    codes "view 0" ∷
    codes "deliver 0 1 0" ∷
    codes "install 1 2" ∷
    codes "view" ∷
    codes "try 0 0" ∷
    codes "stop 1" ∷
    codes "tick 1" ∷
    codes "view 0" ∷
    codes "view 0 1" ∷
    codes "install 0 2" ∷
    codes "install 0 1" ∷
    codes "end" ∷ []
    )

-- what a run of it prints
abbrev pub refused_steps_report : List ℕ
refused_steps_report =
    lines
    (
    codes "report 1" ∷
    codes "0 view 0 = not stopped 1" ∷
    codes "1 deliver 0 1 0 = no packet 0" ∷
    codes "2 install 1 2 = no view 1" ∷
    codes "3 view = empty" ∷
    codes "4 try 0 0 = nothing" ∷
    codes "5 stop 1 = done" ∷
    codes "6 tick 1 = stopped" ∷
    codes "7 view 0 = installed 2" ∷
    codes "8 view 0 1 = not member 1" ∷
    codes "9 install 0 2 = installed" ∷
    codes "10 install 0 1 = old 2" ∷
    codes "history" ∷
    codes "object x 0 0,1" ∷
    codes "copy x 0 valid 0 5" ∷
    codes "end" ∷ []
    )
