-- Two drivers propose one version, and the greater stamp is decided.
use Rattle.std.specs.Prelude.{ℕ, List, [], ◌∷◌, codes, None}
use Rattle.zeus_base.specs.declared.step.Step.TheVariants.{Begin, Try, Deliver, Tick}
use Rattle.zeus_base.specs.declared.value.Value.TheVariants.{Num}
use Rattle.zeus_txn.specs.declared.ops.Op.TheVariants.{Add}
use Rattle.zeus_model.specs.declared.script.Script.{Script}
use Rattle.worked_runs.specs.Lines.{lines}

abbrev pub two_drivers_script : Script
two_drivers_script =
    record {
      config =
          record {
            version = 1;
            nodes = 4;
            slots = 1;
            directory = 0 ∷ 1 ∷ [];
            degree = None;
            objects =
                record { value = Num 5; owner = 3; replicas = 3 ∷ [] } ∷ [];
          };
      names = codes "x" ∷ [];
      txs =
          record { node = 0; slot = 0; after = None; tx = Add 0 1 ∷ [] } ∷
          record { node = 1; slot = 0; after = None; tx = Add 0 2 ∷ [] } ∷ [];
      steps =
          Begin 0 ∷ Try 0 0 ∷ Begin 1 ∷ Try 1 0 ∷ Deliver 0 0 0 ∷ Deliver 1 1 0 ∷ Deliver 0 1 0 ∷ Deliver 1 0 0 ∷
          Deliver 1 3 0 ∷ Deliver 0 3 0 ∷ Deliver 1 1 1 ∷ Deliver 0 1 1 ∷ Deliver 3 1 0 ∷ Deliver 1 0 2 ∷ Tick 0 ∷
          Deliver 0 0 2 ∷ Deliver 0 1 0 ∷ [];
    }

-- the script as it is written
abbrev pub two_drivers_text : List ℕ
two_drivers_text =
    lines
    (
    codes "zeus 1" ∷
    codes "nodes 4" ∷
    codes "slots 1" ∷
    codes "directory 0 1" ∷
    codes "object x 5 3" ∷
    codes "tx 0 0 add x 1" ∷
    codes "tx 1 0 add x 2" ∷
    codes "run" ∷
    codes "begin 0" ∷
    codes "try 0 0" ∷
    codes "begin 1" ∷
    codes "try 1 0" ∷
    codes "deliver 0 0 0" ∷
    codes "deliver 1 1 0" ∷
    codes "deliver 0 1 0" ∷
    codes "deliver 1 0 0" ∷
    codes "deliver 1 3 0" ∷
    codes "deliver 0 3 0" ∷
    codes "deliver 1 1 1" ∷
    codes "deliver 0 1 1" ∷
    codes "deliver 3 1 0" ∷
    codes "deliver 1 0 2" ∷
    codes "tick 0" ∷
    codes "deliver 0 0 2" ∷
    codes "deliver 0 1 0" ∷
    codes "end" ∷ []
    )

-- what a run of it prints
abbrev pub two_drivers_report : List ℕ
two_drivers_report =
    lines
    (
    codes "report 1" ∷
    codes "0 begin 0 = begun" ∷
    codes "1 try 0 0 = not owner x" ∷
    codes "> 0 0 0 1 oreq x" ∷
    codes "2 begin 1 = begun" ∷
    codes "3 try 1 0 = not owner x" ∷
    codes "> 1 1 0 1 oreq x" ∷
    codes "4 deliver 0 0 0 = taken" ∷
    codes "> 0 1 0 1 oinv x 1.0 0 0.0 3 3" ∷
    codes "> 0 3 0 1 oinv x 1.0 0 0.0 3 3" ∷
    codes "> 0 0 1 1 oack x 1.0 0 0.0 3 3 -" ∷
    codes "5 deliver 1 1 0 = taken" ∷
    codes "> 1 0 0 1 oinv x 1.1 1 0.0 3 3" ∷
    codes "> 1 3 0 1 oinv x 1.1 1 0.0 3 3" ∷
    codes "> 1 1 1 1 oack x 1.1 1 0.0 3 3 -" ∷
    codes "6 deliver 0 1 0 = older 1.1" ∷
    codes "> 1 0 1 1 onack x 1.0 proposed 1.1" ∷
    codes "7 deliver 1 0 0 = taken" ∷
    codes "> 0 1 1 1 oack x 1.1 1 0.0 3 3 -" ∷
    codes "8 deliver 1 3 0 = taken" ∷
    codes "> 3 1 0 1 oack x 1.1 1 0.0 3 3 0 5" ∷
    codes "9 deliver 0 3 0 = older 1.1" ∷
    codes "> 3 0 0 1 onack x 1.0 proposed 1.1" ∷
    codes "10 deliver 1 1 1 = taken" ∷
    codes "11 deliver 0 1 1 = taken" ∷
    codes "12 deliver 3 1 0 = taken" ∷
    codes "> 1 0 2 1 oval x 1.1 1 1,3" ∷
    codes "> 1 2 0 1 oval x 1.1 1 1,3" ∷
    codes "> 1 3 1 1 oval x 1.1 1 1,3" ∷
    codes "13 deliver 1 0 2 = taken" ∷
    codes "14 tick 0 = ticked" ∷
    codes "> 0 0 2 1 oreq x" ∷
    codes "15 deliver 0 0 2 = taken" ∷
    codes "> 0 1 2 1 oinv x 2.0 0 1.1 1 1,3" ∷
    codes "> 0 0 3 1 oack x 2.0 0 1.1 1 1,3 -" ∷
    codes "16 deliver 0 1 0 = settled 1.1" ∷
    codes "> 1 0 3 1 oval x 1.1 1 1,3" ∷
    codes "history" ∷
    codes "tx 0 current" ∷
    codes "tx 1 current" ∷
    codes "object x 1 1,3" ∷
    codes "copy x 1 valid 0 5" ∷
    codes "copy x 3 valid 0 5" ∷
    codes "end" ∷ []
    )
