-- A request is refused while a commit holds the object, and a late validation changes no newer copy.
use Rattle.std.specs.Prelude.{ℕ, List, [], ◌∷◌, codes, None}
use Rattle.zeus_base.specs.declared.step.Step.TheVariants.{Begin, Try, Deliver}
use Rattle.zeus_base.specs.declared.value.Value.TheVariants.{Num}
use Rattle.zeus_txn.specs.declared.ops.Op.TheVariants.{Add}
use Rattle.zeus_model.specs.declared.script.Script.{Script}
use Rattle.worked_runs.specs.Lines.{lines}

abbrev pub request_during_commit_script : Script
request_during_commit_script =
    record {
      config =
          record {
            version = 1;
            nodes = 2;
            slots = 1;
            directory = 0 ∷ [];
            degree = None;
            objects =
                record { value = Num 5; owner = 0; replicas = 0 ∷ 1 ∷ [] } ∷ [];
          };
      names = codes "x" ∷ [];
      txs =
          record { node = 0; slot = 0; after = None; tx = Add 0 3 ∷ [] } ∷
          record { node = 1; slot = 0; after = None; tx = Add 0 10 ∷ [] } ∷ [];
      steps =
          Begin 0 ∷ Try 0 0 ∷ Begin 1 ∷ Try 1 0 ∷ Deliver 1 0 0 ∷ Deliver 0 1 0 ∷ Deliver 1 0 1 ∷ Deliver 1 0 0 ∷
          Deliver 0 1 3 ∷ Try 1 0 ∷ Deliver 0 1 2 ∷ [];
    }

-- the script as it is written
abbrev pub request_during_commit_text : List ℕ
request_during_commit_text =
    lines
    (
    codes "zeus 1" ∷
    codes "nodes 2" ∷
    codes "slots 1" ∷
    codes "directory 0" ∷
    codes "object x 5 0 1" ∷
    codes "tx 0 0 add x 3" ∷
    codes "tx 1 0 add x 10" ∷
    codes "run" ∷
    codes "begin 0" ∷
    codes "try 0 0" ∷
    codes "begin 1" ∷
    codes "try 1 0" ∷
    codes "deliver 1 0 0" ∷
    codes "deliver 0 1 0" ∷
    codes "deliver 1 0 1" ∷
    codes "deliver 1 0 0" ∷
    codes "deliver 0 1 3" ∷
    codes "try 1 0" ∷
    codes "deliver 0 1 2" ∷
    codes "end" ∷ []
    )

-- what a run of it prints
abbrev pub request_during_commit_report : List ℕ
request_during_commit_report =
    lines
    (
    codes "report 1" ∷
    codes "0 begin 0 = begun" ∷
    codes "1 try 0 0 = committed 0" ∷
    codes "> 0 1 0 1 rinv 0.0 0 0 1 x 1 8" ∷
    codes "2 begin 1 = begun" ∷
    codes "3 try 1 0 = not owner x" ∷
    codes "> 1 0 0 1 oreq x" ∷
    codes "4 deliver 1 0 0 = refused held 0" ∷
    codes "> 0 1 1 1 onack x 0.0 held 0" ∷
    codes "5 deliver 0 1 0 = taken" ∷
    codes "> 1 0 1 1 rack 0.0 0" ∷
    codes "6 deliver 1 0 1 = taken" ∷
    codes "* 0 ok 8" ∷
    codes "! 0" ∷
    codes "> 0 1 2 1 rval 0.0 1" ∷
    codes "7 deliver 1 0 0 = taken" ∷
    codes "> 0 1 3 1 oack x 1.0 1 0.0 0 0,1 1 8" ∷
    codes "8 deliver 0 1 3 = taken" ∷
    codes "> 1 0 2 1 oval x 1.0 1 0,1" ∷
    codes "9 try 1 0 = committed 0" ∷
    codes "> 1 0 3 1 rinv 1.0 0 0 0 x 2 18" ∷
    codes "10 deliver 0 1 2 = taken" ∷
    codes "history 0" ∷
    codes "tx 0 acked" ∷
    codes "tx 1 pending" ∷
    codes "object x 1 0,1" ∷
    codes "copy x 0 valid 1 8" ∷
    codes "copy x 1 write 2 18" ∷
    codes "end" ∷ []
    )
