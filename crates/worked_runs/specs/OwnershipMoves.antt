-- A node without a copy becomes the owner, and the old owner reads on.
use Rattle.std.specs.Prelude.{ℕ, List, [], ◌∷◌, codes, None}
use Rattle.zeus_base.specs.declared.step.Step.TheVariants.{Begin, Try, Deliver}
use Rattle.zeus_base.specs.declared.value.Value.TheVariants.{Num}
use Rattle.zeus_txn.specs.declared.ops.Op.TheVariants.{Get, Add}
use Rattle.zeus_model.specs.declared.script.Script.{Script}
use Rattle.worked_runs.specs.Lines.{lines}

abbrev pub ownership_moves_script : Script
ownership_moves_script =
    record {
      config =
          record {
            version = 1;
            nodes = 3;
            slots = 1;
            directory = 0 ∷ [];
            degree = None;
            objects =
                record { value = Num 5; owner = 0; replicas = 0 ∷ 1 ∷ [] } ∷ [];
          };
      names = codes "x" ∷ [];
      txs =
          record { node = 2; slot = 0; after = None; tx = Add 0 1 ∷ [] } ∷
          record { node = 0; slot = 0; after = None; tx = Get 0 ∷ [] } ∷ [];
      steps =
          Begin 0 ∷ Try 2 0 ∷ Deliver 2 0 0 ∷ Deliver 0 2 0 ∷ Begin 1 ∷ Try 0 0 ∷ Try 2 0 ∷ [];
    }

-- the script as it is written
abbrev pub ownership_moves_text : List ℕ
ownership_moves_text =
    lines
    (
    codes "zeus 1" ∷
    codes "nodes 3" ∷
    codes "slots 1" ∷
    codes "directory 0" ∷
    codes "object x 5 0 1" ∷
    codes "tx 2 0 add x 1" ∷
    codes "tx 0 0 get x" ∷
    codes "run" ∷
    codes "begin 0" ∷
    codes "try 2 0" ∷
    codes "deliver 2 0 0" ∷
    codes "deliver 0 2 0" ∷
    codes "begin 1" ∷
    codes "try 0 0" ∷
    codes "try 2 0" ∷
    codes "end" ∷ []
    )

-- what a run of it prints
abbrev pub ownership_moves_report : List ℕ
ownership_moves_report =
    lines
    (
    codes "report 1" ∷
    codes "0 begin 0 = begun" ∷
    codes "1 try 2 0 = not owner x" ∷
    codes "> 2 0 0 1 oreq x" ∷
    codes "2 deliver 2 0 0 = taken" ∷
    codes "> 0 2 0 1 oack x 1.0 2 0.0 0 0,1 0 5" ∷
    codes "3 deliver 0 2 0 = taken" ∷
    codes "> 2 0 1 1 oval x 1.0 2 0,1,2" ∷
    codes "> 2 1 0 1 oval x 1.0 2 0,1,2" ∷
    codes "4 begin 1 = begun" ∷
    codes "5 try 0 0 = read" ∷
    codes "* 1 ok 5" ∷
    codes "! 1" ∷
    codes "6 try 2 0 = committed 0" ∷
    codes "> 2 0 2 1 rinv 2.0 0 0 0,1 x 1 6" ∷
    codes "> 2 1 1 1 rinv 2.0 0 0 0,1 x 1 6" ∷
    codes "history 1" ∷
    codes "tx 0 pending" ∷
    codes "tx 1 acked" ∷
    codes "object x 2 0,1,2" ∷
    codes "copy x 0 valid 0 5" ∷
    codes "copy x 1 valid 0 5" ∷
    codes "copy x 2 write 1 6" ∷
    codes "end" ∷ []
    )
