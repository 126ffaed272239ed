-- A slot with sixteen pending entries takes no more.
use Rattle.std.specs.Prelude.{ℕ, List, [], ◌∷◌, codes, None}
use Rattle.zeus_base.specs.declared.step.Step.TheVariants.{Begin, Try}
use Rattle.zeus_base.specs.declared.value.Value.TheVariants.{Num}
use Rattle.zeus_txn.specs.declared.ops.Op.TheVariants.{Add}
use Rattle.zeus_model.specs.declared.script.Script.{Script}
use Rattle.worked_runs.specs.Lines.{lines}

abbrev pub full_pipeline_script : Script
full_pipeline_script =
    record {
      config =
          record {
            version = 1;
            nodes = 2;
            slots = 1;
            directory = 0 ∷ [];
            degree = None;
            objects =
                record { value = Num 5; owner = 0; replicas = 0 ∷ 1 ∷ [] } ∷ [];
          };
      names = codes "x" ∷ [];
      txs =
          record { node = 0; slot = 0; after = None; tx = Add 0 1 ∷ [] } ∷
          record { node = 0; slot = 0; after = None; tx = Add 0 1 ∷ [] } ∷
          record { node = 0; slot = 0; after = None; tx = Add 0 1 ∷ [] } ∷
          record { node = 0; slot = 0; after = None; tx = Add 0 1 ∷ [] } ∷
          record { node = 0; slot = 0; after = None; tx = Add 0 1 ∷ [] } ∷
          record { node = 0; slot = 0; after = None; tx = Add 0 1 ∷ [] } ∷
          record { node = 0; slot = 0; after = None; tx = Add 0 1 ∷ [] } ∷
          record { node = 0; slot = 0; after = None; tx = Add 0 1 ∷ [] } ∷
          record { node = 0; slot = 0; after = None; tx = Add 0 1 ∷ [] } ∷
          record { node = 0; slot = 0; after = None; tx = Add 0 1 ∷ [] } ∷
          record { node = 0; slot = 0; after = None; tx = Add 0 1 ∷ [] } ∷
          record { node = 0; slot = 0; after = None; tx = Add 0 1 ∷ [] } ∷
          record { node = 0; slot = 0; after = None; tx = Add 0 1 ∷ [] } ∷
          record { node = 0; slot = 0; after = None; tx = Add 0 1 ∷ [] } ∷
          record { node = 0; slot = 0; after = None; tx = Add 0 1 ∷ [] } ∷
          record { node = 0; slot = 0; after = None; tx = Add 0 1 ∷ [] } ∷
          record { node = 0; slot = 0; after = None; tx = Add 0 1 ∷ [] } ∷ [];
      steps =
          Begin 0 ∷ Try 0 0 ∷ Begin 1 ∷ Try 0 0 ∷ Begin 2 ∷ Try 0 0 ∷ Begin 3 ∷ Try 0 0 ∷ Begin 4 ∷ Try 0 0 ∷ Begin 5 ∷
          Try 0 0 ∷ Begin 6 ∷ Try 0 0 ∷ Begin 7 ∷ Try 0 0 ∷ Begin 8 ∷ Try 0 0 ∷ Begin 9 ∷ Try 0 0 ∷ Begin 10 ∷
          Try 0 0 ∷ Begin 11 ∷ Try 0 0 ∷ Begin 12 ∷ Try 0 0 ∷ Begin 13 ∷ Try 0 0 ∷ Begin 14 ∷ Try 0 0 ∷ Begin 15 ∷
          Try 0 0 ∷ Begin 16 ∷ Try 0 0 ∷ [];
    }

-- the script as it is written
abbrev pub full_pipeline_text : List ℕ
full_pipeline_text =
    lines
    (
    codes "zeus 1" ∷
    codes "nodes 2" ∷
    codes "slots 1" ∷
    codes "directory 0" ∷
    codes "object x 5 0 1" ∷
    codes "tx 0 0 add x 1" ∷
    codes "tx 0 0 add x 1" ∷
    codes "tx 0 0 add x 1" ∷
    codes "tx 0 0 add x 1" ∷
    codes "tx 0 0 add x 1" ∷
    codes "tx 0 0 add x 1" ∷
    codes "tx 0 0 add x 1" ∷
    codes "tx 0 0 add x 1" ∷
    codes "tx 0 0 add x 1" ∷
    codes "tx 0 0 add x 1" ∷
    codes "tx 0 0 add x 1" ∷
    codes "tx 0 0 add x 1" ∷
    codes "tx 0 0 add x 1" ∷
    codes "tx 0 0 add x 1" ∷
    codes "tx 0 0 add x 1" ∷
    codes "tx 0 0 add x 1" ∷
    codes "tx 0 0 add x 1" ∷
    codes "run" ∷
    codes "begin 0" ∷
    codes "try 0 0" ∷
    codes "begin 1" ∷
    codes "try 0 0" ∷
    codes "begin 2" ∷
    codes "try 0 0" ∷
    codes "begin 3" ∷
    codes "try 0 0" ∷
    codes "begin 4" ∷
    codes "try 0 0" ∷
    codes "begin 5" ∷
    codes "try 0 0" ∷
    codes "begin 6" ∷
    codes "try 0 0" ∷
    codes "begin 7" ∷
    codes "try 0 0" ∷
    codes "begin 8" ∷
    codes "try 0 0" ∷
    codes "begin 9" ∷
    codes "try 0 0" ∷
    codes "begin 10" ∷
    codes "try 0 0" ∷
    codes "begin 11" ∷
    codes "try 0 0" ∷
    codes "begin 12" ∷
    codes "try 0 0" ∷
    codes "begin 13" ∷
    codes "try 0 0" ∷
    codes "begin 14" ∷
    codes "try 0 0" ∷
    codes "begin 15" ∷
    codes "try 0 0" ∷
    codes "begin 16" ∷
    codes "try 0 0" ∷
    codes "end" ∷ []
    )

-- what a run of it prints
abbrev pub full_pipeline_report : List ℕ
full_pipeline_report =
    lines
    (
    codes "report 1" ∷
    codes "0 begin 0 = begun" ∷
    codes "1 try 0 0 = committed 0" ∷
    codes "> 0 1 0 1 rinv 0.0 0 0 1 x 1 6" ∷
    codes "2 begin 1 = begun" ∷
    codes "3 try 0 0 = committed 1" ∷
    codes "> 0 1 1 1 rinv 0.0 1 0 1 x 2 7" ∷
    codes "4 begin 2 = begun" ∷
    codes "5 try 0 0 = committed 2" ∷
    codes "> 0 1 2 1 rinv 0.0 2 0 1 x 3 8" ∷
    codes "6 begin 3 = begun" ∷
    codes "7 try 0 0 = committed 3" ∷
    codes "> 0 1 3 1 rinv 0.0 3 0 1 x 4 9" ∷
    codes "8 begin 4 = begun" ∷
    codes "9 try 0 0 = committed 4" ∷
    codes "> 0 1 4 1 rinv 0.0 4 0 1 x 5 10" ∷
    codes "10 begin 5 = begun" ∷
    codes "11 try 0 0 = committed 5" ∷
    codes "> 0 1 5 1 rinv 0.0 5 0 1 x 6 11" ∷
    codes "12 begin 6 = begun" ∷
    codes "13 try 0 0 = committed 6" ∷
    codes "> 0 1 6 1 rinv 0.0 6 0 1 x 7 12" ∷
    codes "14 begin 7 = begun" ∷
    codes "15 try 0 0 = committed 7" ∷
    codes "> 0 1 7 1 rinv 0.0 7 0 1 x 8 13" ∷
    codes "16 begin 8 = begun" ∷
    codes "17 try 0 0 = committed 8" ∷
    codes "> 0 1 8 1 rinv 0.0 8 0 1 x 9 14" ∷
    codes "18 begin 9 = begun" ∷
    codes "19 try 0 0 = committed 9" ∷
    codes "> 0 1 9 1 rinv 0.0 9 0 1 x 10 15" ∷
    codes "20 begin 10 = begun" ∷
    codes "21 try 0 0 = committed 10" ∷
    codes "> 0 1 10 1 rinv 0.0 10 0 1 x 11 16" ∷
    codes "22 begin 11 = begun" ∷
    codes "23 try 0 0 = committed 11" ∷
    codes "> 0 1 11 1 rinv 0.0 11 0 1 x 12 17" ∷
    codes "24 begin 12 = begun" ∷
    codes "25 try 0 0 = committed 12" ∷
    codes "> 0 1 12 1 rinv 0.0 12 0 1 x 13 18" ∷
    codes "26 begin 13 = begun" ∷
    codes "27 try 0 0 = committed 13" ∷
    codes "> 0 1 13 1 rinv 0.0 13 0 1 x 14 19" ∷
    codes "28 begin 14 = begun" ∷
    codes "29 try 0 0 = committed 14" ∷
    codes "> 0 1 14 1 rinv 0.0 14 0 1 x 15 20" ∷
    codes "30 begin 15 = begun" ∷
    codes "31 try 0 0 = committed 15" ∷
    codes "> 0 1 15 1 rinv 0.0 15 0 1 x 16 21" ∷
    codes "32 begin 16 = begun" ∷
    codes "33 try 0 0 = pipe full" ∷
    codes "history" ∷
    codes "tx 0 pending" ∷
    codes "tx 1 pending" ∷
    codes "tx 2 pending" ∷
    codes "tx 3 pending" ∷
    codes "tx 4 pending" ∷
    codes "tx 5 pending" ∷
    codes "tx 6 pending" ∷
    codes "tx 7 pending" ∷
    codes "tx 8 pending" ∷
    codes "tx 9 pending" ∷
    codes "tx 10 pending" ∷
    codes "tx 11 pending" ∷
    codes "tx 12 pending" ∷
    codes "tx 13 pending" ∷
    codes "tx 14 pending" ∷
    codes "tx 15 pending" ∷
    codes "tx 16 current" ∷
    codes "object x 0 0,1" ∷
    codes "copy x 0 write 16 21" ∷
    codes "copy x 1 valid 0 5" ∷
    codes "end" ∷ []
    )
