-- A source keeps what it is about to write from a node with a greater number.
use Rattle.std.specs.Prelude.{ℕ, List, [], ◌∷◌, codes, None}
use Rattle.zeus_base.specs.declared.step.Step.TheVariants.{Begin, Try, Deliver}
use Rattle.zeus_base.specs.declared.value.Value.TheVariants.{Num}
use Rattle.zeus_txn.specs.declared.ops.Op.TheVariants.{Add}
use Rattle.zeus_model.specs.declared.script.Script.{Script}
use Rattle.worked_runs.specs.Lines.{lines}

abbrev pub kept_from_a_greater_node_script : Script
kept_from_a_greater_node_script =
    record {
      config =
          record {
            version = 1;
            nodes = 2;
            slots = 1;
            directory = 0 ∷ [];
            degree = None;
            objects =
                record { value = Num 5; owner = 0; replicas = 0 ∷ 1 ∷ [] } ∷ [];
          };
      names = codes "x" ∷ [];
      txs =
          record { node = 0; slot = 0; after = None; tx = Add 0 3 ∷ [] } ∷
          record { node = 1; slot = 0; after = None; tx = Add 0 10 ∷ [] } ∷ [];
      steps =
          Begin 0 ∷ Begin 1 ∷ Try 1 0 ∷ Deliver 1 0 0 ∷ [];
    }

-- the script as it is written
abbrev pub kept_from_a_greater_node_text : List ℕ
kept_from_a_greater_node_text =
    lines
    (
    codes "zeus 1" ∷
    codes "nodes 2" ∷
    codes "slots 1" ∷
    codes "directory 0" ∷
    codes "object x 5 0 1" ∷
    codes "tx 0 0 add x 3" ∷
    codes "tx 1 0 add x 10" ∷
    codes "run" ∷
    codes "begin 0" ∷
    codes "begin 1" ∷
    codes "try 1 0" ∷
    codes "deliver 1 0 0" ∷
    codes "end" ∷ []
    )

-- what a run of it prints
abbrev pub kept_from_a_greater_node_report : List ℕ
kept_from_a_greater_node_report =
    lines
    (
    codes "report 1" ∷
    codes "0 begin 0 = begun" ∷
    codes "1 begin 1 = begun" ∷
    codes "2 try 1 0 = not owner x" ∷
    codes "> 1 0 0 1 oreq x" ∷
    codes "3 deliver 1 0 0 = refused kept 0" ∷
    codes "> 0 1 0 1 onack x 0.0 kept 0" ∷
    codes "history" ∷
    codes "tx 0 current" ∷
    codes "tx 1 current" ∷
    codes "object x 0 0,1" ∷
    codes "copy x 0 valid 0 5" ∷
    codes "copy x 1 valid 0 5" ∷
    codes "end" ∷ []
    )
