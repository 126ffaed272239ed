-- A write at a node that is alone passes at once.
use Rattle.std.specs.Prelude.{ℕ, List, [], ◌∷◌, codes, None}
use Rattle.zeus_base.specs.declared.step.Step.TheVariants.{Begin, Try}
use Rattle.zeus_base.specs.declared.value.Value.TheVariants.{Num}
use Rattle.zeus_txn.specs.declared.ops.Op.TheVariants.{Add}
use Rattle.zeus_model.specs.declared.script.Script.{Script}
use Rattle.worked_runs.specs.Lines.{lines}

abbrev pub one_node_alone_script : Script
one_node_alone_script =
    record {
      config =
          record {
            version = 1;
            nodes = 1;
            slots = 1;
            directory = 0 ∷ [];
            degree = None;
            objects =
                record { value = Num 5; owner = 0; replicas = 0 ∷ [] } ∷ [];
          };
      names = codes "x" ∷ [];
      txs =
          record { node = 0; slot = 0; after = None; tx = Add 0 3 ∷ [] } ∷ [];
      steps =
          Begin 0 ∷ Try 0 0 ∷ [];
    }

-- the script as it is written
abbrev pub one_node_alone_text : List ℕ
one_node_alone_text =
    lines
    (
    codes "zeus 1" ∷
    codes "nodes 1" ∷
    codes "slots 1" ∷
    codes "directory 0" ∷
    codes "object x 5 0" ∷
    codes "tx 0 0 add x 3" ∷
    codes "run" ∷
    codes "begin 0" ∷
    codes "try 0 0" ∷
    codes "end" ∷ []
    )

-- what a run of it prints
abbrev pub one_node_alone_report : List ℕ
one_node_alone_report =
    lines
    (
    codes "report 1" ∷
    codes "0 begin 0 = begun" ∷
    codes "1 try 0 0 = committed 0" ∷
    codes "* 0 ok 8" ∷
    codes "! 0" ∷
    codes "history 0" ∷
    codes "tx 0 acked" ∷
    codes "object x 0 0" ∷
    codes "copy x 0 valid 1 8" ∷
    codes "end" ∷ []
    )
