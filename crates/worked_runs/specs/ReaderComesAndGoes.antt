-- With a degree a reader brings a copy, and leaves where too many are there.
use Rattle.std.specs.Prelude.{ℕ, List, [], ◌∷◌, codes, Some, None}
use Rattle.zeus_base.specs.declared.step.Step.TheVariants.{Begin, Try, Deliver, Tick}
use Rattle.zeus_base.specs.declared.value.Value.TheVariants.{Num}
use Rattle.zeus_txn.specs.declared.ops.Op.TheVariants.{Get}
use Rattle.zeus_model.specs.declared.script.Script.{Script}
use Rattle.worked_runs.specs.Lines.{lines}

abbrev pub reader_comes_and_goes_script : Script
reader_comes_and_goes_script =
    record {
      config =
          record {
            version = 1;
            nodes = 3;
            slots = 1;
            directory = 0 ∷ [];
            degree = Some 2;
            objects =
                record { value = Num 5; owner = 0; replicas = 0 ∷ 1 ∷ [] } ∷ [];
          };
      names = codes "x" ∷ [];
      txs =
          record { node = 2; slot = 0; after = None; tx = Get 0 ∷ [] } ∷ [];
      steps =
          Begin 0 ∷ Try 2 0 ∷ Deliver 2 0 0 ∷ Deliver 0 2 0 ∷ Try 2 0 ∷ Deliver 2 0 1 ∷ Tick 2 ∷ Deliver 2 0 2 ∷
          Deliver 0 2 1 ∷ Deliver 2 1 1 ∷ Deliver 2 1 0 ∷ Deliver 2 0 3 ∷ Deliver 2 0 2 ∷ [];
    }

-- the script as it is written
abbrev pub reader_comes_and_goes_text : List ℕ
reader_comes_and_goes_text =
    lines
    (
    codes "zeus 1" ∷
    codes "nodes 3" ∷
    codes "slots 1" ∷
    codes "directory 0" ∷
    codes "degree 2" ∷
    codes "object x 5 0 1" ∷
    codes "tx 2 0 get x" ∷
    codes "run" ∷
    codes "begin 0" ∷
    codes "try 2 0" ∷
    codes "deliver 2 0 0" ∷
    codes "deliver 0 2 0" ∷
    codes "try 2 0" ∷
    codes "deliver 2 0 1" ∷
    codes "tick 2" ∷
    codes "deliver 2 0 2" ∷
    codes "deliver 0 2 1" ∷
    codes "deliver 2 1 1" ∷
    codes "deliver 2 1 0" ∷
    codes "deliver 2 0 3" ∷
    codes "deliver 2 0 2" ∷
    codes "end" ∷ []
    )

-- what a run of it prints
abbrev pub reader_comes_and_goes_report : List ℕ
reader_comes_and_goes_report =
    lines
    (
    codes "report 1" ∷
    codes "0 begin 0 = begun" ∷
    codes "1 try 2 0 = no copy x" ∷
    codes "> 2 0 0 1 oreq x read" ∷
    codes "2 deliver 2 0 0 = taken" ∷
    codes "> 0 2 0 1 oack x 1.0 2 0.0 0 0,1 0 5 read" ∷
    codes "3 deliver 0 2 0 = taken" ∷
    codes "> 2 0 1 1 oval x 1.0 0 0,1,2" ∷
    codes "> 2 1 0 1 oval x 1.0 0 0,1,2" ∷
    codes "4 try 2 0 = read" ∷
    codes "* 0 ok 5" ∷
    codes "! 0" ∷
    codes "5 deliver 2 0 1 = taken" ∷
    codes "6 tick 2 = ticked" ∷
    codes "> 2 0 2 1 oreq x leave" ∷
    codes "7 deliver 2 0 2 = taken" ∷
    codes "> 0 2 1 1 oack x 2.0 2 1.0 0 0,1,2 0 5 leave" ∷
    codes "8 deliver 0 2 1 = taken" ∷
    codes "> 2 0 3 1 oval x 2.0 0 0,1" ∷
    codes "> 2 1 1 1 oval x 2.0 0 0,1" ∷
    codes "9 deliver 2 1 1 = taken" ∷
    codes "10 deliver 2 1 0 = again" ∷
    codes "11 deliver 2 0 3 = taken" ∷
    codes "12 deliver 2 0 2 = refused not reader" ∷
    codes "> 0 2 2 1 onack x 2.0 not reader" ∷
    codes "history 0" ∷
    codes "tx 0 acked" ∷
    codes "object x 0 0,1" ∷
    codes "copy x 0 valid 0 5" ∷
    codes "copy x 1 valid 0 5" ∷
    codes "end" ∷ []
    )
