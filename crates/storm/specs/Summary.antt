-- The text of a storm's summary.
use Rattle.std.specs.Prelude.{ℕ, List, ◌++◌, codes}
use Rattle.zeus_model.specs.ReportText.{line_end}
use Rattle.zeus_model.specs.ReportWords.{number}
use Rattle.storm.specs.Storm.{storm_end}
use Rattle.storm.specs.declared.end.StormEnd.{StormEnd}
use Rattle.storm.specs.declared.numbers.StormNumbers.{StormNumbers}

-- `storm NODES SLOTS OBJECTS TXS STEPS LOSS STOPS START`
abbrev pub numbers_line : StormNumbers → List ℕ
numbers_line n =
    codes "storm" ++ number n.nodes ++ number n.slots ++ number n.objects ++ number n.txs ++ number n.steps
    ++ number n.loss ++ number n.stops ++ number n.start ++ line_end

-- `steps N`
abbrev pub steps_line : StormEnd → List ℕ
steps_line e = codes "steps" ++ number e.taken ++ line_end

-- `acked A failed F refused R stopped D unfinished U`
abbrev pub counts_line : StormEnd → List ℕ
counts_line e =
    codes "acked" ++ number e.acked ++ codes " failed" ++ number e.failed ++ codes " refused" ++ number e.refused
    ++ codes " stopped" ++ number e.stopped ++ codes " unfinished" ++ number e.unfinished ++ line_end

-- `epoch E lost L`, `sum V` and `end`
abbrev pub objects_text : StormEnd → List ℕ
objects_text e =
    codes "epoch" ++ number e.epoch ++ codes " lost" ++ number e.lost ++ line_end ++ codes "sum" ++ number e.sum ++ line_end
    ++ codes "end\n"

-- the numbers, the steps, the counts and the objects, line by line
abbrev pub summary : StormEnd → List ℕ
summary e = numbers_line e.numbers ++ steps_line e ++ counts_line e ++ objects_text e
