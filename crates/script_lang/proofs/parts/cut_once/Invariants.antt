use Rattle.std.proofs.Common.{take}
use Rattle.script_lang.proofs.Cutting.{Lacks}
use Rattle.script_lang.proofs.parts.cut_once.Given as goal

abbrev pub invariant-loop-place : goal.invariant-loop-place
invariant-loop-place l = Lacks l.separator (take l.place l.bytes)
