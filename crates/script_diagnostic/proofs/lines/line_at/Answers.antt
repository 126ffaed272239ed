use Rattle.std.proofs.Common.{◌≡◌, ◌-◌, ◌+◌, suc, arith, sym, ◌∙◌}
use Rattle.script_diagnostic.proofs.LineLaws.{nth-first, nth-others}
use Rattle.script_diagnostic.proofs.lines.line_at.Goals as goal

pub loop-turn-preserved : goal.loop-turn-preserved
loop-turn-preserved c =
    let next : c.args.number - c.loop-turn._turn ≡ suc (c.args.number - (c.loop-turn._turn + 1)) = omega arith in
    rw (c.next_part-line.ensures.part, c.next_part-line.ensures.others) (nth-others c.loop-turn.line.now c.loop-turn.lines _ _ next ∙ c.loop-turn.invariant)

pub returns : goal.returns
returns c =
    let none : c.args.number - c.loop-turn._turn ≡ 0 = omega arith in
    sym (nth-first c.loop-turn.line.now c.loop-turn.lines _ none) ∙ c.loop-turn.invariant
