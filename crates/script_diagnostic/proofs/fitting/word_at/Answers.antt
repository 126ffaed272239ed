use Rattle.std.proofs.Common.{◌≡◌, ◌-◌, ◌+◌, suc, arith, ◌∙◌}
use Rattle.script_diagnostic.proofs.WordLaws.{word-later, word-first}
use Rattle.script_diagnostic.proofs.fitting.word_at.Goals as goal

pub loop-turn-preserved : goal.loop-turn-preserved
loop-turn-preserved c =
    let next : c.args.place - c.loop-turn._turn ≡ suc (c.args.place - (c.loop-turn._turn + 1)) = omega arith in
    word-later c.next_part.result c.loop-turn.words c.next_part.new.self _ _ next c.next_part.ensures ∙ c.loop-turn.invariant

pub returns : goal.returns
returns c =
    let none : c.args.place - c.loop-turn._turn ≡ 0 = omega arith in
    word-first c.next_part-2.result c.loop-turn.words c.next_part-2.new.self _ none c.next_part-2.ensures ∙ c.loop-turn.invariant
