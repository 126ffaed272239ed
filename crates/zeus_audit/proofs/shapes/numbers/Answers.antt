use Rattle.std.proofs.Common.{◌≡◌, [], sym, ◌∙◌, arith}
use Rattle.std.proofs.lemmas.Result.{err_from_is_err_and}
use Rattle.zeus_audit.proofs.LineByLine.{numbers_more, numbers_fewer, numbers_fail, numbers_end}
use Rattle.zeus_audit.proofs.shapes.numbers.Goals as goal

pub loop-words-smaller : goal.loop-words-smaller
loop-words-smaller c = numbers_fewer c.loop-words.words c.number.new.self c.in_ok-number.field-0 c.in_ok-number.ensures

pub loop-words-preserved : goal.loop-words-preserved
loop-words-preserved c = sym (numbers_more c.loop-words.words c.number.new.self c.in_ok-number.field-0 c.in_ok-number.ensures) ∙ c.loop-words.invariant

pub returns-in_err-number : goal.returns-in_err-number
returns-in_err-number c =
    let p = err_from_is_err_and c.from_residual.result c.from_residual.ensures.1 in
    let some : c.loop-words.words ≡ [] → ⊥ = λ e. grind arith in
    rw (p.1, p.2) (sym (sym c.loop-words.invariant ∙ numbers_fail c.loop-words.words c.in_err-number.field-0.0 c.in_err-number.ensures some))

pub returns : goal.returns
returns c =
    let last : c.loop-words.words ≡ [] = grind arith in
    sym (sym c.loop-words.invariant ∙ numbers_end c.loop-words.words last)
