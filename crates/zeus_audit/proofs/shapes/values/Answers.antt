use Rattle.std.proofs.Common.{◌≡◌, [], sym, ◌∙◌, arith}
use Rattle.std.proofs.lemmas.Result.{err_from_is_err_and}
use Rattle.zeus_audit.proofs.LineByLine.{values_more, values_fewer, values_fail, values_end}
use Rattle.zeus_audit.proofs.shapes.values.Goals as goal

pub loop-words-smaller : goal.loop-words-smaller
loop-words-smaller c = values_fewer c.args.version c.loop-words.words c.value.new.self c.in_ok-value.field-0 c.in_ok-value.ensures

pub loop-words-preserved : goal.loop-words-preserved
loop-words-preserved c = sym (values_more c.args.version c.loop-words.words c.value.new.self c.in_ok-value.field-0 c.in_ok-value.ensures) ∙ c.loop-words.invariant

pub returns-in_err-value : goal.returns-in_err-value
returns-in_err-value c =
    let p = err_from_is_err_and c.from_residual.result c.from_residual.ensures.1 in
    let some : c.loop-words.words ≡ [] → ⊥ = λ e. grind arith in
    rw (p.1, p.2) (sym (sym c.loop-words.invariant ∙ values_fail c.args.version c.loop-words.words c.in_err-value.field-0.0 c.in_err-value.ensures some))

pub returns : goal.returns
returns c =
    let last : c.loop-words.words ≡ [] = grind arith in
    sym (sym c.loop-words.invariant ∙ values_end c.args.version c.loop-words.words last)
