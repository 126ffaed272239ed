use Rattle.std.proofs.Common.{ℕ, ◌≡◌, ◌<◌, ◌^◌, arith, ap, sym, ◌∙◌}
use Rattle.std.specs.Prelude.{decimal}
use Rattle.command_words.proofs.Parsing.{parsed, refused, told_apart}
use Rattle.command_words.proofs.number_in.Goals as goal
use Rattle.command_words.proofs.number_in.Goals.{else-is_spelled-via-then-is_spelled+then-lowest-number+else-number-highest, else-is_spelled-via-then-is_spelled+else-lowest-number, else-is_spelled-via-else-is_spelled}

pub returns-in_default-clause-none : goal.returns-in_default-clause-none
returns-in_default-clause-none c = λ _ n.
    refused c.args.lowest c.args.highest n c.args.word.now c.parse.result c.in_default.field-0 c.in_default.is (omega (arith, c.ranges.highest.fits)) c.parse.ensures.value.0

pub returns-else-is_spelled-clause-none : goal.returns-else-is_spelled-clause-none
returns-else-is_spelled-clause-none c = λ _ n is.
    let high = is.high in
    let low = is.low in
    let short : n < 2 ^ 64 = omega (arith, c.ranges.highest.fits) in
    let same : c.in-Ok.number ≡ n = parsed n c.in-Ok.number c.args.word.now c.parse.result c.in-Ok.is short is.spelled c.parse.ensures.value.0 in
    elim c.else-is_spelled.branch [
      | else-is_spelled-via-then-is_spelled+then-lowest-number+else-number-highest w ↦ omega arith
      | else-is_spelled-via-then-is_spelled+else-lowest-number w ↦ omega arith
      | else-is_spelled-via-else-is_spelled w ↦
          let texts : c.as_bytes.result.now ≡ c.as_bytes-2.result.now =
          c.as_bytes.ensures.value ∙ c.format.ensures.text ∙ ap decimal same ∙ sym is.spelled ∙ sym c.as_bytes-2.ensures.value in
          told_apart c.as_bytes.result.now c.as_bytes-2.result.now c.eq-is_spelled.result c.eq-is_spelled.ensures w.if-is_spelled.false texts
    ]
