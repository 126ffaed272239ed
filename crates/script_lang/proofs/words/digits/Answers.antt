use Rattle.std.proofs.Common.{◌≡◌, ◌+◌, ◌-◌, ◌*◌, ◌^◌, ◌≤◌, get_or, inl, inr, arith, sym, ◌∙◌, add-one}
use Rattle.script_lang.proofs.laws.Digits.{digits_end, digits_none, digits_next}
use Rattle.script_lang.proofs.words.digits.Goals as goal
use Rattle.script_lang.proofs.words.digits.Goals.{then-byte-lt48-via-then-byte-lt48, then-byte-lt48-via-else-byte-lt48+then-byte-gt57}

pub returns-then-byte-lt48 : goal.returns-then-byte-lt48
returns-then-byte-lt48 c =
    digits_none c.loop-byte.number c.loop-byte.byte-index c.args.word.now _ c.loop-byte-test.true c.loop-byte.invariant (elim c.then-byte-lt48.branch [
      | then-byte-lt48-via-then-byte-lt48 w ↦ inl (omega arith)
      | then-byte-lt48-via-else-byte-lt48+then-byte-gt57 w ↦ inr (inl (omega arith))
    ])

pub returns-in_err-checked_mul : goal.returns-in_err-checked_mul
returns-in_err-checked_mul c =
    let large : 2 ^ 64 ≤ 10 * c.loop-byte.number + (get_or c.args.word.now c.loop-byte.byte-index 0 - 48) = omega (arith, c.in_err-checked_mul.ensures) in
    c.from_residual.ensures ∙ digits_none c.loop-byte.number c.loop-byte.byte-index c.args.word.now _ c.loop-byte-test.true c.loop-byte.invariant (inr (inr large))

pub returns-in_err-number : goal.returns-in_err-number
returns-in_err-number c =
    let large : 2 ^ 64 ≤ 10 * c.loop-byte.number + (get_or c.args.word.now c.loop-byte.byte-index 0 - 48) = omega (arith, c.in_err-number.ensures, c.in_ok-checked_mul.ensures) in
    c.from_residual-in_err-number.ensures ∙ digits_none c.loop-byte.number c.loop-byte.byte-index c.args.word.now _ c.loop-byte-test.true c.loop-byte.invariant (inr (inr large))

pub loop-byte-preserved : goal.loop-byte-preserved
loop-byte-preserved c =
    let sum : c.in_ok-number.number ≡ 10 * c.loop-byte.number + (get_or c.args.word.now c.loop-byte.byte-index 0 - 48) = omega (arith, c.in_ok-number.ensures, c.in_ok-checked_mul.ensures) in
    rw (sum, add-one) (digits_next c.loop-byte.number c.loop-byte.byte-index c.args.word.now _ c.loop-byte-test.true c.loop-byte.invariant (omega arith) (omega arith) (omega (arith, sum, c.in_ok-number.ensures)))

pub returns : goal.returns
returns c = sym (digits_end c.loop-byte.number c.loop-byte.byte-index c.args.word.now (omega arith)) ∙ c.loop-byte.invariant
