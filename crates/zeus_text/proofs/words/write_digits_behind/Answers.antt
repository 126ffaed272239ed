use Rattle.std.proofs.Common.{◌≡◌, ◌-◌, ◌∷◌, length, decimal, arith, rules}
use Rattle.std.proofs.lemmas.List.{take_all}
use Rattle.std.proofs.lemmas.Fmt.{length-decimal-le}
use Rattle.zeus_text.proofs.Behind.{behind}
use Rattle.zeus_text.proofs.words.write_digits_behind.Goals as goal

pub write_digits-digits-requires : goal.write_digits-digits-requires
write_digits-digits-requires c = search (rules, length-decimal-le 20)

pub overflow_sub-text : goal.overflow_sub-text
overflow_sub-text c =
    let short = length-decimal-le 20 c.args.n (omega arith) (omega arith) (omega (arith, c.ranges.n.fits)) in
    let start = c.write_digits-digits.ensures.start in
    omega arith

pub overflow_sub-digits : goal.overflow_sub-digits
overflow_sub-digits c =
    let short = length-decimal-le 20 c.args.n (omega arith) (omega arith) (omega (arith, c.ranges.n.fits)) in
    let start = c.write_digits-digits.ensures.start in
    omega arith

pub returns : goal.returns
returns c =
    let short = length-decimal-le 20 c.args.n (omega arith) (omega arith) (omega (arith, c.ranges.n.fits)) in
    let w = c.write_digits-digits in
    let start = w.ensures.start in
    let size : length w.new.buf ≡ 21 = w.auto.buf in
    rw (behind w.new.buf (decimal c.args.n) w.result c.args.byte (omega arith) (omega arith) w.ensures.written, take_all (21 - (w.result - 1)) (c.args.byte ∷ decimal c.args.n) (omega arith)) at c.append.ensures
