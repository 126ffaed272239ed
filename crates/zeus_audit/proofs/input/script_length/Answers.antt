use Rattle.std.proofs.Common.{◌≡◌, false, true, [], length, arith, ap}
use Rattle.std.specs.Prelude.{codes}
use Rattle.std.specs.Str.{bytes_eq}
use Rattle.script_lang.proofs.laws.TextLaws.{joined-cut}
use Rattle.zeus_audit.proofs.LineByLine.{script_last, script_ends, script_more, script_none, length-joined, joined_least}
use Rattle.zeus_audit.proofs.input.script_length.Goals as goal

pub loop-line-init : goal.loop-line-init
loop-line-init c =
    let all = ap length (joined-cut 10 c.args.bytes.now) in
    rw c.new-lines.ensures (omega arith, omega arith)

pub overflow_add-count : goal.overflow_add-count
overflow_add-count c =
    let sum = rw c.in-Some.ensures at c.loop-line.invariant.1 in
    let least = joined_least c.in-Some.line.now c.next_part.new.self in
    omega arith

pub returns-then-is_done : goal.returns-then-is_done
returns-then-is_done c =
    let last : c.next_part.new.self ≡ [] = grind arith in
    let whole = rw c.in-Some.ensures at c.loop-line.invariant.0 in
    let sum = rw c.in-Some.ensures at c.loop-line.invariant.1 in
    let part = script_last c.in-Some.line.now c.next_part.new.self last in
    let least = joined_least c.in-Some.line.now c.next_part.new.self in
    record { length = omega arith; within = omega arith }

pub returns-then-eq : goal.returns-then-eq
returns-then-eq c =
    let some : c.next_part.new.self ≡ [] → ⊥ = λ e. grind arith in
    let end : bytes_eq c.in-Some.line.now (codes "end") ≡ true = grind arith in
    let whole = rw c.in-Some.ensures at c.loop-line.invariant.0 in
    let sum = rw c.in-Some.ensures at c.loop-line.invariant.1 in
    let part = script_ends c.in-Some.line.now c.next_part.new.self some end in
    let joined = length-joined c.in-Some.line.now c.next_part.new.self some in
    record { length = omega arith; within = omega arith }

pub loop-line-preserved : goal.loop-line-preserved
loop-line-preserved c =
    let some : c.next_part.new.self ≡ [] → ⊥ = λ e. grind arith in
    let more : bytes_eq c.in-Some.line.now (codes "end") ≡ false = grind arith in
    let whole = rw c.in-Some.ensures at c.loop-line.invariant.0 in
    let sum = rw c.in-Some.ensures at c.loop-line.invariant.1 in
    let part = script_more c.in-Some.line.now c.next_part.new.self some more in
    let joined = length-joined c.in-Some.line.now c.next_part.new.self some in
    (omega arith, omega arith)

pub returns : goal.returns
returns c =
    let none = script_none c.loop-line.lines c.in_default.ensures.0 in
    record { length = omega (arith, c.loop-line.invariant.0); within = omega (arith, c.loop-line.invariant.1) }
