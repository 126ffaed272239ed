use Rattle.std.proofs.Common.{◌≡◌, suc, true, false, [], length, Err, arith, add-one, refl, sym, ap, ◌∙◌}
use Rattle.script_lang.proofs.Cutting.{length-cut}
use Rattle.zeus_audit.specs.Auditing.{is_end}
use Rattle.zeus_audit.specs.Progress.{state_of}
use Rattle.zeus_audit.specs.Rules.{line_taken}
use Rattle.zeus_audit.proofs.Fits.{fits_kept}
use Rattle.zeus_audit.proofs.LineByLine.{told_end, told_form, told_fail, told_more, told_none}
use Rattle.zeus_audit.proofs.auditing.verdict_of.Goals as goal

pub loop-line-init : goal.loop-line-init
loop-line-init c = rw c.new-lines.ensures (omega (arith, length-cut 10 c.args.text.now), refl, c.requires.fits)

pub returns-then-is_end : goal.returns-then-is_end
returns-then-is_end c =
    let last : c.next_part.new.self ≡ [] = grind arith in
    let end : is_end c.loop-line.progress.stage c.in-Some.line.now ≡ true = sym c.is_end.ensures ∙ c.if-is_end.true in
    told_end c.args.script.now (state_of c.loop-line.progress) c.loop-line.number c.loop-line.lines _ c.in-Some.line.now c.next_part.new.self c.loop-line.invariant.1 c.in-Some.ensures last end

pub returns-then-is_done : goal.returns-then-is_done
returns-then-is_done c =
    let last : c.next_part.new.self ≡ [] = grind arith in
    let end : is_end c.loop-line.progress.stage c.in-Some.line.now ≡ false = sym c.is_end.ensures ∙ c.if-is_end.false in
    told_form c.args.script.now (state_of c.loop-line.progress) c.loop-line.number c.loop-line.lines _ c.in-Some.line.now c.next_part.new.self c.loop-line.invariant.1 c.in-Some.ensures last end

pub returns-in-Err : goal.returns-in-Err
returns-in-Err c =
    let some : c.next_part.new.self ≡ [] → ⊥ = λ e. grind arith in
    let broken : line_taken c.args.script.now (state_of c.loop-line.progress) c.in-Some.line.now ≡ Err c.in_ok-rule_of-in-Err.field-0 = rw c.in_ok-rule_of-in-Err.ensures at c.in-Err.ensures in
    told_fail c.args.script.now (state_of c.loop-line.progress) c.loop-line.number c.loop-line.lines _ c.in-Some.line.now c.next_part.new.self c.in_ok-rule_of-in-Err.field-0 c.loop-line.invariant.1 c.in-Some.ensures some broken

pub overflow_add-number : goal.overflow_add-number
overflow_add-number c =
    let fewer : length c.loop-line.lines ≡ suc (length c.next_part.new.self) = ap length c.in-Some.ensures in
    omega (arith, c.requires.few)

pub loop-line-preserved : goal.loop-line-preserved
loop-line-preserved c =
    let some : c.next_part.new.self ≡ [] → ⊥ = λ e. grind arith in
    let fewer : length c.loop-line.lines ≡ suc (length c.next_part.new.self) = ap length c.in-Some.ensures in (
      omega (arith, fewer),
      rw add-one (told_more c.args.script.now (state_of c.loop-line.progress) c.loop-line.number c.loop-line.lines _ c.in-Some.line.now c.next_part.new.self (state_of c.take_line.new.progress) c.loop-line.invariant.1 c.in-Some.ensures some c.in-Ok.ensures),
      fits_kept c.args.script.now (state_of c.loop-line.progress) c.in-Some.line.now (state_of c.take_line.new.progress) c.requires.script c.loop-line.invariant.2 c.in-Ok.ensures,
    )

pub returns : goal.returns
returns c = told_none c.args.script.now (state_of c.loop-line.progress) c.loop-line.number c.loop-line.lines _ c.loop-line.invariant.1 c.in_default.ensures.0
