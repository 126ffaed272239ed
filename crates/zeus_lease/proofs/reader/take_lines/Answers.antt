use Rattle.std.proofs.Common.{◌≡◌, suc, Bool, true, false, [], length, Ok, arith, add-one, refl, sym, ap, ◌∙◌}
use Rattle.std.proofs.lemmas.Result.{err_from_is_err_and}
use Rattle.script_lang.specs.Cut.{cut}
use Rattle.zeus_lease.specs.Reading.{state_of, line_taken}
use Rattle.script_lang.specs.Reading.{is_last}
use Rattle.script_lang.proofs.Cutting.{length-cut}
use Rattle.zeus_lease.proofs.LineSteps.{AtLine, line_none, line_unended, line_failed, line_last, line_extra, line_more}
use Rattle.zeus_lease.proofs.reader.take_lines.Goals as goal

pub loop-line-init : goal.loop-line-init
loop-line-init c = rw c.new-lines.ensures (omega (arith, length-cut 10 c.args.bytes.now), refl)

pub returns-then-is_done : goal.returns-then-is_done
returns-then-is_done c =
    let last : c.next_part.new.self ≡ [] = grind arith in
    rw c.unended-kind.ensures (line_unended (state_of c.loop-line.draft) c.loop-line.number c.loop-line.lines _ c.in-Some.line.now c.loop-line.invariant.1 (rw last at c.in-Some.ensures))

pub returns-in_err-take_line : goal.returns-in_err-take_line
returns-in_err-take_line c =
    let at : AtLine (state_of c.loop-line.draft) c.loop-line.number c.in-Some.line.now c.next_part.new.self _ =
    record { parts = c.loop-line.lines; so_far = c.loop-line.invariant.1; first = c.in-Some.ensures; behind = λ e. grind arith } in
    let p = err_from_is_err_and c.from_residual.result c.from_residual.ensures.1 in
    rw (p.1, p.2) (line_failed _ _ _ _ _ at c.in_err-take_line.field-0.0 c.take_line.new.draft c.take_line.new.draft c.in_err-take_line.ensures)

pub returns-then-is_last : goal.returns-then-is_last
returns-then-is_last c =
    let at : AtLine (state_of c.loop-line.draft) c.loop-line.number c.in-Some.line.now c.next_part.new.self _ =
    record { parts = c.loop-line.lines; so_far = c.loop-line.invariant.1; first = c.in-Some.ensures; behind = λ e. grind arith } in
    let last : is_last c.next_part.new.self ≡ true = sym c.is_last.ensures ∙ c.if-is_last.true in
    let taken : line_taken (state_of c.loop-line.draft) c.loop-line.draft.stage (cut 32 c.in-Some.line.now) ≡ Ok (true, state_of c.take_line.new.draft) = c.in_ok-take_line.ensures ∙ ap (λ (b : Bool). Ok (b, state_of c.take_line.new.draft)) c.if-branch.true in
    line_last _ _ _ _ _ at (state_of c.take_line.new.draft) taken last

pub returns-then-branch : goal.returns-then-branch
returns-then-branch c =
    let at : AtLine (state_of c.loop-line.draft) c.loop-line.number c.in-Some.line.now c.next_part.new.self _ =
    record { parts = c.loop-line.lines; so_far = c.loop-line.invariant.1; first = c.in-Some.ensures; behind = λ e. grind arith } in
    let last : is_last c.next_part.new.self ≡ false = sym c.is_last.ensures ∙ c.if-is_last.false in
    let taken : line_taken (state_of c.loop-line.draft) c.loop-line.draft.stage (cut 32 c.in-Some.line.now) ≡ Ok (true, state_of c.take_line.new.draft) = c.in_ok-take_line.ensures ∙ ap (λ (b : Bool). Ok (b, state_of c.take_line.new.draft)) c.if-branch.true in
    rw add-one (line_extra _ _ _ _ _ at (state_of c.take_line.new.draft) taken last)

pub loop-line-preserved : goal.loop-line-preserved
loop-line-preserved c =
    let at : AtLine (state_of c.loop-line.draft) c.loop-line.number c.in-Some.line.now c.next_part.new.self _ =
    record { parts = c.loop-line.lines; so_far = c.loop-line.invariant.1; first = c.in-Some.ensures; behind = λ e. grind arith } in
    let fewer : length c.loop-line.lines ≡ suc (length c.next_part.new.self) = ap length c.in-Some.ensures in
    let taken : line_taken (state_of c.loop-line.draft) c.loop-line.draft.stage (cut 32 c.in-Some.line.now) ≡ Ok (false, state_of c.take_line.new.draft) = c.in_ok-take_line.ensures ∙ ap (λ (b : Bool). Ok (b, state_of c.take_line.new.draft)) c.if-branch.false in
    (omega (arith, fewer), rw add-one (line_more _ _ _ _ _ at (state_of c.take_line.new.draft) taken))

pub returns : goal.returns
returns c = line_none (state_of c.loop-line.draft) c.loop-line.number c.loop-line.lines _ c.loop-line.invariant.1 c.in_default.ensures.0
