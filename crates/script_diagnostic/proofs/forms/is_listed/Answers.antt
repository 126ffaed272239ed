use Rattle.std.proofs.Common.{◌≡◌, true, false, sym, ap, ◌∙◌}
use Rattle.std.specs.Str.{bytes_eq}
use Rattle.zeus_model.specs.Words.{is_among}
use Rattle.script_diagnostic.proofs.Among.{is_among-found, is_among-other, is_among-none}
use Rattle.script_diagnostic.proofs.forms.is_listed.Goals as goal

pub returns-then-eq : goal.returns-then-eq
returns-then-eq c =
    let same : bytes_eq c.args.word.now c.in-Some.other.now ≡ true = sym c.eq.ensures ∙ c.if-eq.true in
    sym (is_among-found c.args.word.now c.in-Some.other.now c.next_part.new.self same) ∙ ap (is_among c.args.word.now) (sym c.in-Some.ensures) ∙ c.loop-other.invariant

pub loop-other-preserved : goal.loop-other-preserved
loop-other-preserved c =
    let apart : bytes_eq c.args.word.now c.in-Some.other.now ≡ false = sym c.eq.ensures ∙ c.if-eq.false in
    sym (is_among-other c.args.word.now c.in-Some.other.now c.next_part.new.self apart) ∙ ap (is_among c.args.word.now) (sym c.in-Some.ensures) ∙ c.loop-other.invariant

pub returns : goal.returns
returns c = sym (is_among-none c.args.word.now) ∙ ap (is_among c.args.word.now) (sym c.in_default.ensures.0) ∙ c.loop-other.invariant
