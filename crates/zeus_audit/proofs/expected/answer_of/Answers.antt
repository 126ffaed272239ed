use Rattle.std.proofs.Common.{◌≡◌, List, ℕ, ◌++◌, ap, subst, ◌∙◌}
use Rattle.zeus_audit.specs.Texts.{step_head, behind, IsBehind}
use Rattle.zeus_audit.proofs.LineByLine.{stripped}
use Rattle.zeus_audit.proofs.expected.answer_of.Goals as goal

pub returns : goal.returns
returns c =
    let head = step_head c.args.told c.args.step.now in
    let whole : c.as_slice.result.now ≡ head = c.as_slice.ensures.value ∙ (c.in_ok-write_step_head.ensures ∙ ap (λ (l : List ℕ). l ++ head) c.clear.ensures.items) in
    let P : List ℕ → Type 0 = λ prefix. IsBehind c.strip_prefix.result (behind prefix c.args.line.now) in
    subst P whole (stripped c.strip_prefix.result c.as_slice.result.now c.args.line.now c.strip_prefix.ensures.cases)
