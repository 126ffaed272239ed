use Rattle.std.proofs.Common.{◌≡◌, ◌≤◌, length, take, drop, refl, arith, ◌∙◌}
use Rattle.std.proofs.lemmas.Bool.{false≢true}
use Rattle.zeus_base.specs.Texts.{IsText}
use Rattle.zeus_wire.proofs.Texts.{text_fault, text_read}
use Rattle.zeus_wire.proofs.reading.input.Input.text.Goals as goal

pub returns-in-None : goal.returns-in-None
returns-in-None c =
    let bytes = c.self.inside.bytes.now in
    let long : c.args.len ≤ length bytes = omega arith in
    let front : c.split_at.result.0.now ≡ take c.args.len bytes = rw (← c.from-len.ensures) c.split_at.ensures.front in
    let none : IsText (take c.args.len bytes) → ⊥ = λ is. absurd (false≢true (c.in-None.ensures.valid.1 (rw front is))) in
    rw (← c.self.view_is) (text_fault c.args.len bytes long c.requires.some c.requires.short none)

pub returns-in-Some : goal.returns-in-Some
returns-in-Some c =
    let bytes = c.self.inside.bytes.now in
    let long : c.args.len ≤ length bytes = omega arith in
    let front : c.split_at.result.0.now ≡ take c.args.len bytes = rw (← c.from-len.ensures) c.split_at.ensures.front in
    let text : IsText (take c.args.len bytes) = rw (← front) (c.in-Some.ensures.valid.0 refl) in
    let behind : c.split_at.result.1.now ≡ drop c.args.len bytes = rw (← c.from-len.ensures) c.split_at.ensures.back in
    rw (← c.self.view_is) (text_read c.args.len bytes c.in-Some.text c.split_at.result.1.now long text (c.in-Some.ensures.value ∙ front) behind)
