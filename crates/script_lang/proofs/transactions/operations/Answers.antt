use Rattle.std.proofs.Common.{◌≡◌, suc, ◌-◌, ◌<◌, [], ◌∷◌, ◌++◌, length, Ok, Err, arith, length-append, refl, ap, ◌∙◌}
use Rattle.std.specs.Prelude.{codes}
use Rattle.std.proofs.lemmas.Result.{err_from_is_err_and}
use Rattle.script_lang.specs.Operations.{op_at, ops_after, ops_at}
use Rattle.script_lang.specs.Reads.{keyword_at}
use Rattle.script_lang.proofs.OpSteps.{ops_next, ops_fail, ops_no_semicolon, ops_end, less_room}
use Rattle.script_lang.proofs.transactions.operations.Goals as goal

pub returns-in_err-first-clause-ops : goal.returns-in_err-first-clause-ops
unfolding ops_at
returns-in_err-first-clause-ops c =
    let p = err_from_is_err_and c.from_residual.result c.from_residual.ensures.1 in
    let failed : op_at c.args.version c.args.names.now c.new-ops.result c.args.words.now ≡ Err c.in_err-first.field-0.0 = c.in_err-first.ensures.op in
    rw (p.1, p.2, ← c.new-ops.ensures, failed) refl

pub loop-words-init : goal.loop-words-init
unfolding ops_at
loop-words-init c =
    let first : op_at c.args.version c.args.names.now c.new-ops.result c.args.words.now ≡ Ok (c.in_ok-first.first, c.operation.new.words) = c.in_ok-first.ensures.op in
    let one : c.push.new.self ≡ c.in_ok-first.first ∷ [] = c.push.ensures ∙ ap (λ ops. ops ++ c.in_ok-first.first ∷ []) c.new-ops.ensures in
    rw (one, ← c.new-ops.ensures, first) (omega arith, refl)

pub returns-in_err-keyword-clause-ops : goal.returns-in_err-keyword-clause-ops
returns-in_err-keyword-clause-ops c =
    let p = err_from_is_err_and c.from_residual-in_err-keyword.result c.from_residual-in_err-keyword.ensures.1 in
    let some : c.loop-words.words ≡ [] → ⊥ = λ e. grind arith in
    let bytes : c.as_slice.result.now ≡ codes ";" = grind arith in
    let read : keyword_at c.as_slice.result.now c.loop-words.words ≡ Err c.in_err-keyword.field-0.0 = c.in_err-keyword.ensures in
    let other = rw bytes at read in
    rw (p.1, p.2) (ops_no_semicolon c.args.version c.args.names.now c.loop-words.ops c.loop-words.words _ _ c.in_err-keyword.field-0.0 c.loop-words.invariant.1 some other)

pub returns-in_err-op-clause-ops : goal.returns-in_err-op-clause-ops
returns-in_err-op-clause-ops c =
    let p = err_from_is_err_and c.from_residual-in_err-op.result c.from_residual-in_err-op.ensures.1 in
    let bytes : c.as_slice.result.now ≡ codes ";" = grind arith in
    let read : keyword_at c.as_slice.result.now c.loop-words.words ≡ Ok (tt, c.keyword.new.self) = c.in_ok-keyword.ensures in
    let semi = rw bytes at read in
    rw (p.1, p.2) (ops_fail c.args.version c.args.names.now c.loop-words.ops c.loop-words.words _ _ c.keyword.new.self c.in_err-op.field-0.0 c.loop-words.invariant.1 semi c.in_err-op.ensures.op)

pub loop-words-smaller : goal.loop-words-smaller
loop-words-smaller c =
    let room : length c.loop-words.ops < 16 = c.in_ok-op.ensures.room in
    rw (c.push-in-loop-words.ensures, less_room c.loop-words.ops c.in_ok-op.op) (omega arith)

pub loop-words-preserved : goal.loop-words-preserved
loop-words-preserved c =
    let room : length c.loop-words.ops < 16 = c.in_ok-op.ensures.room in
    let bytes : c.as_slice.result.now ≡ codes ";" = grind arith in
    let read : keyword_at c.as_slice.result.now c.loop-words.words ≡ Ok (tt, c.keyword.new.self) = c.in_ok-keyword.ensures in
    let semi = rw bytes at read in
    let more : 16 - length c.loop-words.ops ≡ suc (16 - length (c.loop-words.ops ++ c.in_ok-op.op ∷ [])) = omega (arith, length-append c.loop-words.ops (c.in_ok-op.op ∷ [])) in
    let so_far : ops_after c.args.version c.args.names.now (suc (16 - length (c.loop-words.ops ++ c.in_ok-op.op ∷ []))) c.loop-words.ops c.loop-words.words ≡ ops_at c.args.version c.args.names.now c.args.words.now = rw more at c.loop-words.invariant.1 in
    rw c.push-in-loop-words.ensures (omega (arith, length-append c.loop-words.ops (c.in_ok-op.op ∷ [])), ops_next c.args.version c.args.names.now c.loop-words.ops c.loop-words.words _ _ c.keyword.new.self c.operation-in-loop-words.new.words c.in_ok-op.op so_far semi c.in_ok-op.ensures.op)

pub returns-clause-ops : goal.returns-clause-ops
returns-clause-ops c =
    let none : c.loop-words.words ≡ [] = grind arith in
    ops_end c.args.version c.args.names.now c.loop-words.ops c.loop-words.words _ (16 - length c.loop-words.ops) c.loop-words.invariant.1 none
