use Rattle.std.proofs.Common.{◌<◌, ◌≤◌, length, arith, ◌++◌, take, refl}
use Rattle.zeus_io.proofs.Bytes.{Takes-both, length-piece}
use Rattle.std.proofs.lemmas.Result.{err_from_is_err_and}
use Rattle.zeus_io.proofs.transfer.read_all.Goals as goal

-- the piece that goes past the limit was taken too
pub returns-then-count-limit-clause-too_long : goal.returns-then-count-limit-clause-too_long
returns-then-count-limit-clause-too_long g c =
    let n = c.in_ok-count.count in
    let long : c.args.limit < length (c.turns.bytes.items ++ take n c.read.new.buf) =
    omega (arith, length-piece c.turns.bytes.items c.read.new.buf n c.in_ok-count.ensures.bound.0) in
    Takes-both _ _ _ _ _ _ c.turns.invariant.0 c.in_ok-count.ensures.bytes.0 (λ _. long, λ _. refl)

-- the piece for which there was no memory was taken too
pub returns-in_err-extend_from_slice-clause-too_long :
    goal.returns-in_err-extend_from_slice-clause-too_long
returns-in_err-extend_from_slice-clause-too_long g c =
    let n = c.in_ok-count.count in
    let short : length (c.turns.bytes.items ++ take n c.read.new.buf) ≤ c.args.limit =
    omega (arith, length-piece c.turns.bytes.items c.read.new.buf n c.in_ok-count.ensures.bound.0) in
    let p = err_from_is_err_and c.from_residual-in_err-extend_from_slice.result c.from_residual-in_err-extend_from_slice.ensures.1 in
    rw (p.1, p.2) (Takes-both _ _ _ _ _ _ c.turns.invariant.0 c.in_ok-count.ensures.bytes.0 (λ e. cc, λ h. absurd (omega arith)))
