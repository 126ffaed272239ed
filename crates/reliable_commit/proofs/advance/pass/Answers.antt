use Rattle.std.proofs.Common.{◌≡◌, ◌<◌, ◌+◌, ◌-◌, ℕ, suc, length, sym, ap, ◌∙◌, arith}
use Rattle.commit_pipeline.specs.Pipes.{Waiting}
use Rattle.object_table.specs.EntryLaws.{within-drop, within-first}
use Rattle.reliable_commit.proofs.Steps.{pass-copies, pass-few, pass-holds, pass-rest, pass_none-copies, pass_none-holds}
use Rattle.reliable_commit.proofs.Writing.{All-at}
use Rattle.reliable_commit.proofs.advance.pass.Goals as goal

pub validate_each-requires : goal.validate_each-requires
validate_each-requires c =
    rw (c.as_slice.ensures, c.loop-turn.invariant.objects) (within-first _ _ _ c.loop-turn.invariant.within c.in-Some.ensures.first).writes

pub unhold_each-requires : goal.unhold_each-requires
unhold_each-requires c = λ k d within.
    let named = (within-first _ _ _ c.loop-turn.invariant.within c.in-Some.ensures.first).named in
    rw (c.as_slice-in-loop-turn.ensures.list, c.validate_each.ensures.objects, c.loop-turn.invariant.objects)
    (All-at (λ x. x < length c.args.copies.now.copies) c.in-Some.entry.named k d named (rw c.as_slice-in-loop-turn.ensures.list at within))

pub loop-turn-preserved : goal.loop-turn-preserved
loop-turn-preserved c =
    let a : ℕ = c.args.count - (c.loop-turn._turn + 1) in
    let next : c.args.count - c.loop-turn._turn ≡ suc a = omega arith in
    let pending = ap (λ (w : Waiting). w.pending) c.in-Some.ensures.after in
    let done = ap (λ (w : Waiting). w.done) c.in-Some.ensures.after in
    record {
      few = rw pending (pass-few _ _ _ next c.loop-turn.invariant.few);
      done = done ∙ omega (arith, c.loop-turn.invariant.done);
      rest = rw pending (pass-rest _ _ _ _ next c.in-Some.ensures.first ∙ c.loop-turn.invariant.rest);
      copies =
          rw (c.unhold_each.ensures.copies, c.validate_each.ensures.copies, c.as_slice.ensures, pending)
          (pass-copies _ _ _ _ _ next c.in-Some.ensures.first ∙ c.loop-turn.invariant.copies);
      holds =
          rw (c.unhold_each.ensures.holds, c.validate_each.ensures.holds, c.as_slice-in-loop-turn.ensures.list, pending)
          (pass-holds _ _ _ _ _ next c.in-Some.ensures.first ∙ c.loop-turn.invariant.holds);
      objects = ap length c.unhold_each.ensures.copies ∙ c.validate_each.ensures.objects ∙ c.loop-turn.invariant.objects;
      within = rw pending (within-drop _ 1 _ c.loop-turn.invariant.within);
    }

pub returns-clause-copies : goal.returns-clause-copies
returns-clause-copies c =
    let none : c.args.count - c.loop-turn._turn ≡ 0 = omega arith in
    sym (pass_none-copies _ _ _ none) ∙ c.loop-turn.invariant.copies

pub returns-clause-holds : goal.returns-clause-holds
returns-clause-holds c =
    let none : c.args.count - c.loop-turn._turn ≡ 0 = omega arith in
    sym (pass_none-holds _ _ _ none) ∙ c.loop-turn.invariant.holds
