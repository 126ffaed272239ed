use Rattle.std.proofs.Common.{ℕ, List, refl, map, decimal}
use Rattle.zeus_base.specs.LoopLaws.{one_more, all_done}
use Rattle.zeus_model.specs.ReportWords.{number}
use Rattle.zeus_model.specs.Spelling.{spaced}
use Rattle.zeus_audit.proofs.expected.write_ids.Goals as goal

pub loop-id-preserved : goal.loop-id-preserved
unfolding spaced
loop-id-preserved c =
    one_more (λ (ids : List ℕ). spaced (map decimal ids)) (λ (k : ℕ). number k) (λ k ks. refl) c.args.ids.now c.loop-id.id-index c.id-item.result
    c.loop-id.out.items c.write_id.new.out.items _ c.loop-id-test.true c.id-item.is c.loop-id.invariant (c.in_ok-write_id.ensures)

pub returns : goal.returns
unfolding spaced
returns c = all_done (λ (ids : List ℕ). spaced (map decimal ids)) refl c.args.ids.now c.loop-id.id-index c.loop-id.out.items _ c.loop-id-test.false c.loop-id.invariant
