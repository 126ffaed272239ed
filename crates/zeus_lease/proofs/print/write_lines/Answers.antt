use Rattle.std.proofs.Common.{ap, ◌∙◌}
use Rattle.zeus_lease.specs.Machine.{Machine}
use Rattle.zeus_lease.proofs.Lines.{text_more, text_done, count_more}
use Rattle.zeus_lease.proofs.print.write_lines.Goals as goal

pub loop-number-preserved : goal.loop-number-preserved
loop-number-preserved c =
    let steps = c.args.steps.now in
    let step = c.index-steps-number.result in
    let before = c.loop-number.leases in
    let taken = c.in_ok-take_step.ensures.after in
    record {
      text =
          text_more before c.take_step.new.leases steps c.loop-number.number step c.loop-number.out.items c.take_step.new.out.items _
          c.loop-number-test.true c.index-steps-number.is taken c.loop-number.invariant.text c.in_ok-take_step.ensures.text;
      count = ap (λ (m : Machine). m.steps) taken ∙ count_more before step c.args.leases.now.steps c.loop-number.number c.loop-number.invariant.count;
      nodes = c.in_ok-take_step.ensures.nodes ∙ c.loop-number.invariant.nodes;
    }

pub returns : goal.returns
returns c = text_done c.loop-number.leases c.args.steps.now c.loop-number.number c.loop-number.out.items _ c.loop-number-test.false c.loop-number.invariant.text
