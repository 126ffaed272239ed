use Rattle.std.proofs.Common.{ap, ◌∙◌}
use Rattle.zeus_report.proofs.RunSteps.{step_keeps, run_more, run_done, text_more, text_done}
use Rattle.zeus_report.proofs.runs.write_events.Goals as goal

pub loop-place-preserved : goal.loop-place-preserved
loop-place-preserved c =
    let steps = c.args.steps.now in
    let step = c.index-steps-place.result in
    let before = c.loop-place.world in
    let taken = c.in_ok-write_event.ensures.world in
    let kept = step_keeps before step in
    record {
      text =
          text_more c.args.names.now before c.write_event.new.world steps c.loop-place.place step c.loop-place.out.items
          c.write_event.new.out.items _ c.loop-place-test.true c.index-steps-place.is taken c.loop-place.invariant.text
          c.in_ok-write_event.ensures.text;
      world = run_more before c.write_event.new.world _ steps c.loop-place.place step c.loop-place-test.true c.index-steps-place.is taken c.loop-place.invariant.world;
      config = ap (λ w. w.config) taken ∙ kept.config ∙ c.loop-place.invariant.config;
      txs = ap (λ w. w.txs) taken ∙ kept.txs ∙ c.loop-place.invariant.txs;
    }

pub returns-clause-text : goal.returns-clause-text
returns-clause-text c = text_done c.args.names.now c.loop-place.world c.args.steps.now c.loop-place.place c.loop-place.out.items _ c.loop-place-test.false c.loop-place.invariant.text

pub returns-clause-world : goal.returns-clause-world
returns-clause-world c = run_done c.loop-place.world _ c.args.steps.now c.loop-place.place c.loop-place-test.false c.loop-place.invariant.world
