use Rattle.std.proofs.Common.{◌++◌, ap, ◌∙◌}
use Rattle.zeus_model.specs.ReportText.{report_head}
use Rattle.zeus_model.specs.World.{start}
use Rattle.zeus_report.proofs.RunSteps.{run-config, run-txs}
use Rattle.zeus_report.proofs.Whole.{whole_report}
use Rattle.zeus_report.proofs.runs.write_report.Goals as goal

pub write_events-requires : goal.write_events-requires
unfolding start
write_events-requires c = rw (c.requires.start, c.as_slice.ensures) c.requires.fits.steps

pub write_final-requires-clause-txs : goal.write_final-requires-clause-txs
unfolding start
write_final-requires-clause-txs c =
    let begun = ap (λ w. w.txs) c.requires.start in
    let ran = ap (λ w. w.txs) c.in_ok-write_events.ensures.world in
    let kept = run-txs c.args.world.now c.args.script.now.steps in
    let told = c.len-txs.ensures in
    cc (begun, ran, kept, told)

pub write_final-requires-clause-objects : goal.write_final-requires-clause-objects
unfolding start
write_final-requires-clause-objects c =
    let begun = ap (λ w. w.config) c.requires.start in
    let ran = ap (λ w. w.config) c.in_ok-write_events.ensures.world in
    let kept = run-config c.args.world.now c.args.script.now.steps in
    let told = c.len-objects.ensures in
    cc (begun, ran, kept, told)

pub returns-clause-text : goal.returns-clause-text
returns-clause-text c =
    let version = c.args.script.now.config.version in
    let head = c.in_ok-write_head.ensures ∙ ap (λ front. front ++ report_head version) c.new-out.ensures.items in
    whole_report c.args.script.now _ _ _ _ c.write_head.new.out.items c.write_events.new.out.items c.write_final.new.out.items
    c.as_slice-names.ensures c.as_slice.ensures c.requires.start c.in_ok-write_events.ensures.world
    head c.in_ok-write_events.ensures.text c.in_ok-write_final.ensures
