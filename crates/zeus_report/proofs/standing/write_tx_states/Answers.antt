use Rattle.std.proofs.Common.{refl}
use Rattle.zeus_base.specs.LoopLaws.{count_more, count_done}
use Rattle.zeus_model.specs.ReportText.{tx_state_lines}
use Rattle.zeus_report.specs.Lines.{tx_state_line}
use Rattle.zeus_report.proofs.standing.write_tx_states.Goals as goal

pub loop-k-preserved : goal.loop-k-preserved
unfolding tx_state_lines
loop-k-preserved c =
    let world = c.args.world.now in
    count_more (tx_state_lines world) (tx_state_line world) (λ k ks. refl) c.loop-k.k c.args.count
    c.loop-k.out.items c.write_tx_state.new.out.items _ c.loop-k-test.true c.loop-k.invariant (c.in_ok-write_tx_state.ensures)

pub returns : goal.returns
unfolding tx_state_lines
returns c = count_done (tx_state_lines c.args.world.now) refl c.loop-k.k c.args.count c.loop-k.out.items _ c.loop-k-test.false c.loop-k.invariant
