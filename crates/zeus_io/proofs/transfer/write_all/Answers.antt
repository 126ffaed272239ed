use Rattle.std.proofs.Common.{◌<◌, arith, rules, ◌∙◌}
use Rattle.zeus_io.proofs.Bytes.{Appends-next}
use Rattle.zeus_io.proofs.transfer.write_all.Goals as goal

pub loop-written-preserved : goal.loop-written-preserved
loop-written-preserved g c =
    let before = c.loop-written.invariant in
    let wrote = c.in_ok-written.ensures in (
      Appends-next _ _ _ _ _ _ before.0 wrote.bytes,
      search rules,
      search rules,
      λ h. let room : 0 < g.K.Sink.room c.loop-written.sink = omega (arith, before.4 h) in wrote.room.no_fault room ∙ before.3 h,
      λ h. omega (arith, before.4 h, wrote.room.uses),
    )
