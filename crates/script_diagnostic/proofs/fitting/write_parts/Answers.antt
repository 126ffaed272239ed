use Rattle.std.proofs.Common.{◌≡◌, ◌-◌, ◌+◌, suc, arith}
use Rattle.script_diagnostic.proofs.WordLaws.{ended-none, ended-some, ended-all}
use Rattle.script_diagnostic.proofs.fitting.write_parts.Goals as goal
use Rattle.script_diagnostic.proofs.fitting.write_parts.Goals.{in-Some+in_ok-append+in_ok-append_byte, in_default}

pub loop-turn-preserved : goal.loop-turn-preserved
loop-turn-preserved c =
    let next : c.args.count - c.loop-turn._turn ≡ suc (c.args.count - (c.loop-turn._turn + 1)) = omega arith in
    elim c.match-next_part.branch [
      | in-Some+in_ok-append+in_ok-append_byte w ↦
          rw w.out-is (ended-some c.args.separator _ _ w.in-Some.part.now c.loop-turn.out.items w.append.new.out.items w.append_byte.new.out.items _ c.loop-turn.parts c.next_part.new.self
          next w.in-Some.ensures w.in_ok-append.ensures w.in_ok-append_byte.ensures c.loop-turn.invariant)
      | in_default w ↦
          rw w.out-is (ended-none c.args.separator _ _ c.loop-turn.out.items _ c.loop-turn.parts c.next_part.new.self w.in_default.ensures.0 w.in_default.ensures.1 c.loop-turn.invariant)
    ]

pub returns : goal.returns
returns c =
    let none : c.args.count - c.loop-turn._turn ≡ 0 = omega arith in
    ended-all c.args.separator _ c.loop-turn.out.items _ c.loop-turn.parts none c.loop-turn.invariant
