use Rattle.std.proofs.Common.{◌≡◌, ◌<◌, ◌+◌, ◌-◌, ℕ, Some, suc, sym, ◌∙◌, arith}
use Rattle.std.specs.List.{slice_get}
use Rattle.follower_log.specs.Streams.{log_at}
use Rattle.reliable_commit.proofs.Steps.{followers-none, followers-step, found}
use Rattle.reliable_commit.proofs.advance.kept_followers.Goals as goal
use Rattle.reliable_commit.proofs.advance.kept_followers.Goals.{in-Some, in_default}

pub loop-turn-init : goal.loop-turn-init
loop-turn-init c =
    let all : c.args.count - 0 ≡ c.args.count = omega arith in
    rw all (c.empty-all.ensures ∙ followers-none (log_at c.args.log.now c.args.s.now).kept c.args.count)

pub loop-turn-preserved : goal.loop-turn-preserved
loop-turn-preserved c =
    let place : ℕ = c.args.count - (c.loop-turn.turn + 1) in
    let next : suc place ≡ c.args.count - c.loop-turn.turn = omega arith in
    let there : c.args.count - 1 - c.loop-turn.turn ≡ place = omega arith in
    let low : place < c.args.count = omega arith in
    elim c.match-kept.branch [
      | in-Some w ↦
          let is : Some (w.in-Some.entry.now) ≡ slice_get (log_at c.args.log.now c.args.s.now).kept place = rw there at w.in-Some.ensures in
          rw (w.all-is, w.join-all.ensures, c.loop-turn.invariant, ← next) (sym (followers-step (log_at c.args.log.now c.args.s.now).kept c.args.count place (w.in-Some.entry.now) low is))
      | in_default w ↦
          let past = found (log_at c.args.log.now c.args.s.now).kept place (rw there at w.in_default.ensures) in
          let few = c.requires.few in
          absurd (omega (arith, past, few))
    ]
