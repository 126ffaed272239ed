use Rattle.std.proofs.Common.{◌≡◌, ◌<◌, ◌+◌, ◌-◌, ℕ, Some, suc, map, sym, ◌∙◌, arith}
use Rattle.std.specs.List.{slice_get}
use Rattle.zeus_model.specs.Commit.{as_kept}
use Rattle.reliable_commit.proofs.Steps.{as_kept-found, followers-none, followers-step, found}
use Rattle.reliable_commit.proofs.advance.own_followers.Goals as goal
use Rattle.reliable_commit.proofs.advance.own_followers.Goals.{in-Some, in_default}

pub loop-turn-init : goal.loop-turn-init
loop-turn-init c =
    let all : c.args.count - 0 ≡ c.args.count = omega arith in
    rw all (c.empty-all.ensures ∙ followers-none (map as_kept c.args.pipe.now.pending) c.args.count)

pub loop-turn-preserved : goal.loop-turn-preserved
loop-turn-preserved c =
    let place : ℕ = c.args.count - (c.loop-turn.turn + 1) in
    let next : suc place ≡ c.args.count - c.loop-turn.turn = omega arith in
    let there : c.args.count - 1 - c.loop-turn.turn ≡ place = omega arith in
    let low : place < c.args.count = omega arith in
    elim c.match-pending.branch [
      | in-Some w ↦
          let is : Some (as_kept w.in-Some.entry.now) ≡ slice_get (map as_kept c.args.pipe.now.pending) place = as_kept-found c.args.pipe.now.pending place w.in-Some.entry.now (rw there at w.in-Some.ensures) in
          rw (w.all-is, w.join-all.ensures, c.loop-turn.invariant, ← next) (sym (followers-step (map as_kept c.args.pipe.now.pending) c.args.count place (as_kept w.in-Some.entry.now) low is))
      | in_default w ↦
          let past = found c.args.pipe.now.pending place (rw there at w.in_default.ensures) in
          let few = c.requires in
          absurd (omega (arith, past, few))
    ]
