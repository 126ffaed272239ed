use Rattle.std.proofs.Common.{◌≡◌, ◌<◌, ◌+◌, length, refl, ap, ◌∙◌, arith}
use Rattle.std.proofs.lemmas.Bool.{false≢true}
use Rattle.zeus_model.specs.Commit.{next_kept}
use Rattle.zeus_model.specs.State.{StreamLog}
use Rattle.follower_log.proofs.Logs.{no_room, same_log, stored-again, stored-full, stored-gap, stored-new, stored_at-again, stored_at-full, stored_at-gap, stored_at-new}
use Rattle.follower_log.proofs.log.LogOver.store.Goals as goal
use Rattle.follower_log.proofs.log.LogOver.store.Goals.{in-Ok, in-Err}

pub returns-then-number-next-clause-answer : goal.returns-then-number-next-clause-answer
returns-then-number-next-clause-answer g c = λ n from here.
    let next = ap next_kept c.self.view_is in
    let low : c.args.r.now.number < next_kept c.args.self.now = omega (arith, next) in
    stored-again n from c.args.r.now c.args.self.now here low

pub returns-then-number-next-clause-after : goal.returns-then-number-next-clause-after
returns-then-number-next-clause-after g c = λ n from here.
    let next = ap next_kept c.self.view_is in
    let low : c.args.r.now.number < next_kept c.args.self.now = omega (arith, next) in
    stored_at-again n from c.args.r.now c.args.self.now here low

pub returns-then-next-number-clause-answer : goal.returns-then-next-number-clause-answer
returns-then-next-number-clause-answer g c = λ n from here.
    let next = ap next_kept c.self.view_is in
    let high : next_kept c.args.self.now < c.args.r.now.number = omega (arith, next) in
    let same : c.self.inside.done + c.len.result ≡ next_kept c.args.self.now = omega (arith, next) in
    rw same (stored-gap n from c.args.r.now c.args.self.now here high)

pub returns-then-next-number-clause-after : goal.returns-then-next-number-clause-after
returns-then-next-number-clause-after g c = λ n from here.
    let next = ap next_kept c.self.view_is in
    let high : next_kept c.args.self.now < c.args.r.now.number = omega (arith, next) in
    stored_at-gap n from c.args.r.now c.args.self.now here high

pub returns-clause-answer : goal.returns-clause-answer
returns-clause-answer g c = λ n from here.
    let next = ap next_kept c.self.view_is in
    let number : c.args.r.now.number ≡ next_kept c.args.self.now = omega (arith, next) in
    let size = ap (λ (l : StreamLog). length l.kept) c.self.view_is in
    elim c.match-push.branch [
      | in-Ok w ↦
          let room : length c.args.self.now.kept < 16 = rw size at w.in-Ok.ensures.variant.0 refl in
          rw w.result-is (stored-new n from c.args.r.now c.args.self.now here number room)
      | in-Err w ↦
          let full : length c.args.self.now.kept ≡ 16 = no_room _ _ _ size c.len.ensures.count c.len.ensures.most (λ less. false≢true (w.in-Err.ensures.variant.1 less)) in
          rw w.result-is (stored-full n from c.args.r.now c.args.self.now here number full)
    ]

pub returns-clause-after : goal.returns-clause-after
returns-clause-after g c = λ n from here.
    let next = ap next_kept c.self.view_is in
    let number : c.args.r.now.number ≡ next_kept c.args.self.now = omega (arith, next) in
    let size = ap (λ (l : StreamLog). length l.kept) c.self.view_is in
    let items = ap (λ (l : StreamLog). l.kept) c.self.view_is in
    let done = ap (λ (l : StreamLog). l.done) c.self.view_is in
    elim c.match-push.branch [
      | in-Ok w ↦
          let room : length c.args.self.now.kept < 16 = rw size at w.in-Ok.ensures.variant.0 refl in
          rw done (stored_at-new n from c.args.r.now c.args.self.now _ here number room (rw (items, c.duplicate.ensures, c.empty.ensures) at w.in-Ok.ensures.ok))
      | in-Err w ↦
          let full : length c.args.self.now.kept ≡ 16 = no_room _ _ _ size c.len.ensures.count c.len.ensures.most (λ less. false≢true (w.in-Err.ensures.variant.1 less)) in
          same_log c.self.inside.done _ _ _ w.in-Err.ensures.err.1 c.self.view_is ∙ stored_at-full n from c.args.r.now c.args.self.now here number full
    ]
