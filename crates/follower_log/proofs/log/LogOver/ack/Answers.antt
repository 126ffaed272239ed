use Rattle.std.proofs.Common.{ap, ◌∙◌}
use Rattle.std.proofs.Math.ListN.{length-set}
use Rattle.zeus_model.specs.State.{StreamLog}
use Rattle.follower_log.proofs.Logs.{acked-here, acked-no, acked_at-here, acked_at-no, counts-high, counts-low, missing_past, same_log}
use Rattle.follower_log.proofs.log.LogOver.ack.Goals as goal
use Rattle.follower_log.proofs.log.LogOver.ack.Goals.{in-None, in-Some}

pub returns-then-number-self-clause-answer : goal.returns-then-number-self-clause-answer
returns-then-number-self-clause-answer g c = λ n s here.
    let low = rw (ap (λ (l : StreamLog). l.done) c.self.view_is) at c.if-number-self.true in
    acked-no n c.args.from s c.args.number c.args.self.now here (counts-low c.args.self.now c.args.from c.args.number low)

pub returns-then-number-self-clause-after : goal.returns-then-number-self-clause-after
returns-then-number-self-clause-after g c = λ n s here.
    let low = rw (ap (λ (l : StreamLog). l.done) c.self.view_is) at c.if-number-self.true in
    acked_at-no n c.args.from s c.args.number c.args.self.now here (counts-low c.args.self.now c.args.from c.args.number low)

pub invariant_of-self : goal.invariant_of-self
invariant_of-self g c =
    elim c.match-get_mut.branch [
      | in-None w ↦ rw (w.self-inside-is, c.get_mut.follows.holds-at-none) c.self.invariant
      | in-Some w ↦
          let written = rw w.in-Some.is at c.get_mut.follows.holds w.add_ack.new.entry in
          rw (w.self-inside-is, written, length-set) c.self.invariant
    ]

pub returns-clause-answer : goal.returns-clause-answer
returns-clause-answer g c = λ n s here.
    let items = ap (λ (l : StreamLog). l.kept) c.self.view_is in
    let done = ap (λ (l : StreamLog). l.done) c.self.view_is in
    let high = rw done at c.if-number-self.false in
    elim c.match-get_mut.branch [
      | in-None w ↦
          let none = rw (items, done) at w.in-None.ensures.value in
          rw w.result-is (acked-no n c.args.from s c.args.number c.args.self.now here (counts-high c.args.self.now c.args.from c.args.number high (missing_past _ _ none)))
      | in-Some w ↦
          let found = rw (items, done) at w.in-Some.ensures.value in
          rw (w.result-is, w.add_ack.ensures.answer) (acked-here n c.args.from s c.args.number c.args.self.now w.in-Some.entry.now here high found)
    ]

pub returns-clause-after : goal.returns-clause-after
returns-clause-after g c = λ n s here.
    let items = ap (λ (l : StreamLog). l.kept) c.self.view_is in
    let done = ap (λ (l : StreamLog). l.done) c.self.view_is in
    let high = rw done at c.if-number-self.false in
    elim c.match-get_mut.branch [
      | in-None w ↦
          let none = rw (items, done) at w.in-None.ensures.value in
          rw w.self-inside-is
          (same_log c.self.inside.done _ _ _ c.get_mut.follows.holds-at-none c.self.view_is
          ∙ acked_at-no n c.args.from s c.args.number c.args.self.now here (counts-high c.args.self.now c.args.from c.args.number high (missing_past _ _ none)))
      | in-Some w ↦
          let found = rw (items, done) at w.in-Some.ensures.value in
          let written = rw (w.in-Some.is, items, done) at c.get_mut.follows.holds w.add_ack.new.entry in
          rw (w.self-inside-is, done)
          (acked_at-here n c.args.from s c.args.number c.args.self.now w.in-Some.entry.now w.add_ack.new.entry w.add_ack.result _ here high found w.add_ack.ensures.answer w.add_ack.ensures.after written)
    ]
