use Rattle.std.proofs.Common.{◌+◌, ℕ, ◌≡◌, List, ap, ◌∙◌, arith}
use Rattle.zeus_base.specs.Nodes.{meet, without}
use Rattle.reliable_commit.specs.Advancing.{count_of}
use Rattle.reliable_commit.specs.declared.advance.Advance.{Advance}
use Rattle.reliable_commit.proofs.Passing.{copies_of, done_raised, is_replay, kept_copies, kept_letters, kept_logs, kept_passed, kept_passing, logs_of}
use Rattle.reliable_commit.proofs.advance.advance_kept.Goals as goal

pub returns : goal.returns
returns c =
    let s = c.args.s in
    let k = c.passing-count.result in
    let tell = c.told.ensures ∙ ap (λ (f : List ℕ). without c.args.me (meet f c.args.members)) c.kept_followers-followers.ensures in
    let a : Advance = record { first = c.done-first.result; after = c.done-first.result + k; tell = c.told.result } in
    let count_is : count_of a ≡ k = omega arith in
    record {
      does = record {
        acts = λ n node.
            let count = kept_passing n s k _ _ _ _ node c.passing-count.ensures.value in
            let replay = is_replay n s k a _ _ _ _ node c.passing-count.ensures.most c.done-first.ensures.passed (ap (λ (d : ℕ). d + k) c.done-first.ensures.passed) tell in
            record {
              letters = kept_letters n s k count a replay;
              passed = kept_passed n s k count a replay;
              copies = copies_of n s k c.done-first.result _ _ _ _ _ node c.done-first.ensures.passed c.raise.ensures.copies ∙ kept_copies n s k count;
              logs = logs_of n s k c.done-first.result _ _ _ _ _ node c.done-first.ensures.passed c.raise.ensures.logs ∙ kept_logs n s k count;
            };
        first = c.done-first.ensures.passed;
        after = rw c.raise.ensures.logs (done_raised _ s _ (omega (arith, c.done-first.ensures.passed)));
        tell = rw count_is tell;
        holds = c.raise.ensures.holds;
        objects = c.raise.ensures.objects;
        streams = c.raise.ensures.streams;
      };
    }
