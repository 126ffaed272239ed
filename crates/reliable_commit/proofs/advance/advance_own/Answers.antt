use Rattle.std.proofs.Common.{ℕ, ◌≡◌, List, ap, arith, ◌∙◌}
use Rattle.zeus_base.specs.Nodes.{meet, without}
use Rattle.object_table.specs.EntryLaws.{within-drop}
use Rattle.reliable_commit.specs.Advancing.{count_of}
use Rattle.reliable_commit.specs.declared.advance.Advance.{Advance}
use Rattle.reliable_commit.proofs.Passing.{is_advance, own_copies, own_done, own_letters, own_passed, own_passing, own_pending}
use Rattle.reliable_commit.proofs.advance.advance_own.Goals as goal

pub returns : goal.returns
returns c =
    let tell = c.told.ensures ∙ ap (λ (f : List ℕ). without c.args.me (meet f c.args.members)) c.own_followers-followers.ensures in
    let k = c.passing-count.result in
    let a : Advance = record { first = c.done-first.result; after = c.done.result; tell = c.told.result } in
    let count_is : count_of a ≡ k = omega (arith, c.done-first.ensures, c.done.ensures, c.pass.ensures.done) in
    record {
      does = record {
        acts = λ n s node.
            let count = own_passing n s k _ _ _ _ node c.passing-count.ensures.value in
            let advance = is_advance n s k a _ _ _ _ node c.passing-count.ensures.most c.done-first.ensures (c.done.ensures ∙ c.pass.ensures.done) tell in
            record {
              letters = own_letters n s k count a advance;
              passed = own_passed n s k count a advance;
              copies = rw (c.pass.ensures.copies, ← node.copies, ← node.pending) (own_copies n s k count);
              pending = rw (c.pass.ensures.pending, ← node.pending) (own_pending n s k count);
              done = rw (c.pass.ensures.done, ← node.done) (own_done n s k count);
            };
        first = c.done-first.ensures;
        after = c.done.ensures;
        tell = rw count_is tell;
        holds = rw count_is c.pass.ensures.holds;
        objects = c.pass.ensures.objects;
        within = rw c.pass.ensures.pending (within-drop _ _ _ c.requires);
      };
    }
