use Rattle.std.proofs.Common.{◌+◌, ◌∙◌, ap, drop, arith}
use Rattle.zeus_model.specs.World.{all_posted}
use Rattle.lossy_fabric.specs.Links.{letters}
use Rattle.zeus_world.proofs.Batches.{drop-here, drop-end, first_fits, first_link, first_room, later_post, posted_first, posted_none, noted_first, noted_none}
use Rattle.zeus_world.proofs.posting.post_all.Goals as goal

pub send-number-requires-clause-there : goal.send-number-requires-clause-there
send-number-requires-clause-there c =
    let rest = drop-here _ _ _ c.loop-letter-test.true c.letter-item.is in
    (first_link _ _ _ (rw rest at c.loop-letter.invariant.can))

pub send-number-requires-clause-fits : goal.send-number-requires-clause-fits
send-number-requires-clause-fits c =
    let rest = drop-here _ _ _ c.loop-letter-test.true c.letter-item.is in
    (first_fits _ _ _ (rw rest at c.loop-letter.invariant.can))

pub send-number-requires-clause-room : goal.send-number-requires-clause-room
send-number-requires-clause-room c =
    let rest = drop-here _ _ _ c.loop-letter-test.true c.letter-item.is in
    (first_room _ _ _ (rw rest at c.loop-letter.invariant.can))

pub loop-letter-preserved : goal.loop-letter-preserved
loop-letter-preserved c =
    let i = c.loop-letter.letter-index in
    let left = drop (i + 1) c.args.batch.now in
    let rest = drop-here _ _ _ c.loop-letter-test.true c.letter-item.is in
    let sent = c.send-number.ensures.letters in
    let number = c.send-number.ensures.number in
    let room = rw rest at c.loop-letter.invariant.room in
    record {
      can = later_post _ _ _ _ (rw rest at c.loop-letter.invariant.can) sent c.send-number.ensures.room;
      room = omega arith;
      grows = omega arith;
      links =
          ap (λ links. all_posted links left) sent ∙ posted_first (letters c.loop-letter.links) c.letter-item.result left
          ∙ (rw rest at c.loop-letter.invariant.links);
      numbers =
          rw (c.push_reserved.ensures.items, sent)
          (noted_first c.loop-letter.numbers.items (letters c.loop-letter.links) c.letter-item.result left _ number ∙ (rw rest at c.loop-letter.invariant.numbers));
    }

pub returns-clause-links : goal.returns-clause-links
returns-clause-links c =
    let none = drop-end c.args.batch.now c.loop-letter.letter-index (omega arith) in
    posted_none (letters c.loop-letter.links) ∙ (rw none at c.loop-letter.invariant.links)

pub returns-clause-numbers : goal.returns-clause-numbers
returns-clause-numbers c =
    let none = drop-end c.args.batch.now c.loop-letter.letter-index (omega arith) in
    noted_none c.loop-letter.numbers.items (letters c.loop-letter.links) ∙ (rw none at c.loop-letter.invariant.numbers)
