use Rattle.std.proofs.Common.{ℕ, ◌≡◌, ◌<◌, ◌≤◌, ◌^◌, refl, ap, ◌∙◌, length, arith, List, []}
use Rattle.std.specs.Prelude.{replicate}
use Rattle.zeus_model.specs.Book.{Point, TxRecord, no_record}
use Rattle.history_book.specs.Books.{points_of}
use Rattle.history_book.proofs.Keeping.{kept_start, seen_start}
use Rattle.history_book.proofs.book.Book.new.Goals as goal

pub invariant_of-result : goal.invariant_of-result
invariant_of-result c =
    let all : c.loop-id._id ≡ c.args.txs = omega arith in
    kept_start c.args.txs c.loop-id.records.items c.in_ok-with_room.field-0 c.args.config.now.nodes c.args.config.now.slots c.in_ok-new.field-0 (record {
      few = omega arith;
      records = c.loop-id.invariant.items ∙ ap (λ n. replicate n no_record) all;
      no_points = c.in_ok-with_room.ensures.ids;
      room = c.in_ok-with_room.ensures.room;
      streams = c.in_ok-new.ensures.size;
      no_entries = c.in_ok-new.ensures.none;
      more = c.in_ok-new.ensures.room;
    })

pub returns : goal.returns
returns c =
    let all : c.loop-id._id ≡ c.args.txs = omega arith in
    seen_start c.args.txs c.loop-id.records.items c.in_ok-with_room.field-0.ids c.args.config.now.nodes c.args.config.now.slots (c.loop-id.invariant.items ∙ ap (λ n. replicate n no_record) all) c.in_ok-with_room.ensures.ids
