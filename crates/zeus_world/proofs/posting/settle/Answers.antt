use Rattle.std.proofs.Common.{◌∙◌, ap, refl, sym}
use Rattle.zeus_base.specs.declared.step.Passed.{Passed}
use Rattle.zeus_model.specs.Book.{BookChange, Book, book_passes, change_then, counted}
use Rattle.history_book.specs.Books.{BookState, so_far, with_book}
use Rattle.zeus_world.proofs.Settling.{made, passes_counted}
use Rattle.zeus_world.proofs.posting.settle.Goals as goal

pub count-requires : goal.count-requires
count-requires c =
    passes_counted c.args.book.now c.pass_each.new.self c.args.at _ (so_far c.args.book.now c.args.event.now.points c.args.event.now.acked) c.pass_each.new.points c.pass_each.new.acked refl c.pass_each.ensures.change c.requires.counts
