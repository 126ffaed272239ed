use Rattle.std.proofs.Common.{refl}
use Rattle.zeus_base.specs.TableLaws.{nth_found, nth_none}
use Rattle.zeus_model.specs.Book.{no_record}
use Rattle.history_book.proofs.book.Book.is_begun.Goals as goal

pub returns-in-None : goal.returns-in-None
returns-in-None c = rw (nth_none no_record c.args.self.now.book.records c.args.id c.in-None.ensures) refl

pub returns-in-Some : goal.returns-in-Some
returns-in-Some c = rw (nth_found no_record c.args.self.now.book.records c.args.id _ c.in-Some.ensures) c.is_begun.ensures
