use Rattle.std.proofs.Common.{ap, ◌∙◌, length, refl, arith}
use Rattle.history_book.specs.Books.{BookState}
use Rattle.history_book.proofs.Noting.{lists_committed, lists_refused, noted_asked, noted_commit, noted_other, noted_read, noted_refused, of_committed, of_no_copy, of_read, read_left}
use Rattle.history_book.proofs.book.Book.note_tried.Goals as goal

pub commit-requires : goal.commit-requires
commit-requires c =
    let can = of_committed _ _ _ _ _ _ c.in-Committed.is c.requires.tried in
    record { there = can.0.there; current = can.0.current; stream = can.1; next = can.2 }

pub read-requires : goal.read-requires
read-requires c = let can = of_read _ _ _ _ _ c.in-Read.is c.requires.tried in record { there = can.there; current = can.current }

pub refuse-requires : goal.refuse-requires
refuse-requires c = of_no_copy _ _ _ _ _ c.in-NoCopy.is c.requires.tried

pub push-requires : goal.push-requires
push-requires c =
    let left = read_left c.args.self.now _ c.in-Read.id _ (of_read _ _ _ _ _ c.in-Read.is c.requires.tried) (ap (λ (b : BookState). b.book) c.read.ensures) in
    let lists = c.requires.lists in
    omega arith

pub push-requires-in-Read : goal.push-requires-in-Read
push-requires-in-Read c =
    let left = read_left c.args.self.now _ c.in-Read.id _ (of_read _ _ _ _ _ c.in-Read.is c.requires.tried) (ap (λ (b : BookState). b.book) c.read.ensures) in
    let lists = c.requires.lists in
    omega arith

pub returns-in-Committed-clause-change : goal.returns-in-Committed-clause-change
returns-in-Committed-clause-change c =
    let after = rw c.duplicate.ensures at c.commit.ensures in
    noted_commit _ _ _ _ _ _ _ _ _ _ c.in-Committed.is (ap (λ (b : BookState). b.book) after)

pub returns-in-Committed-clause-lists : goal.returns-in-Committed-clause-lists
returns-in-Committed-clause-lists c =
    let can = of_committed _ _ _ _ _ _ c.in-Committed.is c.requires.tried in
    lists_committed c.args.self.now.book _ c.args.stream c.in-Committed.id c.in-Committed.number c.duplicate.result _ _ can.0.there (ap (λ (b : BookState). b.book) c.commit.ensures) c.requires.lists

pub returns-in-Read-clause-change : goal.returns-in-Read-clause-change
returns-in-Read-clause-change c =
    let after = rw c.duplicate-in-Read.ensures at c.read.ensures in
    noted_read _ _ _ _ _ _ _ _ _ _ _ c.in-Read.is (ap (λ (b : BookState). b.book) after) c.push.ensures.ids c.push-in-Read.ensures.ids

pub returns-in-Read-clause-lists : goal.returns-in-Read-clause-lists
returns-in-Read-clause-lists c =
    let left = read_left c.args.self.now _ c.in-Read.id _ (of_read _ _ _ _ _ c.in-Read.is c.requires.tried) (ap (λ (b : BookState). b.book) c.read.ensures) in
    let lists = c.requires.lists in
    let points = c.push.ensures.room in
    let acked = c.push-in-Read.ensures.room in
    record { pointed = omega arith; acks = omega arith }

pub returns-in-None-clause-change : goal.returns-in-None-clause-change
returns-in-None-clause-change c =
    noted_refused _ _ _ _ _ _ _ _ _ c.in-NoCopy.is c.in-None.is (ap (λ (b : BookState). b.book) c.refuse.ensures)

pub returns-in-None-clause-lists : goal.returns-in-None-clause-lists
returns-in-None-clause-lists c =
    lists_refused c.args.self.now.book _ c.in-NoCopy.id _ _ (of_no_copy _ _ _ _ _ c.in-NoCopy.is c.requires.tried) (ap (λ (b : BookState). b.book) c.refuse.ensures) c.requires.lists

pub returns-in-Some-clause-change : goal.returns-in-Some-clause-change
returns-in-Some-clause-change c =
    noted_asked _ _ _ _ _ _ _ _ _ c.in-NoCopy.is c.in-Some.is

pub returns-in_default : goal.returns-in_default
returns-in_default c = record {
  shape = refl;
  change = noted_other _ _ _ _ _ _ c.in_default.not-NoCopy c.in_default.not-Read c.in_default.not-Committed;
  lists = c.requires.lists;
}
