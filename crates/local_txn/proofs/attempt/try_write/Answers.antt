use Rattle.std.proofs.Common.{refl}
use Rattle.local_txn.proofs.Answering.{done_answer, done_copies, done_holds, done_pending, refused_answer, refused_copies, refused_holds, refused_pending}
use Rattle.local_txn.proofs.attempt.try_write.Goals as goal

pub returns-in-Some : goal.returns-in-Some
returns-in-Some c =
    record {
      does = record {
        acts = λ n is.
            let first = c.in-Some.ensures.first n c.args.id is in
            record {
              answer = refused_answer _ _ _ _ _ n is c.args.id c.args.tx.now _ _ first;
              copies = refused_copies _ _ _ _ _ n is c.args.id c.args.tx.now _ _ first;
              pending = refused_pending _ _ _ _ _ n is c.args.id c.args.tx.now _ _ first;
              holds = refused_holds _ _ _ _ _ n is c.args.id c.args.tx.now _ _ first;
            };
        done = refl;
        named = c.requires.holds;
        others = λ i ps other h. h;
        objects = refl;
        within = λ h. h;
      };
    }

pub returns-in-None : goal.returns-in-None
returns-in-None c =
    let commit = c.commit.ensures in
    record {
      does = record {
        acts = λ n is.
            let first = c.in-None.ensures.first n c.args.id is in
            record {
              answer = done_answer _ _ _ _ _ n is c.args.id c.args.tx.now _ _ first commit.answer;
              copies = done_copies _ _ _ _ _ n is c.args.id c.args.tx.now _ _ first commit.copies;
              pending = done_pending _ _ _ _ _ n is c.args.id c.args.tx.now _ _ first commit.pending;
              holds = done_holds _ _ _ _ _ n is c.args.id c.args.tx.now _ _ first commit.holds;
            };
        done = commit.done;
        named = commit.named;
        others = commit.others;
        objects = commit.objects;
        within = commit.within;
      };
    }
