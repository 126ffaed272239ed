use Rattle.std.proofs.Common.{rules, tests}
use Rattle.std.proofs.lemmas.Iterator.{YieldsList-from_slice}
use Rattle.std.proofs.lemmas.Iterator.Consumers.{YieldsList-at, YieldsList-from_filter, nth_from_yields_List}
use Rattle.commit_pipeline.specs.Pipes.{is_to}
use Rattle.commit_pipeline.proofs.due.DueList.get.Goals as goal

pub returns : goal.returns
returns c =
    rw (← c.self.view_is, c.copied.ensures)
    (nth_from_yields_List c.nth.result c.nth.new.self c.args.place c.nth.ensures.ran
    (YieldsList-from_filter _ (is_to c.args.members) (YieldsList-at c.filter.ensures.source (YieldsList-from_slice _ (cc)))
    c.filter.ensures.closure (λ x b q k. search (rules, tests))))
