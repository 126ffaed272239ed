use Rattle.std.proofs.Common.{rules, tests}
use Rattle.std.proofs.lemmas.Fn.{filter_same}
use Rattle.commit_pipeline.specs.Pipes.{is_other}
use Rattle.commit_pipeline.proofs.due.DueList.acknowledge.Goals as goal

pub returns : goal.returns
returns c =
    rw (← c.self.view_is)
    (filter_same _ (is_other c.args.number c.args.from) _ (λ x b f' k. search (rules, tests)) _ _ c.retain.ensures.filtered)
