use Rattle.std.proofs.Common.{rules, tests}
use Rattle.std.proofs.lemmas.Fn.{filter_same}
use Rattle.commit_pipeline.specs.Pipes.{is_of_other}
use Rattle.commit_pipeline.proofs.due.DueList.pass.Goals as goal

pub returns : goal.returns
returns c =
    rw (← c.self.view_is)
    (filter_same _ (is_of_other c.args.number) _ (λ x b f' k. search (rules, tests)) _ _ c.retain.ensures.filtered)
