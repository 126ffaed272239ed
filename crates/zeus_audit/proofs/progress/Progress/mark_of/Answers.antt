use Rattle.zeus_base.specs.TableLaws.{nth-get_or, nth-past}
use Rattle.zeus_audit.specs.declared.stage.Mark.TheVariants as marks
use Rattle.zeus_audit.proofs.progress.Progress.mark_of.Goals as goal

pub returns-in-Some : goal.returns-in-Some
returns-in-Some c =
    let e = nth-get_or marks.New c.deref.result.now c.args.id in
    let f = c.in-Some.ensures.lookup.3.1 marks.New in
    cc (e, f, c.deref.ensures.value)

pub returns-in-None : goal.returns-in-None
returns-in-None c =
    let e = nth-past marks.New c.deref.result.now c.args.id c.in-None.ensures.lookup.3 in
    cc (e, c.deref.ensures.value)
