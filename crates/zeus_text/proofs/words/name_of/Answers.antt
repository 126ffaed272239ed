use Rattle.std.proofs.Common.{[]}
use Rattle.zeus_base.specs.TableLaws.{nth-get_or, nth-past}
use Rattle.zeus_text.proofs.words.name_of.Goals as goal

pub returns-in-Some : goal.returns-in-Some
returns-in-Some c =
    let e = nth-get_or [] c.args.names.now c.from.result in
    let f = c.in-Some.ensures.lookup.3.1 [] in
    let v = c.obj.view_is in
    cc (e, f, v)

pub returns-in-None : goal.returns-in-None
returns-in-None c =
    let e = nth-past [] c.args.names.now c.from.result c.in-None.ensures.lookup.3 in
    let v = c.obj.view_is in
    cc (e, v)
