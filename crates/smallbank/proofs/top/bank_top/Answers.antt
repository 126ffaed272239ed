use Rattle.std.proofs.Common.{List, String, Global, map, string_bytes, refl, subst, ◌∙◌}
use Rattle.bank_report.specs.Numbers.{AsksBank}
use Rattle.smallbank.specs.Top.{AsksNone, HasEnded, IsAnswered, sinks}
use Rattle.zeus_io.specs.declared.status.Status.{Status}
use Rattle.smallbank.proofs.Answering.{refused_answer, told_answer}
use Rattle.smallbank.proofs.top.bank_top.Goals as goal

pub returns-in-None : goal.returns-in-None
returns-in-None g c =
    let none =
    subst (λ (ws : List (String Global)). AsksNone (AsksBank (map string_bytes ws))) c.deref.ensures.value (c.in-None.ensures.none refl) in
    refused_answer _ _ _ none c.refuse.ensures

pub returns-in-Err : goal.returns-in-Err
unfolding IsAnswered
returns-in-Err g c = record { quiet = refl; same = refl }

pub returns-in-Ok : goal.returns-in-Ok
returns-in-Ok g c =
    let n = c.in-Some.numbers in
    let asked = subst (λ (ws : List (String Global)). AsksBank (map string_bytes ws) n) c.deref.ensures.value c.in-Some.ensures.numbers in
    let text = c.as_slice.ensures.value ∙ c.in-Ok.ensures.text in
    let s = sinks (g.K.Sink.held c.args.sink.now) (g.K.Sink.held c.write.new.sink) (g.K.Sink.faults c.args.sink.now) (g.K.Sink.faults c.write.new.sink) in
    let ended = subst (λ (q : Status). HasEnded s c.as_slice.result.now q c.write.result) c.status_of.ensures c.write.ensures in
    told_answer _ s c.write.result n c.in-Ok.run'.unclosed c.as_slice.result.now record { asked = asked; good = c.in-Ok.ensures.good } text
    c.in-Ok.ensures.unclosed ended
