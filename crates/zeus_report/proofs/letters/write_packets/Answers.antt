use Rattle.std.proofs.Common.{get_or, refl, ap, arith}
use Rattle.zeus_packet.specs.declared.letter.Packet.{Packet}
use Rattle.zeus_base.specs.LoopLaws.{one_more, all_done}
use Rattle.zeus_model.specs.ReportText.{packet_lines}
use Rattle.zeus_report.specs.Lines.{packet_line}
use Rattle.zeus_report.proofs.Numbered.{packet_there, place_there}
use Rattle.zeus_report.proofs.letters.write_packets.Goals as goal

pub bounds-numbers-place : goal.bounds-numbers-place
bounds-numbers-place c = place_there (λ (p : Packet). p.number) c.args.sent.now _ c.loop-place.place c.len-place-end.result c.numbers-numbers.ensures c.len-place-end.ensures.count c.loop-place-test.true

pub loop-place-preserved : goal.loop-place-preserved
unfolding packet_lines
loop-place-preserved c =
    let names = c.args.names.now in
    let number = ap (λ numbers. get_or numbers c.loop-place.place 0) c.numbers-numbers.ensures in
    let letter = rw c.letters-letters.ensures at c.index-letters-place.is in
    let there = packet_there c.args.sent.now c.loop-place.place _ _ (omega (arith, c.loop-place-test.true, c.len-place-end.ensures.count)) number letter in
    one_more (packet_lines names) (λ (p : Packet). packet_line names p.number p.letter) (λ p ps. refl)
    c.args.sent.now c.loop-place.place _ c.loop-place.out.items c.write_packet.new.out.items _
    (omega (arith, c.loop-place-test.true, c.len-place-end.ensures.count)) there c.loop-place.invariant (c.in_ok-write_packet.ensures)

pub returns : goal.returns
unfolding packet_lines
returns c = all_done (packet_lines c.args.names.now) refl c.args.sent.now c.loop-place.place c.loop-place.out.items _ (omega arith) c.loop-place.invariant
