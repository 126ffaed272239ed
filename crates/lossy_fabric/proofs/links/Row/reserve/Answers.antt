use Rattle.std.proofs.Common.{◌<◌, ◌∙◌, length, ap, arith}
use Rattle.lossy_fabric.specs.Links.{row_letters}
use Rattle.lossy_fabric.proofs.Sending.{row_letters-same, room_more, length-set, has_room}
use Rattle.lossy_fabric.proofs.links.Row.reserve.Goals as goal

pub loop-receiver-preserved : goal.loop-receiver-preserved
loop-receiver-preserved c =
    let here : c.loop-receiver.receiver < length c.loop-receiver.self-inside.links.items = omega arith in
    record {
      same =
          row_letters-same _ c.loop-receiver.receiver _ c.reserve.new.self here c.index_mut-link.ensures.value c.reserve.ensures.letters
          ∙ c.loop-receiver.invariant.same;
      size = length-set _ _ _ ∙ c.loop-receiver.invariant.size;
      room = room_more _ _ c.loop-receiver.receiver c.reserve.new.self here c.loop-receiver.invariant.room c.in_ok-reserve.ensures.room;
    }

pub returns-in_err-reserve-clause-letters : goal.returns-in_err-reserve-clause-letters
returns-in_err-reserve-clause-letters c =
    let here : c.loop-receiver.receiver < length c.loop-receiver.self-inside.links.items = omega arith in
    row_letters-same _ c.loop-receiver.receiver _ c.reserve.new.self here c.index_mut-link.ensures.value c.reserve.ensures.letters
    ∙ c.loop-receiver.invariant.same ∙ ap row_letters c.self.view_is

pub returns-clause-room : goal.returns-clause-room
returns-clause-room c = has_room _ _ (λ to h. c.loop-receiver.invariant.room to (omega arith))
