use Rattle.zeus_base.specs.Nodes.{meet, without}
use Rattle.zeus_packet.specs.declared.letter.Body.TheVariants.{RInv}
use Rattle.zeus_model.specs.Act.{to_each}
use Rattle.zeus_model.specs.Membership.{apart}
use Rattle.tick_rules.proofs.Saying.{StillSends}
use Rattle.tick_rules.proofs.entries.repeat_entry.Given as goal

-- the entry goes on to the receivers that are left
abbrev pub invariant-loop-receiver : goal.invariant-loop-receiver
invariant-loop-receiver l =
    StillSends
    (to_each l.node (apart (without l.node.me (meet l.followers l.node.members)) l.acks) (RInv record { stream = l.at.stream; number = l.at.number; done = l.at.done; followers = l.followers; writes = l.writes }))
    (to_each l.node (apart l.receiver-iterator l.acks) (RInv record { stream = l.at.stream; number = l.at.number; done = l.at.done; followers = l.followers; writes = l.writes }))
    l.initial.out l.out
