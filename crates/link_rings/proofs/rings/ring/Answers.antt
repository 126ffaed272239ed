use Rattle.std.proofs.Common.{ap, ◌∙◌, ◌++◌, ◌∷◌, []}
use Rattle.link_rings.specs.declared.item.Item.TheVariants.{Head}
use Rattle.link_rings.proofs.Heads.{front_behind}
use Rattle.link_rings.proofs.rings.ring.Goals as goal

pub returns-clause-known : goal.returns-clause-known
returns-clause-known g c =
    front_behind c.args.head c.pop_known.result c.slots_beside-3.new.self.end.past c.slots_beside-3.new.self.end.ahead
    (c.slots_beside-3.ensures.looked.1 ∙ c.slots_beside-2.ensures.consumer.1 ∙ c.pop_known.ensures.received.0
    ∙ ap (λ r. r ++ c.pop_known.result ∷ []) (c.slots_beside.ensures.looked.1 ∙ c.in_ok-producer.ensures.consumer.0))
    (c.slots_beside-3.ensures.fifo ∙ c.slots_beside-3.ensures.producer.1 ∙ c.slots_beside-2.ensures.looked.1 ∙ c.slots_beside.ensures.producer.1
    ∙ c.push_reserved.ensures.sent.0 ∙ ap (λ r. r ++ Head c.args.head ∷ []) c.in_ok-producer.ensures.producer.0)
