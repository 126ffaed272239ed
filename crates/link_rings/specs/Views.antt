-- What a contract sees of the two ends, from what lies in the ring.
use Rattle.rtrb.specs.Ring.{consumer_capacity, known_free, known_items, producer_capacity, received, sent}
use Rattle.rtrb.specs.declared.consumer.Consumer.{Consumer}
use Rattle.rtrb.specs.declared.end.End.{End}
use Rattle.rtrb.specs.declared.producer.Producer.{Producer}
use Rattle.link_rings.specs.Ends.{In, Out, RingName}
use Rattle.link_rings.specs.Items.{carried, front}
use Rattle.link_rings.specs.declared.item.Item.{Item}

-- the ring that an end is of
abbrev pub ring_of : {T A P : Type 0} → End T A P → RingName
ring_of e = record { words = e.words; slots = e.slots; names = e.names }

module _ {H T A P : Type 0} where
  abbrev pub out_view : Producer (Item H T) A P → H → Out H T
  out_view p h =
      record {
        ring = ring_of p.end;
        head = h;
        put = carried (sent p);
        free = known_free p;
        room = producer_capacity p;
      }

  abbrev pub in_view : Consumer (Item H T) A P → H → In H T
  in_view c h =
      record {
        ring = ring_of c.end;
        head = h;
        taken = carried (received c);
        known = front (known_items c);
        room = consumer_capacity c;
      }
