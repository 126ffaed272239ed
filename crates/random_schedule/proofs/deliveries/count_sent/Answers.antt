use Rattle.zeus_world.proofs.Settling.{link_there}
use Rattle.random_schedule.proofs.deliveries.count_sent.Goals as goal

pub count-requires : goal.count-requires
count-requires c =
    let link = c.requires.link in
    link_there c.args.world.now c.args.link.now.from c.args.link.now.to _ c.requires.world link.from link.to c.links.ensures
