use Rattle.lossy_fabric.specs.Links.{no_link}
use Rattle.zeus_base.specs.TableLaws.{nth_read}
use Rattle.lossy_fabric.proofs.links.Row.count.Goals as goal

pub returns : goal.returns
returns c =
    let link = rw c.place.ensures at c.index-link.ensures in
    let to = rw (← c.self.view_is) at c.requires in
    rw (← c.self.view_is, nth_read no_link _ c.args.to _ to link) c.count.ensures
