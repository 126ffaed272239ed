use Rattle.std.proofs.Common.{arith}
use Rattle.lossy_fabric.proofs.Runs.{length-letters_at}
use Rattle.lossy_fabric.proofs.link.Link.count.Goals as goal

pub returns : goal.returns
returns c = rw (← c.self.view_is, length-letters_at c.self.inside.bytes.items c.self.inside.starts.items) (omega (arith, c.len.ensures, c.self.inside.starts.ok))
