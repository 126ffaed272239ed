use Rattle.zeus_wire.proofs.FoundPackets.{one_spelling}
use Rattle.zeus_wire.proofs.laws.what_is_read_is_spelled_so.Goals as goal

pub returns : goal.returns
returns c = one_spelling
