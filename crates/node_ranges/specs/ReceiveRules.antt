-- A letter that fits keeps the ranges of the node that receives it, and what the node sends fits.
use Rattle.std.specs.Prelude.{ℕ, ◌≡◌, ◌<◌, ◌&&◌, true, Option, Some, None}
use Rattle.std.proofs.lemmas.Bool.{and_parts}
use Rattle.zeus_base.specs.declared.config.Limits.{Limits}
use Rattle.zeus_packet.specs.Fits.{object_fits, stamp_fits, place_fits, proposal_fits, content_fits, body_fits, fits}
use Rattle.zeus_packet.specs.declared.letter.Body.{Body}
use Rattle.zeus_packet.specs.declared.letter.Body.TheVariants.{RInv, RAck, RVal, OReq, OInv, OAck, ONack, OVal, Recovered}
use Rattle.zeus_packet.specs.declared.letter.Letter.{Letter}
use Rattle.zeus_model.specs.declared.answer.Outcome.{Outcome}
use Rattle.zeus_model.specs.Commit.{finish}
use Rattle.zeus_model.specs.Receive.{row, rejection, receive_or_not, receive}
use Rattle.zeus_model.specs.State.{Node}
use Rattle.node_ranges.specs.Acts.{KeepsAndFits-still, KeepsAndFits-did_then}
use Rattle.node_ranges.specs.CommitRules.{on_rinv-keeps, on_rack-keeps, on_rval-keeps, on_recovered-keeps, finish-keeps}
use Rattle.node_ranges.specs.OwnershipRules.{on_oreq-keeps, on_oinv-keeps, on_oack-keeps, on_oval-keeps}
use Rattle.node_ranges.specs.Places.{object_fits-less, fits-sender, fits-body}
use Rattle.node_ranges.specs.Ranges.{KeepsRanges, KeepsAndFits}

-- the rule of each body
pub row-keeps : (limits : Limits) (n : Node) (from : ℕ) (body : Body) → from < limits.nodes → body_fits limits body ≡ true → KeepsRanges limits n → KeepsAndFits limits (row n from body).node (row n from body).sent
unfolding row body_fits
row-keeps limits n from (RInv r) less fit k = on_rinv-keeps limits n from r less fit k
row-keeps limits n from (RAck s number) less fit k = on_rack-keeps limits n from s number fit k
row-keeps limits n from (RVal s done) less fit k = on_rval-keeps limits n s done fit k
row-keeps limits n from (OReq x want) less fit k = on_oreq-keeps limits n from x want less (object_fits-less limits x fit) k
row-keeps limits n from (OInv x p) less fit k =
    let both = and_parts (object_fits limits x) (proposal_fits limits p) fit in
    on_oinv-keeps limits n from x p less (object_fits-less limits x both.0) both.1 k
row-keeps limits n from (OAck x p content) less fit k =
    let one = and_parts (object_fits limits x && proposal_fits limits p) (content_fits limits content) fit in
    let two = and_parts (object_fits limits x) (proposal_fits limits p) one.0 in
    on_oack-keeps limits n from x p content less (object_fits-less limits x two.0) two.1 one.1 k
row-keeps limits n from (ONack x stamp cause) less fit k = KeepsAndFits-still limits n k
row-keeps limits n from (OVal x stamp place) less fit k =
    let one = and_parts (object_fits limits x && stamp_fits limits stamp) (place_fits limits place) fit in
    let two = and_parts (object_fits limits x) (stamp_fits limits stamp) one.0 in
    on_oval-keeps limits n x stamp place (object_fits-less limits x two.0) two.1 one.1 k
row-keeps limits n from Recovered less fit k = on_recovered-keeps limits n from less k

receive_or_not-keeps : (limits : Limits) (n : Node) (l : Letter) (o : Option Outcome) → fits l limits ≡ true → KeepsRanges limits n → KeepsAndFits limits (receive_or_not n l o).node (receive_or_not n l o).sent
unfolding receive_or_not
receive_or_not-keeps limits n l (Some outcome) fit k = KeepsAndFits-still limits n k
receive_or_not-keeps limits n l None fit k =
    KeepsAndFits-did_then limits (row n l.from l.body) finish (row-keeps limits n l.from l.body (fits-sender limits l fit) (fits-body limits l fit) k) (finish-keeps limits)

-- a letter that fits
pub receive-keeps : (limits : Limits) (n : Node) (l : Letter) → fits l limits ≡ true → KeepsRanges limits n → KeepsAndFits limits (receive n l).node (receive n l).sent
unfolding receive
receive-keeps limits n l fit k = receive_or_not-keeps limits n l (rejection n l) fit k
