-- What a node does with a letter: the tests that every letter meets, the rule of its body, and the finish.
use Rattle.std.specs.Prelude.{ℕ, Bool, true, false, ◌&&◌, not, ◌==◌, Option, Some, None, if◌then◌else◌}
use Rattle.zeus_base.specs.Nodes.{has, with_node}
use Rattle.zeus_packet.specs.declared.letter.Body.{Body}
use Rattle.zeus_packet.specs.declared.letter.Body.TheVariants.{RInv, RAck, RVal, OReq, OInv, OAck, ONack, OVal, Recovered}
use Rattle.zeus_packet.specs.declared.letter.Letter.{Letter}
use Rattle.zeus_model.specs.declared.answer.Outcome.{Outcome}
use Rattle.zeus_model.specs.declared.answer.Outcome.TheVariants.{Stopped, NotMine, OtherEpoch, NotOpen, Taken, Again}
use Rattle.zeus_model.specs.Tables.{or_else, where_true}
use Rattle.zeus_model.specs.State.{Node, is_open}
use Rattle.zeus_model.specs.Act.{Did, just, did_then}
use Rattle.zeus_model.specs.Commit.{on_rinv, on_rack, on_rval, finish}
use Rattle.zeus_model.specs.Ownership.{on_oreq, on_oinv, on_oack, on_oval}

-- Recovered: the sender has reported
unfoldable pub on_recovered : Node → ℕ → Did Outcome
on_recovered n from =
    if has from n.reported then just n Again else just (record n { reported = with_node from n.reported }) Taken

-- requests and proposals are taken by open nodes alone
unfoldable pub needs_open : Body → Bool
needs_open (OReq x want) = true
needs_open (OInv x p) = true
needs_open _ = false

-- the rule of each body
unfoldable pub row : Node → ℕ → Body → Did Outcome
row n from (RInv r) = on_rinv n from r
row n from (RAck s number) = on_rack n from s number
row n from (RVal s done) = on_rval n s done
row n from (OReq x want) = on_oreq n from x want
row n from (OInv x p) = on_oinv n from x p
row n from (OAck x p content) = on_oack n from x p content
row n from (ONack x stamp cause) = just n Taken
row n from (OVal x stamp place) = on_oval n x stamp place
row n from Recovered = on_recovered n from

-- the tests before every letter, in order
unfoldable pub rejection : Node → Letter → Option Outcome
rejection n l =
    or_else (where_true n.stopped Stopped)
    (or_else (where_true (not (l.to == n.me)) (NotMine l.to))
    (or_else (where_true (not (l.epoch == n.epoch)) (OtherEpoch l.epoch n.epoch))
    (where_true (needs_open l.body && not (is_open n)) NotOpen)))

unfoldable pub receive_or_not : Node → Letter → Option Outcome → Did Outcome
receive_or_not n l (Some outcome) = just n outcome
receive_or_not n l None = did_then (row n l.from l.body) finish

-- a letter that passes the tests meets the rule of its body, and then the node finishes
unfoldable pub receive : Node → Letter → Did Outcome
receive n l = receive_or_not n l (rejection n l)
