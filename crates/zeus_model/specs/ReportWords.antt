-- How a report prints numbers, stamps, sets of nodes, answers, replies and letters.
use Rattle.std.specs.Prelude.{ℕ, List, [], ◌∷◌, ◌++◌, codes, decimal, Option, Some, None}
use Rattle.zeus_base.specs.declared.order.Stamp.{Stamp}
use Rattle.zeus_base.specs.declared.order.Stream.{Stream}
use Rattle.zeus_base.specs.declared.value.Value.{Value}
use Rattle.zeus_txn.specs.declared.reply.Reply.{Reply}
use Rattle.zeus_packet.specs.declared.letter.Body.{Body}
use Rattle.zeus_packet.specs.declared.letter.Body.TheVariants.{RInv, RAck, RVal, OReq, OInv, OAck, ONack, OVal, Recovered}
use Rattle.zeus_packet.specs.declared.letter.Cause.{Cause}
use Rattle.zeus_packet.specs.declared.letter.Cause.TheVariants.{OwnStream, Window, NotDirectory, Proposed, Owns, HasCopy, NotReader, NoSource, Degree, IsSource, WornOut, NoCopy, Held, NotValid, Kept, NotArbiter, NotCollector, OwnPlace}
use Rattle.zeus_packet.specs.declared.letter.State.{State}
use Rattle.zeus_packet.specs.declared.letter.State.TheVariants.{Valid, Invalid, Write}
use Rattle.zeus_packet.specs.declared.place.Place.{Place}
use Rattle.zeus_packet.specs.declared.place.Proposal.{Proposal}
use Rattle.zeus_packet.specs.declared.place.Want.{Want}
use Rattle.zeus_packet.specs.declared.place.Want.TheVariants.{Own, Read, Leave}
use Rattle.zeus_packet.specs.declared.write.Content.{Content}
use Rattle.zeus_packet.specs.declared.write.Write.{Write as WriteOf}
use Rattle.zeus_model.specs.declared.answer.Answer.{Answer}
use Rattle.zeus_model.specs.declared.answer.Answer.TheVariants.{Begin as BeginAnswer, Twice, Waits, Try as TryAnswer, NoPacket, Receive, Tick as TickAnswer, Stop as StopAnswer, View as ViewAnswer, NoView, Install as InstallAnswer}
use Rattle.zeus_model.specs.declared.answer.Begin.{Begin}
use Rattle.zeus_model.specs.declared.answer.Begin.TheVariants.{Begun, Stopped as BeginStopped, Busy}
use Rattle.zeus_model.specs.declared.answer.Install.{Install}
use Rattle.zeus_model.specs.declared.answer.Install.TheVariants.{Installed, Stopped as InstallStopped, Old}
use Rattle.zeus_model.specs.declared.answer.Made.{Made}
use Rattle.zeus_model.specs.declared.answer.Made.TheVariants.{Installed as ViewInstalled, Empty, NotMember, NotStopped}
use Rattle.zeus_model.specs.declared.answer.Outcome.{Outcome}
use Rattle.zeus_model.specs.declared.answer.Outcome.TheVariants.{Stopped, NotMine, OtherEpoch, NotOpen, Taken, Again, Gap, Older, Settled, Refused}
use Rattle.zeus_model.specs.declared.answer.Stop.{Stop}
use Rattle.zeus_model.specs.declared.answer.Stop.TheVariants.{Done, Stopped as StopStopped}
use Rattle.zeus_model.specs.declared.answer.Ticked.{Ticked}
use Rattle.zeus_model.specs.declared.answer.Ticked.TheVariants.{Ticked as TickDone, Stopped as TickStopped}
use Rattle.zeus_model.specs.declared.answer.Tried.{Tried}
use Rattle.zeus_model.specs.declared.answer.Tried.TheVariants.{Stopped as TryStopped, Nothing, NoCopy as NoCopyToRead, NotValid as NotValidToRead, Read as ReadDone, PipeFull, NotOwner, Held as HeldElsewhere, WornOut as TryWornOut, Committed}
use Rattle.zeus_model.specs.declared.answer.TxState.{TxState}
use Rattle.zeus_model.specs.declared.answer.TxState.TheVariants.{New, Current, Pending, Passed, Acked, Refused as TxRefused}
use Rattle.zeus_model.specs.Spelling.{word, value_text, name_of}

-- a space and a number
abbrev pub number : ℕ → List ℕ
number n = word (decimal n)

-- a space and the name of an object
abbrev pub named_object : List (List ℕ) → ℕ → List ℕ
named_object names x = word (name_of names x)

-- a stream is `node.slot`
abbrev pub stream_text : Stream → List ℕ
stream_text s = decimal s.node ++ codes "." ++ decimal s.slot

-- a stamp is `version.driver`
abbrev pub stamp_text : Stamp → List ℕ
stamp_text s = decimal s.ver ++ codes "." ++ decimal s.driver

-- further nodes, each behind a comma
unfoldable pub more_nodes_text : List ℕ → List ℕ
more_nodes_text [] = []
more_nodes_text (n ∷ ns) = codes "," ++ decimal n ++ more_nodes_text ns

-- a set of nodes is its numbers rising with commas between them, or `-` where it is empty
unfoldable pub nodes_text : List ℕ → List ℕ
nodes_text [] = codes "-"
nodes_text (n ∷ ns) = decimal n ++ more_nodes_text ns

-- a space and a node, or `-` where there is none
unfoldable pub optional_node : Option ℕ → List ℕ
optional_node None = codes " -"
optional_node (Some n) = number n

-- the state of a copy
unfoldable pub state_text : State → List ℕ
state_text Valid = codes "valid"
state_text Invalid = codes "invalid"
state_text Write = codes "write"

-- why a letter was refused
unfoldable pub cause_text : Cause → List ℕ
cause_text OwnStream = codes "own stream"
cause_text Window = codes "window"
cause_text NotDirectory = codes "not directory"
cause_text (Proposed stamp) = codes "proposed" ++ word (stamp_text stamp)
cause_text Owns = codes "owns"
cause_text HasCopy = codes "has copy"
cause_text NotReader = codes "not reader"
cause_text NoSource = codes "no source"
cause_text Degree = codes "degree"
cause_text IsSource = codes "is source"
cause_text WornOut = codes "worn out"
cause_text NoCopy = codes "no copy"
cause_text (Held s) = codes "held" ++ number s
cause_text (NotValid s) = codes "not valid" ++ word (state_text s)
cause_text (Kept s) = codes "kept" ++ number s
cause_text NotArbiter = codes "not arbiter"
cause_text NotCollector = codes "not collector"
cause_text OwnPlace = codes "own place"

-- the values of a reply, each behind a space
unfoldable pub values_text : List Value → List ℕ
values_text [] = []
values_text (v ∷ vs) = word (value_text v) ++ values_text vs

-- a reply that failed names the place of its operation
unfoldable pub outcome_text : Option ℕ → List ℕ
outcome_text None = codes "ok"
outcome_text (Some place) = codes "failed" ++ number place

-- a reply is `ok` or `failed` with the place, and the values
abbrev pub reply_text : Reply → List ℕ
reply_text r = outcome_text r.failed ++ values_text r.values

unfoldable pub begin_text : Begin → List ℕ
begin_text Begun = codes "begun"
begin_text BeginStopped = codes "stopped"
begin_text (Busy k) = codes "busy" ++ number k

unfoldable pub tried_text : List (List ℕ) → Tried → List ℕ
tried_text names TryStopped = codes "stopped"
tried_text names Nothing = codes "nothing"
tried_text names (NoCopyToRead k x) = codes "no copy" ++ named_object names x
tried_text names (NotValidToRead x state) = codes "not valid" ++ named_object names x ++ word (state_text state)
tried_text names (ReadDone k reply) = codes "read"
tried_text names PipeFull = codes "pipe full"
tried_text names (NotOwner x) = codes "not owner" ++ named_object names x
tried_text names (HeldElsewhere x slot) = codes "held" ++ named_object names x ++ number slot
tried_text names TryWornOut = codes "worn out"
tried_text names (Committed k n reply) = codes "committed" ++ number n

unfoldable pub received_text : Outcome → List ℕ
received_text Stopped = codes "stopped"
received_text (NotMine n) = codes "not mine" ++ number n
received_text (OtherEpoch theirs mine) = codes "other epoch" ++ number theirs ++ number mine
received_text NotOpen = codes "not open"
received_text Taken = codes "taken"
received_text Again = codes "again"
received_text (Gap n) = codes "gap" ++ number n
received_text (Older stamp) = codes "older" ++ word (stamp_text stamp)
received_text (Settled stamp) = codes "settled" ++ word (stamp_text stamp)
received_text (Refused cause) = codes "refused" ++ word (cause_text cause)

unfoldable pub ticked_text : Ticked → List ℕ
ticked_text TickDone = codes "ticked"
ticked_text TickStopped = codes "stopped"

unfoldable pub stopped_text : Stop → List ℕ
stopped_text Done = codes "done"
stopped_text StopStopped = codes "stopped"

unfoldable pub made_text : Made → List ℕ
made_text (ViewInstalled e) = codes "installed" ++ number e
made_text Empty = codes "empty"
made_text (NotMember n) = codes "not member" ++ number n
made_text (NotStopped n) = codes "not stopped" ++ number n

unfoldable pub installed_text : Install → List ℕ
installed_text Installed = codes "installed"
installed_text InstallStopped = codes "stopped"
installed_text (Old e) = codes "old" ++ number e

-- the answer to a step
unfoldable pub answer_text : List (List ℕ) → Answer → List ℕ
answer_text names (BeginAnswer a) = begin_text a
answer_text names Twice = codes "twice"
answer_text names (Waits k) = codes "waits" ++ number k
answer_text names (TryAnswer a) = tried_text names a
answer_text names (NoPacket count) = codes "no packet" ++ number count
answer_text names (Receive a) = received_text a
answer_text names (TickAnswer a) = ticked_text a
answer_text names (StopAnswer a) = stopped_text a
answer_text names (ViewAnswer a) = made_text a
answer_text names (NoView count) = codes "no view" ++ number count
answer_text names (InstallAnswer a) = installed_text a

-- writes: for each the name of its object, its version and its value
unfoldable pub writes_text : List (List ℕ) → List WriteOf → List ℕ
writes_text names [] = []
writes_text names (w ∷ ws) = named_object names w.obj ++ number w.ver ++ word (value_text w.value) ++ writes_text names ws

-- a wish stands behind what it is of; to own an object is the plain one
unfoldable pub want_text : Want → List ℕ
want_text Own = []
want_text Read = codes " read"
want_text Leave = codes " leave"

-- a placement: its owner and its replicas
abbrev pub place_text : Place → List ℕ
place_text p = number p.owner ++ word (nodes_text p.replicas)

-- a proposal but for its wish: stamp, requester, and the stamp and placement that it changes
abbrev pub proposal_text : Proposal → List ℕ
proposal_text p = word (stamp_text p.stamp) ++ number p.requester ++ word (stamp_text p.base) ++ place_text p.base_place

-- the content of the source: version and value, or `-` where there is none
unfoldable pub content_text : Option Content → List ℕ
content_text None = codes " -"
content_text (Some c) = number c.ver ++ word (value_text c.value)

-- what a letter says
unfoldable pub body_text : List (List ℕ) → Body → List ℕ
body_text names (RInv r) =
    codes "rinv" ++ word (stream_text r.stream) ++ number r.number ++ number r.done ++ word (nodes_text r.followers)
    ++ writes_text names r.writes
body_text names (RAck s n) = codes "rack" ++ word (stream_text s) ++ number n
body_text names (RVal s done) = codes "rval" ++ word (stream_text s) ++ number done
body_text names (OReq x want) = codes "oreq" ++ named_object names x ++ want_text want
body_text names (OInv x p) = codes "oinv" ++ named_object names x ++ proposal_text p ++ want_text p.want
body_text names (OAck x p content) =
    codes "oack" ++ named_object names x ++ proposal_text p ++ content_text content ++ want_text p.want
body_text names (ONack x stamp cause) =
    codes "onack" ++ named_object names x ++ word (stamp_text stamp) ++ word (cause_text cause)
body_text names (OVal x stamp place) = codes "oval" ++ named_object names x ++ word (stamp_text stamp) ++ place_text place
body_text names Recovered = codes "recovered"

-- how far a transaction has come
unfoldable pub tx_state_text : TxState → List ℕ
tx_state_text New = codes "new"
tx_state_text Current = codes "current"
tx_state_text Pending = codes "pending"
tx_state_text Passed = codes "passed"
tx_state_text Acked = codes "acked"
tx_state_text TxRefused = codes "refused"
