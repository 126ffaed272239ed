-- A cell: a node with a clock and a journal. What its events make of it, and what it sends.
use Rattle.std.specs.Prelude.{ℕ, suc, ◌≡◌, ◌+◌, ◌<◌, ◌≤◌, max, Bool, true, false, ◌&&◌, ◌==◌, List, [], ◌∷◌, ◌++◌, length, replicate, Option, Some, None, is_none, if◌then◌else◌}
use Rattle.zeus_base.specs.declared.config.Config.{Config}
use Rattle.zeus_base.specs.declared.step.Step.{Step}
use Rattle.zeus_base.specs.declared.step.Step.TheVariants.{Begin, Try, Deliver, Tick, Stop, Install}
use Rattle.zeus_packet.specs.declared.letter.Letter.{Letter}
use Rattle.zeus_txn.specs.declared.tx.TxDecl.{TxDecl}
use Rattle.zeus_model.specs.declared.answer.Answer.{Answer}
use Rattle.zeus_model.specs.declared.answer.Answer.TheVariants.{Begin as BeginAnswer, Try as TryAnswer, Receive, Tick as TickAnswer, Stop as StopAnswer, Install as InstallAnswer}
use Rattle.zeus_model.specs.declared.answer.Begin.TheVariants.{Begun}
use Rattle.zeus_model.specs.Tables.{nth}
use Rattle.zeus_model.specs.State.{Node}
use Rattle.zeus_model.specs.Act.{Did}
use Rattle.zeus_model.specs.Local.{begin, try_slot}
use Rattle.zeus_model.specs.Membership.{install, tick, stop}
use Rattle.zeus_model.specs.Receive.{receive}
use Rattle.zeus_model.specs.Book.{Book, BookChange, no_record, record_of, counted, book_only, change_then, book_tried, book_passes, in_stream_order}
use Rattle.zeus_model.specs.World.{start_node, no_tx, first_64, book_begun}
use Rattle.live_model.specs.Items.{Stamped, Job, Sight, travels}

-- what a cell does in one event, with the item that it took from a ring for it
pub data Deed : Type 0 where
  Began : Job → Deed
  Tried : ℕ → Deed
  Took : ℕ → Stamped → Deed
  Ticked : Deed
  Halted : Deed
  Saw : Sight → Deed

-- an event of a cell
pub record CellEvent : Type 0 where
  pub clock : ℕ
  pub deed : Deed

-- an entry of a journal
pub record Entry : Type 0 where
  pub clock : ℕ
  pub step : Step

-- the step of the machine that an event is
unfoldable pub step_of : ℕ → Deed → Step
step_of me (Began j) = Begin j.tx
step_of me (Tried s) = Try me s
step_of me (Took sender p) = Deliver sender me p.number
step_of me Ticked = Tick me
step_of me Halted = Stop me
step_of me (Saw v) = Install me v.epoch

-- the journal has the clock and the step of each event
abbrev pub entry : ℕ → CellEvent → Entry
entry me e = record { clock = e.clock; step = step_of me e.deed }

-- the clock that the taken item has
unfoldable pub stamp : Deed → ℕ
stamp (Began j) = j.seen
stamp (Tried s) = 0
stamp (Took sender p) = p.clock
stamp Ticked = 0
stamp Halted = 0
stamp (Saw v) = v.clock

-- ---- the state that events lead to

-- the machine's node and book of one cell, and its clock
pub record Core : Type 0 where
  pub node : Node
  pub book : Book
  pub clock : ℕ

-- a row's answer as that of a step, with the letters that a step sends
abbrev pub answered : {A : Type 0} → (A → Answer) → Did A → Did Answer
answered f d = record { node = d.node; answer = f d.answer; sent = first_64 d.sent; passed = d.passed }

-- likewise where a step sends no letters
abbrev pub answered_quietly : {A : Type 0} → (A → Answer) → Did A → Did Answer
answered_quietly f d = record { node = d.node; answer = f d.answer; sent = []; passed = d.passed }

-- a transaction as it is declared
abbrev pub declared : List TxDecl → ℕ → TxDecl
declared txs k = nth no_tx txs k

-- what the node does: the machine's own rows
unfoldable pub does : List TxDecl → Node → Deed → Did Answer
does txs n (Began j) = answered_quietly BeginAnswer (begin n (declared txs j.tx).slot j.tx (declared txs j.tx).tx)
does txs n (Tried s) = answered TryAnswer (try_slot n s)
does txs n (Took sender p) = answered Receive (receive n p.letter)
does txs n Ticked = answered TickAnswer (tick n)
does txs n Halted = answered_quietly StopAnswer (stop n)
does txs n (Saw v) = answered InstallAnswer (install n record { epoch = v.epoch; members = v.members })

-- what the book notes of it: the machine's own notes. A cell's book has the entries of its own streams alone, so of the passes it
-- finds those of own streams
unfoldable pub notes_down : ℕ → Option ℕ → List TxDecl → Book → Node → Deed → BookChange
notes_down me degree txs b n (Began j) = book_begun b j.tx (begin n (declared txs j.tx).slot j.tx (declared txs j.tx).tx).answer
notes_down me degree txs b n (Tried s) =
    change_then (book_tried b record { node = me; slot = s } degree (try_slot n s).answer)
    (λ c. book_passes c me (in_stream_order (try_slot n s).passed))
notes_down me degree txs b n (Took sender p) = book_passes b me (in_stream_order (receive n p.letter).passed)
notes_down me degree txs b n Ticked = book_only b
notes_down me degree txs b n Halted = book_only b
notes_down me degree txs b n (Saw v) =
    book_passes b me (in_stream_order (install n record { epoch = v.epoch; members = v.members }).passed)

-- the cell after an event
unfoldable pub after : ℕ → Config → List TxDecl → Core → CellEvent → Core
after me c txs core e =
    record {
      node = (does txs core.node e.deed).node;
      book = counted (notes_down me c.degree txs core.book core.node e.deed).book;
      clock = e.clock;
    }

-- the cell after events, from a state on
unfoldable pub core_from : ℕ → Config → List TxDecl → Core → List CellEvent → Core
core_from me c txs core [] = core
core_from me c txs core (e ∷ es) = core_from me c txs (after me c txs core e) es

-- no transaction was begun, and no step taken
abbrev pub empty_book : List TxDecl → Book
empty_book txs = record { steps = 0; points = []; records = replicate (length txs) no_record }

-- a cell before its first event
abbrev pub start_core : ℕ → Config → List TxDecl → Core
start_core me c txs = record { node = start_node c me; book = empty_book txs; clock = 0 }

-- the cell after its events
abbrev pub core : ℕ → Config → List TxDecl → List CellEvent → Core
core me c txs es = core_from me c txs (start_core me c txs) es

-- ---- what a cell keeps by its own doing

-- each clock is 1 plus the greatest of the clock before it and that of the taken item
unfoldable pub AreClocks : ℕ → List CellEvent → Type 0
AreClocks before [] = Unit {0}
AreClocks before (e ∷ es) = (e.clock ≡ max before (stamp e.deed) + 1) × AreClocks e.clock es

-- a begun transaction is one of this node, was not begun here before, and finds its slot free
pub record IsFresh (me : ℕ) (txs : List TxDecl) (core : Core) (j : Job) : Type 0 where
  pub own : (declared txs j.tx).node ≡ me
  pub new : is_none (record_of core.book j.tx).begun ≡ true
  pub begun : (begin core.node (declared txs j.tx).slot j.tx (declared txs j.tx).tx).answer ≡ Begun

-- so it is where the event is a begin
unfoldable pub BeginsFresh : ℕ → List TxDecl → Core → Deed → Type 0
BeginsFresh me txs core (Began j) = IsFresh me txs core j
BeginsFresh me txs core _ = Unit {0}

-- so it is with each begin of the events
unfoldable pub BeginFresh : ℕ → Config → List TxDecl → Core → List CellEvent → Type 0
BeginFresh me c txs core [] = Unit {0}
BeginFresh me c txs core (e ∷ es) = BeginsFresh me txs core e.deed × BeginFresh me c txs (after me c txs core e) es

-- transactions, slots, senders and epochs are those that there are
unfoldable pub DeedFits : Config → List TxDecl → Deed → Type 0
DeedFits c txs (Began j) = j.tx < length txs
DeedFits c txs (Tried s) = s < c.slots
DeedFits c txs (Took sender p) = sender < c.nodes
DeedFits c txs Ticked = Unit {0}
DeedFits c txs Halted = Unit {0}
DeedFits c txs (Saw v) = 1 ≤ v.epoch

-- so it is with each event
unfoldable pub DeedsFit : Config → List TxDecl → List CellEvent → Type 0
DeedsFit c txs [] = Unit {0}
DeedsFit c txs (e ∷ es) = DeedFits c txs e.deed × DeedsFit c txs es

-- a node that is killed at its event of this number, counted from 0
pub record Kill : Type 0 where
  pub node : ℕ
  pub event : ℕ

-- whether the event is the stop
unfoldable pub is_halt : Deed → Bool
is_halt Halted = true
is_halt _ = false

-- whether the kill comes at this event of this node
unfoldable pub is_killed : Option Kill → ℕ → ℕ → Bool
is_killed None me place = false
is_killed (Some k) me place = (k.node == me) && (k.event == place)

-- there are no events
unfoldable pub IsEmpty : List CellEvent → Type 0
IsEmpty [] = Unit {0}
IsEmpty (e ∷ es) = ⊥

-- the event at the kill's place is the stop, no other is, and nothing stands behind it
unfoldable pub HaltsOnly : Option Kill → ℕ → ℕ → List CellEvent → Type 0
HaltsOnly kill me place [] = Unit {0}
HaltsOnly kill me place (e ∷ es) =
    (is_halt e.deed ≡ is_killed kill me place) × (is_halt e.deed ≡ true → IsEmpty es) × HaltsOnly kill me (suc place) es

-- ---- the items that a cell took

-- the packets from a sender
unfoldable pub taken_from : ℕ → Deed → List Stamped
taken_from sender (Took other p) = if other == sender then p ∷ [] else []
taken_from sender _ = []

-- all packets that were taken from a sender
unfoldable pub takes : ℕ → List CellEvent → List Stamped
takes sender [] = []
takes sender (e ∷ es) = taken_from sender e.deed ++ takes sender es

-- the jobs of a slot
unfoldable pub job_of : List TxDecl → ℕ → Deed → List Job
job_of txs s (Began j) = if (declared txs j.tx).slot == s then j ∷ [] else []
job_of txs s _ = []

-- all jobs that were taken for a slot
unfoldable pub jobs : List TxDecl → ℕ → List CellEvent → List Job
jobs txs s [] = []
jobs txs s (e ∷ es) = job_of txs s e.deed ++ jobs txs s es

-- the views
unfoldable pub seen_in : Deed → List Sight
seen_in (Saw v) = v ∷ []
seen_in _ = []

-- all views that were taken
unfoldable pub sights_seen : List CellEvent → List Sight
sights_seen [] = []
sights_seen (e ∷ es) = seen_in e.deed ++ sights_seen es

-- ---- the packets that a cell sends

-- a letter with the clock of the event that sent it
pub record Posted : Type 0 where
  pub clock : ℕ
  pub letter : Letter

-- the letters of an event to one node, in order
unfoldable pub posts_to : ℕ → ℕ → List Letter → List Posted
posts_to receiver clock [] = []
posts_to receiver clock (l ∷ ls) =
    if l.to == receiver then record { clock = clock; letter = l } ∷ posts_to receiver clock ls else posts_to receiver clock ls

-- the letters of events to one node, from a state on
unfoldable pub posts_from : ℕ → Config → List TxDecl → ℕ → Core → List CellEvent → List Posted
posts_from me c txs receiver core [] = []
posts_from me c txs receiver core (e ∷ es) =
    posts_to receiver e.clock (does txs core.node e.deed).sent ++ posts_from me c txs receiver (after me c txs core e) es

-- each with its number
unfoldable pub numbered : ℕ → List Posted → List Stamped
numbered number [] = []
numbered number (p ∷ ps) = record { clock = p.clock; number = number; letter = p.letter } ∷ numbered (suc number) ps

-- all letters to a node
abbrev pub posts : ℕ → Config → List TxDecl → ℕ → List CellEvent → List Posted
posts me c txs receiver es = posts_from me c txs receiver (start_core me c txs) es

-- all packets to a node, also those that found no place in the ring
unfoldable pub sends : ℕ → Config → List TxDecl → ℕ → List CellEvent → List Stamped
sends me c txs receiver es = numbered 0 (posts me c txs receiver es)

-- those whose clocks travel
unfoldable pub travelling : List Stamped → List Stamped
travelling [] = []
travelling (p ∷ ps) = if travels p.clock then p ∷ travelling ps else travelling ps

-- the clock of the stop, where it travels
unfoldable pub halt_of : CellEvent → List ℕ
halt_of e = if is_halt e.deed && travels e.clock then e.clock ∷ [] else []

-- what the cell tells the service
unfoldable pub halts : List CellEvent → List ℕ
halts [] = []
halts (e ∷ es) = halt_of e ++ halts es
