-- How transactions end at a cell, and what it tells its clients and those who wait.
use Rattle.std.specs.Prelude.{ℕ, zero, suc, Bool, false, ◌&&◌, ◌||◌, not, ◌==◌, List, [], ◌∷◌, ◌++◌, length, Option, Some, None, is_none, if◌then◌else◌}
use Rattle.zeus_base.specs.declared.config.Config.{Config}
use Rattle.zeus_txn.specs.declared.tx.TxDecl.{TxDecl}
use Rattle.zeus_model.specs.declared.answer.Answer.{Answer}
use Rattle.zeus_model.specs.declared.answer.Answer.TheVariants.{Try}
use Rattle.zeus_model.specs.declared.answer.Tried.{Tried}
use Rattle.zeus_model.specs.declared.answer.Tried.TheVariants.{NoCopy}
use Rattle.zeus_model.specs.Tables.{below}
use Rattle.zeus_model.specs.Book.{Book, record_of, reply_or}
use Rattle.live_model.specs.Items.{Answered, End, Acked, Refused, Stopped, Note, travels}
use Rattle.live_model.specs.Cell.{CellEvent, Core, after, start_core, declared, does, notes_down, is_halt}
use Rattle.zeus_txn.specs.declared.reply.Reply.{Reply}

-- ---- the ends of transactions

-- the transactions as acknowledged at this clock
unfoldable pub acked_at : ℕ → List ℕ → List Note
acked_at clock [] = []
acked_at clock (k ∷ ks) = record { tx = k; clock = clock; end = Acked } ∷ acked_at clock ks

-- the transaction that a try's answer refuses
unfoldable pub refused_by : ℕ → Tried → List Note
refused_by clock (NoCopy k x) = record { tx = k; clock = clock; end = Refused } ∷ []
refused_by clock _ = []

-- without a degree, a try that finds no copy refuses its transaction
unfoldable pub refused_at : Option ℕ → ℕ → Answer → List Note
refused_at degree clock (Try tried) = if is_none degree then refused_by clock tried else []
refused_at degree clock _ = []

-- the transactions that an event acknowledges, in the order in which the book notes them, and the one that it refuses
unfoldable pub ends_at : ℕ → Config → List TxDecl → Core → CellEvent → List Note
ends_at me c txs core e =
    acked_at e.clock (notes_down me c.degree txs core.book core.node e.deed).acked
    ++ refused_at c.degree e.clock (does txs core.node e.deed).answer

-- ---- the answers to a client

-- the reply of an acknowledged transaction, or none
unfoldable pub answer_to : Book → Note → End → Option Reply
answer_to b note Acked = Some (reply_or (record_of b note.tx).reply)
answer_to b note Refused = None
answer_to b note Stopped = None

-- of the ends, those of a slot whose clocks travel, with the replies that the book has
unfoldable pub answers_at : List TxDecl → ℕ → Book → List Note → List Answered
answers_at txs s b [] = []
answers_at txs s b (n ∷ ns) =
    if ((declared txs n.tx).slot == s) && travels n.clock
    then record { tx = n.tx; reply = answer_to b n n.end; clock = n.clock } ∷ answers_at txs s b ns
    else answers_at txs s b ns

-- the answers of events to a slot's client, from a state on
unfoldable pub answers_from : ℕ → Config → List TxDecl → ℕ → Core → List CellEvent → List Answered
answers_from me c txs s core [] = []
answers_from me c txs s core (e ∷ es) =
    answers_at txs s (after me c txs core e).book (ends_at me c txs core e) ++ answers_from me c txs s (after me c txs core e) es

-- all answers of a cell to a slot's client
abbrev pub answers : ℕ → Config → List TxDecl → ℕ → List CellEvent → List Answered
answers me c txs s es = answers_from me c txs s (start_core me c txs) es

-- ---- the notes to those who wait

-- a client by its node and slot
pub record ClientId : Type 0 where
  pub node : ℕ
  pub slot : ℕ

-- a transaction waits behind the one that it is declared behind, and behind those that this one waits behind; so many are looked at
unfoldable pub waits_from : List TxDecl → ℕ → Option ℕ → ℕ → Bool
waits_from txs links None j = false
waits_from txs zero (Some k) j = false
waits_from txs (suc links) (Some k) j = (k == j) || waits_from txs links (declared txs k).after j

-- a transaction waits behind earlier ones alone
abbrev pub waits_behind : List TxDecl → ℕ → ℕ → Bool
waits_behind txs k j = waits_from txs k (declared txs k).after j

-- whether a transaction is the client's
unfoldable pub is_of : List TxDecl → ClientId → ℕ → Bool
is_of txs client k = ((declared txs k).node == client.node) && ((declared txs k).slot == client.slot)

-- whether one of these transactions is the client's and waits behind this one
unfoldable pub some_waits : List TxDecl → ClientId → ℕ → List ℕ → Bool
some_waits txs client j [] = false
some_waits txs client j (k ∷ ks) = (is_of txs client k && waits_behind txs k j) || some_waits txs client j ks

-- whether a transaction of the client waits behind this one
abbrev pub is_awaited : List TxDecl → ClientId → ℕ → Bool
is_awaited txs client j = some_waits txs client j (below (length txs))

-- of the notes, those for the client whose clocks travel
unfoldable pub awaited : List TxDecl → ClientId → List Note → List Note
awaited txs client [] = []
awaited txs client (n ∷ ns) =
    if is_awaited txs client n.tx && travels n.clock then n ∷ awaited txs client ns else awaited txs client ns

-- a transaction of the node that has not ended
unfoldable pub is_open_at : ℕ → List TxDecl → Book → ℕ → Bool
is_open_at me txs b k =
    ((declared txs k).node == me) && is_none (record_of b k).acked && not (record_of b k).refused

-- at the stop, each transaction of the node that has not ended
unfoldable pub stopped_at : ℕ → List TxDecl → Core → ℕ → List ℕ → List Note
stopped_at me txs core clock [] = []
stopped_at me txs core clock (k ∷ ks) =
    if is_open_at me txs core.book k
    then record { tx = k; clock = clock; end = Stopped } ∷ stopped_at me txs core clock ks
    else stopped_at me txs core clock ks

-- what a stop notes; no other event does
unfoldable pub stops_at : ℕ → List TxDecl → Core → CellEvent → List Note
stops_at me txs core e = if is_halt e.deed then stopped_at me txs core e.clock (below (length txs)) else []

-- the notes of events to a client, from a state on
unfoldable pub notes_from : ℕ → Config → List TxDecl → ClientId → Core → List CellEvent → List Note
notes_from me c txs client core [] = []
notes_from me c txs client core (e ∷ es) =
    awaited txs client (ends_at me c txs core e ++ stops_at me txs core e) ++ notes_from me c txs client (after me c txs core e) es

-- all notes of a cell to a client
abbrev pub notes : ℕ → Config → List TxDecl → ClientId → List CellEvent → List Note
notes me c txs client es = notes_from me c txs client (start_core me c txs) es
