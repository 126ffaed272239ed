-- What a sound report implies: its points are a serial history.
use Rattle.std.specs.Prelude.{◌≡◌, ◌≤◌, ◌<◌, ℕ, List, [], ◌∷◌, ◌++◌, map, length, All, ◌⊎◌}
use Rattle.zeus_packet.specs.declared.letter.State.TheVariants as copy_states
use Rattle.zeus_txn.specs.declared.map.Versioned.{Versioned}
use Rattle.zeus_txn.specs.declared.ops.Op.{Op}
use Rattle.zeus_txn.specs.declared.reply.Reply.{Reply}
use Rattle.zeus_model.specs.Serial.{content, start_map, serial_map, serial_replies}
use Rattle.zeus_model.specs.declared.answer.TxState.TheVariants as tx_states
use Rattle.zeus_model.specs.declared.script.Script.{Script}
use Rattle.zeus_model.specs.declared.state.Copy.{Copy}
use Rattle.script_lang.specs.Cut.{cut}
use Rattle.zeus_audit.specs.Events.{Event, Begun, Point, Acked, History, Stands, Copied, SayAll, points_of, replies_of}
use Rattle.zeus_audit.specs.Progress.{ops_of}

-- one of the events is this
unfoldable pub Among : List Event → Event → Type 0
Among [] e = ⊥
Among (x ∷ xs) e = (x ≡ e) ⊎ Among xs e

-- the transaction has its point among these
unfoldable pub HasPoint : List Event → ℕ → Type 0
HasPoint es k = (reply : Reply) × Among es (Point k reply)

-- a point comes behind the begin of its transaction, and once; an acknowledgement behind the point, and once
unfoldable pub MayCome : List Event → Event → Type 0
MayCome before (Point k reply) = Among before (Begun k) × (¬ HasPoint before k)
MayCome before (Acked k) = HasPoint before k × (¬ Among before (Acked k))
MayCome before _ = Unit {0}

-- each event may come behind those before it
unfoldable pub InOrder : List Event → List Event → Type 0
InOrder before [] = Unit {0}
InOrder before (e ∷ es) = MayCome before e × InOrder (e ∷ before) es

-- the operations of the transactions that have a point, in order
abbrev pub history_of : Script → List Event → List (List Op)
history_of s es = map (ops_of s) (points_of es)

-- what the points leave
abbrev pub left_by : Script → List Event → List Versioned
left_by s es = serial_map (start_map s.config) (history_of s es)

-- a copy is not older than what is left; if it is valid or of that version, it is that
pub record IsCurrent (c : Copy) (left : Versioned) : Type 0 where
  pub newer : left.ver ≤ c.ver
  pub valid : c.state ≡ copy_states.Valid → (c.ver ≡ left.ver) × (c.value ≡ left.value)
  pub same : c.ver ≡ left.ver → c.value ≡ left.value

-- the events of a report are those of a serial history of the script's transactions
pub record IsSerialHistory (s : Script) (es : List Event) : Type 0 where
  -- each point is that of a transaction of the script
  pub known : All (λ k. k < length s.txs) (points_of es)
  -- each transaction has its point once, behind its begin, and its acknowledgement once, behind its point
  pub order : InOrder [] es
  -- the replies are those of the transactions run one after another in the order of their points
  pub replies : replies_of es ≡ serial_replies (start_map s.config) (history_of s es)
  -- the printed history is the list of the points
  pub history : (ks : List ℕ) → Among es (History ks) → ks ≡ points_of es
  pub printed : Among es (History (points_of es))
  -- a transaction that is printed as acknowledged has its acknowledgement, and one printed as passed its point
  pub acked : (k : ℕ) → Among es (Stands k tx_states.Acked) → Among es (Acked k)
  pub passed : (k : ℕ) → Among es (Stands k tx_states.Passed) → HasPoint es k
  -- no printed copy is older than what the points leave
  pub copies : (x n : ℕ) (c : Copy) → Among es (Copied x n c) → IsCurrent c (content (left_by s es) x)

-- each line of the report says its event, and together they are a serial history
pub record IsSerialReport (s : Script) (text : List ℕ) : Type 0 where
  pub lines : List (List ℕ)
  pub events : List Event
  pub ended : cut 10 text ≡ lines ++ [] ∷ []
  pub says : SayAll s lines events
  pub serial : IsSerialHistory s events
